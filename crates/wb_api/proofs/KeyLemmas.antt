-- A body gives a command exactly if it has the keys of the table.
use Rattle.std.proofs.Common.{◌≡◌, ◌∙◌, refl, sym, ap, Bool, true, false, ◌&&◌, Option, None, Some, option_map}
use Rattle.std.specs.Prelude.{codes, is_some, option_and_then}
use Rattle.std.proofs.Math.Bool.{and-true}
use Rattle.serde_json.specs.Data.{Data}
use Rattle.wb_api.specs.Commands.{Named, add_arch_in, add_builder_in, attempted_in, build_priority_in, command_in}
use Rattle.wb_api.specs.Commands.{dep_wait_in, enter_in, fail_in, forget_in, remove_arch_in, remove_builder_in}
use Rattle.wb_api.specs.Commands.{give_back_in, integer_in, next_in, not_for_us_in, number_in, number_or_none_in}
use Rattle.wb_api.specs.Commands.{rebuild_in, report_in, named_source_in, take_in, text_in, waits_in}
use Rattle.wb_api.specs.Keys.{has_keys, keys_of, named}
use Rattle.wb_api.specs.declared.route.CommandKind.{CommandKind}
use Rattle.wb_api.specs.declared.route.CommandKind.TheVariants.{AddArch, AddBuilder, RemoveArch, RemoveBuilder, Enter}
use Rattle.wb_api.specs.declared.route.CommandKind.TheVariants.{Next, Take, Built, Uploaded, Waits, PutBack, Attempted}
use Rattle.wb_api.specs.declared.route.CommandKind.TheVariants.{GiveBack, DepWait, Fail, NotForUs, Rebuild}
use Rattle.wb_api.specs.declared.route.CommandKind.TheVariants.{BuildPriority, Forget, Report}

-- what is made of a value is there if the value is
is_some-map : {X Y : Type 0} (f : X → Y) (o : Option X) → is_some (option_map f o) ≡ is_some o
is_some-map f None = refl
is_some-map f (Some x) = refl

-- what follows from a value is there if the value and what follows are
is_some-then : {X Y : Type 0} (f : X → Option Y) (rest : Bool) (o : Option X) → ((x : X) → is_some (f x) ≡ rest)
    → is_some (option_and_then f o) ≡ is_some o && rest
is_some-then f rest None follows = refl
is_some-then f rest (Some x) follows = follows x

-- a last key
is_some-last : {X Y : Type 0} (f : X → Y) (o : Option X) → is_some (option_map f o) ≡ is_some o && true
is_some-last f o = is_some-map f o ∙ sym (and-true (is_some o))

and-assoc3 : (a b c d : Bool) → ((a && (b && c)) && d) ≡ a && (b && (c && d))
and-assoc3 false b c d = refl
and-assoc3 true false c d = refl
and-assoc3 true true false d = refl
and-assoc3 true true true d = refl

-- a source package on an architecture and its version
is_some-subject : (body : Data) → is_some (named_source_in body)
    ≡ is_some (text_in (codes "arch") body) && (is_some (text_in (codes "source") body) && is_some (text_in (codes "version") body))
unfolding named_source_in
is_some-subject body =
    is_some-then _ _ (text_in (codes "arch") body) (λ arch.
    is_some-then _ _ (text_in (codes "source") body) (λ source. is_some-map _ (text_in (codes "version") body)))

-- the keys of a source package come first, and others follow
after-subject : {Y : Type 0} (body : Data) (f : Named → Option Y) (rest : Bool) → ((subject : Named) → is_some (f subject) ≡ rest)
    → is_some (option_and_then f (named_source_in body))
    ≡ is_some (text_in (codes "arch") body) && (is_some (text_in (codes "source") body) && (is_some (text_in (codes "version") body) && rest))
after-subject body f rest follows =
    is_some-then f rest (named_source_in body) follows
    ∙ ap (λ (named : Bool). named && rest) (is_some-subject body)
    ∙ and-assoc3 (is_some (text_in (codes "arch") body)) (is_some (text_in (codes "source") body)) (is_some (text_in (codes "version") body)) rest

add_arch : (body : Data) → is_some (add_arch_in body) ≡ has_keys (keys_of AddArch) body
unfolding add_arch_in
add_arch body =
    is_some-then _ _ (text_in (codes "name") body) (λ name.
    is_some-then _ _ (text_in (codes "os") body) (λ os. is_some-last _ (text_in (codes "cpu") body)))

add_builder : (body : Data) → is_some (add_builder_in body) ≡ has_keys (keys_of AddBuilder) body
unfolding add_builder_in
add_builder body = is_some-then _ _ (text_in (codes "name") body) (λ name. is_some-last _ (text_in (codes "arch") body))

remove_arch : (body : Data) → is_some (remove_arch_in body) ≡ has_keys (keys_of RemoveArch) body
unfolding remove_arch_in
remove_arch body = is_some-last _ (text_in (codes "name") body)

remove_builder : (body : Data) → is_some (remove_builder_in body) ≡ has_keys (keys_of RemoveBuilder) body
unfolding remove_builder_in
remove_builder body = is_some-then _ _ (text_in (codes "name") body) (λ name.
    is_some-last _ (text_in (codes "arch") body))

enter : (body : Data) → is_some (enter_in body) ≡ has_keys (keys_of Enter) body
unfolding enter_in
enter body = after-subject body _ _ (λ subject.
    is_some-then _ _ (text_in (codes "priority") body) (λ priority. is_some-last _ (text_in (codes "section") body)))

next : (body : Data) → is_some (next_in body) ≡ has_keys (keys_of Next) body
unfolding next_in
next body =
    is_some-then _ _ (text_in (codes "arch") body) (λ arch.
    is_some-then _ _ (text_in (codes "builder") body) (λ builder. is_some-last _ (number_or_none_in (codes "after") body)))

take : (body : Data) → is_some (take_in body) ≡ has_keys (keys_of Take) body
unfolding take_in
take body = after-subject body _ _ (λ subject. is_some-last _ (text_in (codes "builder") body))

waits : (body : Data) → is_some (waits_in body) ≡ has_keys (keys_of Waits) body
unfolding waits_in
waits body = is_some-then _ _ (number_in (codes "take") body) (λ take_number. is_some-last _ (text_in (codes "relations") body))

attempted : (body : Data) → is_some (attempted_in body) ≡ has_keys (keys_of Attempted) body
unfolding attempted_in
attempted body = is_some-then _ _ (number_in (codes "take") body) (λ take_number. is_some-last _ (text_in (codes "reason") body))

-- the keys of a source package, and no others
named-alone : (body : Data) → is_some (named_source_in body) ≡ has_keys named body
named-alone body =
    is_some-subject body
    ∙ ap (λ (b : Bool). is_some (text_in (codes "arch") body) && (is_some (text_in (codes "source") body) && b)) (sym (and-true (is_some (text_in (codes "version") body))))

give_back : (body : Data) → is_some (give_back_in body) ≡ has_keys (keys_of GiveBack) body
unfolding give_back_in
give_back body = is_some-map _ (named_source_in body) ∙ named-alone body

dep_wait : (body : Data) → is_some (dep_wait_in body) ≡ has_keys (keys_of DepWait) body
unfolding dep_wait_in
dep_wait body = after-subject body _ _ (λ subject. is_some-last _ (text_in (codes "relations") body))

fail : (body : Data) → is_some (fail_in body) ≡ has_keys (keys_of Fail) body
unfolding fail_in
fail body = after-subject body _ _ (λ subject. is_some-last _ (text_in (codes "note") body))

not_for_us : (body : Data) → is_some (not_for_us_in body) ≡ has_keys (keys_of NotForUs) body
unfolding not_for_us_in
not_for_us body = after-subject body _ _ (λ subject. is_some-last _ (text_in (codes "note") body))

rebuild : (body : Data) → is_some (rebuild_in body) ≡ has_keys (keys_of Rebuild) body
unfolding rebuild_in
rebuild body = after-subject body _ _ (λ subject.
    is_some-then _ _ (number_in (codes "number") body) (λ number. is_some-last _ (text_in (codes "message") body)))

build_priority : (body : Data) → is_some (build_priority_in body) ≡ has_keys (keys_of BuildPriority) body
unfolding build_priority_in
build_priority body = after-subject body _ _ (λ subject. is_some-last _ (integer_in (codes "value") body))

forget : (body : Data) → is_some (forget_in body) ≡ has_keys (keys_of Forget) body
unfolding forget_in
forget body = is_some-map _ (named_source_in body) ∙ named-alone body

report : (body : Data) → is_some (report_in body) ≡ has_keys (keys_of Report) body
unfolding report_in
report body = is_some-then _ _ (text_in (codes "arch") body) (λ arch. is_some-last _ (text_in (codes "text") body))

pub is_some-command : (kind : CommandKind) (body : Data) → is_some (command_in kind body) ≡ has_keys (keys_of kind) body
is_some-command AddArch body = add_arch body
is_some-command AddBuilder body = add_builder body
is_some-command RemoveArch body = remove_arch body
is_some-command RemoveBuilder body = remove_builder body
is_some-command Enter body = enter body
is_some-command Next body = next body
is_some-command Take body = take body
is_some-command Built body = is_some-last _ (number_in (codes "take") body)
is_some-command Uploaded body = is_some-last _ (number_in (codes "take") body)
is_some-command Waits body = waits body
is_some-command PutBack body = is_some-last _ (number_in (codes "take") body)
is_some-command Attempted body = attempted body
is_some-command GiveBack body = give_back body
is_some-command DepWait body = dep_wait body
is_some-command Fail body = fail body
is_some-command NotForUs body = not_for_us body
is_some-command Rebuild body = rebuild body
is_some-command BuildPriority body = build_priority body
is_some-command Forget body = forget body
is_some-command Report body = report body
