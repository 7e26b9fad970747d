-- A body gives commands of the kind of its path alone.
use Rattle.std.proofs.Common.{◌≡◌, ◌∙◌, ap, sym, inl, inr, refl, false, List, Option, None, Some, IfSome, option_map}
use Rattle.std.proofs.lemmas.Bool.{cases_Bool, false≢true}
use Rattle.std.specs.Prelude.{codes, option_and_then}
use Rattle.serde_json.specs.Data.{Data}
use Rattle.wb_keys.specs.Rights.{holder_for, is_for, kind_of, may_ask_for, may_command, meets, need_of}
use Rattle.wb_keys.specs.declared.right.Right.{Right}
use Rattle.wb_keys.proofs.RightLemmas.{asked-by-kind, list_any-more}
use Rattle.wb_states.specs.Machine.{Machine}
use Rattle.wb_keys.specs.declared.right.Kind.{Kind}
use Rattle.wb_keys.specs.declared.right.Kind.TheVariants as kind
use Rattle.wb_states.specs.declared.command.Command.{Command}
use Rattle.wb_api.specs.Commands.{add_arch_in, add_builder_in, attempted_in, build_priority_in, command_in}
use Rattle.wb_api.specs.Commands.{dep_wait_in, enter_in, fail_in, forget_in, give_back_in, next_in, not_for_us_in}
use Rattle.wb_api.specs.Commands.{remove_arch_in, remove_builder_in}
use Rattle.wb_api.specs.Commands.{integer_in, named_source_in, number_in, number_or_none_in, rebuild_in, report_in}
use Rattle.wb_api.specs.Commands.{take_in, text_in, waits_in}
use Rattle.wb_api.specs.Rights.{kind_of_path}
use Rattle.wb_api.specs.declared.route.CommandKind.{CommandKind}
use Rattle.wb_api.specs.declared.route.CommandKind.TheVariants.{AddArch, AddBuilder, RemoveArch, RemoveBuilder, Enter}
use Rattle.wb_api.specs.declared.route.CommandKind.TheVariants.{Next, Take, Built, Uploaded, Waits, PutBack, Attempted}
use Rattle.wb_api.specs.declared.route.CommandKind.TheVariants.{GiveBack, DepWait, Fail, NotForUs, Rebuild}
use Rattle.wb_api.specs.declared.route.CommandKind.TheVariants.{BuildPriority, Forget, Report}

-- what is found is of this kind
unfoldable Has : Kind → Option Command → Type 0
Has kind found = IfSome found (λ command. kind_of command ≡ kind)

by-map : {X : Type 0} (kind : Kind) (f : X → Command) (found : Option X) → ((x : X) → kind_of (f x) ≡ kind)
    → Has kind (option_map f found)
unfolding Has
by-map kind f None is = tt
by-map kind f (Some x) is = is x

by-then : {X : Type 0} (kind : Kind) (f : X → Option Command) (found : Option X) → ((x : X) → Has kind (f x))
    → Has kind (option_and_then f found)
unfolding Has
by-then kind f None is = tt
by-then kind f (Some x) is = is x

add_arch-kind : (body : Data) → Has kind.Operator (add_arch_in body)
unfolding add_arch_in
add_arch-kind body =
    by-then kind.Operator _ (text_in (codes "name") body) (λ one.
    by-then kind.Operator _ (text_in (codes "os") body) (λ two.
    by-map kind.Operator _ (text_in (codes "cpu") body) (λ last. refl)))

add_builder-kind : (body : Data) → Has kind.Operator (add_builder_in body)
unfolding add_builder_in
add_builder-kind body =
    by-then kind.Operator _ (text_in (codes "name") body) (λ one.
    by-map kind.Operator _ (text_in (codes "arch") body) (λ last. refl))

remove_arch-kind : (body : Data) → Has kind.Operator (remove_arch_in body)
unfolding remove_arch_in
remove_arch-kind body =
    by-map kind.Operator _ (text_in (codes "name") body) (λ last. refl)

remove_builder-kind : (body : Data) → Has kind.Operator (remove_builder_in body)
unfolding remove_builder_in
remove_builder-kind body =
    by-then kind.Operator _ (text_in (codes "name") body) (λ one.
    by-map kind.Operator _ (text_in (codes "arch") body) (λ last. refl))

enter-kind : (body : Data) → Has kind.Operator (enter_in body)
unfolding enter_in
enter-kind body =
    by-then kind.Operator _ (named_source_in body) (λ one.
    by-then kind.Operator _ (text_in (codes "priority") body) (λ two.
    by-map kind.Operator _ (text_in (codes "section") body) (λ last. refl)))

next-kind : (body : Data) → Has kind.Builder (next_in body)
unfolding next_in
next-kind body =
    by-then kind.Builder _ (text_in (codes "arch") body) (λ one.
    by-then kind.Builder _ (text_in (codes "builder") body) (λ two.
    by-map kind.Builder _ (number_or_none_in (codes "after") body) (λ last. refl)))

take-kind : (body : Data) → Has kind.Builder (take_in body)
unfolding take_in
take-kind body =
    by-then kind.Builder _ (named_source_in body) (λ one.
    by-map kind.Builder _ (text_in (codes "builder") body) (λ last. refl))

waits-kind : (body : Data) → Has kind.Builder (waits_in body)
unfolding waits_in
waits-kind body =
    by-then kind.Builder _ (number_in (codes "take") body) (λ one.
    by-map kind.Builder _ (text_in (codes "relations") body) (λ last. refl))

attempted-kind : (body : Data) → Has kind.Builder (attempted_in body)
unfolding attempted_in
attempted-kind body =
    by-then kind.Builder _ (number_in (codes "take") body) (λ one.
    by-map kind.Builder _ (text_in (codes "reason") body) (λ last. refl))

give_back-kind : (body : Data) → Has kind.Porter (give_back_in body)
unfolding give_back_in
give_back-kind body =
    by-map kind.Porter _ (named_source_in body) (λ last. refl)

dep_wait-kind : (body : Data) → Has kind.Porter (dep_wait_in body)
unfolding dep_wait_in
dep_wait-kind body =
    by-then kind.Porter _ (named_source_in body) (λ one.
    by-map kind.Porter _ (text_in (codes "relations") body) (λ last. refl))

fail-kind : (body : Data) → Has kind.Porter (fail_in body)
unfolding fail_in
fail-kind body =
    by-then kind.Porter _ (named_source_in body) (λ one.
    by-map kind.Porter _ (text_in (codes "note") body) (λ last. refl))

not_for_us-kind : (body : Data) → Has kind.Porter (not_for_us_in body)
unfolding not_for_us_in
not_for_us-kind body =
    by-then kind.Porter _ (named_source_in body) (λ one.
    by-map kind.Porter _ (text_in (codes "note") body) (λ last. refl))

rebuild-kind : (body : Data) → Has kind.Porter (rebuild_in body)
unfolding rebuild_in
rebuild-kind body =
    by-then kind.Porter _ (named_source_in body) (λ one.
    by-then kind.Porter _ (number_in (codes "number") body) (λ two.
    by-map kind.Porter _ (text_in (codes "message") body) (λ last. refl)))

build_priority-kind : (body : Data) → Has kind.Porter (build_priority_in body)
unfolding build_priority_in
build_priority-kind body =
    by-then kind.Porter _ (named_source_in body) (λ one.
    by-map kind.Porter _ (integer_in (codes "value") body) (λ last. refl))

forget-kind : (body : Data) → Has kind.Operator (forget_in body)
unfolding forget_in
forget-kind body =
    by-map kind.Operator _ (named_source_in body) (λ last. refl)

report-kind : (body : Data) → Has kind.Porter (report_in body)
unfolding report_in
report-kind body =
    by-then kind.Porter _ (text_in (codes "arch") body) (λ one.
    by-map kind.Porter _ (text_in (codes "text") body) (λ last. refl))

has-kind : (kind : CommandKind) (body : Data) → Has (kind_of_path kind) (command_in kind body)
has-kind AddArch body = add_arch-kind body
has-kind AddBuilder body = add_builder-kind body
has-kind RemoveArch body = remove_arch-kind body
has-kind RemoveBuilder body = remove_builder-kind body
has-kind Enter body = enter-kind body
has-kind Next body = next-kind body
has-kind Take body = take-kind body
has-kind Built body = by-map kind.Builder _ (number_in (codes "take") body) (λ last. refl)
has-kind Uploaded body = by-map kind.Builder _ (number_in (codes "take") body) (λ last. refl)
has-kind Waits body = waits-kind body
has-kind PutBack body = by-map kind.Builder _ (number_in (codes "take") body) (λ last. refl)
has-kind Attempted body = attempted-kind body
has-kind GiveBack body = give_back-kind body
has-kind DepWait body = dep_wait-kind body
has-kind Fail body = fail-kind body
has-kind NotForUs body = not_for_us-kind body
has-kind Rebuild body = rebuild-kind body
has-kind BuildPriority body = build_priority-kind body
has-kind Forget body = forget-kind body
has-kind Report body = report-kind body

pub command-kind : (kind : CommandKind) (body : Data)
    → IfSome (command_in kind body) (λ command. kind_of command ≡ kind_of_path kind)
unfolding Has
command-kind kind body = has-kind kind body

-- a command may not be given where nothing of its kind may be asked for
refused-kind : (rights : List Right) (machine : Machine) (command : Command)
    → may_ask_for rights (kind_of command) ≡ false → may_command rights machine command ≡ false
refused-kind rights machine command none = elim (cases_Bool (may_command rights machine command)) [
  | inl may ↦
      let asks = list_any-more (λ right. meets right (holder_for machine command) (need_of command))
      (is_for (kind_of command)) (asked-by-kind (holder_for machine command) (need_of command)) rights may in
      absurd (false≢true (sym none ∙ asks))
  | inr may_not ↦ may_not
]

found-refused : (rights : List Right) (machine : Machine) (kind : Kind) (found : Option Command)
    → may_ask_for rights kind ≡ false → IfSome found (λ command. kind_of command ≡ kind)
    → IfSome found (λ command. may_command rights machine command ≡ false)
found-refused rights machine kind None none is = tt
found-refused rights machine kind (Some command) none is =
    refused-kind rights machine command (ap (may_ask_for rights) is ∙ none)

-- what a body gives may not be given where nothing of the kind of its path may be asked for
pub command-refused : (rights : List Right) (machine : Machine) (kind : CommandKind) (body : Data)
    → may_ask_for rights (kind_of_path kind) ≡ false
    → IfSome (command_in kind body) (λ command. may_command rights machine command ≡ false)
command-refused rights machine kind body none =
    found-refused rights machine (kind_of_path kind) (command_in kind body) none (command-kind kind body)
