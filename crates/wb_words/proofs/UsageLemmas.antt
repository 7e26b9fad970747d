-- One turn of the loops over the usages of a table, and the tables as one.
use Rattle.std.proofs.Common.{◌≡◌, ◌∙◌, ℕ, ◌<◌, ◌+◌, ◌++◌, true, false, cond, List, [], ◌∷◌, Option, None, Some}
use Rattle.std.proofs.Common.{option_map, bytes_eq, length, get_or, drop}
use Rattle.std.proofs.Common.{ap, ap₂, refl, add-one, drop-cons}
use Rattle.std.specs.Option.{option_or}
use Rattle.std.specs.Borrow.{Bor}
use Rattle.clap.specs.Words.{App, Text, app_of, new_app, shape_of, with_subcommand}
use Rattle.clap.specs.declared.builder.command.Command.{Command}
use Rattle.wb_words.specs.Usages.{Argument, Usage, arguments_in, arguments_named, builder_usages, list_usages}
use Rattle.wb_words.specs.Usages.{operator_usages, query_usages, usage_named, usages_in, wb_usages}
use Rattle.wb_words.specs.Usages.{with_arguments, with_usages}
use Rattle.wb_words.specs.declared.usage.ArgumentKind.{ArgumentKind}

-- a usage as a table has it
abbrev pub Entry : Type 0
Entry = Bor Text × Bor (List (Bor Text × ArgumentKind))

-- the usage at a place of a table is the first of those from that place on
usages_in-next : (usages : List Entry) (i : ℕ) (d : Entry) → i < length usages
    → usages_in (drop i usages)
    ≡ ((get_or usages i d).0.now, arguments_in (get_or usages i d).1.now) ∷ usages_in (drop (i + 1) usages)
usages_in-next usages i d h = rw (add-one, drop-cons usages i d) refl

-- what is added for the usage at a place leaves the later ones to add
pub with_usages-next : (usages : List Entry) (i : ℕ) (d : Entry) (made fresh added new : Command) → i < length usages
    → app_of fresh ≡ new_app (get_or usages i d).0.now
    → app_of added ≡ with_arguments (app_of fresh) (arguments_in (get_or usages i d).1.now)
    → app_of new ≡ with_subcommand (app_of made) (shape_of added)
    → with_usages (app_of new) (usages_in (drop (i + 1) usages)) ≡ with_usages (app_of made) (usages_in (drop i usages))
with_usages-next usages i d made fresh added new h named e grown =
    let given : app_of added
    ≡ with_arguments (new_app (get_or usages i d).0.now) (arguments_in (get_or usages i d).1.now) =
    e ∙ ap (λ (a : App). with_arguments a (arguments_in (get_or usages i d).1.now)) named in
    rw (usages_in-next usages i d h, grown)
    (ap (λ (a : App). with_usages (with_subcommand (app_of made) a.top) (usages_in (drop (i + 1) usages))) given)

-- ---- the arguments of a name

-- a usage at a place that has another name is passed over
pub arguments_named-next : (name : Text) (usages : List Entry) (i : ℕ) (d : Entry) → i < length usages
    → bytes_eq (get_or usages i d).0.now name ≡ false
    → arguments_named name (usages_in (drop (i + 1) usages)) ≡ arguments_named name (usages_in (drop i usages))
arguments_named-next name usages i d h other = rw (usages_in-next usages i d h, other) refl

-- a usage at a place that has the name is the one of its name
pub arguments_named-here : (name : Text) (usages : List Entry) (i : ℕ) (d : Entry) → i < length usages
    → bytes_eq (get_or usages i d).0.now name ≡ true
    → arguments_named name (usages_in (drop i usages)) ≡ Some (arguments_in (get_or usages i d).1.now)
arguments_named-here name usages i d h same = rw (usages_in-next usages i d h, same) refl

-- of two tables the first that has the name gives its arguments
arguments_named-append : (name : Text) (usages others : List Usage)
    → option_or (arguments_named name usages) (arguments_named name others) ≡ arguments_named name (usages ++ others)
arguments_named-append name [] others = refl
arguments_named-append name (usage ∷ usages) others = elim (bytes_eq usage.0 name) as (λ same.
    option_or (option_map (λ (u : Usage). u.1) (cond same (Some usage) (usage_named name usages)))
    (arguments_named name others)
    ≡ option_map (λ (u : Usage). u.1) (cond same (Some usage) (usage_named name (usages ++ others)))) [
      | true ↦ refl
      | false ↦ arguments_named-append name usages others
    ]

option_map-or : {A B : Type 0} (f : A → B) (first second : Option A)
    → option_map f (option_or first second) ≡ option_or (option_map f first) (option_map f second)
option_map-or f None second = refl
option_map-or f (Some x) second = refl

pub arguments_named-table : (name : Text) {table other : List Entry} → table ≡ other
    → arguments_named name (usages_in table) ≡ arguments_named name (usages_in other)
arguments_named-table name = ap (λ (usages : List Entry). arguments_named name (usages_in usages))

-- two tables that give these arguments for a name give them as one
two_tables : {A : Type 0} (f : A → List Argument) (name : Text) (first second : Option A) (usages others : List Usage)
    → option_map f first ≡ arguments_named name usages → option_map f second ≡ arguments_named name others
    → option_map f (option_or first second) ≡ arguments_named name (usages ++ others)
two_tables f name first second usages others h k =
    option_map-or f first second ∙ ap₂ option_or h k ∙ arguments_named-append name usages others

-- the four tables are all subcommands
pub arguments_of-tables : {A : Type 0} (f : A → List Argument) (name : Text) (operators builders queries lists : Option A)
    → option_map f operators ≡ arguments_named name operator_usages
    → option_map f builders ≡ arguments_named name builder_usages
    → option_map f queries ≡ arguments_named name query_usages
    → option_map f lists ≡ arguments_named name list_usages
    → option_map f (option_or (option_or (option_or operators builders) queries) lists) ≡ arguments_named name wb_usages
unfolding wb_usages
arguments_of-tables f name operators builders queries lists o b q l =
    let commands = two_tables f name operators builders operator_usages builder_usages o b in
    let asked = two_tables f name (option_or operators builders) queries (operator_usages ++ builder_usages) query_usages commands q in
    two_tables f name (option_or (option_or operators builders) queries) lists (operator_usages ++ builder_usages ++ query_usages) list_usages asked l
