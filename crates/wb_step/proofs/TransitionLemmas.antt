-- The record that a command moves stands at its key, and the move is one that may be made.
use Rattle.std.proofs.Common.{◌≡◌, ℕ, List, [], ◌∷◌, filter, Option, Some, None, inl, refl, sym, ap, subst, ◌∙◌, option_map, option_and_then}
use Rattle.std.specs.FinMap as map
use Rattle.wb_states.specs.declared.command.Command.{Command}
use Rattle.wb_states.specs.declared.moves.Move.{Move}
use Rattle.wb_states.specs.Holds.{is_taken_as, taken_as}
use Rattle.wb_states.specs.Machine.{Machine, arch_words}
use Rattle.wb_states.specs.Moves.{move_refusal}
use Rattle.wb_states.specs.Queue.{Entry}
use Rattle.wb_states.specs.Subject.{Subject, Nothing, Source, Taken, Head, Held, subject_of}
use Rattle.deb_text.specs.Lists.{first_of, IsIn}
use Rattle.deb_text.proofs.KeyLemmas.{pair_cmp_total, pair_cmp-same}
use Rattle.wb_states.proofs.QueueLemmas.{head_of-waits}
use Rattle.deb_text.proofs.SortedLemmas.{IsIn-filter, IsIn-find}
use Rattle.wb_step.specs.Checks.{refused_move}
use Rattle.wb_step.specs.Targets.{record_named, first_named, target_of, move_of, move_of_command, with_move, transition_of}

-- a record of the office, with its key
abbrev pub Stands : Machine → Entry → Type 0
Stands machine entry = map.get machine.records entry.0 ≡ Some entry.1

first_of-IsIn : {X : Type 0} (item : X) (items : List X) → first_of items ≡ Some item → IsIn item items
first_of-IsIn {X} item [] is = cc
first_of-IsIn {X} item (x ∷ items) is = inl (only item x (sym is)) where
  only : (a b : X) → Some a ≡ Some b → a ≡ b
  only a b is = cc

pub taken_as-stands : (machine : Machine) (take_number : ℕ) (entry : Entry) → taken_as machine take_number ≡ Some entry → Stands machine entry
unfolding taken_as
taken_as-stands machine take_number entry is =
    let within = first_of-IsIn entry (filter (is_taken_as take_number) (map.entries machine.records)) is in
    let kept = (IsIn-filter (is_taken_as take_number) entry (map.entries machine.records)).0 within in
    map.get-entries machine.records entry.0
    ∙ (IsIn-find pair_cmp_total pair_cmp-same entry (map.entries machine.records) (map.entries_sorted machine.records)).0 kept.0

pub record_named-is : (machine : Machine) (arch source : List ℕ) (entry : Entry) → record_named machine arch source ≡ Some entry
    → Stands machine entry × (entry.0 ≡ (arch, source))
unfolding record_named
record_named-is machine arch source entry is =
    (elim (map.get machine.records (arch, source)) as (λ found. map.get machine.records (arch, source) ≡ found
    → option_map (λ current. ((arch, source), current)) found ≡ Some entry → Stands machine entry × (entry.0 ≡ (arch, source))) [
      | None ↦ λ at none. absurd (nothing none)
      | Some current ↦ λ at some.
          let same : ((arch, source), current) ≡ entry = only ((arch, source), current) entry some in
          subst (λ (e : Entry). Stands machine e × (e.0 ≡ (arch, source))) same (at, refl)
    ]) refl is
  where
    nothing : None ≡ Some entry → ⊥
    nothing e = cc

    only : (x y : Entry) → Some x ≡ Some y → x ≡ y
    only x y e = cc

-- the record by which what a command names is found stands at its key
pub first_named-stands : (machine : Machine) (subject : Subject) (entry : Entry) → first_named machine subject ≡ Some entry → Stands machine entry
first_named-stands machine Nothing entry is = cc
first_named-stands machine (Source arch source) entry is = (record_named-is machine arch source entry is).0
first_named-stands machine (Taken take_number) entry is = taken_as-stands machine take_number entry is
first_named-stands machine (Head next) entry is = (head_of-waits machine next.arch entry is).0
first_named-stands machine (Held builder) entry is = cc

-- a value that is made of another is made of one that is there
and_then-Some : {X Y : Type 0} (f : X → Option Y) (found : Option X) (y : Y) → option_and_then f found ≡ Some y → (x : X) × ((found ≡ Some x) × (f x ≡ Some y))
and_then-Some f None y is = cc
and_then-Some f (Some x) y is = (x, (refl, is))

pub target_of-stands : (machine : Machine) (command : Command) (entry : Entry) → target_of machine command ≡ Some entry → Stands machine entry
target_of-stands machine command entry is =
    first_named-stands machine (subject_of command) entry (and_then-Some (λ move. first_named machine (subject_of command)) (move_of machine command) entry is).1.1

-- what is known of the record that a command moves, and of the move
pub record MayMove (machine : Machine) (command : Command) (asked : Entry × Move) : Type 0 where
  pub target : target_of machine command ≡ Some asked.0
  pub asks : move_of_command machine command (arch_words machine asked.0.0.0) ≡ Some asked.1
  pub stands : Stands machine asked.0
  pub allowed : move_refusal asked.1 asked.0.1 ≡ None

map-Some : {X Y : Type 0} (f : X → Y) (found : Option X) (y : Y) → option_map f found ≡ Some y → (x : X) × ((found ≡ Some x) × (f x ≡ y))
map-Some f None y is = cc
map-Some {Y = Y} f (Some x) y is = (x, (refl, only (f x) y is)) where
  only : (a b : Y) → Some a ≡ Some b → a ≡ b
  only a b e = cc

pub transition_of-may : (machine : Machine) (command : Command) (asked : Entry × Move) → refused_move machine command ≡ None → transition_of machine command ≡ Some asked
    → MayMove machine command asked
unfolding transition_of
transition_of-may machine command asked allowed is =
    let found = and_then-Some (with_move machine command) (target_of machine command) asked is in
    let entry : Entry = found.0 in
    let made = map-Some (λ (move : Move). (entry, move)) (move_of_command machine command (arch_words machine entry.0.0)) asked found.1.1 in
    let same : (entry, made.0) ≡ asked = made.1.1 in
    let target : target_of machine command ≡ Some entry = found.1.0 in
    let allowed : move_refusal asked.1 asked.0.1 ≡ None = sym (ap (option_and_then (λ (asked : Entry × Move). move_refusal asked.1 asked.0.1)) is) ∙ allowed in
    let known : MayMove machine command (entry, made.0) = record {
      target = target;
      asks = made.1.0;
      stands = target_of-stands machine command entry target;
      allowed = subst (λ (a : Entry × Move). move_refusal a.1 a.0.1 ≡ None) (sym same) allowed;
    } in
    subst (MayMove machine command) same known
