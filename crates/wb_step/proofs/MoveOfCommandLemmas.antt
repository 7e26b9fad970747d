-- The move that an accepted command makes brings what has its form.
use Rattle.std.proofs.Common.{◌≡◌, ℕ, ◌+◌, ◌≤◌, false, ◌&&◌, ◌||◌, nat_eq, nat_lt, length, List, Some, None, Result, Ok, Err, IsTrue, refl, sym, ap, subst, arith, []}
use Rattle.std.specs.Result.{result_err, result_unwrap_or}
use Rattle.std.proofs.lemmas.Bool.Decides.{nat_tests}
use Rattle.std.specs.FinSet as set
use Rattle.std.specs.Str.{IsUtf8}
use Rattle.std.proofs.lemmas.Bool.{and_parts, not-false, or_parts}
use Rattle.deb_relations.specs.declared.fault.RelationFault.{RelationFault}
use Rattle.deb_relations.specs.declared.relations.Alternative.{Alternative}
use Rattle.deb_relations.specs.Grammar.{Reads}
use Rattle.deb_relations.specs.Reading.{reading_of}
use Rattle.deb_relations.proofs.PrintedLemmas.{reading_of-reads}
use Rattle.wb_states.specs.declared.command.Command.{Command}
use Rattle.wb_states.specs.declared.command.Command.TheVariants as of
use Rattle.wb_states.specs.declared.moves.Move.{Move}
use Rattle.wb_states.specs.declared.moves.Move.TheVariants as to
use Rattle.wb_states.specs.Limits.{rebuild_limit, note_limit}
use Rattle.wb_states.specs.Machine.{Machine, arch_words}
use Rattle.deb_relations.specs.Names.{is_package_name}
use Rattle.wb_states.specs.Names.{is_arch_name, is_builder_name}
use Rattle.wb_states.specs.Queue.{Entry}
use Rattle.deb_text.specs.Text.{IsTextWithin}
use Rattle.wb_states.proofs.QueueLemmas.{head_of-waits}
use Rattle.wb_step.specs.Targets.{target_of, move_of_command}
use Rattle.wb_step.specs.Utf8.{HasUtf8Texts}
use Rattle.wb_step.proofs.MovedRecordLemmas.{IsGoodMove}
use Rattle.wb_step.proofs.TransitionLemmas.{record_named-is}
use Rattle.wb_step.proofs.PassLemmas.{Passes}

-- a text that is not too long
short-text : (limit : ℕ) (text : List ℕ) → IsUtf8 text → nat_lt limit (length text) ≡ false → IsTextWithin limit text
short-text limit text utf8 short = record { utf8 = utf8; within = grind (arith, nat_tests) }

-- relations without a fault were read
groups-read : (relations : List ℕ) → result_err (reading_of relations) ≡ None → Reads relations (result_unwrap_or (reading_of relations) [])
groups-read relations is =
    (elim (reading_of relations) as (λ (read : Result (List (List Alternative)) RelationFault). reading_of relations ≡ read → result_err read ≡ None → Reads relations (result_unwrap_or read [])) [
      | Ok groups ↦ λ reads _. reading_of-reads relations groups reads
      | Err fault ↦ λ _ h. absurd (some fault h)
    ]) refl is
  where
    some : (fault : RelationFault) → Some fault ≡ None → ⊥
    some fault e = cc

-- the move is the one that is asked for
same-move : (machine : Machine) (handed : ℕ) (arch : List ℕ) (one move : Move) → Some one ≡ Some move → IsGoodMove machine handed arch one → IsGoodMove machine handed arch move
same-move machine handed arch one move is good = subst (IsGoodMove machine handed arch) (only is) good where
  only : Some one ≡ Some move → one ≡ move
  only e = cc

none : {X : Type 0} (move : Move) → None ≡ Some move → X
none move e = absurd (apart e) where
  apart : None ≡ Some move → ⊥
  apart e = cc

good-rebuild : (number : ℕ) → (nat_eq number 0 || nat_lt rebuild_limit number) ≡ false → number ≤ rebuild_limit
good-rebuild number is =
    let low : nat_lt rebuild_limit number ≡ false = (or_parts (nat_eq number 0) (nat_lt rebuild_limit number) is).1 in
    grind (arith, nat_tests)

-- a command that hands out gives the next take number
abbrev pub HasHanded : Machine → ℕ → Command → Type 0
HasHanded machine handed (of.Next fields) = handed ≡ machine.handed + 1
HasHanded machine handed (of.Take fields) = handed ≡ machine.handed + 1
HasHanded machine handed _ = Unit {0}

pub asked-good : (machine : Machine) (handed : ℕ) (command : Command) (entry : Entry) (move : Move) → HasUtf8Texts command → HasHanded machine handed command → Passes machine command
    → target_of machine command ≡ Some entry → move_of_command machine command (arch_words machine entry.0.0) ≡ Some move → IsGoodMove machine handed entry.0.0 move
asked-good machine handed (of.AddArch fields) entry move utf8 given pass target is = none move is
asked-good machine handed (of.AddBuilder fields) entry move utf8 given pass target is = none move is
asked-good machine handed (of.RemoveArch fields) entry move utf8 given pass target is = none move is
asked-good machine handed (of.RemoveBuilder fields) entry move utf8 given pass target is = none move is
asked-good machine handed (of.Enter fields) entry move utf8 given pass target is = none move is
asked-good machine handed (of.BuildPriority fields) entry move utf8 given pass target is = none move is
asked-good machine handed (of.Forget fields) entry move utf8 given pass target is = none move is
asked-good machine handed (of.Merge fields) entry move utf8 given pass target is = none move is
asked-good machine handed (of.Report fields) entry move utf8 given pass target is = none move is
asked-good machine handed (of.Next fields) entry move utf8 given pass target is =
    let names = and_parts (is_arch_name fields.arch) (is_builder_name fields.builder) (not-false _ pass.names) in
    let here : entry.0.0 ≡ fields.arch = (head_of-waits machine fields.arch entry target).1 in
    let may : IsTrue (set.contains machine.builders (fields.builder, entry.0.0)) = subst (λ a. IsTrue (set.contains machine.builders (fields.builder, a))) (sym here) (not-false _ pass.others) in
    same-move machine handed entry.0.0 (to.Take fields.builder (machine.handed + 1)) move is (names.1, (may, (refl, given)))
asked-good machine handed (of.Take fields) entry move utf8 given pass target is =
    let names = and_parts (is_arch_name fields.arch) (is_builder_name fields.builder && is_package_name fields.source) (not-false _ pass.names) in
    let later = and_parts (is_builder_name fields.builder) (is_package_name fields.source) names.1 in
    let here : entry.0.0 ≡ fields.arch = ap (λ (key : List ℕ × List ℕ). key.0) (record_named-is machine fields.arch fields.source entry target).1 in
    let may : IsTrue (set.contains machine.builders (fields.builder, entry.0.0)) = subst (λ a. IsTrue (set.contains machine.builders (fields.builder, a))) (sym here) (not-false _ pass.others) in
    same-move machine handed entry.0.0 (to.Take fields.builder (machine.handed + 1)) move is (later.0, (may, (refl, given)))
asked-good machine handed (of.Attempted fields) entry move utf8 given pass target is =
    same-move machine handed entry.0.0 (to.Attempted fields.reason) move is (short-text note_limit fields.reason utf8 pass.short)
asked-good machine handed (of.Waits fields) entry move utf8 given pass target is =
    same-move machine handed entry.0.0 (to.Waits (result_unwrap_or (reading_of fields.relations) []) (arch_words machine entry.0.0)) move is
    (refl, (fields.relations, groups-read fields.relations pass.relations))
asked-good machine handed (of.DepWait fields) entry move utf8 given pass target is =
    same-move machine handed entry.0.0 (to.DepWait (result_unwrap_or (reading_of fields.relations) []) (arch_words machine entry.0.0)) move is
    (refl, (fields.relations, groups-read fields.relations pass.relations))
asked-good machine handed (of.Fail fields) entry move utf8 given pass target is =
    same-move machine handed entry.0.0 (to.Fail fields.note) move is (short-text note_limit fields.note utf8 pass.short)
asked-good machine handed (of.NotForUs fields) entry move utf8 given pass target is =
    same-move machine handed entry.0.0 (to.NotForUs fields.note) move is (short-text note_limit fields.note utf8 pass.short)
asked-good machine handed (of.Rebuild fields) entry move utf8 given pass target is =
    same-move machine handed entry.0.0 (to.Rebuild fields.number fields.message) move is
    (good-rebuild fields.number pass.number, short-text note_limit fields.message utf8 pass.short)
asked-good machine handed _ entry move utf8 given pass target is = same-move machine handed entry.0.0 _ move is tt
