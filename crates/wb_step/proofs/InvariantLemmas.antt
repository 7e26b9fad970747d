-- Every step keeps the invariant of the office.
use Rattle.std.proofs.Common.{◌≡◌, ℕ, ℤ, ◌+◌, ◌<◌, ◌≤◌, Bool, true, false, not, ◌&&◌, ◌||◌, inl, inr, is_none, Option, Some, None, Result, Ok, Err, OnOk, IsTrue, IfSome, refl, sym, ap, subst, ◌∙◌, List, [], ◌∷◌, nat_le, arith}
use Rattle.std.proofs.lemmas.Bool.{and_parts, leb-false, not-false, or_parts, or_right}
use Rattle.std.specs.FinMap as map
use Rattle.deb_version.specs.Syntax.{fault_of}
use Rattle.deb_version.proofs.ReadingLemmas.{reading_of-ok}
use Rattle.wb_states.specs.declared.command.Command.{Command}
use Rattle.wb_states.specs.declared.command.Command.TheVariants as of
use Rattle.wb_states.specs.declared.moves.Move.{Move}
use Rattle.wb_states.specs.declared.record.Record.{Record}
use Rattle.wb_states.specs.declared.refusal.Refusal.{Refusal}
use Rattle.wb_states.specs.declared.reply.Reply.{Reply}
use Rattle.wb_states.specs.Limits.{count_limit, is_build_priority, note_limit, relations_limit}
use Rattle.wb_states.specs.Machine.{Machine, arch_words, IsRecord, IsConsistent}
use Rattle.wb_states.specs.Moves.{record_after_move, move_refusal}
use Rattle.deb_relations.specs.Names.{is_package_name}
use Rattle.wb_states.specs.Names.{is_arch_name, is_os_cpu_word, is_builder_name, is_label_text}
use Rattle.wb_states.specs.Queue.{Entry}
use Rattle.wb_states.specs.Record.{IsWellFormed}
use Rattle.deb_text.specs.Text.{is_empty_text}
use Rattle.wb_step.specs.Carries.{Carries}
use Rattle.wb_step.specs.Targets.{again_of, transition_of}
use Rattle.wb_step.specs.Replay.{replay}
use Rattle.wb_step.specs.Step.{step, state_after, counted, entered, after_move, after_priority, after_take}
use Rattle.wb_step.specs.Utf8.{HasUtf8Texts, HaveUtf8Texts}
use Rattle.wb_step.proofs.MoveOfCommandLemmas.{HasHanded, asked-good}
use Rattle.wb_states.proofs.ConsistencyLemmas.{IsFreshOrKept, with_arch, with_builder, with_record, with_counts}
use Rattle.wb_step.proofs.MergingLemmas.{merging-keeps}
use Rattle.wb_step.proofs.ReportingLemmas.{reporting-keeps}
use Rattle.wb_step.proofs.MovedRecordLemmas.{IsGoodMove, record_after_move-well, record_after_move-holder, record_after_move-waits, record_after_move-number}
use Rattle.wb_step.proofs.TransitionLemmas.{transition_of-may}
use Rattle.wb_step.proofs.PassLemmas.{Passes, step-either}
use Rattle.wb_step.proofs.RemovalLemmas.{removing-keeps}
use Rattle.wb_step.specs.Arguments.{OfArch, OfBuilder, OfPackage}
use Rattle.wb_states.proofs.InStateLemmas.{empty_within}

-- ---- a source package that is entered

-- a label is a label or empty
labelled : (text : List ℕ) → IsTrue (is_label_text text) → IsTrue (is_empty_text text || is_label_text text)
labelled text is = or_right (is_empty_text text) (is_label_text text) is

entered-well : (version priority section : List ℕ) → fault_of version ≡ None → IsTrue (is_label_text priority) → IsTrue (is_label_text section)
    → IsWellFormed (entered version priority section)
entered-well version priority section reads first second = record {
  version = reading_of-ok version reads;
  priority = labelled priority first;
  section = labelled section second;
  number = omega arith;
  state = record { held = refl; taken = refl; waiting = refl };
  builder = tt;
  waits = empty_within relations_limit;
  depends = empty_within relations_limit;
  note = empty_within note_limit;
  message = empty_within note_limit;
  build_priority = refl;
}

-- ---- a record that is moved

put-keeps : (machine : Machine) (handed : ℕ) (entry : Entry) (move : Move) → IsConsistent machine → map.get machine.records entry.0 ≡ Some entry.1
    → move_refusal move entry.1 ≡ None → IsGoodMove machine handed entry.0.0 move → machine.handed ≤ handed → handed ≤ count_limit → machine.accepted < count_limit
    → IsConsistent (record machine { records = map.insert machine.records entry.0 (record_after_move move entry.1); handed = handed; accepted = machine.accepted + 1 })
unfolding arch_words
put-keeps machine handed entry move old stands allowed good up within room =
    let arch : List ℕ = entry.0.0 in
    let current : Record = entry.1 in
    let had : IfSome (Some current) (IsRecord machine arch entry.0.1) = subst (λ r. IfSome r (IsRecord machine arch entry.0.1)) stands (old.records arch entry.0.1) in
    let is : IsRecord (record machine { handed = handed }) arch entry.0.1 (record_after_move move current) = record {
      name = had.name;
      known = had.known;
      fields = record_after_move-well machine handed arch current had.fields move good allowed;
      holder = record_after_move-holder machine handed arch current move good had.holder;
      waits = record_after_move-waits machine handed arch current move good;
      given = record_after_move-number machine handed arch current (λ n. (1 ≤ n) × (n ≤ handed)) move good (λ e. (omega arith, omega arith)) (given current.take had.given);
    } in
    with_record machine entry.0 (record_after_move move current) handed old is
    (record_after_move-number machine handed arch current (IsFreshOrKept machine entry.0) move good (λ e. inl (omega arith)) (kept current.take refl)) up within room
  where
    given : (taken : Option ℕ) → IfSome taken (λ n. (1 ≤ n) × (n ≤ machine.handed)) → IfSome taken (λ n. (1 ≤ n) × (n ≤ handed))
    given None is = tt
    given (Some n) is = (is.0, omega arith)

    kept : (taken : Option ℕ) → entry.1.take ≡ taken → IfSome taken (IsFreshOrKept machine entry.0)
    kept None is = tt
    kept (Some n) is = inr (entry.1, (stands, is))

-- a command that hands out
taking-keeps : (machine : Machine) (command : Command) → IsConsistent machine → HasUtf8Texts command → HasHanded machine (machine.handed + 1) command → Passes machine command
    → machine.handed < count_limit → machine.accepted < count_limit → IsConsistent (counted machine (after_take machine (transition_of machine command)))
taking-keeps machine command old utf8 given pass last room =
    (elim (transition_of machine command) as (λ asked. transition_of machine command ≡ asked → IsConsistent (counted machine (after_take machine asked))) [
      | None ↦ λ _. with_counts machine (machine.handed + 1) old (omega arith) (omega arith) room
      | Some asked ↦ λ is.
          let may = transition_of-may machine command asked pass.move is in
          let good = asked-good machine (machine.handed + 1) command asked.0 asked.1 utf8 given pass may.target may.asks in
          put-keeps machine (machine.handed + 1) asked.0 asked.1 old may.stands may.allowed good (omega arith) (omega arith) room
    ]) refl

-- a command that moves a record under its number
transition_of-keeps : (machine : Machine) (command : Command) → IsConsistent machine → HasUtf8Texts command → HasHanded machine machine.handed command → Passes machine command
    → machine.accepted < count_limit → IsConsistent (counted machine (after_move machine (transition_of machine command)))
transition_of-keeps machine command old utf8 given pass room =
    (elim (transition_of machine command) as (λ asked. transition_of machine command ≡ asked → IsConsistent (counted machine (after_move machine asked))) [
      | None ↦ λ _. let within = old.handed in with_counts machine machine.handed old (omega arith) within room
      | Some asked ↦ λ is.
          let may = transition_of-may machine command asked pass.move is in
          let good = asked-good machine machine.handed command asked.0 asked.1 utf8 given pass may.target may.asks in
          let within = old.handed in
          put-keeps machine machine.handed asked.0 asked.1 old may.stands may.allowed good (omega arith) within room
    ]) refl

-- ---- a record that gets a build priority

-- a value that is not refused is a build priority
good-priority : (value : ℤ) → (not (is_build_priority value) || false) ≡ false → IsTrue (is_build_priority value)
good-priority value is = at (is_build_priority value) is where
  at : (good : Bool) → (not good || false) ≡ false → good ≡ true
  at true e = refl
  at false e = cc

prioritized-well : (current : Record) (value : ℤ) → IsWellFormed current → IsTrue (is_build_priority value) → IsWellFormed (record current { build_priority = value })
prioritized-well current value well good = record {
  version = well.version;
  priority = well.priority;
  section = well.section;
  number = well.number;
  state = record { held = well.state.held; taken = well.state.taken; waiting = well.state.waiting };
  builder = well.builder;
  waits = well.waits;
  depends = well.depends;
  note = well.note;
  message = well.message;
  build_priority = good;
}

priority-keeps : (machine : Machine) (key : List ℕ × List ℕ) (value : ℤ) → IsConsistent machine → IsTrue (is_build_priority value) → machine.accepted < count_limit
    → IsConsistent (counted machine (after_priority machine key value (map.get machine.records key)))
unfolding arch_words
priority-keeps machine key value old good room = at (map.get machine.records key) refl where
  at : (found : Option Record) → map.get machine.records key ≡ found → IsConsistent (counted machine (after_priority machine key value found))
  at None there = let within = old.handed in with_counts machine machine.handed old (omega arith) within room
  at (Some current) there =
      let had : IfSome (Some current) (IsRecord machine key.0 key.1) = subst (λ r. IfSome r (IsRecord machine key.0 key.1)) there (old.records key.0 key.1) in
      let is : IsRecord (record machine { handed = machine.handed }) key.0 key.1 (record current { build_priority = value }) = record {
        name = had.name;
        known = had.known;
        fields = prioritized-well current value had.fields good;
        holder = had.holder;
        waits = had.waits;
        given = had.given;
      } in
      let within = old.handed in
      with_record machine key (record current { build_priority = value }) machine.handed old is (kept current.take refl) (omega arith) within room
    where
      kept : (taken : Option ℕ) → current.take ≡ taken → IfSome taken (IsFreshOrKept machine key)
      kept None is = tt
      kept (Some n) is = inr (current, (there, is))

-- ---- all commands

room-for : (machine : Machine) → nat_le count_limit machine.accepted ≡ false → machine.accepted < count_limit
room-for machine is = leb-false count_limit machine.accepted is

state_after-keeps : (machine : Machine) (command : Command) → IsConsistent machine → HasUtf8Texts command → Passes machine command → again_of machine command ≡ None
    → IsConsistent (counted machine (state_after machine command))
state_after-keeps machine (of.AddArch fields) old utf8 pass again =
    let names = and_parts (is_arch_name fields.name) (is_os_cpu_word fields.os && is_os_cpu_word fields.cpu) (not-false _ pass.names) in
    let words = and_parts (is_os_cpu_word fields.os) (is_os_cpu_word fields.cpu) names.1 in
    with_arch machine fields.name (record { os = fields.os; cpu = fields.cpu }) old (record { name = names.0; os = words.0; cpu = words.1 }) pass.there (room-for machine pass.room)
state_after-keeps machine (of.AddBuilder fields) old utf8 pass again =
    let names = and_parts (is_builder_name fields.name) (is_arch_name fields.arch) (not-false _ pass.names) in
    with_builder machine fields.name fields.arch old (record { name = names.0; known = not-false _ pass.arch }) (room-for machine pass.room)
state_after-keeps machine (of.RemoveArch fields) old utf8 pass again =
    removing-keeps machine (OfArch fields) old pass.unheld (room-for machine pass.room)
state_after-keeps machine (of.RemoveBuilder fields) old utf8 pass again =
    removing-keeps machine (OfBuilder fields) old pass.unheld (room-for machine pass.room)
state_after-keeps machine (of.Forget fields) old utf8 pass again =
    removing-keeps machine (OfPackage fields) old pass.unheld (room-for machine pass.room)
state_after-keeps machine (of.Enter fields) old utf8 pass again =
    let names = and_parts (is_arch_name fields.arch) (is_package_name fields.source && (is_label_text fields.priority && is_label_text fields.section)) (not-false _ pass.names) in
    let later = and_parts (is_package_name fields.source) (is_label_text fields.priority && is_label_text fields.section) names.1 in
    let labels = and_parts (is_label_text fields.priority) (is_label_text fields.section) later.1 in
    let is : IsRecord (record machine { handed = machine.handed }) fields.arch fields.source (entered fields.version fields.priority fields.section) = record {
      name = later.0;
      known = not-false _ pass.arch;
      fields = entered-well fields.version fields.priority fields.section pass.version labels.0 labels.1;
      holder = tt;
      waits = inl refl;
      given = tt;
    } in
    let given = old.handed in
    with_record machine (fields.arch, fields.source) (entered fields.version fields.priority fields.section) machine.handed old is tt (omega arith) given (room-for machine pass.room)
state_after-keeps machine (of.Next fields) old utf8 pass again =
    let counts = nat_le count_limit machine.accepted || nat_le count_limit machine.handed in
    let spent = or_parts (nat_le count_limit machine.accepted) (nat_le count_limit machine.handed) (sym (ap (λ found. is_none found && counts) again) ∙ pass.room) in
    taking-keeps machine (of.Next fields) old utf8 refl pass (leb-false count_limit machine.handed spent.1) (room-for machine spent.0)
state_after-keeps machine (of.Take fields) old utf8 pass again =
    let spent = or_parts (nat_le count_limit machine.accepted) (nat_le count_limit machine.handed) pass.room in
    taking-keeps machine (of.Take fields) old utf8 refl pass (leb-false count_limit machine.handed spent.1) (room-for machine spent.0)
state_after-keeps machine (of.Merge fields) old utf8 pass again = merging-keeps machine fields.sources fields.parts old (room-for machine pass.room)
state_after-keeps machine (of.Report fields) old utf8 pass again =
    reporting-keeps machine fields.arch fields.text old utf8 pass.report (room-for machine pass.room)
state_after-keeps machine (of.BuildPriority fields) old utf8 pass again =
    priority-keeps machine (fields.arch, fields.source) fields.value old (good-priority fields.value pass.number) (room-for machine pass.room)
state_after-keeps machine command old utf8 pass again = transition_of-keeps machine command old utf8 tt pass (room-for machine pass.room)

pub step-keeps : (machine : Machine) (command : Command) → HasUtf8Texts command → IsConsistent machine → IsConsistent (step machine command).1
step-keeps machine command utf8 old = step-either IsConsistent machine command old (state_after-keeps machine command old utf8)

pub replay-keeps : (machine : Machine) (commands : List Command) → HaveUtf8Texts commands → IsConsistent machine → IsConsistent (replay machine commands)
replay-keeps machine [] utf8 old = old
replay-keeps machine (command ∷ commands) utf8 old = replay-keeps (step machine command).1 commands utf8.1 (step-keeps machine command utf8.0 old)

-- what a command keeps that is carried out or refused
pub carries-keeps : (answer : Result Reply Refusal) (old new : Machine) (command : Command) → Carries old new command answer
    → OnOk answer (HasUtf8Texts command) → IsConsistent old → IsConsistent new
carries-keeps (Ok reply) old new command carries utf8 kept =
    subst IsConsistent (ap (λ outcome. outcome.1) carries.reply) (step-keeps old command utf8 kept)
carries-keeps (Err refusal) old new command carries utf8 kept = subst IsConsistent (sym carries.unchanged) kept
