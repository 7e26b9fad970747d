-- A source package that has a record keeps one, but by merges, and where its architecture goes or it is forgotten.
use Rattle.std.proofs.Common.{◌≡◌, ℕ, ℤ, Bool, true, false, cond, List, Option, Some, None, IsTrue, is_some, option_map}
use Rattle.std.proofs.Common.{bytes_eq, refl}
use Rattle.std.specs.FinMap as map
use Rattle.std.specs.Ordering.{eq_by_cmp}
use Rattle.deb_text.specs.Text.{pair_cmp}
use Rattle.deb_text.proofs.KeyLemmas.{pair_cmp_total, pair_cmp-same}
use Rattle.wb_states.specs.declared.command.Command.{Command}
use Rattle.wb_states.specs.declared.command.Command.TheVariants as of
use Rattle.wb_states.specs.declared.moves.Move.{Move}
use Rattle.wb_states.specs.declared.record.Record.{Record}
use Rattle.wb_states.specs.Machine.{Key, Machine}
use Rattle.wb_states.specs.Moves.{record_after_move}
use Rattle.wb_states.specs.Queue.{Entry}
use Rattle.wb_merge.specs.Merged.{Records}
use Rattle.wb_merge.specs.Report.{Lines}
use Rattle.wb_merge.specs.Reported.{record_by_line, records_reported}
use Rattle.wb_merge.proofs.ReportedLemmas.{reported-here, reported-others}
use Rattle.wb_step.specs.Arguments.{arguments_of}
use Rattle.wb_step.specs.Step.{after_move, after_priority, entered, lines_said, state_after, step}
use Rattle.wb_step.specs.Targets.{MayTakeAway, transition_of}
use Rattle.wb_step.proofs.FrameLemmas.{parts-others}
use Rattle.wb_step.proofs.PassLemmas.{step-either}
use Rattle.wb_step.proofs.RemovalLemmas.{remove-other, retain-other}

-- a source package has a record
abbrev HasRecord : Records → Key → Type 0
HasRecord records key = IsTrue (is_some (map.get records key))

as_before : (one other : Records) (key : Key) → map.get other key ≡ map.get one key → HasRecord one key
    → HasRecord other key
as_before one other key same there = rw same there

insert-stays : (records : Records) (key other : Key) (current : Record) → HasRecord records other
    → HasRecord (map.insert records key current) other
insert-stays records key other current there =
    rw (map.get-insert pair_cmp_total records key current other) (put (eq_by_cmp pair_cmp other key)) where
      put : (b : Bool) → IsTrue (is_some (cond b (Some current) (map.get records other)))
      put true = refl
      put false = there

mapped-stays : (by : Record → Record) (found : Option Record) → IsTrue (is_some found)
    → IsTrue (is_some (option_map by found))
mapped-stays by None there = there
mapped-stays by (Some current) there = refl

report-stays : (records : Records) (arch : List ℕ) (lines : Lines) (key : Key) → HasRecord records key
    → HasRecord (records_reported records arch lines) key
report-stays records arch lines key there =
    elim (bytes_eq key.0 arch) as (λ b. bytes_eq key.0 arch ≡ b → HasRecord (records_reported records arch lines) key) [
      | true ↦ λ is. rw (reported-here records arch lines key is)
          (mapped-stays (record_by_line (map.get lines key.1)) (map.get records key) there)
      | false ↦ λ other. rw (reported-others records arch lines key other) there
    ] refl

move-stays : (machine : Machine) (asked : Option (Entry × Move)) (key : Key) → HasRecord machine.records key
    → HasRecord (after_move machine asked).records key
move-stays machine None key there = there
move-stays machine (Some asked) key there =
    insert-stays machine.records asked.0.0 key (record_after_move asked.1 asked.0.1) there

priority-stays : (machine : Machine) (key other : Key) (value : ℤ) (found : Option Record)
    → HasRecord machine.records other → HasRecord (after_priority machine key value found).records other
priority-stays machine key other value None there = there
priority-stays machine key other value (Some current) there =
    insert-stays machine.records key other (record current { build_priority = value }) there

state-stays : (machine : Machine) (command : Command) (key : Key)
    → (MayTakeAway (arguments_of command).imports (arguments_of command).removes key → ⊥)
    → HasRecord machine.records key → HasRecord (state_after machine command).records key
state-stays machine (of.AddArch fields) key kept there = there
state-stays machine (of.AddBuilder fields) key kept there = there
state-stays machine (of.RemoveArch fields) key kept there =
    as_before machine.records (state_after machine (of.RemoveArch fields)).records key
    (retain-other machine.records fields.name key kept) there
state-stays machine (of.RemoveBuilder fields) key kept there = there
state-stays machine (of.Forget fields) key kept there =
    as_before machine.records (state_after machine (of.Forget fields)).records key
    (remove-other pair_cmp_total pair_cmp-same machine.records (fields.arch, fields.source) key kept) there
state-stays machine (of.Enter fields) key kept there =
    insert-stays machine.records (fields.arch, fields.source) key
    (entered fields.version fields.priority fields.section) there
state-stays machine (of.Merge fields) key kept there =
    as_before machine.records (state_after machine (of.Merge fields)).records key
    (parts-others machine fields.sources fields.parts machine.records key kept) there
state-stays machine (of.Report fields) key kept there =
    report-stays machine.records fields.arch (lines_said fields.text) key there
state-stays machine (of.BuildPriority fields) key kept there =
    priority-stays machine (fields.arch, fields.source) key fields.value
    (map.get machine.records (fields.arch, fields.source)) there
state-stays machine command key kept there = move-stays machine (transition_of machine command) key there

pub step-stays : (machine : Machine) (command : Command) (key : Key)
    → (MayTakeAway (arguments_of command).imports (arguments_of command).removes key → ⊥)
    → HasRecord machine.records key → HasRecord (step machine command).1.records key
step-stays machine command key kept there =
    step-either (λ after. HasRecord after.records key) machine command there
    (λ pass _. state-stays machine command key kept there)
