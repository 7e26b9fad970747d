-- A report, which changes so many records as its lines name: which these are, and what is noted of them.
use Rattle.std.specs.Prelude.{◌≡◌, ℕ, List, Option, None, Some, option_and_then}
use Rattle.std.specs.FinMap as map
use Rattle.std.specs.Option.{option_map}
use Rattle.wb_states.specs.declared.command.Command.TheVariants as of
use Rattle.wb_states.specs.declared.command.Report.{Report}
use Rattle.wb_states.specs.declared.counts.Counts.{Counts}
use Rattle.wb_states.specs.declared.record.Record.{Record}
use Rattle.wb_states.specs.Machine.{Machine}
use Rattle.wb_states.specs.Queue.{Entry}
use Rattle.wb_merge.specs.Changes.{NamedChanges, NotesChange, record_change}
use Rattle.wb_merge.specs.Report.{Lines}
use Rattle.wb_merge.specs.Reported.{changed_by_line}
use Rattle.wb_step.specs.Checks.{first_refusal}
use Rattle.wb_store.specs.Opening.{AreCountsOf}

-- the record of a source package after the lines of a report, with its key, if it was found and a field of it differs
abbrev pub row_from : List ℕ → Lines → List ℕ → Option Record → Option Entry
row_from arch lines source found = option_map (λ new. ((arch, source), new)) (option_and_then (changed_by_line (map.get lines source)) found)

-- what is noted after a record was found of a source package: nothing more, or that it changes to this one
abbrev pub NotesRow : Option NamedChanges → Option NamedChanges → List ℕ → Option Record → Option Record → Type 0
NotesRow old new source found None = new ≡ old
NotesRow old new source found (Some changed) = NotesChange old new source (record_change found (Some changed))

-- an office has these counts, and accepts this report
abbrev pub IsAccepted : Counts → Report → Machine → Type 0
IsAccepted counts report machine = AreCountsOf machine counts × (first_refusal machine (of.Report report) ≡ None)
