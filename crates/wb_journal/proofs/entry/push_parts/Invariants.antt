-- What is appended, with what is still to be appended, is what was there and all parts after the first.
use Rattle.std.proofs.Common.{◌≡◌, ◌++◌, drop}
use Rattle.std.specs.Prelude.{codes}
use Rattle.std.specs.String.{string_bytes}
use Rattle.std.specs.List.{flat_map}
use Rattle.wb_states.specs.declared.command.Part.{Part}
use Rattle.wb_journal.specs.Changes.{part_text}
use Rattle.wb_journal.proofs.entry.push_parts.Given as goal

abbrev pub invariant-loop-part : goal.invariant-loop-part
invariant-loop-part l =
    string_bytes l.out
    ++ flat_map (λ (other : Part). codes "," ++ part_text l.changes other.arch) (drop l.part-index l.others)
    ≡ string_bytes l.initial.out
    ++ flat_map (λ (other : Part). codes "," ++ part_text l.changes other.arch) l.others
