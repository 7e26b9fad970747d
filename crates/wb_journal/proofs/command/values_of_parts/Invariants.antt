-- The objects so far are those of the parts so far.
use Rattle.std.proofs.Common.{◌≡◌, map, take}
use Rattle.serde_json.specs.View.{view}
use Rattle.wb_journal.specs.Commands.{value_of_part}
use Rattle.wb_journal.proofs.command.values_of_parts.Given as goal

abbrev pub invariant-loop-part : goal.invariant-loop-part
invariant-loop-part l = map view l.values.items ≡ map value_of_part (take l.part-index l.parts)
