use Rattle.std.proofs.Common.{◌≡◌, ◌++◌, filter, map}
use Rattle.std.specs.FinMap as finite
use Rattle.wb_states.specs.Holds.{is_held_by}
use Rattle.std.specs.Map.Iter.{deref_pair}
use Rattle.wb_step.proofs.office_part.OfficePart.held_by.Given as goal

abbrev pub invariant-loop-key : goal.invariant-loop-key
invariant-loop-key l =
    map deref_pair l.held.items ++ filter (is_held_by l.builder) l.key-iterator
    ≡ filter (is_held_by l.builder) (finite.entries l.self.records)
