use Rattle.std.proofs.Common.{◌≡◌, map}
use Rattle.std.specs.List.{find}
use Rattle.std.specs.Map.Iter.{deref_pair}
use Rattle.wb_states.specs.Holds.{is_building_after}
use Rattle.wb_step.proofs.again.first_later.Given as goal

abbrev pub invariant-loop-key : goal.invariant-loop-key
invariant-loop-key l =
    find (is_building_after l.arch l.after) (map deref_pair l.key-iterator.rest.items)
    ≡ find (is_building_after l.arch l.after) (map deref_pair l.fn.rows.items)
