use Rattle.std.proofs.Common.{◌≡◌, filter}
use Rattle.std.specs.FinMap as finite
use Rattle.deb_text.specs.Lists.{first_of}
use Rattle.wb_states.specs.Holds.{is_taken_as}
use Rattle.wb_step.proofs.office_part.OfficePart.by_take.Given as goal

abbrev pub invariant-loop-key : goal.invariant-loop-key
invariant-loop-key l =
    first_of (filter (is_taken_as l.take_number) l.key-iterator)
    ≡ first_of (filter (is_taken_as l.take_number) (finite.entries l.self.records))
