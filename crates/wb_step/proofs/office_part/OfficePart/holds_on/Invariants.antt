use Rattle.std.proofs.Common.{◌≡◌}
use Rattle.std.specs.FinMap as finite
use Rattle.std.specs.List.{list_any}
use Rattle.wb_step.specs.Checks.{is_held_on}
use Rattle.wb_step.proofs.office_part.OfficePart.holds_on.Given as goal

abbrev pub invariant-loop-key : goal.invariant-loop-key
invariant-loop-key l =
    list_any (is_held_on l.arch l.builder) l.key-iterator ≡ list_any (is_held_on l.arch l.builder)
    (finite.entries l.self.records)
