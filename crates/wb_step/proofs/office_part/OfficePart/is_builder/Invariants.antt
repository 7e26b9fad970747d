use Rattle.std.proofs.Common.{◌≡◌, filter, map}
use Rattle.std.specs.FinSet as set
use Rattle.wb_states.specs.Machine.{archs_of}
use Rattle.wb_step.proofs.office_part.OfficePart.is_builder.Given as goal

abbrev pub invariant-loop-arch : goal.invariant-loop-arch
invariant-loop-arch l =
    filter (λ arch. set.contains l.self.builders (l.name, arch)) (map (λ e. e.0) l.arch-iterator)
    ≡ archs_of l.self l.name
