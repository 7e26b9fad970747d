use Rattle.std.proofs.Common.{◌≡◌, length}
use Rattle.wb_streams.specs.Fields.{without_zeros}
use Rattle.wb_streams.proofs.fields.without_zeros.Given as goal

abbrev pub invariant-loop-rest : goal.invariant-loop-rest
invariant-loop-rest l = without_zeros l.rest ≡ without_zeros l.digits

abbrev pub decreases-loop-rest : goal.decreases-loop-rest
decreases-loop-rest l = length l.rest
