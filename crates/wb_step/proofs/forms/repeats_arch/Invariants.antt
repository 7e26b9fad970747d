use Rattle.std.proofs.Common.{◌≡◌, drop}
use Rattle.wb_step.specs.Checks.{has_repeated_arch}
use Rattle.wb_step.proofs.forms.repeats_arch.Given as goal

abbrev pub invariant-loop-place : goal.invariant-loop-place
invariant-loop-place l = has_repeated_arch (drop l.place l.parts) ≡ has_repeated_arch l.parts
