use Rattle.std.proofs.Common.{◌≡◌, vec_len}
use Rattle.wb_office.specs.Sought.{with_pairs}
use Rattle.wb_office.proofs.named.part.add_pairs.Given as goal

abbrev pub invariant-loop-builder : goal.invariant-loop-builder
invariant-loop-builder l = with_pairs l.store l.left.items ≡ with_pairs l.fn.store l.fn.pairs.items

abbrev pub decreases-loop-builder : goal.decreases-loop-builder
decreases-loop-builder l = vec_len l.left
