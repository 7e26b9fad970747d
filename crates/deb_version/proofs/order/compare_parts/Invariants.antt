use Rattle.std.proofs.Common.{◌≡◌, ◌+◌, length}
use Rattle.deb_version.specs.Order.{key_in_run, key_cmp, part_cmp}
use Rattle.deb_version.proofs.order.compare_parts.Given as goal

abbrev pub invariant-loop-a : goal.invariant-loop-a
invariant-loop-a l = key_cmp (key_in_run l.a) (key_in_run l.b) ≡ part_cmp l.left l.right

abbrev pub decreases-loop-a : goal.decreases-loop-a
decreases-loop-a l = length l.a + length l.b
