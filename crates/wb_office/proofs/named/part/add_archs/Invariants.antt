use Rattle.std.proofs.Common.{◌≡◌, vec_len}
use Rattle.wb_office.specs.Sought.{with_archs}
use Rattle.wb_office.proofs.named.part.add_archs.Given as goal

abbrev pub invariant-loop-name : goal.invariant-loop-name
invariant-loop-name l = with_archs l.store l.left.items ≡ with_archs l.fn.store l.fn.archs.items

abbrev pub decreases-loop-name : goal.decreases-loop-name
decreases-loop-name l = vec_len l.left
