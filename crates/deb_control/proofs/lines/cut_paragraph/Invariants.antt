use Rattle.std.proofs.Common.{length}
use Rattle.deb_control.proofs.RunLemmas.{Passed}
use Rattle.deb_control.proofs.lines.cut_paragraph.Given as goal

abbrev pub invariant-loop-rest : goal.invariant-loop-rest
invariant-loop-rest l = Passed l.bytes l.left

abbrev pub decreases-loop-rest : goal.decreases-loop-rest
decreases-loop-rest l = length l.left
