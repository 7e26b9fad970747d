use Rattle.std.proofs.Common.{◌≡◌, ◌≤◌, length}
use Rattle.deb_control.specs.Lines.{lines_of, paragraphs_in}
use Rattle.deb_control.proofs.lines.without_separators.Given as goal

abbrev pub invariant-loop-rest : goal.invariant-loop-rest
invariant-loop-rest l = record {
  same : paragraphs_in (lines_of l.left) ≡ paragraphs_in (lines_of l.bytes);
  shorter : length l.left ≤ length l.bytes;
}

abbrev pub decreases-loop-rest : goal.decreases-loop-rest
decreases-loop-rest l = length l.left
