-- What was appended so far is a piece of a line, which the reader lost; no read failed.
use Rattle.std.proofs.Common.{◌≡◌, ◌≤◌, ◌-◌, length}
use Rattle.deb_control.proofs.SourceLemmas.{Piece}
use Rattle.deb_control.proofs.source.BoundedReader.append_line.Given as goal

abbrev pub invariant-loop-self : goal.invariant-loop-self
invariant-loop-self g l = record {
  taken : Piece l.initial.text.items l.text.items l.initial.self l.self;
  within : length l.text.items ≤ 4194305;
  failed : l.self.failed ≡ l.initial.self.failed;
}

abbrev pub decreases-loop-self : goal.decreases-loop-self
decreases-loop-self g l = 4194306 - length l.text.items
