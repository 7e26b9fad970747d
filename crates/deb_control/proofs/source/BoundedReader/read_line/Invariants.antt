-- Blanks at the start of the line may have been left out, and the text is as it was.
use Rattle.std.proofs.Common.{◌≡◌}
use Rattle.deb_control.proofs.LineReadLemmas.{Dropped}
use Rattle.deb_control.proofs.source.BoundedReader.read_line.Given as goal

abbrev pub invariant-loop-text : goal.invariant-loop-text
invariant-loop-text g l = record {
  dropped : Dropped l.initial.text.items l.text.items l.start l.over l.initial.self l.self;
  failed : l.self.failed ≡ l.initial.self.failed;
}

abbrev pub decreases-loop-text : goal.decreases-loop-text
decreases-loop-text g l = l.self.room
