-- What was read so far is separators and lines of a paragraph; no read failed.
use Rattle.deb_control.proofs.ParagraphReadLemmas.{SoFar}
use Rattle.deb_control.proofs.source.BoundedReader.read_paragraph.Given as goal

abbrev pub invariant-loop-text : goal.invariant-loop-text
invariant-loop-text g l = SoFar l.text.items l.initial.self l.self

abbrev pub decreases-loop-text : goal.decreases-loop-text
decreases-loop-text g l = l.self.room
