use Rattle.std.proofs.Common.{subst}
use Rattle.deb_control.specs.declared.source.Shown.{Shown}
use Rattle.deb_control.specs.Pieces.{AddsPiece}
use Rattle.deb_control.proofs.SourceLemmas.{piece-ended}
use Rattle.deb_control.proofs.source.BoundedReader.append_line.Goals as goal

pub returns-in-Line-clause-value : goal.returns-in-Line-clause-value
returns-in-Line-clause-value g c =
    piece-ended _ _ _ _ _ _ c.loop-self.invariant.taken
    (subst (λ (s : Shown). AddsPiece s c.loop-self.text.items c.append_piece.new.text.items c.loop-self.self c.append_piece.new.self) c.in-Line.is c.in_ok-append_piece.ensures.value)
