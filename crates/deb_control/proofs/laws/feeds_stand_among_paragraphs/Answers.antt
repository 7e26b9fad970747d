use Rattle.deb_control.proofs.StandLemmas.{stands-counted, stands-somewhere, stood-before}
use Rattle.deb_control.proofs.laws.feeds_stand_among_paragraphs.Goals as goal

pub returns : goal.returns
returns c = record {
  stands = stands-somewhere;
  counts = stands-counted;
  before = λ answer old new after gives here. stood-before answer old new gives after here;
}
