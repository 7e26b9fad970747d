use Rattle.deb_control.proofs.StandLemmas.{answers-of-given, answers-of-whole}
use Rattle.deb_control.proofs.laws.feeds_answer_for_what_was_given.Goals as goal

pub returns : goal.returns
returns c = record { given = answers-of-given; whole = λ bytes answers last have at_end. answers-of-whole bytes answers last have at_end }
