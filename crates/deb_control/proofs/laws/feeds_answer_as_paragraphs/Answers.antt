use Rattle.deb_control.proofs.FeedCallLemmas.{answers-of-feed}
use Rattle.deb_control.proofs.laws.feeds_answer_as_paragraphs.Goals as goal

pub returns : goal.returns
returns c = answers-of-feed
