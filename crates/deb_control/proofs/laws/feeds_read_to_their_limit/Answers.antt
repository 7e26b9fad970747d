use Rattle.deb_control.proofs.FeedCallLemmas.{read-needs}
use Rattle.deb_control.proofs.laws.feeds_read_to_their_limit.Goals as goal

pub returns : goal.returns
returns c = read-needs
