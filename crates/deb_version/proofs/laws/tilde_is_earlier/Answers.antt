use Rattle.deb_version.proofs.LawLemmas.{tilde_earlier}
use Rattle.deb_version.proofs.laws.tilde_is_earlier.Goals as goal

pub returns : goal.returns
returns c = tilde_earlier
