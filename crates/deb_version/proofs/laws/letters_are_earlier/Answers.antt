use Rattle.deb_version.proofs.PartOrderLemmas.{letters-earlier}
use Rattle.deb_version.proofs.laws.letters_are_earlier.Goals as goal

pub returns : goal.returns
returns c = letters-earlier
