use Rattle.deb_version.proofs.NumberLemmas.{value_of-zero}
use Rattle.deb_version.proofs.laws.zeros_say_nothing.Goals as goal

pub returns : goal.returns
returns c = value_of-zero
