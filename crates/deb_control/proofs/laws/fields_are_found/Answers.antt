use Rattle.deb_control.proofs.FoundLemmas.{found-named}
use Rattle.deb_control.proofs.laws.fields_are_found.Goals as goal

pub returns : goal.returns
returns c = found-named
