use Rattle.deb_relations.proofs.StrayLemmas.{strays-stand}
use Rattle.deb_relations.proofs.laws.strays_stand_in_the_text.Goals as goal

pub returns : goal.returns
returns c = strays-stand
