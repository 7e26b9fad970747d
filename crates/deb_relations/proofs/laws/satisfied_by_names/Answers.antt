use Rattle.deb_relations.proofs.NamedLemmas.{satisfied-same}
use Rattle.deb_relations.proofs.laws.satisfied_by_names.Goals as goal

pub returns : goal.returns
returns c = record { same = satisfied-same }
