use Rattle.deb_relations.proofs.PairLemmas.{pairs-none, pairs-one, pairs-stay}
use Rattle.deb_relations.proofs.laws.pairs_are_a_set.Goals as goal

pub returns-clause-none : goal.returns-clause-none
returns-clause-none c = pairs-none

pub returns-clause-one : goal.returns-clause-one
returns-clause-one c = λ pairs name other version wanted. pairs-one pairs name version other wanted

pub returns-clause-stays : goal.returns-clause-stays
returns-clause-stays c = pairs-stay
