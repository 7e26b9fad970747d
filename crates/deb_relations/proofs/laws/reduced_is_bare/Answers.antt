use Rattle.deb_relations.proofs.ReducedLemmas.{reduced-bare, reduced-again}
use Rattle.deb_relations.proofs.laws.reduced_is_bare.Goals as goal

pub returns-clause-bare : goal.returns-clause-bare
returns-clause-bare c = reduced-bare

pub returns-clause-again : goal.returns-clause-again
returns-clause-again c = reduced-again
