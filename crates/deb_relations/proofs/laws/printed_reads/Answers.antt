use Rattle.deb_relations.specs.Reduction.{reduced}
use Rattle.deb_relations.proofs.ReadingLemmas.{one-reading}
use Rattle.deb_relations.proofs.ReadBackLemmas.{reads-good, reduced-good, printed-reads}
use Rattle.deb_relations.proofs.laws.printed_reads.Goals as goal

pub returns-clause-same : goal.returns-clause-same
returns-clause-same c = λ text groups r l. printed-reads groups (reads-good text groups r) l

pub returns-clause-reduced : goal.returns-clause-reduced
returns-clause-reduced c = λ text groups arch r l. printed-reads (reduced arch groups) (reduced-good arch groups (reads-good text groups r)) l

pub returns-clause-one : goal.returns-clause-one
returns-clause-one c = one-reading
