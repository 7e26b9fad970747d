use Rattle.deb_relations.specs.declared.fault.RelationFault.TheVariants.{BadVersion, Memory}
use Rattle.deb_relations.proofs.ReadingLemmas.{reading-reads, reads-reading, reading-long, reading-is_long, reading-tells}
use Rattle.deb_relations.proofs.laws.readings_are_of_grammar.Goals as goal

pub returns-clause-reads : goal.returns-clause-reads
returns-clause-reads c = reading-reads

pub returns-clause-only : goal.returns-clause-only
returns-clause-only c = reads-reading

pub returns-clause-long : goal.returns-clause-long
returns-clause-long c = λ text. (reading-is_long text, reading-long text)

pub returns-clause-memory : goal.returns-clause-memory
returns-clause-memory c = λ text h. reading-tells text Memory h (λ e. cc)

pub returns-clause-version : goal.returns-clause-version
returns-clause-version c = λ text fault h. reading-tells text (BadVersion fault) h (λ e. cc)
