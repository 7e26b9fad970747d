use Rattle.deb_control.proofs.BadLineLemmas.{reading_of-Read, reading_of-Memory, reading_of-Ended}
use Rattle.deb_control.proofs.laws.faults_are_of_text.Goals as goal

pub returns-clause-read : goal.returns-clause-read
returns-clause-read c = reading_of-Read

pub returns-clause-memory : goal.returns-clause-memory
returns-clause-memory c = reading_of-Memory

pub returns-clause-ended : goal.returns-clause-ended
returns-clause-ended c = reading_of-Ended
