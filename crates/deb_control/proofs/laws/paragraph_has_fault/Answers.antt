use Rattle.deb_control.proofs.BadLineLemmas.{IsFault-from_reading_of, reading_of-IsFault}
use Rattle.deb_control.proofs.laws.paragraph_has_fault.Goals as goal

pub returns-clause-is : goal.returns-clause-is
returns-clause-is c = IsFault-from_reading_of

pub returns-clause-only : goal.returns-clause-only
returns-clause-only c = reading_of-IsFault
