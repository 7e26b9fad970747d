use Rattle.deb_control.proofs.GrammarLemmas.{IsReading-from_reading_of, reading_of-IsReading}
use Rattle.deb_control.proofs.laws.paragraph_is_fields.Goals as goal

pub returns-clause-is : goal.returns-clause-is
returns-clause-is c = IsReading-from_reading_of

pub returns-clause-only : goal.returns-clause-only
returns-clause-only c = reading_of-IsReading
