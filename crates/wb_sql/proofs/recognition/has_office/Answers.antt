use Rattle.wb_sql.specs.Tables.{office}
use Rattle.wb_sql.proofs.RecognitionLemmas.{found_of}
use Rattle.wb_sql.proofs.recognition.has_office.Goals as goal

pub returns-in_default : goal.returns-in_default
returns-in_default c = record { value = (λ no. absurd (cc), λ h. absurd (c.in_default.ensures.value _ (found_of c.args.schema.now office h.has))) }
