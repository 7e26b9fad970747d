use Rattle.wb_sql.specs.Tables.{scratch_binary}
use Rattle.wb_sql.proofs.RecognitionLemmas.{found_of}
use Rattle.wb_sql.proofs.first_schema.has_bare_binaries.Goals as goal

pub returns-in_default : goal.returns-in_default
returns-in_default c = record { value = (λ no. absurd (cc), λ h. absurd (c.in_default.ensures.value _ (found_of c.args.schema.now scratch_binary h.has))) }
