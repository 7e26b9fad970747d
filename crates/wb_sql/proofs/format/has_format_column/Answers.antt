use Rattle.wb_sql.proofs.FormatLemmas.{found_has}
use Rattle.wb_sql.proofs.format.has_format_column.Goals as goal

pub returns-in-None : goal.returns-in-None
returns-in-None c = record { value = (λ no. absurd (cc), λ has. absurd (c.in-None.ensures.value _ (found_has c.args.schema.now has.table _ has.has has.spelled))) }
