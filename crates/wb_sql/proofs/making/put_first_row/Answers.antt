use Rattle.wb_sql.proofs.FirstRowLemmas.{first_row_makes}
use Rattle.wb_sql.proofs.making.put_first_row.Goals as goal

pub returns : goal.returns
returns g c = record {
  makes = λ base lacks numbered. first_row_makes lacks numbered c.replace.ensures.runs c.replace.ensures.ok;
}
