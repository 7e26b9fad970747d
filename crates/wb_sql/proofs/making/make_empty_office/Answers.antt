use Rattle.wb_sql.proofs.MakingLemmas.{fails, makes_then}
use Rattle.wb_sql.proofs.FirstRowLemmas.{office_follows}
use Rattle.wb_sql.proofs.making.make_empty_office.Goals as goal

pub returns-in_err-make_tables : goal.returns-in_err-make_tables
returns-in_err-make_tables g c = record {
  makes = λ base lacks numbered. fails c.from_residual.ensures (c.in_err-make_tables.ensures.makes base lacks numbered);
}

pub returns : goal.returns
returns g c = record {
  makes = λ base lacks numbered. makes_then (office_follows base) (c.in_ok-make_tables.ensures.makes base lacks numbered) (c.put_first_row.ensures.makes base lacks numbered);
}
