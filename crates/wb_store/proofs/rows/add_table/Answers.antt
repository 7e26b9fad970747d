use Rattle.wb_store.proofs.ReadLemmas.{handed_on}
use Rattle.wb_store.proofs.ShowLemmas.{shows_none, shows_table}
use Rattle.wb_store.proofs.rows.add_table.Goals as goal

pub returns-in_err-found : goal.returns-in_err-found
returns-in_err-found g c = record { shows = λ current. shows_none c.args.table current c.rows_query.ensures.text c.in_err-found.ensures.reads (handed_on c.from_residual.result c.from_residual.ensures.1) }

pub returns : goal.returns
returns g c = record { shows = λ current. shows_table c.args.table current c.rows_query.ensures.text c.add_rows.result c.in_ok-found.ensures.reads c.add_rows.ensures.value c.add_rows.ensures.err }
