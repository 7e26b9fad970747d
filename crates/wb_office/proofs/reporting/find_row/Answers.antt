use Rattle.std.proofs.Common.{Ok, Err}
use Rattle.wb_store.proofs.ReadLemmas.{handed_on}
use Rattle.wb_store.proofs.FindsLemmas.{fails_to_find, finds_looked_up, made_after}
use Rattle.wb_office.proofs.ReportLemmas.{row_is_noted}
use Rattle.wb_office.proofs.reporting.find_row.Goals as goal

pub returns-in_err-found : goal.returns-in_err-found
returns-in_err-found g c = record { finds = fails_to_find (finds_looked_up (Err _) c.in_err-found.ensures.looks_up) (handed_on c.from_residual.result c.from_residual.ensures.1) }

pub returns : goal.returns
returns g c = record {
  finds = made_after (finds_looked_up (Ok _) c.in_ok-found.ensures.looks_up) c.row_found.result
      (row_is_noted c.args.arch.now c.args.lines.now c.args.source.now c.in_ok-found.found c.row_found.result c.args.changes.now c.row_found.new.changes
      c.row_found.ensures.value c.row_found.ensures.noted) c.row_found.ensures.fault;
}
