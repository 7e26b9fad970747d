use Rattle.std.proofs.Common.{sym}
use Rattle.wb_office.proofs.ReportLemmas.{unnamed_from}
use Rattle.wb_office.proofs.reporting.row_found.Goals as goal

pub returns-in_default-clause-value : goal.returns-in_default-clause-value
returns-in_default-clause-value c = unnamed_from c.args.arch.now c.args.lines.now c.args.source.now c.args.found (sym c.in_default.ensures.value)
