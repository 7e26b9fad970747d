use Rattle.wb_merge.proofs.ReportReadLemmas.{report-has}
use Rattle.wb_merge.proofs.laws.reports_have_their_lines.Goals as goal

pub returns : goal.returns
returns c = record { found = report-has }
