use Rattle.wb_merge.proofs.ReportFormLemmas.{report-form}
use Rattle.wb_merge.proofs.laws.reports_have_well_formed_lines.Goals as goal

pub returns : goal.returns
returns c = record { form = report-form }
