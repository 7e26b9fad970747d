use Rattle.wb_merge.proofs.ReportMoveLemmas.{kept-well}
use Rattle.wb_merge.proofs.laws.reports_keep_records_well_formed.Goals as goal

pub returns : goal.returns
returns c = record { kept = kept-well }
