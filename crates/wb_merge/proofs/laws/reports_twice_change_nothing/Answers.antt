use Rattle.wb_merge.proofs.ReportMoveLemmas.{twice}
use Rattle.wb_merge.proofs.laws.reports_twice_change_nothing.Goals as goal

pub returns : goal.returns
returns c = record { twice = twice }
