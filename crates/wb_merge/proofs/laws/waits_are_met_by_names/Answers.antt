use Rattle.wb_merge.proofs.FoundLemmas.{waits-by-names}
use Rattle.wb_merge.proofs.laws.waits_are_met_by_names.Goals as goal

pub returns : goal.returns
returns c = record { same = waits-by-names }
