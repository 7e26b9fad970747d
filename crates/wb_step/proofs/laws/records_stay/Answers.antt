use Rattle.wb_step.proofs.StayLemmas.{step-stays}
use Rattle.wb_step.proofs.laws.records_stay.Goals as goal

pub returns : goal.returns
returns c = record { stays = step-stays }
