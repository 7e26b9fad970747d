use Rattle.wb_step.proofs.ApartPartLemmas.{step-part}
use Rattle.wb_step.proofs.laws.parts_are_merged_apart.Goals as goal

pub returns : goal.returns
returns c = record { part = step-part }
