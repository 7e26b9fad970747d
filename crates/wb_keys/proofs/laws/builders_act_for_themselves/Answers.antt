use Rattle.wb_keys.proofs.RightLemmas.{of-builder}
use Rattle.wb_keys.proofs.laws.builders_act_for_themselves.Goals as goal

pub returns : goal.returns
returns c = of-builder
