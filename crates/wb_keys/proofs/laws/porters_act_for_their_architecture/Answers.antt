use Rattle.wb_keys.proofs.RightLemmas.{of-porter}
use Rattle.wb_keys.proofs.laws.porters_act_for_their_architecture.Goals as goal

pub returns : goal.returns
returns c = of-porter
