use Rattle.wb_states.proofs.PairLemmas.{IsIn-builder_pairs}
use Rattle.wb_states.proofs.laws.builders_are_listed.Goals as goal

pub returns : goal.returns
returns c = IsIn-builder_pairs
