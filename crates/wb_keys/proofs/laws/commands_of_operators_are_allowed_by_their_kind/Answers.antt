use Rattle.wb_keys.proofs.RightLemmas.{of-operator}
use Rattle.wb_keys.proofs.laws.commands_of_operators_are_allowed_by_their_kind.Goals as goal

pub returns : goal.returns
returns c = of-operator
