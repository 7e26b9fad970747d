use Rattle.wb_keys.proofs.RightLemmas.{decided, needed-machine, needed-number, needed-operate}
use Rattle.wb_keys.proofs.laws.holders_count_where_they_are_needed.Goals as goal

pub returns-clause-decided : goal.returns-clause-decided
returns-clause-decided c = decided

pub returns-clause-operate : goal.returns-clause-operate
returns-clause-operate c = needed-operate

pub returns-clause-number : goal.returns-clause-number
returns-clause-number c = needed-number

pub returns-clause-machine : goal.returns-clause-machine
returns-clause-machine c = needed-machine
