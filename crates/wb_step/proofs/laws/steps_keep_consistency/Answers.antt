use Rattle.wb_states.proofs.ConsistencyLemmas.{IsConsistent-empty_office}
use Rattle.wb_step.proofs.InvariantLemmas.{step-keeps, replay-keeps}
use Rattle.wb_step.proofs.laws.steps_keep_consistency.Goals as goal

pub returns-clause-empty : goal.returns-clause-empty
returns-clause-empty c = IsConsistent-empty_office

pub returns-clause-step : goal.returns-clause-step
returns-clause-step c = step-keeps

pub returns-clause-replay : goal.returns-clause-replay
returns-clause-replay c = replay-keeps
