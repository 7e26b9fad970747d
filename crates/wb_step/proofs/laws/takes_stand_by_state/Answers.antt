use Rattle.wb_step.proofs.TakeStateLemmas.{consistent-takes, empty-takes, step-takes}
use Rattle.wb_step.proofs.laws.takes_stand_by_state.Goals as goal

pub returns-clause-empty : goal.returns-clause-empty
returns-clause-empty c = empty-takes

pub returns-clause-step : goal.returns-clause-step
returns-clause-step c = step-takes

pub returns-clause-consistent : goal.returns-clause-consistent
returns-clause-consistent c = consistent-takes
