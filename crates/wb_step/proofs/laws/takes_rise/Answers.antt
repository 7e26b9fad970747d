use Rattle.wb_step.proofs.HandOutLemmas.{rise, ends}
use Rattle.wb_step.proofs.laws.takes_rise.Goals as goal

pub returns-clause-rise : goal.returns-clause-rise
returns-clause-rise c = rise

pub returns-clause-ends : goal.returns-clause-ends
returns-clause-ends c = ends
