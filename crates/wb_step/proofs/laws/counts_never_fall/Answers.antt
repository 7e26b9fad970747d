use Rattle.wb_step.proofs.CountedLemmas.{step-accepted, step-unchanged}
use Rattle.wb_step.proofs.HandOutLemmas.{step-handed}
use Rattle.wb_step.proofs.laws.counts_never_fall.Goals as goal

pub returns-clause-handed : goal.returns-clause-handed
returns-clause-handed c = step-handed

pub returns-clause-accepted : goal.returns-clause-accepted
returns-clause-accepted c = step-accepted

pub returns-clause-unchanged : goal.returns-clause-unchanged
returns-clause-unchanged c = step-unchanged
