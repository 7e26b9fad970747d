use Rattle.wb_step.proofs.EndedLemmas.{ended, ended-refused, ended-Built}
use Rattle.wb_step.proofs.laws.ended_takes_stay_ended.Goals as goal

pub returns-clause-ended : goal.returns-clause-ended
returns-clause-ended c = ended

pub returns-clause-refused : goal.returns-clause-refused
returns-clause-refused c = ended-refused

pub returns-clause-not_held : goal.returns-clause-not_held
returns-clause-not_held c = ended-Built
