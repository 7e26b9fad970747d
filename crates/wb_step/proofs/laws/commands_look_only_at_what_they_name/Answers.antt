use Rattle.wb_step.proofs.LocalityLemmas.{same_answer, same_entry, steps_change}
use Rattle.wb_step.proofs.laws.commands_look_only_at_what_they_name.Goals as goal

pub returns-clause-answer : goal.returns-clause-answer
returns-clause-answer c = same_answer

pub returns-clause-entry : goal.returns-clause-entry
returns-clause-entry c = same_entry

pub returns-clause-change : goal.returns-clause-change
returns-clause-change c = steps_change
