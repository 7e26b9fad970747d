use Rattle.wb_states.proofs.QueueLemmas.{head_of-waits, head_of-first, head_of-none}
use Rattle.wb_states.proofs.laws.the_head_is_built_first.Goals as goal

pub returns-clause-waits : goal.returns-clause-waits
returns-clause-waits c = head_of-waits

pub returns-clause-first : goal.returns-clause-first
returns-clause-first c = head_of-first

pub returns-clause-none : goal.returns-clause-none
returns-clause-none c machine arch entry = head_of-none machine arch entry
