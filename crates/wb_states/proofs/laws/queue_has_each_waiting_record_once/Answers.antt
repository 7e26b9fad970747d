use Rattle.wb_states.proofs.QueueLemmas.{IsIn-queue_of, sorted-queue_of}
use Rattle.wb_states.proofs.laws.queue_has_each_waiting_record_once.Goals as goal

pub returns-clause-members : goal.returns-clause-members
returns-clause-members c = IsIn-queue_of

pub returns-clause-ascending : goal.returns-clause-ascending
returns-clause-ascending c = sorted-queue_of
