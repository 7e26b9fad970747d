use Rattle.wb_states.proofs.ShareLemmas.{IsIn-rows_in, shared_by_state, total_of-counts_of}
use Rattle.wb_states.proofs.laws.states_share_out_the_records.Goals as goal

pub returns-clause-members : goal.returns-clause-members
returns-clause-members c = IsIn-rows_in

pub returns-clause-once : goal.returns-clause-once
returns-clause-once c = shared_by_state

pub returns-clause-total : goal.returns-clause-total
returns-clause-total c = total_of-counts_of
