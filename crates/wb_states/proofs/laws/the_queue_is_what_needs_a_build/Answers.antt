use Rattle.wb_states.proofs.ShareLemmas.{queue_of-rows_in}
use Rattle.wb_states.proofs.laws.the_queue_is_what_needs_a_build.Goals as goal

pub returns : goal.returns
returns c = queue_of-rows_in
