use Rattle.wb_states.proofs.ShareLemmas.{shared_by_builder}
use Rattle.wb_states.proofs.laws.builders_share_out_the_held_records.Goals as goal

pub returns : goal.returns
returns c machine builders sound distinct all = shared_by_builder machine sound builders all distinct
