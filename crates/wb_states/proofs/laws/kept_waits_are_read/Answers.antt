use Rattle.wb_states.proofs.WaitLemmas.{waits-read}
use Rattle.wb_states.proofs.laws.kept_waits_are_read.Goals as goal

pub returns : goal.returns
returns c = waits-read
