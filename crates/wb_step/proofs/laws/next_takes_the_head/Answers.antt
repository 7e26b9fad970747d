use Rattle.wb_step.proofs.HeadLemmas.{next-head-rest}
use Rattle.wb_step.proofs.laws.next_takes_the_head.Goals as goal

pub returns : goal.returns
returns c = record { queue = next-head-rest }
