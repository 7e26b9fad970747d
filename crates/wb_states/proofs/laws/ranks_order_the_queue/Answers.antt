use Rattle.wb_states.proofs.RankLemmas.{rank-order, rank-limit}
use Rattle.wb_states.proofs.laws.ranks_order_the_queue.Goals as goal

pub returns-clause-order : goal.returns-clause-order
returns-clause-order c = rank-order

pub returns-clause-limit : goal.returns-clause-limit
returns-clause-limit c = rank-limit
