use Rattle.wb_merge.proofs.TotalLemmas.{counts-before, counts-after}
use Rattle.wb_merge.proofs.laws.merge_counts_add_up.Goals as goal

pub returns-clause-before : goal.returns-clause-before
returns-clause-before c = counts-before

pub returns-clause-behind : goal.returns-clause-behind
returns-clause-behind c = counts-after
