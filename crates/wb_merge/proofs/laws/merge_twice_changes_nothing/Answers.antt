use Rattle.wb_merge.proofs.TotalLemmas.{counts-twice}
use Rattle.wb_merge.proofs.TwiceLemmas.{merged-twice}
use Rattle.wb_merge.proofs.laws.merge_twice_changes_nothing.Goals as goal

pub returns-clause-unchanged : goal.returns-clause-unchanged
returns-clause-unchanged c = merged-twice

pub returns-clause-counts : goal.returns-clause-counts
returns-clause-counts c = counts-twice
