use Rattle.wb_merge.proofs.MergeLemmas.{merged-get, merged-others, merged-unlisted}
use Rattle.wb_merge.proofs.laws.merge_is_pointwise.Goals as goal

pub returns-clause-at : goal.returns-clause-at
returns-clause-at c = merged-get

pub returns-clause-others : goal.returns-clause-others
returns-clause-others c = merged-others

pub returns-clause-unlisted : goal.returns-clause-unlisted
returns-clause-unlisted c = merged-unlisted
