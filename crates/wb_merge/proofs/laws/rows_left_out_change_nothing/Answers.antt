use Rattle.wb_merge.proofs.ScratchLemmas.{built_in-filter, listed_in-filter, versions_in-filter}
use Rattle.wb_merge.proofs.laws.rows_left_out_change_nothing.Goals as goal

pub returns-clause-listed : goal.returns-clause-listed
returns-clause-listed c = listed_in-filter

pub returns-clause-built : goal.returns-clause-built
returns-clause-built c = built_in-filter

pub returns-clause-versions : goal.returns-clause-versions
returns-clause-versions c = versions_in-filter
