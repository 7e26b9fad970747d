use Rattle.wb_merge.proofs.ChangeLemmas.{changes-get, unchanged}
use Rattle.wb_merge.proofs.laws.changes_are_pointwise.Goals as goal

pub returns-clause-at : goal.returns-clause-at
returns-clause-at c = changes-get

pub returns-clause-unchanged : goal.returns-clause-unchanged
returns-clause-unchanged c = unchanged
