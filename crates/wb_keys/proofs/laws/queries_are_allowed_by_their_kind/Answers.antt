use Rattle.wb_keys.proofs.RightLemmas.{queries}
use Rattle.wb_keys.proofs.laws.queries_are_allowed_by_their_kind.Goals as goal

pub returns : goal.returns
returns c = queries
