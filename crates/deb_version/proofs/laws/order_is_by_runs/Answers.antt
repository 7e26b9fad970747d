use Rattle.deb_version.proofs.LawLemmas.{key_of-runs}
use Rattle.deb_version.proofs.laws.order_is_by_runs.Goals as goal

pub returns : goal.returns
returns c = key_of-runs
