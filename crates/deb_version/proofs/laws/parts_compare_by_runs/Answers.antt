use Rattle.deb_version.proofs.PartOrderLemmas.{parts-by_runs, zeros-keep}
use Rattle.deb_version.proofs.laws.parts_compare_by_runs.Goals as goal

pub returns-clause-runs : goal.returns-clause-runs
returns-clause-runs c = parts-by_runs

pub returns-clause-zeros : goal.returns-clause-zeros
returns-clause-zeros c = zeros-keep
