use Rattle.wb_api.proofs.RunLemmas.{run-replayed}
use Rattle.wb_api.proofs.laws.runs_leave_what_was_accepted.Goals as goal

pub returns : goal.returns
returns g c = record { replay = λ access lists. run-replayed access (g.L.Lists.may_read lists) }
