use Rattle.wb_api.proofs.OwnLemmas.{step-own}
use Rattle.wb_api.proofs.OwnRunLemmas.{each-own, run-held}
use Rattle.wb_api.proofs.laws.builders_change_what_they_hold.Goals as goal

pub returns : goal.returns
returns g c = record {
  step = step-own;
  each = λ access lists. each-own access (g.L.Lists.may_read lists);
  run = λ access lists. run-held access (g.L.Lists.may_read lists);
}
