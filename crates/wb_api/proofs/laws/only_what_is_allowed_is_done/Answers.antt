-- What is not allowed leaves the office as it was.
use Rattle.wb_api.proofs.RightLemmas.{everybody-allowed, exchange-allowed}
use Rattle.wb_api.proofs.laws.only_what_is_allowed_is_done.Goals as goal

pub returns : goal.returns
returns g c = record {
  done = λ access lists. exchange-allowed access (g.L.Lists.may_read lists);
  refused = λ access lists fault before after standing old new ended did. (did.0, did.1);
  everybody = everybody-allowed;
}
