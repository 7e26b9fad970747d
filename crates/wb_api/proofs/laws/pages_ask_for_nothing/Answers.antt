use Rattle.std.proofs.Common.{refl}
use Rattle.httparse.proofs.OnLiterals.{httparse_on_literals}
use Rattle.serde_json.proofs.OnLiterals.{serde_json_on_literals}
use Rattle.wb_api.proofs.LiteralLemmas.{http_on_literals}
use Rattle.wb_api.proofs.laws.pages_ask_for_nothing.Goals as goal

pub returns : goal.returns
unfolding httparse_on_literals serde_json_on_literals http_on_literals
returns c = record {
  value = λ lists head rest page. rw page refl;
  form = refl;
  fetched = refl;
  first = refl;
  other_case = refl;
  typed = refl;
}
