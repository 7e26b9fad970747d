use Rattle.std.proofs.Common.{refl}
use Rattle.serde_json.proofs.OnLiterals.{serde_json_on_literals}
use Rattle.wb_api.proofs.LiteralLemmas.{http_on_literals}
use Rattle.wb_api.proofs.laws.values_are_integers.Goals as goal

pub returns : goal.returns
unfolding serde_json_on_literals http_on_literals
returns c = record {
  positive = refl;
  minus = refl;
  nought = refl;
  greatest = refl;
  least = refl;
  too_great = refl;
  too_small = refl;
  minus_nought = refl;
  fraction = refl;
  exponent = refl;
  text = refl;
  null_value = refl;
  missing = refl;
}
