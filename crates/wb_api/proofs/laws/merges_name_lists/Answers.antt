use Rattle.std.proofs.Common.{refl}
use Rattle.httparse.proofs.OnLiterals.{httparse_on_literals}
use Rattle.serde_json.proofs.OnLiterals.{serde_json_on_literals}
use Rattle.wb_api.proofs.LiteralLemmas.{http_on_literals}
use Rattle.wb_api.proofs.laws.merges_name_lists.Goals as goal

pub returns : goal.returns
unfolding httparse_on_literals serde_json_on_literals http_on_literals
returns c = record {
  one = refl;
  two = refl;
  further = refl;
  no_part = refl;
  no_parts = refl;
  no_array = refl;
  no_arch = refl;
  no_sources = refl;
  longest = refl;
  long = refl;
  empty = refl;
  slash = refl;
  slash_of_part = refl;
  dot = refl;
  dot_of_part = refl;
  inner_dot = refl;
  get_of_merge = refl;
  other_path = refl;
  without_lists = refl;
}
