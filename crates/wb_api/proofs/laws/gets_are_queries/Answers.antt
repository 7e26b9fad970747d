use Rattle.std.proofs.Common.{refl}
use Rattle.httparse.proofs.OnLiterals.{httparse_on_literals}
use Rattle.serde_json.proofs.OnLiterals.{serde_json_on_literals}
use Rattle.wb_api.proofs.LiteralLemmas.{http_on_literals}
use Rattle.wb_api.proofs.laws.gets_are_queries.Goals as goal

pub returns : goal.returns
unfolding httparse_on_literals serde_json_on_literals http_on_literals
returns c = record {
  queue = refl;
  state = refl;
  mine = refl;
  item = refl;
  depends = refl;
  summary = refl;
  office = refl;
  archs = refl;
  builders = refl;
  empty_part = refl;
  part_missing = refl;
  part_over = refl;
  part_of_none = refl;
  not_text = refl;
  get_of_command = refl;
  post_of_query = refl;
}
