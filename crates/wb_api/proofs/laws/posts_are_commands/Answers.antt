use Rattle.std.proofs.Common.{refl}
use Rattle.httparse.proofs.OnLiterals.{httparse_on_literals}
use Rattle.serde_json.proofs.OnLiterals.{serde_json_on_literals}
use Rattle.wb_api.proofs.LiteralLemmas.{http_on_literals}
use Rattle.wb_api.proofs.laws.posts_are_commands.Goals as goal

pub returns : goal.returns
unfolding httparse_on_literals serde_json_on_literals http_on_literals
returns c = record {
  add_arch = refl;
  no_cpu = refl;
  add_builder = refl;
  no_name = refl;
  remove_arch = refl;
  no_name_of_arch = refl;
  remove_builder = refl;
  no_arch = refl;
  enter = refl;
  no_section = refl;
  attempted = refl;
  no_words = refl;
  no_reason = refl;
  build_priority = refl;
  no_value = refl;
  forget = refl;
  no_version = refl;
  report = refl;
  no_lines = refl;
  no_text = refl;
}
