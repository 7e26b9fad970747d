use Rattle.std.proofs.Common.{refl}
use Rattle.clap.proofs.OnLiterals.{clap_on_literals}
use Rattle.wb_words.proofs.LiteralLemmas.{words_on_literals}
use Rattle.wb_words.proofs.laws.query_lines_are_queries.Goals as goal

pub returns : goal.returns
unfolding words_on_literals clap_on_literals
returns c = record {
  queue = refl;
  summary = refl;
  by_state = refl;
  item = refl;
  depends = refl;
  mine = refl;
  office = refl;
  archs = refl;
  builders = refl;
  no_arch = refl;
  no_state = refl;
  no_source = refl;
  no_builder = refl;
  two = refl;
  three = refl;
  of_no_word = refl;
  option = refl;
}
