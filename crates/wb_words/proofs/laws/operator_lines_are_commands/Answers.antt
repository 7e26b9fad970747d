use Rattle.std.proofs.Common.{refl}
use Rattle.clap.proofs.OnLiterals.{clap_on_literals}
use Rattle.wb_words.specs.Arguments.{integer_in, number_in}
use Rattle.wb_words.proofs.LiteralLemmas.{words_on_literals}
use Rattle.wb_words.proofs.laws.operator_lines_are_commands.Goals as goal

pub returns : goal.returns
unfolding words_on_literals clap_on_literals number_in integer_in
returns c = record {
  add_arch = refl;
  add_builder = refl;
  remove_arch = refl;
  remove_builder = refl;
  enter = refl;
  give_back = refl;
  dep_wait = refl;
  fail = refl;
  not_for_us = refl;
  rebuild = refl;
  build_priority = refl;
  forget = refl;
}
