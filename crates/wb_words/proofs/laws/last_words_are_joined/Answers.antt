use Rattle.std.proofs.Common.{refl}
use Rattle.clap.proofs.OnLiterals.{clap_on_literals}
use Rattle.wb_words.specs.Arguments.{number_in}
use Rattle.wb_words.proofs.LiteralLemmas.{words_on_literals}
use Rattle.wb_words.proofs.laws.last_words_are_joined.Goals as goal

pub returns : goal.returns
unfolding words_on_literals clap_on_literals number_in
returns c = record {
  relations = refl;
  dep_wait = refl;
  note = refl;
  not_for_us = refl;
  message = refl;
  reason = refl;
}
