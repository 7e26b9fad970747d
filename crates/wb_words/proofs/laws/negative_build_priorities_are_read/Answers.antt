use Rattle.std.proofs.Common.{refl}
use Rattle.clap.proofs.OnLiterals.{clap_on_literals}
use Rattle.wb_words.specs.Arguments.{integer_in}
use Rattle.wb_words.proofs.LiteralLemmas.{words_on_literals}
use Rattle.wb_words.proofs.laws.negative_build_priorities_are_read.Goals as goal

pub returns : goal.returns
unfolding words_on_literals clap_on_literals integer_in
returns c = record {
  bare = refl;
  nought = refl;
  zeros = refl;
  least = refl;
  escaped = refl;
  too_small = refl;
  letters = refl;
  signs = refl;
  missing = refl;
  many = refl;
  early = refl;
  option = refl;
  other = refl;
  note = refl;
}
