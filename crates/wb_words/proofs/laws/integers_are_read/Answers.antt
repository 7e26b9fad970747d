use Rattle.std.proofs.Common.{refl}
use Rattle.clap.proofs.OnLiterals.{clap_on_literals}
use Rattle.wb_words.specs.Arguments.{integer_in}
use Rattle.wb_words.proofs.LiteralLemmas.{words_on_literals}
use Rattle.wb_words.proofs.laws.integers_are_read.Goals as goal

pub returns : goal.returns
unfolding words_on_literals clap_on_literals integer_in
returns c = record {
  plus = refl;
  zeros = refl;
  minus = refl;
  nought = refl;
  greatest = refl;
  least = refl;
  too_great = refl;
  too_small = refl;
  signs = refl;
  lone_sign = refl;
  number = refl;
  missing = refl;
  many = refl;
}
