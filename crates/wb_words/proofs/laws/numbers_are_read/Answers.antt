use Rattle.std.proofs.Common.{refl}
use Rattle.clap.proofs.OnLiterals.{clap_on_literals}
use Rattle.wb_words.specs.Arguments.{number_in}
use Rattle.wb_words.proofs.LiteralLemmas.{words_on_literals}
use Rattle.wb_words.proofs.laws.numbers_are_read.Goals as goal

pub returns : goal.returns
unfolding words_on_literals clap_on_literals number_in
returns c = record {
  plus = refl;
  zeros = refl;
  greatest = refl;
  too_great = refl;
  negative = refl;
  number = refl;
  after = refl;
  attempted = refl;
}
