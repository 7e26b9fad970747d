use Rattle.std.proofs.Common.{refl}
use Rattle.clap.proofs.OnLiterals.{clap_on_literals}
use Rattle.wb_words.proofs.LiteralLemmas.{words_on_literals}
use Rattle.wb_words.proofs.laws.other_words_are_none.Goals as goal

pub returns : goal.returns
unfolding words_on_literals clap_on_literals
returns c = record {
  none = refl;
  unknown = refl;
  help = refl;
  long_help = refl;
  short_help = refl;
  missing = refl;
  many = refl;
  option = refl;
}
