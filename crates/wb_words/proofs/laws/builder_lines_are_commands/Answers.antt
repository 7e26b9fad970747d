use Rattle.std.proofs.Common.{refl}
use Rattle.clap.proofs.OnLiterals.{clap_on_literals}
use Rattle.wb_words.specs.Arguments.{number_in}
use Rattle.wb_words.proofs.LiteralLemmas.{words_on_literals}
use Rattle.wb_words.proofs.laws.builder_lines_are_commands.Goals as goal

pub returns : goal.returns
unfolding words_on_literals clap_on_literals number_in
returns c = record {
  next = refl;
  take = refl;
  built = refl;
  uploaded = refl;
  put_back = refl;
  waits = refl;
  attempted = refl;
}
