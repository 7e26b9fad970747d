use Rattle.std.proofs.Common.{refl}
use Rattle.clap.proofs.OnLiterals.{clap_on_literals}
use Rattle.wb_words.specs.Arguments.{number_in, part_in}
use Rattle.wb_words.proofs.LiteralLemmas.{words_on_literals}
use Rattle.wb_words.proofs.laws.other_arguments_are_none.Goals as goal

pub returns : goal.returns
unfolding words_on_literals clap_on_literals number_in part_in
returns c = record {
  relations = refl;
  note = refl;
  reason = refl;
  no_part = refl;
  part = refl;
  twice = refl;
  lacking = refl;
  other = refl;
}
