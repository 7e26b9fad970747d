use Rattle.std.proofs.Common.{refl}
use Rattle.clap.proofs.OnLiterals.{clap_on_literals}
use Rattle.wb_words.proofs.LiteralLemmas.{words_on_literals}
use Rattle.wb_words.proofs.laws.report_lines_name_a_file.Goals as goal

pub returns : goal.returns
unfolding words_on_literals clap_on_literals
returns c = record {
  report = refl;
  no_file = refl;
  two = refl;
  option = refl;
}
