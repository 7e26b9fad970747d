use Rattle.std.proofs.Common.{refl}
use Rattle.clap.proofs.OnLiterals.{clap_on_literals}
use Rattle.wb_words.specs.Arguments.{part_in}
use Rattle.wb_words.proofs.LiteralLemmas.{words_on_literals}
use Rattle.wb_words.proofs.laws.merge_lines_name_files.Goals as goal

pub returns : goal.returns
unfolding words_on_literals clap_on_literals part_in
returns c = record {
  one = refl;
  two = refl;
  no_arch = refl;
  first = refl;
}
