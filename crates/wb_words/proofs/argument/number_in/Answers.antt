use Rattle.std.proofs.Common.{◌∙◌}
use Rattle.wb_words.proofs.ArgumentLemmas.{parsed-number_in}
use Rattle.wb_words.proofs.argument.number_in.Goals as goal

pub returns : goal.returns
returns c = record {
  value = c.ok.ensures.value ∙ parsed-number_in c.args.text.now c.parse.result c.parse.ensures.value.0;
}
