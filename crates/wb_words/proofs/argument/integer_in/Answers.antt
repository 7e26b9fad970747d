use Rattle.std.proofs.Common.{◌∙◌}
use Rattle.wb_words.proofs.ArgumentLemmas.{parsed-integer_in}
use Rattle.wb_words.proofs.argument.integer_in.Goals as goal

pub returns : goal.returns
returns c = record {
  value = c.ok.ensures.value ∙ parsed-integer_in c.args.text.now c.parse.result c.parse.ensures.value.0;
}
