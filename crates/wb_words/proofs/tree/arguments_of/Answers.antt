use Rattle.std.proofs.Common.{◌∙◌, ap, option_map}
use Rattle.std.specs.Option.{option_or}
use Rattle.wb_words.specs.Usages.{arguments_in}
use Rattle.wb_words.proofs.UsageLemmas.{arguments_named-table, arguments_of-tables}
use Rattle.wb_words.proofs.tree.arguments_of.Goals as goal

pub returns : goal.returns
returns c = record {
  value =
      ap (option_map (λ arguments. arguments_in arguments.now))
      (c.or-3.ensures ∙ ap (λ first. option_or first c.arguments_among-4.result)
      (c.or-2.ensures ∙ ap (λ first. option_or first c.arguments_among-3.result) c.or.ensures))
      ∙ arguments_of-tables (λ arguments. arguments_in arguments.now) c.args.name.now
      c.arguments_among.result c.arguments_among-2.result c.arguments_among-3.result c.arguments_among-4.result
      (c.arguments_among.ensures.value ∙ arguments_named-table c.args.name.now c.as_slice.ensures)
      (c.arguments_among-2.ensures.value ∙ arguments_named-table c.args.name.now c.as_slice-2.ensures)
      (c.arguments_among-3.ensures.value ∙ arguments_named-table c.args.name.now c.as_slice-3.ensures)
      (c.arguments_among-4.ensures.value ∙ arguments_named-table c.args.name.now c.as_slice-4.ensures);
}
