use Rattle.std.proofs.Common.{sym, ap, ◌∙◌}
use Rattle.std.specs.FinSet as set
use Rattle.deb_text.proofs.KeyLemmas.{pair_cmp_total}
use Rattle.wb_step.proofs.office_part.OfficePart.has_builder.Goals as goal

pub returns : goal.returns
returns c = record {
  value = c.contains.ensures
      ∙ sym (set.contains-from_list pair_cmp_total c.self.inside.builders.keys c.in_ok-pair.pair)
      ∙ ap (λ machine. set.contains machine.builders c.in_ok-pair.pair) c.self.view_is
      ∙ (λ i. set.contains c.args.self.now.builders (c.in_ok-pair.ensures.value i));
}
