use Rattle.std.proofs.Common.{sym, ap, ◌∙◌}
use Rattle.std.specs.FinMap as map
use Rattle.deb_text.proofs.MapLemmas.{get-lookup}
use Rattle.deb_text.proofs.KeyLemmas.{pair_cmp_total}
use Rattle.wb_step.proofs.office_part.OfficePart.get.Goals as goal

pub returns : goal.returns
returns c = record {
  value = c.get.ensures.value
      ∙ sym (get-lookup pair_cmp_total c.self.inside.records.entries c.in_ok-key.key)
      ∙ ap (λ machine. map.get machine.records c.in_ok-key.key) c.self.view_is
      ∙ (λ i. map.get c.args.self.now.records (c.in_ok-key.ensures.value i));
}
