use Rattle.std.proofs.Common.{sym, ap, ◌∙◌}
use Rattle.std.specs.FinMap as map
use Rattle.std.specs.Cmp.Lexicographic.{nat_list_cmp_total}
use Rattle.deb_text.proofs.MapLemmas.{get-lookup}
use Rattle.wb_step.proofs.office_part.OfficePart.arch.Goals as goal

pub returns : goal.returns
returns c = record {
  value = c.get.ensures.value ∙ sym (get-lookup nat_list_cmp_total c.self.inside.archs.entries c.args.name.now)
      ∙ ap (λ m. map.get m.archs c.args.name.now) c.self.view_is;
}
