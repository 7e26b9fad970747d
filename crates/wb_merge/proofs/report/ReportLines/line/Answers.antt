use Rattle.std.proofs.Common.{sym, ap, ◌∙◌}
use Rattle.std.specs.FinMap as map
use Rattle.std.specs.Cmp.Lexicographic.{nat_list_cmp_total}
use Rattle.deb_text.proofs.MapLemmas.{get-lookup}
use Rattle.wb_merge.proofs.report.ReportLines.line.Goals as goal

pub returns : goal.returns
returns c = record {
  value = c.get.ensures.value ∙ sym (get-lookup nat_list_cmp_total c.self.inside.lines.entries c.args.source.now)
      ∙ ap (λ m. map.get m c.args.source.now) c.self.view_is;
}
