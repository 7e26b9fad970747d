use Rattle.std.proofs.Common.{◌≡◌, ◌∙◌, ◌++◌, ℕ, List, sym, ap, map}
use Rattle.std.specs.FinMap as finite
use Rattle.deb_text.proofs.MapLemmas.{entries-kept}
use Rattle.deb_text.proofs.KeyLemmas.{text_cmp_total, text_cmp-same}
use Rattle.wb_merge.specs.declared.report.ReportLine.{ReportLine}
use Rattle.wb_merge.specs.Report.{Lines}
use Rattle.wb_merge.proofs.report.ReportLines.sources.Goals as goal

pub loop-name-init : goal.loop-name-init
loop-name-init c =
    let start : c.into_iter-name-iterator.result ≡ finite.keys c.args.self.now =
    c.into_iter-name-iterator.ensures.into_iter_gives ∙ c.keys-name-items.ensures.rest
    ∙ sym (ap (map (λ (e : List ℕ × ReportLine). e.0)) (entries-kept text_cmp_total text_cmp-same c.self.inside.lines.entries c.keys-name-items.ensures.ordered))
    ∙ ap (λ (lines : Lines). finite.keys lines) c.self.view_is in
    λ i. c.new-names.ensures.items i ++ start i
