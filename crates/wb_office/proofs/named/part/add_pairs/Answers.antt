use Rattle.std.proofs.Common.{sym, ap, ◌∙◌}
use Rattle.wb_office.specs.Sought.{with_pairs}
use Rattle.wb_office.proofs.SoughtLemmas.{with_pairs-push}
use Rattle.wb_office.proofs.named.part.add_pairs.Goals as goal

pub loop-builder-preserved : goal.loop-builder-preserved
loop-builder-preserved c =
    let left = c.pop.new.self.items in
    let store = c.loop-builder.store in
    ap (λ m. with_pairs m left) c.in_ok-add_builder.ensures.ok ∙ sym (with_pairs-push store left (c.in-Some.builder, c.in-Some.arch))
    ∙ ap (with_pairs store) (sym c.in-Some.ensures.items) ∙ c.loop-builder.invariant
