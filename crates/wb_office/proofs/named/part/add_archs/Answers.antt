use Rattle.std.proofs.Common.{sym, ap, ◌∙◌}
use Rattle.wb_office.specs.Sought.{with_archs}
use Rattle.wb_office.proofs.SoughtLemmas.{with_archs-push}
use Rattle.wb_office.proofs.named.part.add_archs.Goals as goal

pub loop-name-preserved : goal.loop-name-preserved
loop-name-preserved c =
    let left = c.pop.new.self.items in
    let store = c.loop-name.store in
    ap (λ m. with_archs m left) c.in_ok-add_arch.ensures.ok ∙ sym (with_archs-push store left (c.in-Some.name, c.in-Some.words))
    ∙ ap (with_archs store) (sym c.in-Some.ensures.items) ∙ c.loop-name.invariant
