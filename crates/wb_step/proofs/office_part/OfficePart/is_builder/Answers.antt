use Rattle.std.proofs.Common.{◌≡◌, ◌∙◌, filter, map}
use Rattle.std.specs.FinMap as finite
use Rattle.std.specs.FinSet as set
use Rattle.wb_step.proofs.TableLemmas.{archs-iterated}
use Rattle.wb_step.proofs.office_part.OfficePart.is_builder.Goals as goal

pub loop-arch-init : goal.loop-arch-init
loop-arch-init c =
    let start : c.into_iter-arch-iterator.result ≡ finite.entries c.args.self.now.archs =
    archs-iterated c.self.inside c.args.self.now c.self.view_is c.iter-arch-items.ensures.ordered _ (c.into_iter-arch-iterator.ensures.into_iter_gives ∙ c.iter-arch-items.ensures.rest) in
    λ i. filter (λ arch. set.contains c.args.self.now.builders (c.args.name.now, arch)) (map (λ e. e.0) (start i))
