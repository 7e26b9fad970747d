use Rattle.std.proofs.Common.{◌≡◌, ◌∙◌}
use Rattle.std.specs.FinMap as finite
use Rattle.std.specs.List.{list_any}
use Rattle.wb_step.specs.Checks.{is_held_on}
use Rattle.wb_step.proofs.TableLemmas.{records-iterated}
use Rattle.wb_step.proofs.office_part.OfficePart.holds_on.Goals as goal

pub loop-key-init : goal.loop-key-init
loop-key-init c =
    let start : c.into_iter-key-iterator.result ≡ finite.entries c.args.self.now.records =
    records-iterated c.self.inside c.args.self.now c.self.view_is c.iter-key-items.ensures.ordered _ (c.into_iter-key-iterator.ensures.into_iter_gives ∙ c.iter-key-items.ensures.rest) in
    λ i. list_any (is_held_on c.args.arch.now c.args.builder.now) (start i)
