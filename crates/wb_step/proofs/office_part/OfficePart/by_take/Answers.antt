use Rattle.std.proofs.Common.{◌≡◌, ◌∙◌, filter}
use Rattle.std.specs.FinMap as finite
use Rattle.deb_text.specs.Lists.{first_of}
use Rattle.wb_states.specs.Holds.{is_taken_as}
use Rattle.wb_step.proofs.TableLemmas.{records-iterated}
use Rattle.wb_step.proofs.office_part.OfficePart.by_take.Goals as goal

pub loop-key-init : goal.loop-key-init
loop-key-init c =
    let start : c.into_iter-key-iterator.result ≡ finite.entries c.args.self.now.records =
    records-iterated c.self.inside c.args.self.now c.self.view_is c.iter-key-items.ensures.ordered _ (c.into_iter-key-iterator.ensures.into_iter_gives ∙ c.iter-key-items.ensures.rest) in
    λ i. first_of (filter (is_taken_as c.args.take_number) (start i))
