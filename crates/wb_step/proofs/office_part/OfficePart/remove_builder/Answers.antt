use Rattle.std.proofs.Common.{ap, ◌∙◌}
use Rattle.std.specs.FinSet as set
use Rattle.wb_step.specs.contracts.office_part.OfficePart.{the_view}
use Rattle.wb_step.proofs.TableLemmas.{one-gone, with_builders}
use Rattle.deb_text.proofs.KeyLemmas.{pair_cmp_total, pair_cmp-same}
use Rattle.wb_step.proofs.office_part.OfficePart.remove_builder.Goals as goal

pub returns-clause-ok : goal.returns-clause-ok
returns-clause-ok c =
    ap (with_builders (the_view c.self.inside))
    (one-gone pair_cmp_total pair_cmp-same c.self.inside.builders.keys c.remove.new.self.keys c.in_ok-pair.pair
    c.remove.ensures.updates.0)
    ∙ ap (λ machine. with_builders machine (set.remove machine.builders c.in_ok-pair.pair)) c.self.view_is
    ∙ ap (λ pair. with_builders c.args.self.now (set.remove c.args.self.now.builders pair)) c.in_ok-pair.ensures.value
