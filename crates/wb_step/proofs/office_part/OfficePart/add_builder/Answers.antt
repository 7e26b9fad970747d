use Rattle.std.proofs.Common.{ap, ◌∙◌}
use Rattle.std.specs.FinSet as set
use Rattle.wb_step.specs.contracts.office_part.OfficePart.{the_view}
use Rattle.wb_step.proofs.TableLemmas.{one-added, with_builders}
use Rattle.deb_text.proofs.KeyLemmas.{pair_cmp_total, pair_cmp-same}
use Rattle.wb_step.proofs.office_part.OfficePart.add_builder.Goals as goal

pub returns-clause-ok : goal.returns-clause-ok
returns-clause-ok c =
    ap (with_builders (the_view c.self.inside))
    (one-added pair_cmp_total pair_cmp-same c.self.inside.builders.keys c.insert.new.self.keys (c.args.builder, c.args.arch) c.in_ok-insert.ensures.updates.0)
    ∙ ap (λ machine. with_builders machine (set.insert machine.builders (c.args.builder, c.args.arch))) c.self.view_is
