use Rattle.std.proofs.Common.{ap, ◌∙◌}
use Rattle.std.specs.FinMap as map
use Rattle.wb_step.specs.contracts.office_part.OfficePart.{the_view}
use Rattle.deb_text.proofs.MapLemmas.{one-removed}
use Rattle.wb_step.proofs.TableLemmas.{with_records}
use Rattle.deb_text.proofs.KeyLemmas.{pair_cmp_total, pair_cmp-same}
use Rattle.wb_step.proofs.office_part.OfficePart.forget.Goals as goal

pub returns-clause-ok : goal.returns-clause-ok
returns-clause-ok c =
    ap (with_records (the_view c.self.inside))
    (one-removed pair_cmp_total pair_cmp-same c.self.inside.records.entries c.remove.new.self.entries c.in_ok-key.key
    c.remove.ensures.updates.0)
    ∙ ap (λ machine. with_records machine (map.remove machine.records c.in_ok-key.key)) c.self.view_is
    ∙ ap (λ key. with_records c.args.self.now (map.remove c.args.self.now.records key)) c.in_ok-key.ensures.value
