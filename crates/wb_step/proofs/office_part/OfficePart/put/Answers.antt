use Rattle.std.proofs.Common.{ap, ◌∙◌}
use Rattle.std.specs.FinMap as map
use Rattle.wb_step.specs.contracts.office_part.OfficePart.{the_view}
use Rattle.deb_text.proofs.MapLemmas.{one-inserted}
use Rattle.wb_step.proofs.TableLemmas.{with_records}
use Rattle.deb_text.proofs.KeyLemmas.{pair_cmp_total, pair_cmp-same}
use Rattle.wb_step.proofs.office_part.OfficePart.put.Goals as goal

pub returns-clause-ok : goal.returns-clause-ok
returns-clause-ok c =
    ap (with_records (the_view c.self.inside))
    (one-inserted pair_cmp_total pair_cmp-same c.self.inside.records.entries c.insert.new.self.entries (c.args.arch, c.args.source) c.args.current c.in_ok-insert.ensures.updates.0)
    ∙ ap (λ machine. with_records machine (map.insert machine.records (c.args.arch, c.args.source) c.args.current)) c.self.view_is
