use Rattle.std.proofs.Common.{ap, ◌∙◌}
use Rattle.std.specs.FinMap as map
use Rattle.std.specs.Cmp.Lexicographic.{nat_list_cmp_total}
use Rattle.std.proofs.lemmas.Map.Lookups.{exact_bytes}
use Rattle.wb_step.specs.contracts.office_part.OfficePart.{the_view}
use Rattle.deb_text.proofs.MapLemmas.{one-inserted}
use Rattle.wb_step.proofs.TableLemmas.{with_archs}
use Rattle.wb_step.proofs.office_part.OfficePart.add_arch.Goals as goal

pub returns-clause-ok : goal.returns-clause-ok
returns-clause-ok c =
    ap (with_archs (the_view c.self.inside))
    (one-inserted nat_list_cmp_total exact_bytes c.self.inside.archs.entries c.insert.new.self.entries c.args.name c.args.words c.in_ok-insert.ensures.updates.0)
    ∙ ap (λ machine. with_archs machine (map.insert machine.archs c.args.name c.args.words)) c.self.view_is
