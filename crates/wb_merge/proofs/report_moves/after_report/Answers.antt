use Rattle.std.proofs.Common.{◌≡◌, ◌∙◌, IfOk, sym, ap, subst}
use Rattle.std.specs.Cmp.{Equal-is}
use Rattle.std.specs.declared.cmp.Ordering.TheVariants.{Equal}
use Rattle.deb_version.specs.Order.{version_cmp}
use Rattle.wb_states.specs.declared.record.Record.{Record}
use Rattle.wb_merge.specs.Report.{reported}
use Rattle.wb_merge.proofs.ReportMoveLemmas.{at-equal}
use Rattle.wb_merge.proofs.report_moves.after_report.Goals as goal

pub returns-then-names_version-clause-value : goal.returns-then-names_version-clause-value
returns-then-names_version-clause-value c =
    let equal : version_cmp c.args.current.now.version c.args.line.now.version ≡ Equal =
    (Equal-is (version_cmp c.args.current.now.version c.args.line.now.version)).0 (sym c.names_version.ensures ∙ c.if-names_version.true) in
    subst (λ (made : Record). IfOk c.reported.result (λ new. new ≡ made))
    (ap (reported c.args.line.now.reason) c.in_ok-copy.ensures.value ∙ sym (at-equal c.args.line.now c.args.current.now equal))
    c.reported.ensures.value
