use Rattle.std.proofs.Common.{◌∙◌, ap, not, refl, sym, true, false, None, nat_le}
use Rattle.wb_states.specs.Limits.{count_limit}
use Rattle.wb_step.proofs.ReportingLemmas.{first_refusal-Report, good-Report}
use Rattle.wb_office.proofs.ReportLemmas.{arch_known}
use Rattle.wb_office.proofs.reporting.check_report.Goals as goal

pub returns-then-not-has_arch-clause-refused : goal.returns-then-not-has_arch-clause-refused
returns-then-not-has_arch-clause-refused c = λ machine own.
    let good = good-Report c.args.report.now c.requires.texts in
    first_refusal-Report machine c.args.report.now false None true _ good.0 good.1
    (sym (arch_known machine c.args.archs.now c.args.report.now.arch own.1) ∙ ap not (sym c.has_arch.ensures.value ∙ c.if-not-has_arch.true)) refl

pub returns-then-is_spent-clause-refused : goal.returns-then-is_spent-clause-refused
returns-then-is_spent-clause-refused c = λ machine own.
    let good = good-Report c.args.report.now c.requires.texts in
    first_refusal-Report machine c.args.report.now false None false true good.0 good.1
    (sym (arch_known machine c.args.archs.now c.args.report.now.arch own.1) ∙ ap not (sym c.has_arch.ensures.value ∙ c.if-not-has_arch.false))
    (ap (nat_le count_limit) (sym own.0.1) ∙ sym c.is_spent.ensures.value ∙ c.if-is_spent.true)

pub returns-clause-good : goal.returns-clause-good
returns-clause-good c = λ machine own.
    let good = good-Report c.args.report.now c.requires.texts in
    first_refusal-Report machine c.args.report.now false None false false good.0 good.1
    (sym (arch_known machine c.args.archs.now c.args.report.now.arch own.1) ∙ ap not (sym c.has_arch.ensures.value ∙ c.if-not-has_arch.false))
    (ap (nat_le count_limit) (sym own.0.1) ∙ sym c.is_spent.ensures.value ∙ c.if-is_spent.false)
