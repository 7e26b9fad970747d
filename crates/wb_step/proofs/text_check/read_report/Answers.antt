use Rattle.std.proofs.Common.{◌∙◌, ap, not, sym}
use Rattle.wb_states.specs.Names.{is_arch_name}
use Rattle.wb_merge.specs.Report.{report_of, report_takes_memory}
use Rattle.wb_step.proofs.ReportingLemmas.{report-good, told-Report, told-Report-err, told-Report-name}
use Rattle.wb_step.proofs.text_check.read_report.Goals as goal

pub returns-then-not-is_arch-clause-checks : goal.returns-then-not-is_arch-clause-checks
returns-then-not-is_arch-clause-checks c =
    told-Report-name c.args.report.now (ap not (sym (c.is_arch.ensures.value ∙ ap is_arch_name c.as_str.ensures) ∙ c.if-not-is_arch.true))

pub returns-in_err-read-clause-checks : goal.returns-in_err-read-clause-checks
returns-in_err-read-clause-checks c =
    told-Report-err c.args.report.now c.from_residual.result _ c.from_residual.ensures.1
    (sym (c.is_arch.ensures.value ∙ ap is_arch_name c.as_str.ensures) ∙ c.if-not-is_arch.false)
    (λ other. ap report_of (sym c.as_str-2.ensures) ∙ c.in_err-read.ensures.refused other)
    (λ none. ap report_takes_memory (sym c.as_str-2.ensures) ∙ c.in_err-read.ensures.memory none)

pub returns-clause-checks : goal.returns-clause-checks
returns-clause-checks c =
    told-Report c.args.report.now _
    (sym (c.is_arch.ensures.value ∙ ap is_arch_name c.as_str.ensures) ∙ c.if-not-is_arch.false)
    (report-good c.args.report.now.text _ (ap report_of (sym c.as_str-2.ensures) ∙ c.in_ok-read.ensures.value)).0 tt tt

pub returns-clause-value : goal.returns-clause-value
returns-clause-value c = (report-good c.args.report.now.text _ (ap report_of (sym c.as_str-2.ensures) ∙ c.in_ok-read.ensures.value)).1
