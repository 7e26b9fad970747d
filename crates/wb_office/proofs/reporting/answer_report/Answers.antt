use Rattle.wb_office.specs.Answers.{AreOf}
use Rattle.wb_states.specs.declared.command.Command.TheVariants as of
use Rattle.wb_office.proofs.BatchLemmas.{answers_given, refused_here}
use Rattle.wb_office.proofs.reporting.answer_report.Goals as goal

pub returns-in-Err-clause-answers : goal.returns-in-Err-clause-answers
returns-in-Err-clause-answers g c =
    refused_here g.S.Store (of.Report c.args.report.now) c.args.store.now (AreOf c.args.counts c.args.archs.now)
    c.in-Err.refusal
    c.in-Err.ensures.refused c.in-Err.ensures.kind.0 c.in-Err.ensures.kind.1

pub returns-in-Ok-clause-answers : goal.returns-in-Ok-clause-answers
returns-in-Ok-clause-answers g c =
    answers_given (λ machine own. (own.0, c.in-Ok.ensures.good machine own)) c.answer_lines.ensures.answers

pub returns-in-Ok-clause-noted : goal.returns-in-Ok-clause-noted
returns-in-Ok-clause-noted g c = λ clean machine consistent settled own.
    c.answer_lines.ensures.noted clean machine consistent settled (own.0, c.in-Ok.ensures.good machine own)
