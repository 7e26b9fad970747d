-- What may be said to the command or the query may be said to what the words ask for.
use Rattle.std.proofs.Common.{◌∙◌, refl, sym, ap, subst, inl, inr}
use Rattle.std.proofs.lemmas.Option.{IfSome_then}
use Rattle.wb_words.specs.declared.words.Invocation.TheVariants.{Merge as invocation_Merge}
use Rattle.wb_daemon.specs.Reports.{MayReadReport}
use Rattle.wb_daemon.specs.Run.{InvokesAs, IsInvocationRefused}
use Rattle.wb_daemon.specs.Turn.{response_of_answer, IsInvocationResponseOrMemory}
use Rattle.wb_daemon.proofs.AnswerLemmas.{made-command, report-response}
use Rattle.wb_daemon.proofs.answer.answer_invocation.Goals as goal

-- ---- a command

pub returns-in-Command-clause-value : goal.returns-in-Command-clause-value
returns-in-Command-clause-value g c =
    IfSome_then c.answer_to.result c.answer_to.ensures.value (λ answer said goes before clean stands.
    let now = said goes before clean stands in (
      now.0,
      now.1,
      subst (λ invocation. IsInvocationResponseOrMemory (g.L.Lists.may_read c.args.lists.now) before invocation (response_of_answer answer now.0))
          (sym c.in-Command.is) now.2,
    ))

pub returns-in-Command-clause-memory : goal.returns-in-Command-clause-memory
returns-in-Command-clause-memory g c = λ e before clean stands.
    let now = c.answer_to.ensures.memory e before clean stands in (
      now.0,
      now.1,
      (
        c.in-Command.command,
        subst (λ invocation. InvokesAs (g.L.Lists.may_read c.args.lists.now) invocation c.in-Command.command) (sym c.in-Command.is) refl,
        now.2,
      ),
    )

pub returns-in-Command-clause-stops : goal.returns-in-Command-clause-stops
returns-in-Command-clause-stops g c =
    IfSome_then c.answer_to.result c.answer_to.ensures.stops (λ answer refused stops before clean stands.
    let now = refused stops before clean stands in (
      now.0,
      now.1,
      now.2,
      inr (
        c.in-Command.command,
        subst (λ invocation. InvokesAs (g.L.Lists.may_read c.args.lists.now) invocation c.in-Command.command) (sym c.in-Command.is) refl,
        now.3,
      ),
    ))

-- ---- a query

pub returns-in-Query-clause-value : goal.returns-in-Query-clause-value
returns-in-Query-clause-value g c = λ goes before clean stands.
    let now = c.answer_query.ensures.value goes before clean stands in (
      now.0,
      now.1,
      subst (λ invocation. IsInvocationResponseOrMemory (g.L.Lists.may_read c.args.lists.now) before invocation (response_of_answer c.answer_query.result now.0))
          (sym c.in-Query.is) now.2,
    )

pub returns-in-Query-clause-stops : goal.returns-in-Query-clause-stops
returns-in-Query-clause-stops g c = λ stops before clean stands.
    let now = c.answer_query.ensures.stops stops before clean stands in
    (now.0, now.1, now.2, inl (c.in-Query.query, c.in-Query.is, now.3))

-- ---- a merge

pub returns-in-Merge-clause-value : goal.returns-in-Merge-clause-value
returns-in-Merge-clause-value g c =
    let may_read = g.L.Lists.may_read c.args.lists.now in
    IfSome_then c.answer_merge.result c.answer_merge.ensures.value (λ answer said goes before clean stands.
    let now = said goes before clean stands in (
      now.0,
      now.1,
      subst (λ invocation. IsInvocationResponseOrMemory may_read before invocation (response_of_answer answer now.0))
          (sym (c.in-Merge.is ∙ ap (λ parts. invocation_Merge c.in-Merge.sources parts) (sym c.as_slice.ensures))) now.2,
    ))

pub returns-in-Merge-clause-memory : goal.returns-in-Merge-clause-memory
returns-in-Merge-clause-memory g c = λ e before clean stands.
    let may_read = g.L.Lists.may_read c.args.lists.now in
    let now = c.answer_merge.ensures.memory e before clean stands in (
      now.0,
      now.1,
      (
        now.2.0,
        subst (λ invocation. InvokesAs may_read invocation now.2.0)
            (sym (c.in-Merge.is ∙ ap (λ parts. invocation_Merge c.in-Merge.sources parts) (sym c.as_slice.ensures))) now.2.1,
        now.2.2,
      ),
    )

pub returns-in-Merge-clause-stops : goal.returns-in-Merge-clause-stops
returns-in-Merge-clause-stops g c =
    let may_read = g.L.Lists.may_read c.args.lists.now in
    IfSome_then c.answer_merge.result c.answer_merge.ensures.stops (λ answer refused stops before clean stands.
    let now = refused stops before clean stands in (
      now.0,
      now.1,
      now.2,
      subst (λ invocation. IsInvocationRefused may_read before invocation (response_of_answer answer now.0) now.1)
          (sym (c.in-Merge.is ∙ ap (λ parts. invocation_Merge c.in-Merge.sources parts) (sym c.as_slice.ensures))) now.3,
    ))

-- ---- a report

pub returns-in-Report-clause-value : goal.returns-in-Report-clause-value
returns-in-Report-clause-value g c =
    let may_read = g.L.Lists.may_read c.args.lists.now in
    let given = c.report_of-made.ensures.value in
    let lacks = c.report_of-made.ensures.refused in
    IfSome_then c.answer_made.result c.answer_made.ensures.value (λ answer said goes before clean stands.
    let now = said goes before clean stands in (
      now.0,
      now.1,
      report-response may_read before c.args.invocation.now c.in-Report.arch c.in-Report.file c.report_of-made.result _ c.in-Report.is given lacks now.2,
    ))

pub returns-in-Report-clause-memory : goal.returns-in-Report-clause-memory
returns-in-Report-clause-memory g c = λ e before clean stands.
    let may_read = g.L.Lists.may_read c.args.lists.now in
    let given = c.report_of-made.ensures.value in
    let now = c.answer_made.ensures.memory e before clean stands in (
      now.0,
      now.1,
      (
        now.2.0,
        subst (λ invocation. InvokesAs may_read invocation now.2.0) (sym c.in-Report.is) (made-command (MayReadReport may_read c.in-Report.arch c.in-Report.file) c.report_of-made.result now.2.0 given now.2.1),
        now.2.2,
      ),
    )

pub returns-in-Report-clause-stops : goal.returns-in-Report-clause-stops
returns-in-Report-clause-stops g c =
    let may_read = g.L.Lists.may_read c.args.lists.now in
    let given = c.report_of-made.ensures.value in
    IfSome_then c.answer_made.result c.answer_made.ensures.stops (λ answer refused stops before clean stands.
    let now = refused stops before clean stands in (
      now.0,
      now.1,
      now.2,
      inr (
        now.3.0,
        subst (λ invocation. InvokesAs may_read invocation now.3.0) (sym c.in-Report.is) (made-command (MayReadReport may_read c.in-Report.arch c.in-Report.file) c.report_of-made.result now.3.0 given now.3.1),
        now.3.2,
      ),
    ))
