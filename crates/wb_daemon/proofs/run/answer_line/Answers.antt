-- What was written of what is said to the line.
use Rattle.std.proofs.Common.{◌∙◌, sym}
use Rattle.std.proofs.lemmas.Result.{IfErr-weaker, IfOk-weaker}
use Rattle.wb_daemon.specs.Run.{asked_by}
use Rattle.wb_daemon.proofs.AnswerLemmas.{Answers-more, IsReadAs-line, StopsAt-more, answers-blank}
use Rattle.wb_daemon.proofs.run.answer_line.Goals as goal

pub returns-then-is_blank_line-clause-value : goal.returns-then-is_blank_line-clause-value
returns-then-is_blank_line-clause-value g c = λ before clean stands. (
  before,
  stands,
  answers-blank (g.L.Lists.may_read c.args.lists.now) before c.args.line.now c.args.writer.now.bytes c.requires
      (sym c.is_blank_line.ensures ∙ c.if-is_blank_line.true),
)

pub returns-clause-value : goal.returns-clause-value
returns-clause-value g c =
    let old = g.L.Lists.may_read c.args.lists.now in
    let new = g.L.Lists.may_read c.report_fault.new.lists in
    let line = c.args.line.now in
    let read = c.invocation_of_line-read.ensures in
    let was = IsReadAs-line line c.invocation_of_line-read.result c.requires (sym c.is_blank_line.ensures ∙ c.if-is_blank_line.false)
    read.value read.refused read.memory in
    IfOk-weaker c.answer_words.result _ _ (λ status said before clean stands.
    let now = said (asked_by line) was before clean stands in
    (now.0, now.1, Answers-more old new c.report_fault.ensures.kept (asked_by line) before now.0 _ _ status now.2))
    c.answer_words.ensures.value

pub returns-clause-err : goal.returns-clause-err
returns-clause-err g c =
    let old = g.L.Lists.may_read c.args.lists.now in
    let new = g.L.Lists.may_read c.report_fault.new.lists in
    let line = c.args.line.now in
    let read = c.invocation_of_line-read.ensures in
    let was = IsReadAs-line line c.invocation_of_line-read.result c.requires (sym c.is_blank_line.ensures ∙ c.if-is_blank_line.false)
    read.value read.refused read.memory in
    IfErr-weaker c.answer_words.result _ _ (λ cause said before clean stands.
    let now = said (asked_by line) was before clean stands in
    (now.0, now.1, now.2, StopsAt-more old new c.report_fault.ensures.kept (asked_by line) before now.0 now.1 _ _ cause now.3))
    c.answer_words.ensures.err
