-- What is answered to the command that was made, or to a file at fault, or that there is no memory.
use Rattle.std.proofs.Common.{◌≡◌, ◌∙◌, Ok, false, ap, subst, sym, IfSome}
use Rattle.std.proofs.lemmas.Option.{IfSome_then}
use Rattle.wb_step.specs.Offices.{Reaches}
use Rattle.wb_daemon.specs.Turn.{response_of_answer, IsMadeResponse}
use Rattle.wb_daemon.proofs.answer.answer_made.Goals as goal

pub returns-in-Ok-Some-clause-value : goal.returns-in-Ok-Some-clause-value
returns-in-Ok-Some-clause-value g c =
    subst (λ made. IfSome c.answer_to.result (λ answer. answer.stops ≡ false
    → Reaches g.O.CarryOut.is_clean g.O.CarryOut.stands_at c.args.office.now c.answer_to.new.office (λ before after.
    IsMadeResponse made before (response_of_answer answer after)))) (sym (c.in-Ok-Some.is ∙ ap Ok c.in-Ok-Some.field-0-is)) c.answer_to.ensures.value

pub returns-in-Ok-Some-clause-memory : goal.returns-in-Ok-Some-clause-memory
returns-in-Ok-Some-clause-memory g c = λ e before clean stands.
    let now = c.answer_to.ensures.memory e before clean stands in
    (now.0, now.1, (c.in-Ok-Some.command, c.in-Ok-Some.is ∙ ap Ok c.in-Ok-Some.field-0-is, now.2))

pub returns-in-Ok-Some-clause-stops : goal.returns-in-Ok-Some-clause-stops
returns-in-Ok-Some-clause-stops g c =
    IfSome_then c.answer_to.result c.answer_to.ensures.stops (λ answer refused stops before clean stands.
    let now = refused stops before clean stands in
    (now.0, now.1, now.2, (c.in-Ok-Some.command, c.in-Ok-Some.is ∙ ap Ok c.in-Ok-Some.field-0-is, now.3)))

pub returns-in-Ok-None-clause-value : goal.returns-in-Ok-None-clause-value
returns-in-Ok-None-clause-value g c = λ _ before clean stands. (
  before,
  stands,
  subst (λ made. IsMadeResponse made before (response_of_answer c.file_answer.result before)) (sym (c.in-Ok-None.is ∙ ap Ok c.in-Ok-None.field-0-is))
      (c.file_answer.ensures.value before),
)

pub returns-in-Err-clause-value : goal.returns-in-Err-clause-value
returns-in-Err-clause-value g c = λ _ before clean stands. (
  before,
  stands,
  subst (λ made. IsMadeResponse made before (response_of_answer c.memory_answer.result before)) (sym c.in-Err.is) (c.memory_answer.ensures.value before),
)
