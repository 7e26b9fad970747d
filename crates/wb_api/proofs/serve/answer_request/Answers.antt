-- What may be answered to what was asked may be answered to the request.
use Rattle.std.proofs.Common.{IfSome, inl, inr, refl, subst, sym}
use Rattle.wb_step.specs.Offices.{Open}
use Rattle.wb_api.specs.Exchange.{IsAnswer, LeadsOn, response_of_answer}
use Rattle.wb_api.proofs.serve.answer_request.Goals as goal

pub returns-in-Command-clause-value : goal.returns-in-Command-clause-value
returns-in-Command-clause-value g c =
    subst (λ asked. IfSome c.answer_command.result (λ answer.
    LeadsOn g.O.CarryOut.is_clean g.O.CarryOut.is_closed g.O.CarryOut.stands_at g.O.CarryOut.leaves c.args.office.now c.answer_command.new.office (λ before after standing.
    IsAnswer before asked (response_of_answer answer after) standing))) (sym c.in-Command.is) c.answer_command.ensures.value

pub returns-in-Command-clause-memory : goal.returns-in-Command-clause-memory
returns-in-Command-clause-memory g c = λ e before clean stands.
    let done = c.answer_command.ensures.memory e before clean stands in
    (done.0, done.1, (c.in-Command.command, c.in-Command.is, done.2))

pub returns-in-Query-clause-value : goal.returns-in-Query-clause-value
returns-in-Query-clause-value g c =
    subst (λ asked.
    LeadsOn g.O.CarryOut.is_clean g.O.CarryOut.is_closed g.O.CarryOut.stands_at g.O.CarryOut.leaves c.args.office.now c.answer_query.new.office (λ before after standing.
    IsAnswer before asked (response_of_answer c.answer_query.result after) standing)) (sym c.in-Query.is) c.answer_query.ensures.value

pub returns-in-Merge-clause-value : goal.returns-in-Merge-clause-value
returns-in-Merge-clause-value g c = λ before clean stands. (
  before,
  Open,
  stands,
  (
    subst (λ asked. IsAnswer before asked (response_of_answer c.fault_answer.result before) Open) (sym c.in-Merge.is)
        (inl (inr (inl (inl tt, c.fault_answer.ensures.value before)), refl)),
    λ open_still. refl,
  ),
)
