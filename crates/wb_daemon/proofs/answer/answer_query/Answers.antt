-- What was found is said, or the refusal; the office is as it was, also if there is no memory for the text.
use Rattle.std.proofs.Common.{◌∙◌, sym}
use Rattle.wb_step.specs.Offices.{Stands}
use Rattle.wb_daemon.specs.Turn.{response_of_answer}
use Rattle.wb_daemon.proofs.AnswerLemmas.{found-refused, found-said}
use Rattle.wb_daemon.proofs.answer.answer_query.Goals as goal

pub returns-clause-value : goal.returns-clause-value
returns-clause-value g c = λ goes before clean stands.
    let e = c.ask-found.ensures in
    let said = found-said before c.args.query.now (g.O.CarryOut.stands_at c.ask-found.new.self) c.ask-found.result (response_of_answer c.found_answer.result before)
    (c.found_answer.ensures.value before) (sym c.found_answer.ensures.stops ∙ goes)
    (e.answer before clean stands) (e.refused before clean stands) (e.memory before clean stands) in
    (before, said.0, said.1)

pub returns-clause-stops : goal.returns-clause-stops
returns-clause-stops g c = λ stops before clean stands.
    let e = c.ask-found.ensures in
    let said = found-refused before
    (Stands g.O.CarryOut.is_closed g.O.CarryOut.stands_at g.O.CarryOut.leaves c.ask-found.new.self before) c.ask-found.result
    (response_of_answer c.found_answer.result before) (c.found_answer.ensures.value before) (sym c.found_answer.ensures.stops ∙ stops)
    (e.closed before clean stands) (e.store before clean stands) in
    (before, said.0, said.1.0, said.1.1)
