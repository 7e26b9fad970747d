-- What was found is answered, or the refusal.
use Rattle.wb_api.specs.Exchange.{response_of_answer}
use Rattle.wb_api.proofs.ExchangeLemmas.{found-leads}
use Rattle.wb_api.proofs.ask.answer_query.Goals as goal

pub returns-clause-value : goal.returns-clause-value
returns-clause-value g c =
    let e = c.ask-found.ensures in
    found-leads g.O.CarryOut.is_clean g.O.CarryOut.is_closed g.O.CarryOut.stands_at g.O.CarryOut.leaves c.args.office.now c.ask-found.new.self
    c.args.query.now c.ask-found.result (response_of_answer c.found_answer.result) c.found_answer.ensures.value
    e.answer e.refused e.memory e.closed e.store (λ was. (e.shut was).1) e.stands
