-- What was found is answered, or that there is no memory for it, or the refusal.
use Rattle.std.proofs.Common.{inr, subst, sym}
use Rattle.wb_api.specs.Exchange.{over_http, response_of_answer}
use Rattle.wb_api.specs.Responses.{IsFoundAnswer}
use Rattle.wb_api.proofs.ask.found_answer.Goals as goal

pub returns-in-Ok : goal.returns-in-Ok
returns-in-Ok c = record {
  value = λ machine.
      subst (λ found. IsFoundAnswer over_http machine found (response_of_answer c.memory_answer.result machine)) (sym c.in-Ok.is)
      (inr (c.memory_answer.ensures.value machine));
}

pub returns : goal.returns
returns c = record {
  value = λ machine.
      subst (λ found. IsFoundAnswer over_http machine found (response_of_answer c.refusal_answer.result machine)) (sym c.in-Err.is)
      (c.refusal_answer.ensures.value machine);
}
