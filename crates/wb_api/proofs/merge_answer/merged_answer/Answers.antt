-- What the office answered is told, or that there is no memory for a reply that was not counted, or for the refusal.
use Rattle.std.proofs.Common.{inr, subst, sym}
use Rattle.wb_api.specs.Exchange.{over_http, response_of_answer}
use Rattle.wb_api.specs.Responses.{TellsMerge}
use Rattle.wb_api.proofs.merge_answer.merged_answer.Goals as goal

pub returns-in-Ok-clause-value : goal.returns-in-Ok-clause-value
returns-in-Ok-clause-value c = λ machine.
    subst (λ answered. TellsMerge over_http c.args.is_counted answered machine
    (response_of_answer c.memory_answer.result machine)) (sym c.in-Ok.is)
    (inr (c.if-is_counted.false, c.memory_answer.ensures.value machine))

pub returns-clause-value : goal.returns-clause-value
returns-clause-value c = λ machine.
    subst (λ answered. TellsMerge over_http c.args.is_counted answered machine
    (response_of_answer c.refusal_answer.result machine)) (sym c.in-Err.is) (c.refusal_answer.ensures.value machine)
