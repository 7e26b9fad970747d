-- What was found is said, or that there is no memory for it, or the refusal.
use Rattle.std.proofs.Common.{◌∙◌, Result, ap, inr, subst, sym}
use Rattle.std.specs.Cow.{cow_str_bytes}
use Rattle.wb_states.specs.declared.query.Answer.{Answer}
use Rattle.wb_states.specs.declared.refusal.Refusal.{Refusal}
use Rattle.wb_streams.specs.Line.{with_line_feed}
use Rattle.wb_api.specs.Responses.{IsFoundAnswer}
use Rattle.wb_daemon.specs.Run.{on_line}
use Rattle.wb_daemon.specs.Turn.{is_refused_by_store, response_of_answer}
use Rattle.wb_daemon.proofs.AnswerLemmas.{refusal-said}
use Rattle.wb_daemon.proofs.answer.found_answer.Goals as goal

pub returns-in-Ok-query_json-clause-stops : goal.returns-in-Ok-query_json-clause-stops
returns-in-Ok-query_json-clause-stops c = sym (ap (λ (found : Result Answer Refusal). is_refused_by_store found) c.in-Ok.is)

pub returns-in-Ok-clause-value : goal.returns-in-Ok-clause-value
returns-in-Ok-clause-value c = λ machine.
    subst (λ found. IsFoundAnswer on_line machine found (response_of_answer c.memory_answer.result machine)) (sym c.in-Ok.is)
    (inr (c.memory_answer.ensures.value machine))

pub returns-in-Ok-clause-stops : goal.returns-in-Ok-clause-stops
returns-in-Ok-clause-stops c =
    c.memory_answer.ensures.stops ∙ sym (ap (λ (found : Result Answer Refusal). is_refused_by_store found) c.in-Ok.is)

pub returns-clause-value : goal.returns-clause-value
returns-clause-value c = λ machine.
    subst (λ found. IsFoundAnswer on_line machine found (record { text = with_line_feed (cow_str_bytes c.refusal_json.result); machine = machine; status = 1 }))
    (sym c.in-Err.is)
    (refusal-said machine c.in-Err.refusal c.refusal_json.result c.refusal_json.ensures.value c.refusal_json.ensures.plain)

pub returns-clause-stops : goal.returns-clause-stops
returns-clause-stops c =
    c.is_of_store.ensures.value ∙ sym (ap (λ (found : Result Answer Refusal). is_refused_by_store found) c.in-Err.is)
