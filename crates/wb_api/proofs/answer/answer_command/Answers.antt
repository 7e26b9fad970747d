-- A reply that finds no memory is to an accepted command, or repeats an assignment and changed nothing.
use Rattle.std.proofs.Common.{◌∙◌, Err, ap, inr, inl, refl, subst, sym}
use Rattle.wb_step.proofs.OfficeLemmas.{reply-accepted, step-repeats}
use Rattle.wb_step.specs.Offices.{InDoubt, Open}
use Rattle.wb_step.specs.Step.{step}
use Rattle.wb_api.specs.Encoding.{reply_text}
use Rattle.wb_api.specs.Exchange.{IsCommandAnswer, over_http, response_of_answer}
use Rattle.wb_api.proofs.ExchangeLemmas.{memory-answered, refusal-answered, refusal-leads_on, repeat-answered, reply-answered, store-shuts}
use Rattle.wb_api.proofs.ResponseLemmas.{said-as}
use Rattle.wb_api.proofs.answer.answer_command.Goals as goal

pub returns-in-Ok-reply_json-clause-value : goal.returns-in-Ok-reply_json-clause-value
returns-in-Ok-reply_json-clause-value g c = λ before clean stands.
    let done = c.in-Ok.ensures.reply before clean stands in (
      (step before c.args.command.now).1,
      Open,
      done.1,
      (
        reply-answered before c.args.command.now c.in-Ok.reply _ done.0
            (c.in-Ok-reply_json.ensures.value ∙ ap (λ name. reply_text name c.in-Ok.reply) c.name.ensures.value),
        λ open_still. refl,
      ),
    )

pub returns-in-Err-reply_json-clause-value : goal.returns-in-Err-reply_json-clause-value
returns-in-Err-reply_json-clause-value g c = λ before clean stands.
    let done = c.in-Ok.ensures.reply before clean stands in
    let same = step-repeats before c.args.command.now (sym (c.accepted_count.ensures.value _ clean done.1)
    ∙ c.if-accepted_count-accepted.true
    ∙ c.accepted_count-accepted.ensures.value before (c.carry_out.ensures.clean clean) stands) in (
      before,
      Open,
      subst (λ machine. g.O.CarryOut.stands_at c.carry_out.new.self machine) same done.1,
      (
        repeat-answered before c.args.command.now c.in-Ok.reply _ done.0 same (c.memory_answer.ensures.value before),
        λ open_still. refl,
      ),
    )

pub returns-in-Ok-clause-memory : goal.returns-in-Ok-clause-memory
returns-in-Ok-clause-memory g c = λ _ before clean stands.
    let done = c.in-Ok.ensures.reply before clean stands in (
      (step before c.args.command.now).1,
      done.1,
      reply-accepted before c.args.command.now c.in-Ok.reply done.0
          (λ same. c.if-accepted_count-accepted.false (c.accepted_count.ensures.value _ clean done.1
          ∙ same
          ∙ sym (c.accepted_count-accepted.ensures.value before (c.carry_out.ensures.clean clean) stands))),
    )

pub returns-clause-value : goal.returns-clause-value
returns-clause-value g c =
    let said = c.refusal_answer.ensures.value in
    let response = response_of_answer c.refusal_answer.result in
    let e = c.in-Err.ensures in
    refusal-leads_on g.O.CarryOut.is_clean g.O.CarryOut.is_closed g.O.CarryOut.stands_at g.O.CarryOut.leaves c.args.office.now c.carry_out.new.self
    (λ before after standing. IsCommandAnswer before c.args.command.now (response after) standing) c.in-Err.refusal
    (store-shuts g.O.CarryOut.is_closed c.args.office.now c.carry_out.new.self c.in-Err.refusal (λ was. (e.shut was).1) e.stands)
    (λ before clean stands is. (e.closed before clean stands (ap Err is), inr (inl (said-as over_http before (response before) is (said before), refl))))
    (λ before clean stands fault is. (
      InDoubt c.args.command.now fault,
      e.store before clean stands fault (ap Err is),
      inr (inr (fault, said-as over_http before (response before) is (said before), refl)),
    ))
    (λ before clean stands is. let wants = e.memory before clean stands (ap Err is) in
    (wants.1, memory-answered before c.args.command.now (response before) wants.0 (said-as over_http before (response before) is (said before))))
    (λ before clean stands machine other. let refused = e.refused before clean stands machine other in
    (refused.1, refusal-answered before c.args.command.now c.in-Err.refusal (response before) refused.0 (said before)))
