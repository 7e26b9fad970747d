-- What was written of what is said to what was read.
use Rattle.std.proofs.Common.{◌≡◌, true, false, inl, inr, sym, refl, subst}
use Rattle.wb_step.specs.Offices.{Leads, Open}
use Rattle.wb_daemon.specs.Run.{IsResponse}
use Rattle.wb_daemon.specs.Turn.{AnswersInPart, response_of_answer}
use Rattle.wb_daemon.proofs.AnswerLemmas.{written-err, written-ok}
use Rattle.wb_daemon.proofs.run.answer_words.Goals as goal

pub returns-in-Some-clause-value : goal.returns-in-Some-clause-value
returns-in-Some-clause-value g c =
    written-ok _ c.in-Some.answer _ _ c.write_answer.result c.write_answer.ensures.value (λ status h asked read before clean stands.
    let now = c.in-Some.ensures.value asked read h.1 before clean stands in
    let response = response_of_answer c.in-Some.answer now.0 in (
      now.0,
      now.1,
      (
        response.text,
        subst (λ s. IsResponse (g.L.Lists.may_read c.args.lists.now) before asked (record { text = response.text; machine = now.0; status = s }))
            (sym h.0) now.2,
        h.2,
      ),
    ))

pub returns-in-Some-clause-err : goal.returns-in-Some-clause-err
returns-in-Some-clause-err g c =
    written-err _ c.in-Some.answer _ _ c.write_answer.result c.write_answer.ensures.value
    (λ front asked read. (elim (c.in-Some.answer.stops) as (λ b. c.in-Some.answer.stops ≡ b
    → Leads g.O.CarryOut.is_clean g.O.CarryOut.is_closed g.O.CarryOut.stands_at g.O.CarryOut.leaves c.args.office.now c.answer_read.new.office
    (λ before after standing. AnswersInPart (g.L.Lists.may_read c.args.lists.now) asked before after standing c.args.writer.now.bytes
    c.write_answer.new.writer.bytes)) [
      | true ↦ λ stops before clean stands.
          let now = c.in-Some.ensures.stops asked read stops before clean stands in
          (now.0, now.1, now.2, (response_of_answer c.in-Some.answer now.0, inr now.3, refl, front))
      | false ↦ λ goes before clean stands.
          let now = c.in-Some.ensures.value asked read goes before clean stands in
          (now.0, Open, now.1, (response_of_answer c.in-Some.answer now.0, inl (now.2, refl), refl, front))
    ]) refl)
    (λ h asked read before clean stands.
    let now = c.in-Some.ensures.stops asked read h.0 before clean stands in
    (now.0, now.1, now.2, (response_of_answer c.in-Some.answer now.0, now.3, refl, h.1)))

pub returns-in-None-clause-err : goal.returns-in-None-clause-err
returns-in-None-clause-err g c = λ asked read before clean stands.
    let now = c.answer_read.ensures.memory asked read c.in-None.is before clean stands in
    (now.0, Open, now.1, ((now.2.0, now.2.1, now.2.2, refl), refl))
