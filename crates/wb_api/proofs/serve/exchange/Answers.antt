-- What was received is what the input means, and it was answered.
use Rattle.std.proofs.Common.{ap, refl, subst, sym, ◌∙◌}
use Rattle.std.proofs.lemmas.Bool.{false≢true}
use Rattle.wb_api.specs.declared.request.Received.TheVariants as received
use Rattle.wb_keys.specs.Access.{everybody}
use Rattle.wb_lists.specs.Lists.{no_lists}
use Rattle.wb_step.specs.Offices.{Open}
use Rattle.wb_streams.specs.Streams.{Flags, Stream}
use Rattle.wb_api.specs.Exchange.{AsksFor, Exchanges, LeadsOn, ReceivesWith, fails_to_write}
use Rattle.wb_api.proofs.ExchangeLemmas.{unasked-exchanges}
use Rattle.wb_api.proofs.RespondLemmas.{everybody-found, found-more, found-responds}
use Rattle.wb_api.proofs.RightLemmas.{everybody-allowed}
use Rattle.wb_api.proofs.serve.exchange.Goals as goal

pub returns-in-Ok-clause-value : goal.returns-in-Ok-clause-value
returns-in-Ok-clause-value g c =
    let came = c.in-Ok.ensures.value in (
      received.Asked c.in-Ok.asked.shown c.in-Ok.asked.request,
      subst (ReceivesWith c.args.service.now c.args.reader.now c.receive.new.reader) came.2.0 came.1,
      λ e. absurd (false≢true (sym e)),
      subst (λ (writer : Stream). LeadsOn g.O.CarryOut.is_clean g.O.CarryOut.is_closed g.O.CarryOut.stands_at
          g.O.CarryOut.leaves
          c.args.office.now c.answer_request.new.office (λ before after standing.
          Exchanges (received.Asked c.in-Ok.asked.shown c.in-Ok.asked.request) before after standing
          writer.bytes c.respond.new.writer.bytes c.respond.result))
          came.2.1 (found-responds everybody no_lists c.in-Ok.asked.shown c.in-Ok.asked.request
          g.O.CarryOut.is_clean g.O.CarryOut.is_closed g.O.CarryOut.stands_at g.O.CarryOut.leaves
          c.args.office.now c.answer_request.new.office c.answer_request.result _ _ c.respond.result
          (found-more _ _ c.answer_request.result (everybody-found g.O.CarryOut.is_clean g.O.CarryOut.is_closed
          g.O.CarryOut.stands_at g.O.CarryOut.leaves c.args.office.now c.answer_request.new.office
          c.in-Ok.asked.shown c.in-Ok.asked.request) c.answer_request.ensures.value)
          (λ none before clean stands.
          let done = c.answer_request.ensures.memory none before clean stands in
          let asks = subst (λ asked. AsksFor no_lists asked done.2.0) (sym done.2.1) refl in (
            done.0,
            done.1,
            (everybody-allowed c.in-Ok.asked.shown before c.in-Ok.asked.request, done.2.0, asks, done.2.2),
          ))
          c.respond.ensures.value),
    )

pub returns-in-Ok-clause-silent : goal.returns-in-Ok-clause-silent
returns-in-Ok-clause-silent g c = λ silent. c.respond.ensures.silent silent
    ∙ ap (λ (writer : Stream). writer.bytes) c.in-Ok.ensures.value.2.1

pub returns-in-Ok-clause-failed : goal.returns-in-Ok-clause-failed
returns-in-Ok-clause-failed g c =
    subst (λ (writer : Stream). Flags (fails_to_write c.respond.result) writer c.respond.new.writer)
    c.in-Ok.ensures.value.2.1 c.respond.ensures.failed

pub returns-in-Err-clause-value : goal.returns-in-Err-clause-value
returns-in-Err-clause-value g c =
    let came = c.in-Err.ensures.value in (
      came.0,
      came.1,
      λ _. refl,
      λ before clean stands. (
        before,
        Open,
        stands,
        (
          unasked-exchanges everybody no_lists came.0 before _ _ c.in-Err.served (came.2 before),
          λ open_still. refl,
        ),
      ),
    )
