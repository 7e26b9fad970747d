-- What a status of 200 says follows from what the exchange did.
use Rattle.std.proofs.Common.{IfSome, subst}
use Rattle.wb_api.proofs.LawLemmas.{head_decides}
use Rattle.wb_keys.specs.Access.{everybody}
use Rattle.wb_api.specs.Exchange.{ReceivesWith}
use Rattle.wb_api.specs.Requests.{Answers, Means, plain}
use Rattle.wb_api.specs.declared.request.Request.TheVariants as request
use Rattle.wb_lists.specs.Lists.{no_lists}
use Rattle.wb_step.specs.Offices.{Stands}
use Rattle.wb_api.proofs.AcknowledgedLemmas.{exchange-done}
use Rattle.wb_api.proofs.serve.serve_one.Goals as goal

pub returns-clause-acknowledged : goal.returns-clause-acknowledged
returns-clause-acknowledged g c = λ before input shown command clean stands known asks tells.
    let served = c.exchange.ensures.value in
    let received = subst (λ service. ReceivesWith service c.args.reader.now c.exchange.new.reader served.0)
    c.plain-service.ensures.value served.1 in
    let means = subst (λ bytes. IfSome bytes (λ all. Means all served.0)) known received.value in
    let decided = head_decides plain input asks.0 asks.1 served.0 asks.2 means in
    let answers = subst (λ what. Answers what served.0) asks.3 decided in
    let did = served.3 before clean stands in
    let done = exchange-done everybody no_lists served.0 before did.0 did.1 _ _ c.exchange.result
    (request.Command command) did.3.0 answers tells in
    let open_still = subst (λ standing. Stands g.O.CarryOut.is_closed g.O.CarryOut.stands_at g.O.CarryOut.leaves
    c.exchange.new.office did.0 standing) done.2 did.2 in
    (done.0, subst (λ machine. g.O.CarryOut.stands_at c.exchange.new.office machine) done.1 open_still)

pub returns-clause-value : goal.returns-clause-value
returns-clause-value g c =
    let served = c.exchange.ensures.value in (
      served.0,
      subst (λ service. ReceivesWith service c.args.reader.now c.exchange.new.reader served.0) c.plain-service.ensures.value
          served.1,
      served.2,
      λ before clean stands. let did = served.3 before clean stands in (did.0, did.1, did.2, did.3.0),
    )

pub returns-clause-goes_on : goal.returns-clause-goes_on
returns-clause-goes_on g c =
    let served = c.exchange.ensures.value in (
      served.0,
      subst (λ service. ReceivesWith service c.args.reader.now c.exchange.new.reader served.0) c.plain-service.ensures.value
          served.1,
      served.2,
      served.3,
    )
