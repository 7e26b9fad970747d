-- What a status of 200 says follows from what the exchange did.
use Rattle.std.proofs.Common.{IfSome, subst}
use Rattle.wb_api.proofs.LawLemmas.{head_decides}
use Rattle.wb_api.specs.Requests.{Answers, MeansWith}
use Rattle.wb_api.specs.declared.request.Request.TheVariants as request
use Rattle.wb_step.specs.Offices.{Stands}
use Rattle.wb_api.proofs.AcknowledgedLemmas.{exchange-done}
use Rattle.wb_api.proofs.lists_exchange.serve_with_lists.Goals as goal

pub returns-clause-acknowledged : goal.returns-clause-acknowledged
returns-clause-acknowledged g c = λ before input shown command clean stands known asks tells.
    let served = c.exchange.ensures.value in
    let means = subst (λ bytes. IfSome bytes (λ all. MeansWith c.args.service.now all served.0)) known served.1.value in
    let decided = head_decides c.args.service.now input asks.0 asks.1 served.0 asks.2 means in
    let answers = subst (λ what. Answers what served.0) asks.3 decided in
    let did = served.4 before clean stands in
    let done = exchange-done c.args.service.now.access (g.L.Lists.may_read c.args.lists.now) served.0 before did.0 did.1 _ _ c.exchange.result
    (request.Command command) did.3.0 answers tells in
    let open_still = subst (λ standing. Stands g.O.CarryOut.is_closed g.O.CarryOut.stands_at g.O.CarryOut.leaves
    c.exchange.new.office did.0 standing) done.2 did.2 in
    (done.0, subst (λ machine. g.O.CarryOut.stands_at c.exchange.new.office machine) done.1 open_still)

pub returns-clause-merged : goal.returns-clause-merged
returns-clause-merged g c = λ before input shown names clean stands known asks tells.
    let served = c.exchange.ensures.value in
    let means = subst (λ bytes. IfSome bytes (λ all. MeansWith c.args.service.now all served.0)) known served.1.value in
    let decided = head_decides c.args.service.now input asks.0 asks.1 served.0 asks.2 means in
    let answers = subst (λ what. Answers what served.0) asks.3 decided in
    let did = served.4 before clean stands in
    let done = exchange-done c.args.service.now.access (g.L.Lists.may_read c.args.lists.now) served.0 before did.0 did.1 _ _ c.exchange.result
    (request.Merge names) did.3.0 answers tells in
    let open_still = subst (λ standing. Stands g.O.CarryOut.is_closed g.O.CarryOut.stands_at g.O.CarryOut.leaves
    c.exchange.new.office did.0 standing) done.2.2 did.2 in (
      done.0,
      done.1,
      done.2.0,
      subst (λ machine. g.O.CarryOut.stands_at c.exchange.new.office machine) done.2.1
          open_still,
    )

pub returns-clause-value : goal.returns-clause-value
returns-clause-value g c = c.exchange.ensures.value
