-- One more exchange, or none.
use Rattle.std.specs.Prelude.{⊤}
use Rattle.wb_serve.proofs.ExchangeLemmas.{AnswersWhile-then}
use Rattle.wb_serve.proofs.clients.answer_late.Goals as goal

pub loop-place-preserved : goal.loop-place-preserved
loop-place-preserved g c =
    AnswersWhile-then c.args.service.now g.L.Lists.may_read g.O.CarryOut.is_clean g.O.CarryOut.is_closed
    g.O.CarryOut.stands_at g.O.CarryOut.leaves (λ office. ⊤) _ _ _ _ _ _
    c.loop-place.invariant tt c.answer_place.ensures.value
