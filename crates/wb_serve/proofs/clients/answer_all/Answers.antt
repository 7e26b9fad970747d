-- One more exchange of an office that is not closed, or none.
use Rattle.std.proofs.Common.{rules}
use Rattle.wb_serve.proofs.ExchangeLemmas.{AnswersWhile-then}
use Rattle.wb_serve.proofs.clients.answer_all.Goals as goal

pub loop-place-preserved : goal.loop-place-preserved
loop-place-preserved g c =
    let on : ¬ (g.O.CarryOut.is_closed c.loop-place.office) = search rules in
    AnswersWhile-then c.args.service.now g.L.Lists.may_read g.O.CarryOut.is_clean g.O.CarryOut.is_closed
    g.O.CarryOut.stands_at g.O.CarryOut.leaves (λ office. ¬ (g.O.CarryOut.is_closed office)) _ _ _ _ _ _
    c.loop-place.invariant on c.answer_place.ensures.value
