-- A service ends while the office is open, or once it is closed and has answered those who wait.
use Rattle.std.proofs.Common.{◌∙◌, rules}
use Rattle.wb_serve.proofs.ExchangeLemmas.{AnswersWhile-after, AnswersWhile-kept, service-closes, service-ends}
use Rattle.wb_serve.proofs.clients.serve_clients.Goals as goal

pub returns-in-Renewed : goal.returns-in-Renewed
returns-in-Renewed g c = record {
  value = service-ends c.args.service.now g.L.Lists.may_read g.O.CarryOut.is_clean g.O.CarryOut.is_closed
      g.O.CarryOut.stands_at g.O.CarryOut.leaves _ _ _ _ _
      (AnswersWhile-kept c.args.service.now g.L.Lists.may_read g.O.CarryOut.is_clean g.O.CarryOut.is_closed
      g.O.CarryOut.stands_at g.O.CarryOut.leaves (λ office. ¬ (g.O.CarryOut.is_closed office)) _ _ _ _ _
      c.loop.invariant c.turn.ensures.answered) (λ e. cc);
}

pub returns-in-Done : goal.returns-in-Done
returns-in-Done g c = record {
  value = service-ends c.args.service.now g.L.Lists.may_read g.O.CarryOut.is_clean g.O.CarryOut.is_closed
      g.O.CarryOut.stands_at g.O.CarryOut.leaves _ _ _ _ _
      (AnswersWhile-kept c.args.service.now g.L.Lists.may_read g.O.CarryOut.is_clean g.O.CarryOut.is_closed
      g.O.CarryOut.stands_at g.O.CarryOut.leaves (λ office. ¬ (g.O.CarryOut.is_closed office)) _ _ _ _ _
      c.loop.invariant c.turn.ensures.answered) (λ e. cc);
}

pub returns-in-Stopped : goal.returns-in-Stopped
returns-in-Stopped g c = record {
  value = service-ends c.args.service.now g.L.Lists.may_read g.O.CarryOut.is_clean g.O.CarryOut.is_closed
      g.O.CarryOut.stands_at g.O.CarryOut.leaves _ _ _ _ _
      (AnswersWhile-kept c.args.service.now g.L.Lists.may_read g.O.CarryOut.is_clean g.O.CarryOut.is_closed
      g.O.CarryOut.stands_at g.O.CarryOut.leaves (λ office. ¬ (g.O.CarryOut.is_closed office)) _ _ _ _ _
      c.loop.invariant (c.finish.ensures.answered ∙ c.turn.ensures.answered)) (λ e. cc);
}

pub returns-then-closed : goal.returns-then-closed
returns-then-closed g c =
    let shut : g.O.CarryOut.is_closed c.answer_all.new.office = search rules in
    record {
      value = service-closes c.args.service.now g.L.Lists.may_read g.O.CarryOut.is_clean g.O.CarryOut.is_closed
          g.O.CarryOut.stands_at g.O.CarryOut.leaves _ _ _ _ _ _ _ _
          (AnswersWhile-after c.args.service.now g.L.Lists.may_read g.O.CarryOut.is_clean g.O.CarryOut.is_closed
          g.O.CarryOut.stands_at g.O.CarryOut.leaves (λ office. ¬ (g.O.CarryOut.is_closed office)) _ _ _ _ _ _
          (AnswersWhile-kept c.args.service.now g.L.Lists.may_read g.O.CarryOut.is_clean g.O.CarryOut.is_closed
          g.O.CarryOut.stands_at g.O.CarryOut.leaves (λ office. ¬ (g.O.CarryOut.is_closed office)) _ _ _ _ _
          c.loop.invariant c.turn.ensures.answered) c.answer_all.ensures.value)
          shut c.answer_late.ensures.value c.finish-then-closed.ensures.answered;
    }

pub loop-preserved : goal.loop-preserved
loop-preserved g c =
    AnswersWhile-after c.args.service.now g.L.Lists.may_read g.O.CarryOut.is_clean g.O.CarryOut.is_closed
    g.O.CarryOut.stands_at g.O.CarryOut.leaves (λ office. ¬ (g.O.CarryOut.is_closed office)) _ _ _ _ _ _
    (AnswersWhile-kept c.args.service.now g.L.Lists.may_read g.O.CarryOut.is_clean g.O.CarryOut.is_closed
    g.O.CarryOut.stands_at g.O.CarryOut.leaves (λ office. ¬ (g.O.CarryOut.is_closed office)) _ _ _ _ _
    c.loop.invariant c.turn.ensures.answered) c.answer_all.ensures.value

pub returns : goal.returns
returns g c = record {
  value = service-ends c.args.service.now g.L.Lists.may_read g.O.CarryOut.is_clean g.O.CarryOut.is_closed
      g.O.CarryOut.stands_at g.O.CarryOut.leaves _ _ _ _ _ c.loop.invariant (λ e. cc);
}
