-- What was answered so far are exchanges.
use Rattle.wb_serve.specs.Exchanges.{AnswersAll}
use Rattle.wb_serve.proofs.clients.answer_late.Given as goal

abbrev pub invariant-loop-place : goal.invariant-loop-place
invariant-loop-place g l =
    AnswersAll l.service g.L.Lists.may_read g.O.CarryOut.is_clean g.O.CarryOut.is_closed g.O.CarryOut.stands_at
    g.O.CarryOut.leaves (g.C.Clients.answered l.initial.clients) (g.C.Clients.answered l.clients)
    (record { office = l.initial.office; lists = l.initial.lists }) (record { office = l.office; lists = l.lists })
