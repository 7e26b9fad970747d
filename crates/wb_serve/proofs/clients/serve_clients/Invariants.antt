-- What was answered so far are exchanges of an office that was not closed before any of them.
use Rattle.wb_serve.specs.Exchanges.{ServesAll}
use Rattle.wb_serve.proofs.clients.serve_clients.Given as goal

abbrev pub invariant-loop : goal.invariant-loop
invariant-loop g l =
    ServesAll l.service g.L.Lists.may_read g.O.CarryOut.is_clean g.O.CarryOut.is_closed g.O.CarryOut.stands_at
    g.O.CarryOut.leaves (g.C.Clients.answered l.initial.clients) (g.C.Clients.answered l.clients)
    (record { office = l.initial.office; lists = l.initial.lists }) (record { office = l.office; lists = l.lists })
