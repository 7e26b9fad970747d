-- No answer came so far.
use Rattle.wb_serve.specs.Places.{AreNotGiven}
use Rattle.wb_serve.proofs.sockets.Sockets.accept.Given as goal

abbrev pub invariant-loop : goal.invariant-loop
invariant-loop l = AreNotGiven l.initial.self.places.items l.self.places.items
