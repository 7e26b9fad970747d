-- No answer came so far.
use Rattle.wb_serve.specs.Places.{AreNotGiven}
use Rattle.wb_serve.proofs.sockets.wake_all.Given as goal

abbrev pub invariant-loop-event : goal.invariant-loop-event
invariant-loop-event l = AreNotGiven l.initial.places.items l.places.items
