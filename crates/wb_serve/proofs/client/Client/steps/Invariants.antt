-- No answer came in the steps so far.
use Rattle.wb_serve.specs.Connections.{given_of}
use Rattle.wb_serve.specs.Places.{IsNotGiven}
use Rattle.wb_serve.proofs.client.Client.steps.Given as goal

abbrev pub invariant-loop : goal.invariant-loop
invariant-loop l = IsNotGiven (given_of l.initial.self.connection) (given_of l.self.connection)
