-- No step gives a client an answer.
use Rattle.wb_serve.proofs.PlaceLemmas.{are_not_given-same, are_not_given-then}
use Rattle.wb_serve.proofs.sockets.Sockets.send.Goals as goal

pub returns : goal.returns
returns c = record {
  given = are_not_given-then c.args.self.now.places.items c.release.new.self.places.items
      c.settle.new.self.places.items c.release.ensures.given
      (are_not_given-then c.release.new.self.places.items c.note.new.self.places.items
      c.settle.new.self.places.items c.note.ensures.given
      (are_not_given-same c.note.new.self.places.items c.look_at_clock.new.self.places.items
      c.settle.new.self.places.items c.look_at_clock.ensures.places
      (are_not_given-then c.look_at_clock.new.self.places.items c.step-next.new.self.places.items
      c.settle.new.self.places.items c.step-next.ensures.given c.settle.ensures.given)));
}
