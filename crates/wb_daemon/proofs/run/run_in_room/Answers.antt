-- Without room for a line the run does not begin.
use Rattle.std.proofs.Common.{refl}
use Rattle.wb_step.specs.Offices.{Open}
use Rattle.wb_daemon.proofs.RunLemmas.{stops-at_once}
use Rattle.wb_daemon.proofs.run.run_in_room.Goals as goal

pub returns-in_default : goal.returns-in_default
returns-in_default g c = record {
  clean = λ h. h;
  status = tt;
  failed = (refl, refl);
  value = λ before clean stands.
      (before, Open, stands, stops-at_once (g.L.Lists.may_read c.args.lists.now) c.args.reader.now.bytes c.args.writer.now.bytes before);
}
