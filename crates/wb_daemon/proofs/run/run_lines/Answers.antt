-- A run may end with a file fault, and one that stopped did so for a cause.
use Rattle.std.proofs.Common.{inl, inr, subst, sym, arith}
use Rattle.wb_step.specs.Offices.{IsSoOfEach, Stands}
use Rattle.wb_daemon.specs.Replays.{LeavesReplay}
use Rattle.wb_daemon.specs.Run.{RunEndsWell}
use Rattle.wb_daemon.proofs.ReplayedLemmas.{EndsInput-leaves, RunStopsFor-leaves}
use Rattle.wb_daemon.proofs.run.run_lines.Goals as goal

pub returns-in-Ended : goal.returns-in-Ended
returns-in-Ended g c = record {
  status = c.in-Ended.ensures.status;
  value = λ _ before clean stands.
      let ran = c.in-Ended.ensures.value before clean stands in (
        ran.0,
        subst (λ standing. Stands g.O.CarryOut.is_closed g.O.CarryOut.stands_at g.O.CarryOut.leaves c.run_in_room.new.office ran.0 standing) ran.3.1 ran.2,
        (ran.3.0, c.in-Ended.ensures.failed),
      );
  err = λ e before clean stands.
      let ran = c.in-Ended.ensures.value before clean stands in (
        ran.0,
        ran.1,
        ran.2,
        inl (
          subst (λ status. RunEndsWell (g.L.Lists.may_read c.args.lists.now) c.args.reader.now c.run_in_room.new.reader c.args.writer.now
              c.run_in_room.new.writer before ran.0 status) e (ran.3.0, c.in-Ended.ensures.failed),
          ran.3.1,
        ),
      );
  replay = λ before clean stands.
      let ran = c.in-Ended.ensures.value before clean stands in (
        ran.0,
        ran.1,
        ran.2,
        subst (λ standing. IsSoOfEach (LeavesReplay (g.L.Lists.may_read c.args.lists.now) before) ran.0 standing) (sym ran.3.1)
            (EndsInput-leaves (g.L.Lists.may_read c.args.lists.now) c.args.reader.now.bytes c.args.writer.now.bytes
            c.run_in_room.new.writer.bytes before ran.0 c.in-Ended.status ran.3.0),
      );
  clean = c.run_in_room.ensures.clean;
}

pub returns-in-Stopped : goal.returns-in-Stopped
returns-in-Stopped g c = record {
  status = omega arith;
  value = λ small. absurd (omega (arith, small));
  err = λ _ before clean stands.
      let ran = c.in-Stopped.ensures.value before clean stands in
      (ran.0, ran.1, ran.2, inr (c.in-Stopped.cause, ran.3, c.in-Stopped.ensures.failed));
  replay = λ before clean stands.
      let ran = c.in-Stopped.ensures.value before clean stands in (
        ran.0,
        ran.1,
        ran.2,
        RunStopsFor-leaves (g.L.Lists.may_read c.args.lists.now) c.in-Stopped.cause c.args.reader.now.bytes c.run_in_room.new.reader.bytes
            c.args.writer.now.bytes c.run_in_room.new.writer.bytes before ran.0 ran.1 ran.3,
      );
  clean = c.run_in_room.ensures.clean;
}
