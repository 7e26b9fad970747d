-- Each line that was read was answered, and no read or write failed.
use Rattle.std.proofs.Common.{◌≤◌, None}
use Rattle.wb_lists.specs.Lists.{MayReadLess}
use Rattle.wb_step.specs.Offices.{Reaches}
use Rattle.wb_daemon.specs.Run.{FailsFor}
use Rattle.wb_daemon.proofs.RunLemmas.{SoFar}
use Rattle.wb_daemon.proofs.run.run_within.Given as goal

abbrev pub invariant-lines : goal.invariant-lines
invariant-lines g l = record {
  clean : g.O.CarryOut.is_clean l.office → g.O.CarryOut.is_clean l.initial.office;
  small : l.greatest ≤ 3;
  kept : MayReadLess (g.L.Lists.may_read l.initial.lists) (g.L.Lists.may_read l.lists);
  failed : FailsFor None l.initial.reader l.reader l.initial.writer l.writer;
  far : Reaches g.O.CarryOut.is_clean g.O.CarryOut.stands_at l.initial.office l.office (λ before after.
      SoFar (g.L.Lists.may_read l.initial.lists) l.initial.reader.bytes l.reader.bytes
      l.initial.writer.bytes l.writer.bytes before after l.greatest l.count);
}
