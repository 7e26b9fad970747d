-- More bytes were read than a list may have.
use Rattle.std.proofs.Common.{rules}
use Rattle.wb_daemon.proofs.ReportLemmas.{too_long}
use Rattle.wb_daemon.proofs.report.read_list.Goals as goal

pub returns : goal.returns
returns g c = record {
  value = too_long (g.L.List.Read.remaining c.args.list.now) (g.L.List.Read.remaining c.loop-room.list) c.loop-room.bytes.items
      (search rules) c.loop-room.invariant.taken;
}
