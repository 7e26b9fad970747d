-- The bytes so far are those that were read.
use Rattle.std.proofs.Common.{◌+◌, ◌-◌, length}
use Rattle.std.specs.Io.KnownBytes.{Consumes}
use Rattle.wb_daemon.specs.Reports.{list_limit}
use Rattle.wb_daemon.proofs.report.read_list.Given as goal

abbrev pub invariant-loop-room : goal.invariant-loop-room
invariant-loop-room g l = record {
  taken : Consumes (g.L.List.Read.remaining l.initial.list) (g.L.List.Read.remaining l.list) l.bytes.items;
  breaks : g.L.Lists.breaks l.list → g.L.Lists.breaks l.initial.list;
}

abbrev pub decreases-loop-room : goal.decreases-loop-room
decreases-loop-room g l = list_limit + 1 - length l.bytes.items
