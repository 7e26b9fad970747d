-- The files can be used, there is room for what is left to be found, and what is left to be lived makes the whole.
use Rattle.std.proofs.Common.{◌≡◌, ◌≤◌, ◌+◌, ◌++◌, List, IsTrue, drop, length}
use Rattle.std.specs.Prelude.{vec_capacity, vec_len}
use Rattle.sqlite_disk.specs.declared.Files.{Files}
use Rattle.wb_office.specs.declared.history.Found.{Found}
use Rattle.wb_office.specs.History.{AreLivedInTurn}
use Rattle.wb_office.proofs.history.live_all.Given as goal

abbrev pub invariant-loop-commands : goal.invariant-loop-commands
invariant-loop-commands g l = record {
  log : IsTrue (g.D.Disk.is_usable l.current.log);
  db : IsTrue (g.D.Disk.is_usable l.current.db);
  room : vec_len l.found + length l.lives ≤ vec_capacity l.found + l.commands-index;
  cuts : g.P.Power.cuts_left l.fn.power ≡ g.P.Power.cuts_left l.power + l.commands-index;
  count : length l.found.items ≡ l.commands-index;
  rest : (more : List Found) (back : Files g.row.D.Denot) (after : g.row.P.Denot)
      → AreLivedInTurn g.D.Disk g.P.Power.hands_back l.current l.power (drop l.commands-index l.lives) more back after
      → AreLivedInTurn g.D.Disk g.P.Power.hands_back l.fn.files l.fn.power l.lives (l.found.items ++ more) back after;
}
