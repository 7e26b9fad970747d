-- There is room for what is left, and that makes the whole.
use Rattle.std.proofs.Common.{◌+◌, ◌≤◌, ◌++◌, List, drop, length}
use Rattle.std.specs.Prelude.{vec_capacity, vec_len}
use Rattle.wb_office.specs.declared.office.Office.{Office}
use Rattle.wb_office.specs.Asked.{AreAsked, IsLedThrough}
use Rattle.wb_office.specs.Lives.{Outcome}
use Rattle.wb_office.proofs.commands.carry_out_all.Given as goal

abbrev pub invariant-loop-command : goal.invariant-loop-command
invariant-loop-command g l = record {
  room : vec_len l.outcomes + length l.commands ≤ vec_capacity l.outcomes + l.command-index;
  rest : (more : List Outcome) (new : Office g.row.S.Denot)
      → AreAsked g.S.Store (drop l.command-index l.commands) more l.office new
      → IsLedThrough g.S.Store l.commands l.fn.outcomes.items (l.outcomes.items ++ more) l.fn.office new;
}
