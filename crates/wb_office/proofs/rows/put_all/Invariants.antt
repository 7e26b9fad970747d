-- What is left to be written, and that it makes the whole.
use Rattle.std.proofs.Common.{◌≡◌, Result, drop}
use Rattle.std.proofs.Common.{map as each}
use Rattle.sqlite.specs.Held.{Held}
use Rattle.wb_states.specs.declared.store_fault.StoreFault.{StoreFault}
use Rattle.wb_states.specs.Lookups.{entry_of}
use Rattle.wb_merge.specs.Reported.{with_rows}
use Rattle.wb_office.specs.RowWrites.{HasTakeOverLimit, PutsOne}
use Rattle.wb_office.specs.Turns.{ChangesInTurn}
use Rattle.wb_office.proofs.rows.put_all.Given as goal

abbrev pub invariant-loop-row : goal.invariant-loop-row
invariant-loop-row g l = record {
  same_reference : l.writing.store.ghost_name ≡ l.fn.writing.store.ghost_name;
  rest : (new : Held g.row.S.Denot) (r : Result (Unit {0}) StoreFault)
      → ChangesInTurn g.S.Store (PutsOne (each entry_of l.rows)) (HasTakeOverLimit (each entry_of l.rows)) (λ machine. record machine { records = with_rows machine.records (each entry_of (drop l.row-index l.rows)) }) l.writing.store.now new r
      → ChangesInTurn g.S.Store (PutsOne (each entry_of l.rows)) (HasTakeOverLimit (each entry_of l.rows)) (λ machine. record machine { records = with_rows machine.records (each entry_of l.rows) }) l.fn.writing.store.now new r;
}
