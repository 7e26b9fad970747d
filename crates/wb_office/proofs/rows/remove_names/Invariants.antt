-- What is left to be taken out, and that it makes the whole.
use Rattle.std.proofs.Common.{◌≡◌, List, Result, drop}
use Rattle.sqlite.specs.Held.{Held}
use Rattle.wb_states.specs.declared.store_fault.StoreFault.{StoreFault}
use Rattle.wb_states.specs.Machine.{Key}
use Rattle.wb_office.specs.RowWrites.{TakesOut}
use Rattle.wb_office.specs.Turns.{ChangesInTurn}
use Rattle.wb_office.proofs.WrittenRowLemmas.{lacking}
use Rattle.wb_office.proofs.rows.remove_names.Given as goal

abbrev pub invariant-loop-name : goal.invariant-loop-name
invariant-loop-name g l = record {
  same_reference : l.writing.store.ghost_name ≡ l.fn.writing.store.ghost_name;
  rest : (pairs : List Key) (new : Held g.row.S.Denot) (r : Result (Unit {0}) StoreFault)
      → ChangesInTurn g.S.Store (TakesOut l.arch l.names pairs) (λ _. ⊥) (lacking l.arch (drop l.name-index l.names))
      l.writing.store.now new r
      → ChangesInTurn g.S.Store (TakesOut l.arch l.names pairs) (λ _. ⊥) (lacking l.arch l.names)
      l.fn.writing.store.now new r;
}
