-- What is left to be taken out, and that it makes the whole.
use Rattle.std.proofs.Common.{◌≡◌, ℕ, List, Result, drop}
use Rattle.sqlite.specs.Held.{Held}
use Rattle.wb_states.specs.declared.store_fault.StoreFault.{StoreFault}
use Rattle.wb_office.specs.RowWrites.{TakesOut}
use Rattle.wb_office.specs.Turns.{ChangesInTurn}
use Rattle.wb_office.proofs.WrittenRowLemmas.{leaving}
use Rattle.wb_office.proofs.rows.remove_pairs.Given as goal

abbrev pub invariant-loop-pair : goal.invariant-loop-pair
invariant-loop-pair g l = record {
  same_reference : l.writing.store.ghost_name ≡ l.fn.writing.store.ghost_name;
  rest : (names : List (List ℕ)) (new : Held g.row.S.Denot) (r : Result (Unit {0}) StoreFault)
      → ChangesInTurn g.S.Store (TakesOut l.arch names l.pairs) (λ _. ⊥) (leaving l.arch (drop l.pair-index l.pairs))
      l.writing.store.now new r
      → ChangesInTurn g.S.Store (TakesOut l.arch names l.pairs) (λ _. ⊥) (leaving l.arch l.pairs) l.fn.writing.store.now
      new r;
}
