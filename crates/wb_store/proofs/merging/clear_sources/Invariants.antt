-- What is left to be removed, and that it clears the whole.
use Rattle.std.proofs.Common.{Result}
use Rattle.sqlite.specs.Held.{Held}
use Rattle.wb_states.specs.declared.store_fault.StoreFault.{StoreFault}
use Rattle.wb_states.specs.declared.store_fault.Table.TheVariants.{ScratchSource}
use Rattle.wb_store.specs.Merging.{without_sources}
use Rattle.wb_store.specs.ScratchWrites.{ClearsScratch}
use Rattle.wb_store.proofs.merging.clear_sources.Given as goal

abbrev pub invariant-loop-piece : goal.invariant-loop-piece
invariant-loop-piece g l = record {
  rest : (new : Held g.row.S.Denot) (r : Result (Unit {0}) StoreFault) → ClearsScratch g.S.Store ScratchSource without_sources l.conn new r → ClearsScratch g.S.Store ScratchSource without_sources l.fn.conn new r;
}
