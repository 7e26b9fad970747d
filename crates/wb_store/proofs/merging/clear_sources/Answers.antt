use Rattle.std.proofs.Common.{refl, sym, subst}
use Rattle.wb_states.specs.declared.store_fault.Table.TheVariants.{ScratchSource}
use Rattle.wb_store.specs.Merging.{without_sources}
use Rattle.wb_store.specs.ScratchWrites as write
use Rattle.wb_store.specs.ScratchWrites.{ClearsScratch}
use Rattle.wb_store.proofs.ClearLemmas.{one_write, write_failed, write_then}
use Rattle.wb_store.proofs.ReadLemmas.{handed_on}
use Rattle.wb_store.proofs.merging.clear_sources.Goals as goal

pub returns-in_err-remove_sources : goal.returns-in_err-remove_sources
returns-in_err-remove_sources g c = record {
  clears = subst (λ r. ClearsScratch g.S.Store ScratchSource without_sources c.args.conn.now c.remove_sources.new.conn r) (sym (handed_on c.from_residual.result c.from_residual.ensures.1))
      (c.loop-piece.invariant.rest _ _ (write_failed g.S.Store (write.RemovesSources _) c.in_err-remove_sources.ensures.changes));
}

pub loop-piece-preserved : goal.loop-piece-preserved
loop-piece-preserved g c = record {
  rest = λ new r later. c.loop-piece.invariant.rest new r (write_then g.S.Store (write.RemovesSources _) _ r (λ scratch. tt) (λ scratch. refl) c.in_ok-remove_sources.ensures.changes later);
}

pub returns : goal.returns
returns g c = record { clears = c.loop-piece.invariant.rest _ _ (one_write g.S.Store write.ClearsSources _ (λ scratch. tt) (λ scratch. refl) c.empty_sources.ensures.changes) }
