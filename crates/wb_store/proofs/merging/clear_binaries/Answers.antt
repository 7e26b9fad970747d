use Rattle.std.proofs.Common.{refl, sym, subst}
use Rattle.wb_states.specs.declared.store_fault.Table.TheVariants.{ScratchBinary}
use Rattle.wb_store.specs.Merging.{without_binaries}
use Rattle.wb_store.specs.ScratchWrites as write
use Rattle.wb_store.specs.ScratchWrites.{ClearsScratch}
use Rattle.wb_store.proofs.ClearLemmas.{one_write, write_failed, write_then}
use Rattle.wb_store.proofs.ReadLemmas.{handed_on}
use Rattle.wb_store.proofs.merging.clear_binaries.Goals as goal

pub returns-in_err-remove_binaries : goal.returns-in_err-remove_binaries
returns-in_err-remove_binaries g c = record {
  clears = subst (λ r. ClearsScratch g.S.Store ScratchBinary without_binaries c.args.conn.now c.remove_binaries.new.conn r) (sym (handed_on c.from_residual.result c.from_residual.ensures.1))
      (c.loop-piece.invariant.rest _ _ (write_failed g.S.Store (write.RemovesBinaries _) c.in_err-remove_binaries.ensures.changes));
}

pub loop-piece-preserved : goal.loop-piece-preserved
loop-piece-preserved g c = record {
  rest = λ new r later. c.loop-piece.invariant.rest new r (write_then g.S.Store (write.RemovesBinaries _) _ r (λ scratch. tt) (λ scratch. refl) c.in_ok-remove_binaries.ensures.changes later);
}

pub returns : goal.returns
returns g c = record { clears = c.loop-piece.invariant.rest _ _ (one_write g.S.Store write.ClearsBinaries _ (λ scratch. tt) (λ scratch. refl) c.empty_binaries.ensures.changes) }
