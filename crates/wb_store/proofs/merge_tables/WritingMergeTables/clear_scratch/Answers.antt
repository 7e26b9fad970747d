use Rattle.std.proofs.Common.{sym, subst}
use Rattle.wb_states.specs.declared.store_fault.Table.TheVariants.{ScratchBinary}
use Rattle.wb_store.specs.Merging.{no_merge}
use Rattle.wb_store.specs.ScratchWrites.{ClearsScratch}
use Rattle.wb_store.proofs.ClearLemmas.{clears_failed, clears_then}
use Rattle.wb_store.proofs.ReadLemmas.{handed_on}
use Rattle.wb_store.proofs.merge_tables.WritingMergeTables.clear_scratch.Goals as goal

pub returns-in_err-clear_binaries-clause-clears : goal.returns-in_err-clear_binaries-clause-clears
returns-in_err-clear_binaries-clause-clears g c =
    rw (← c.store.view_is) (subst (λ r. ClearsScratch g.S.Store ScratchBinary (λ _. no_merge) c.store.inside.conn
    c.clear_binaries.new.conn r) (sym (handed_on c.from_residual.result c.from_residual.ensures.1))
    (clears_failed g.S.Store c.in_err-clear_binaries.ensures.clears))

pub returns-clause-clears : goal.returns-clause-clears
returns-clause-clears g c = rw (← c.store.view_is)
    (clears_then g.S.Store _ _ c.in_ok-clear_binaries.ensures.clears c.clear_sources.ensures.clears)
