use Rattle.wb_store.proofs.merge_tables.WritingMergeTables.clear_binaries.Goals as goal

pub returns-clause-clears : goal.returns-clause-clears
returns-clause-clears g c = rw (← c.store.view_is) c.clear_binaries.ensures.clears
