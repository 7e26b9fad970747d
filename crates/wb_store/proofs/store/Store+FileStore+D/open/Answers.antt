use Rattle.wb_store.proofs.«store».«Store+FileStore+D».open.Goals as goal

pub returns-in-Err-clause-refused : goal.returns-in-Err-clause-refused
returns-in-Err-clause-refused g c = (c.in-Err.refused.files, c.in-Err.ensures.refused)
