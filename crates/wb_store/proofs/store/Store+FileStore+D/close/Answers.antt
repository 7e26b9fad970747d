use Rattle.wb_store.proofs.«store».«Store+FileStore+D».close.Goals as goal

pub returns-in-Err-clause-err : goal.returns-in-Err-clause-err
returns-in-Err-clause-err g c = (c.in-Err.refused.files, c.in-Err.ensures.err)
