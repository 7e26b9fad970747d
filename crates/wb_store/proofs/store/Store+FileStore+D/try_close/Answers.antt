use Rattle.wb_store.proofs.«store».«Store+FileStore+D».try_close.Goals as goal

pub returns-clause-settled : goal.returns-clause-settled
returns-clause-settled g c = rw (← c.self.view_is) c.close.ensures.settled

pub returns-clause-either : goal.returns-clause-either
returns-clause-either g c = rw (← c.self.view_is) c.close.ensures.either

pub returns-clause-err : goal.returns-clause-err
returns-clause-err g c = rw (← c.self.view_is) c.close.ensures.err

pub returns-clause-clean : goal.returns-clause-clean
returns-clause-clean g c = rw (← c.self.view_is) c.close.ensures.clean
