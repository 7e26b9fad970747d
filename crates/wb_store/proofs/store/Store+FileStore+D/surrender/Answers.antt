use Rattle.wb_store.proofs.«store».«Store+FileStore+D».surrender.Goals as goal

pub returns-clause-left : goal.returns-clause-left
returns-clause-left g c = rw (← c.self.view_is) c.surrender.ensures.left

pub returns-clause-clean : goal.returns-clause-clean
returns-clause-clean g c = rw (← c.self.view_is) c.surrender.ensures.clean
