use Rattle.wb_store.proofs.store.Store.adopt.Goals as goal

pub returns-in-Ok-clause-other : goal.returns-in-Ok-clause-other
returns-in-Ok-clause-other g c = λ tables others unread. absurd (c.in-Ok.ensures.other tables others unread)

pub returns-in-Err-clause-other : goal.returns-in-Err-clause-other
returns-in-Err-clause-other g c = λ tables others unread. let is = (c.in-Err.ensures.other tables others unread).0 in cc

pub returns-in-Err-clause-refused : goal.returns-in-Err-clause-refused
returns-in-Err-clause-refused g c = (c.in-Err.refused.conn, c.in-Err.ensures.refused)
