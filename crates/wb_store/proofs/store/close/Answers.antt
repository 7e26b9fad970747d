use Rattle.wb_store.proofs.FileLemmas.{closed_at, closed_at_one}
use Rattle.wb_store.proofs.store.close.Goals as goal

pub returns-in-Ok-clause-settled : goal.returns-in-Ok-clause-settled
returns-in-Ok-clause-settled g c = closed_at c.args.conn c.in-Ok.files c.in-Ok.ensures.copied

pub returns-in-Ok-clause-either : goal.returns-in-Ok-clause-either
returns-in-Ok-clause-either g c = closed_at_one c.args.conn c.in-Ok.files g.met.D.Disk.seen_may_stay c.in-Ok.ensures.copied

pub returns-in-Ok-clause-clean : goal.returns-in-Ok-clause-clean
returns-in-Ok-clause-clean g c = λ clean. (c.in-Ok.ensures.copied clean).was_clean

pub returns-in-Err-clause-err : goal.returns-in-Err-clause-err
returns-in-Err-clause-err g c = record { error = c.in-Err.error; is = c.fault_of.ensures.value; unclosed = c.in-Err.ensures.err }
