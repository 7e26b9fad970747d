use Rattle.std.proofs.Common.{subst}
use Rattle.wb_office.specs.Batches.{CarriesBatch, batch_of}
use Rattle.wb_office.proofs.BatchLemmas.{batch_kept, batch_not_committed}
use Rattle.wb_office.proofs.batch.keep_batch.Goals as goal

pub returns-in-Err : goal.returns-in-Err
returns-in-Err g c = record {
  keeps = batch_not_committed (subst (CarriesBatch g.S.Store (batch_of c.args.batch.now) c.args.counts c.args.store.now
      c.carry_batch.new.store) c.in-Err.is c.carry_batch.ensures.carries);
}

pub returns-in-Ok : goal.returns-in-Ok
returns-in-Ok g c = record {
  keeps = batch_kept (subst (CarriesBatch g.S.Store (batch_of c.args.batch.now) c.args.counts c.args.store.now
      c.carry_batch.new.store) c.in-Ok.is c.carry_batch.ensures.carries);
}
