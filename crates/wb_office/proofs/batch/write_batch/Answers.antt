use Rattle.std.proofs.Common.{sym, subst}
use Rattle.wb_store.proofs.ReadLemmas.{handed_on}
use Rattle.wb_office.specs.Batches.{WritesBatch, batch_of}
use Rattle.wb_office.proofs.BatchWriteLemmas.{batch_stops, batch_then_counts, counts_unfit}
use Rattle.wb_office.proofs.batch.write_batch.Goals as goal

pub returns-in_err-check_counts-clause-writes : goal.returns-in_err-check_counts-clause-writes
returns-in_err-check_counts-clause-writes g c =
    subst (λ r. WritesBatch g.S.Store (batch_of c.args.batch.now) c.args.counts c.args.writing.now.store.now
    c.args.writing.now.store.now r)
    (sym (handed_on c.from_residual.result c.from_residual.ensures.1))
    (counts_unfit g.S.Store (batch_of c.args.batch.now) c.args.counts _ c.in_err-check_counts.ensures.err)

pub returns-in_err-write_changes-clause-writes : goal.returns-in_err-write_changes-clause-writes
returns-in_err-write_changes-clause-writes g c =
    subst (λ r. WritesBatch g.S.Store (batch_of c.args.batch.now) c.args.counts c.args.writing.now.store.now
    c.write_changes.new.writing.store.now r)
    (sym (handed_on c.from_residual-in_err-write_changes.result c.from_residual-in_err-write_changes.ensures.1))
    (batch_stops g.S.Store (batch_of c.args.batch.now) c.args.counts _ c.in_err-write_changes.ensures.changes)

pub returns-clause-writes : goal.returns-clause-writes
returns-clause-writes g c =
    batch_then_counts g.S.Store (batch_of c.args.batch.now) c.args.counts _ c.set_counts.result
    c.in_ok-write_changes.ensures.changes c.set_counts.ensures.changes
