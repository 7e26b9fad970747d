use Rattle.std.proofs.Common.{sym, subst}
use Rattle.wb_office.specs.declared.batch.Batch.{Batch as Referred}
use Rattle.wb_office.specs.Batches.{CannotChange, IsChangeOf, batch_changed, batch_of}
use Rattle.wb_office.specs.Turns.{ChangesInTurn}
use Rattle.wb_office.proofs.batch.write_changes.Goals as goal

pub returns-in-Puts-clause-changes : goal.returns-in-Puts-clause-changes
returns-in-Puts-clause-changes g c =
    subst (λ (b : Referred). ChangesInTurn g.S.Store (IsChangeOf (batch_of b)) (CannotChange (batch_of b))
    (batch_changed (batch_of b))
    c.args.writing.now.store.now c.put_all.new.writing.store.now c.put_all.result) (sym c.in-Puts.is)
    c.put_all.ensures.changes

pub returns-in-Removes-clause-changes : goal.returns-in-Removes-clause-changes
returns-in-Removes-clause-changes g c =
    subst (λ (b : Referred). ChangesInTurn g.S.Store (IsChangeOf (batch_of b)) (CannotChange (batch_of b))
    (batch_changed (batch_of b))
    c.args.writing.now.store.now c.remove_all.new.writing.store.now c.remove_all.result) (sym c.in-Removes.is)
    c.remove_all.ensures.changes
