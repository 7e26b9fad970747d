use Rattle.wb_store.proofs.MergeRunLemmas.{changed_fails, changed_holds, changed_runs, fault_with_same, with_same}
use Rattle.wb_store.proofs.merge_tables.WritingMergeTables.remove.Goals as goal

pub returns-clause-value : goal.returns-clause-value
returns-clause-value g c =
    rw c.remove.ensures.same_merge.0 (λ tables clean holds. changed_holds g.S.Store c.args.self.now.is_saved _
    c.remove.new.self.store.now c.remove.result c.remove.ensures.changes clean tables holds)

pub returns-clause-follows : goal.returns-clause-follows
returns-clause-follows g c =
    rw c.remove.ensures.same_merge.0 (with_same _ c.remove.result c.remove.ensures.same_reference
    (changed_runs g.S.Store c.args.self.now.is_saved _ c.remove.new.self.store.now c.remove.result
    c.remove.ensures.changes))

pub returns-clause-fails : goal.returns-clause-fails
returns-clause-fails g c =
    fault_with_same _ c.remove.result c.remove.ensures.same_reference
    (changed_fails g.S.Store c.args.self.now.is_saved _ c.remove.new.self.store.now tt c.remove.result
    c.remove.ensures.changes)
