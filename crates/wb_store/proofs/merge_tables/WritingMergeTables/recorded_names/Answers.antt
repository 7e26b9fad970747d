use Rattle.std.proofs.Common.{refl}
use Rattle.wb_store.proofs.MergeRunLemmas.{fault_with_same, looked_fails, looked_holds, looked_runs, looked_value, with_same}
use Rattle.wb_store.proofs.merge_tables.WritingMergeTables.recorded_names.Goals as goal

pub returns-clause-value : goal.returns-clause-value
returns-clause-value g c tables clean holds = looked_value g.S.Store c.args.self.now.is_saved c.args.self.now.store.now
    c.recorded_names.new.self c.recorded_names.result c.recorded_names.ensures.looks_up clean tables holds

pub returns-clause-same : goal.returns-clause-same
returns-clause-same g c tables clean holds = looked_holds g.S.Store c.args.self.now.is_saved c.args.self.now.store.now
    c.recorded_names.new.self c.recorded_names.result c.recorded_names.ensures.looks_up clean tables holds

pub returns-clause-follows : goal.returns-clause-follows
returns-clause-follows g c = with_same _ c.recorded_names.result refl
    (looked_runs g.S.Store c.args.self.now.is_saved c.args.self.now.store.now c.recorded_names.new.self
    c.recorded_names.result c.recorded_names.ensures.looks_up)

pub returns-clause-fails : goal.returns-clause-fails
returns-clause-fails g c = fault_with_same _ c.recorded_names.result refl
    (looked_fails g.S.Store c.args.self.now.is_saved c.args.self.now.store.now c.recorded_names.new.self
    c.recorded_names.result c.recorded_names.ensures.looks_up)
