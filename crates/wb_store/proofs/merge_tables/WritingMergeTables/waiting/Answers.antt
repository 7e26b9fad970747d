use Rattle.std.proofs.Common.{refl}
use Rattle.std.proofs.lemmas.Result.{IfOk-weaker}
use Rattle.wb_store.proofs.MergeRunLemmas.{fault_with_same, looked_fails, looked_holds, looked_runs, looked_value, with_same}
use Rattle.wb_store.proofs.MergeAskLemmas.{records_waiting}
use Rattle.wb_store.proofs.merge_tables.WritingMergeTables.waiting.Goals as goal

pub returns-clause-value : goal.returns-clause-value
returns-clause-value g c tables clean holds = IfOk-weaker c.in_state.result _ _ (λ rows are. records_waiting tables.now.machine c.args.arch.now rows.items are) (looked_value g.S.Store c.args.self.now.is_saved c.args.self.now.store.now c.in_state.new.self c.in_state.result c.in_state.ensures.looks_up clean tables holds)

pub returns-clause-same : goal.returns-clause-same
returns-clause-same g c tables clean holds = looked_holds g.S.Store c.args.self.now.is_saved c.args.self.now.store.now c.in_state.new.self c.in_state.result c.in_state.ensures.looks_up clean tables holds

pub returns-clause-follows : goal.returns-clause-follows
returns-clause-follows g c = with_same _ c.in_state.result refl (looked_runs g.S.Store c.args.self.now.is_saved c.args.self.now.store.now c.in_state.new.self c.in_state.result c.in_state.ensures.looks_up)

pub returns-clause-fails : goal.returns-clause-fails
returns-clause-fails g c = fault_with_same _ c.in_state.result refl (looked_fails g.S.Store c.args.self.now.is_saved c.args.self.now.store.now c.in_state.new.self c.in_state.result c.in_state.ensures.looks_up)
