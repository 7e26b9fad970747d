use Rattle.std.proofs.Common.{refl, ◌∙◌}
use Rattle.std.proofs.lemmas.Result.{IfErr-weaker, IfOk-weaker}
use Rattle.wb_store.proofs.MergeRunLemmas.{handed_fault, looked_fails, looked_runs, looked_value, on_ok_of, unfit_fails}
use Rattle.wb_store.proofs.merge_tables.WritingMergeTables.record.Goals as goal

pub returns-in_err-found-clause-fails : goal.returns-in_err-found-clause-fails
returns-in_err-found-clause-fails g c = handed_fault _ c.from_residual.result c.from_residual.ensures.1 (refl, looked_fails g.S.Store c.args.self.now.is_saved c.args.self.now.store.now c.get.new.self _ c.in_err-found.ensures.looks_up)

pub returns-clause-value : goal.returns-clause-value
returns-clause-value g c tables clean holds =
    let found = looked_value g.S.Store c.args.self.now.is_saved c.args.self.now.store.now c.get.new.self _ c.in_ok-found.ensures.looks_up clean tables holds in
    IfOk-weaker c.fitting.result _ _ (λ told is. is.0 ∙ found) c.fitting.ensures.value

pub returns-clause-follows : goal.returns-clause-follows
returns-clause-follows g c = on_ok_of c.fitting.result (refl, looked_runs g.S.Store c.args.self.now.is_saved c.args.self.now.store.now c.get.new.self _ c.in_ok-found.ensures.looks_up)

pub returns-clause-fails : goal.returns-clause-fails
returns-clause-fails g c =
    IfErr-weaker c.fitting.result _ _ (λ fault refused. (refl, unfit_fails g.S.Store c.args.self.now.is_saved c.args.self.now.store.now c.get.new.self fault c.in_ok-found.ensures.looks_up refused)) c.fitting.ensures.fault
