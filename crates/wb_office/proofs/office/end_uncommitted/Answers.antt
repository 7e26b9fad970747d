use Rattle.std.proofs.Common.{true, refl, sym, subst}
use Rattle.wb_states.specs.declared.refusal.Refusal.TheVariants.{Store}
use Rattle.wb_office.specs.declared.answer.Failure.TheVariants.{Uncommitted}
use Rattle.wb_office.specs.Applies.{Ends}
use Rattle.wb_office.proofs.ApplyLemmas.{ends_taken_back, ends_not_taken_back, ends_in_doubt}
use Rattle.wb_office.proofs.office.end_uncommitted.Goals as goal

pub returns-in-TakenBack : goal.returns-in-TakenBack
returns-in-TakenBack g c = record {
  ends = subst (λ f. Ends g.S.Store (Uncommitted f) c.args.store.now c.end_with.new.store c.end_with.result.0 c.end_with.result.1) (sym c.in-TakenBack.is)
      (ends_taken_back g.S.Store c.args.store.now c.end_with.new.store c.end_with.result.0 c.end_with.result.1 c.in-TakenBack.fault c.end_with.ensures.ends);
}

pub returns-in-RollBackFailed : goal.returns-in-RollBackFailed
returns-in-RollBackFailed g c = record {
  ends = subst (λ f. Ends g.S.Store (Uncommitted f) c.args.store.now c.args.store.now c.refusal_for.result true) (sym c.in-RollBackFailed.is)
      (ends_not_taken_back g.S.Store c.args.store.now c.in-RollBackFailed.fault c.refusal_for.result c.refusal_for.ensures.value);
}

pub returns-in-InDoubt : goal.returns-in-InDoubt
returns-in-InDoubt g c = record {
  ends = subst (λ f. Ends g.S.Store (Uncommitted f) c.args.store.now c.args.store.now (Store c.in-InDoubt.fault) true) (sym c.in-InDoubt.is)
      (ends_in_doubt g.S.Store c.args.store.now c.in-InDoubt.fault (Store c.in-InDoubt.fault) refl);
}
