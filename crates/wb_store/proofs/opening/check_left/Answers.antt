use Rattle.std.proofs.Common.{inl, inr}
use Rattle.wb_store.proofs.CheckLemmas.{faulted}
use Rattle.wb_store.proofs.OpeningLemmas.{none_yet, then_failed, then_passed, then_told}
use Rattle.wb_store.proofs.opening.check_left.Goals as goal

pub returns-in_err-check_scratch : goal.returns-in_err-check_scratch
returns-in_err-check_scratch g c = record {
  checks = then_failed (none_yet g.S.Store c.args.conn.now) c.in_err-check_scratch.ensures.checks
      (λ machine told. tt) (λ at after good why. inl why) (faulted c.from_residual.result c.from_residual.ensures.1);
}

pub returns : goal.returns
returns g c = record {
  checks = then_told (then_passed (none_yet g.S.Store c.args.conn.now) c.in_ok-check_scratch.ensures.checks) c.check_states.result c.check_states.ensures.checks
      (λ machine told. tt) (λ at after fault good why. inr (good.1, why)) (λ db x good. (good.0.1, good.1)) (λ machine x told. tt);
}
