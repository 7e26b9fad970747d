use Rattle.std.proofs.Common.{inl, inr, Ok}
use Rattle.wb_store.proofs.CheckLemmas.{faulted}
use Rattle.wb_store.proofs.OpeningLemmas.{all_passed, checked, none_yet, then_failed, then_passed}
use Rattle.wb_store.proofs.opening.check.Goals as goal

pub returns-in_err-counts : goal.returns-in_err-counts
returns-in_err-counts g c = record {
  checks = checked c.from_residual.result (then_failed (none_yet g.S.Store c.args.conn.now) c.in_err-counts.ensures.checks
      (λ machine told. tt) (λ at after good why. inl why) (faulted c.from_residual.result c.from_residual.ensures.1));
}

pub returns-in_err-check_left : goal.returns-in_err-check_left
returns-in_err-check_left g c =
    let rows = then_passed (none_yet g.S.Store c.args.conn.now) c.in_ok-counts.ensures.checks in
    let r = c.from_residual-in_err-check_left.result in
    record {
      checks = checked r (then_failed rows c.in_err-check_left.ensures.checks
          (λ machine told. tt) (λ at after good why. inr (good.1.0, why)) (faulted r c.from_residual-in_err-check_left.ensures.1));
    }

pub returns : goal.returns
returns g c =
    let rows = then_passed (none_yet g.S.Store c.args.conn.now) c.in_ok-counts.ensures.checks in
    record {
      checks = checked (Ok c.in_ok-counts.counts)
          (all_passed (then_passed rows c.in_ok-check_left.ensures.checks) (λ db good. (good.0.1, good.1)) (λ machine told. told.0.1));
    }
