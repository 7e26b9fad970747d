use Rattle.std.proofs.Common.{refl, Ok, subst}
use Rattle.wb_sql.specs.Among.{HasStates}
use Rattle.wb_store.specs.Queries as ask
use Rattle.wb_store.specs.Scratch.{TestsForRows}
use Rattle.wb_store.proofs.CheckLemmas.{faulted}
use Rattle.wb_store.proofs.OpeningLemmas.{rows_left, rows_unread, states_there, then_failed}
use Rattle.wb_store.proofs.opening.check_states.Goals as goal

pub returns-in_err-has_first_states : goal.returns-in_err-has_first_states
returns-in_err-has_first_states g c =
    let states = subst HasStates c.schema.ensures.value (c.if-not-has_states.ensures.value.0 refl) in
    record {
      checks = then_failed (states_there g.S.Store c.args.conn.now (λ office. states)) (rows_unread ask.OneState (λ office. states.has) {A = Unit {0}} c.in_err-has_first_states.ensures.tests)
          (λ machine told. tt) (λ at after there why. (there, why)) (faulted c.from_residual.result c.from_residual.ensures.1);
    }

pub returns-then-branch : goal.returns-then-branch
returns-then-branch g c =
    let states = subst HasStates c.schema.ensures.value (c.if-not-has_states.ensures.value.0 refl) in
    let tests = subst (λ found. TestsForRows g.S.Store ask.OneState c.args.conn.now c.has_first_states.new.conn (Ok found)) c.if-branch.true c.in_ok-has_first_states.ensures.tests in
    record {
      checks = then_failed (states_there g.S.Store c.args.conn.now (λ office. states))
          (rows_left ask.OneState (λ office. states.has) {A = Unit {0}} (λ machine stands. stands.emptied states) tests) (λ machine told. tt) (λ at after there why. (there, why)) refl;
    }
