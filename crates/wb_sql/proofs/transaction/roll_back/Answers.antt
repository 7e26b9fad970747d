use Rattle.std.proofs.Common.{[]}
use Rattle.sqlite.specs.Held.{state}
use Rattle.sqlite.proofs.StateLemmas.{survives_weaker}
use Rattle.wb_sql.proofs.EndingLemmas.{rolls_back, fails_to_roll_back, on_err, rollback_commits_nothing}
use Rattle.wb_sql.proofs.transaction.roll_back.Goals as goal

pub returns-in_err-execute-clause-err : goal.returns-in_err-execute-clause-err
returns-in_err-execute-clause-err g c clean =
    on_err c.from_residual.result (fails_to_roll_back (state g.S.Store c.args.conn.now) (state g.S.Store c.execute.new.self) _ (c.in_err-execute.ensures.runs clean))

pub returns-in_err-execute-clause-survives : goal.returns-in_err-execute-clause-survives
returns-in_err-execute-clause-survives g c =
    let old = state g.S.Store c.args.conn.now in
    survives_weaker old (state g.S.Store c.execute.new.self) _ _ (λ clean db made. rollback_commits_nothing [] old db made) c.execute.ensures.survives

pub returns-clause-ok : goal.returns-clause-ok
returns-clause-ok g c clean = rolls_back (state g.S.Store c.args.conn.now) (state g.S.Store c.execute.new.self) _ (c.in_ok-execute.ensures.runs clean)

pub returns-clause-survives : goal.returns-clause-survives
returns-clause-survives g c =
    let old = state g.S.Store c.args.conn.now in
    survives_weaker old (state g.S.Store c.execute.new.self) _ _ (λ clean db made. rollback_commits_nothing [] old db made) c.execute.ensures.survives
