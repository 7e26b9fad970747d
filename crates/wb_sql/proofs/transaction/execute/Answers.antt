use Rattle.std.proofs.Common.{rules, IsTrue}
use Rattle.sqlite.specs.Held.{state}
use Rattle.sqlite.specs.Values.{bound}
use Rattle.sqlite.proofs.StateLemmas.{survives_weaker}
use Rattle.wb_sql.proofs.EndingLemmas.{kept_or_undone, never_commits}
use Rattle.wb_sql.proofs.transaction.execute.Goals as goal

pub returns-clause-err : goal.returns-clause-err
returns-clause-err g c clean inside =
    kept_or_undone c.args.sql.now (bound c.args.params.now) (state g.S.Store c.args.conn.now) (state g.S.Store c.execute.new.self) c.execute.result (c.execute.ensures.runs clean)

pub returns-clause-survives : goal.returns-clause-survives
returns-clause-survives g c =
    let old = state g.S.Store c.args.conn.now in
    let inside : IsTrue old.in_transaction = search rules in
    survives_weaker old (state g.S.Store c.execute.new.self) _ _ (λ clean db made writes. never_commits c.args.sql.now (bound c.args.params.now) old inside writes db made) c.execute.ensures.survives
