use Rattle.std.proofs.Common.{rules, []}
use Rattle.sqlite.specs.Held.{state}
use Rattle.sqlite.proofs.StateLemmas.{survives_weaker}
use Rattle.wb_sql.proofs.EndingLemmas.{kept_or_undone, stays_usable, empty_commits_nothing}
use Rattle.wb_sql.proofs.transaction.is_usable.Goals as goal

pub returns-clause-open : goal.returns-clause-open
returns-clause-open g c clean = search (rules, stays_usable)

pub returns-clause-unchanged : goal.returns-clause-unchanged
returns-clause-unchanged g c clean = search (rules, stays_usable, kept_or_undone)

pub returns-clause-survives : goal.returns-clause-survives
returns-clause-survives g c =
    let old = state g.S.Store c.args.conn.now in
    survives_weaker old (state g.S.Store c.execute.new.self) _ _ (λ clean db made. empty_commits_nothing [] old db made) c.execute.ensures.survives
