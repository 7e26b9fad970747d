use Rattle.std.proofs.Common.{sym, subst, IfErr, OnErr}
use Rattle.sqlite.specs.Held.{state}
use Rattle.wb_sql.specs.Transactions.{IsKeptOrUndone}
use Rattle.wb_store.specs.Ending.{IsFaultOfCommit}
use Rattle.wb_store.specs.Settled.{SettlesBy}
use Rattle.wb_store.proofs.SettledLemmas.{commit_fault, committed_err, settles}
use Rattle.wb_store.proofs.writing.Writing.commit.Goals as goal

pub returns-clause-settles : goal.returns-clause-settles
returns-clause-settles g c =
    rw (← c.store.view_is) (let e = c.commit-answered.ensures in
    subst (SettlesBy g.S.Store c.store.inside.conn c.commit-answered.new.conn) (sym c.committed.ensures.value)
    (settles g.S.Store c.store.inside.conn c.commit-answered.new.conn c.commit-answered.result e.ok e.alone e.memory
    e.err e.sound e.crash))

pub returns-clause-err : goal.returns-clause-err
returns-clause-err g c clean =
    rw (← c.store.view_is) (subst (λ r. OnErr r (IsKeptOrUndone (state g.S.Store c.store.inside.conn)
    (state g.S.Store c.commit-answered.new.conn))) (sym c.committed.ensures.value)
    (committed_err _ c.commit-answered.result (c.commit-answered.ensures.err clean)))

pub returns-clause-cause : goal.returns-clause-cause
returns-clause-cause g c clean =
    rw (← c.store.view_is) (subst (λ r. IfErr r (IsFaultOfCommit g.S.Store c.store.inside.conn))
    (sym c.committed.ensures.value)
    (commit_fault g.S.Store c.store.inside.conn c.commit-answered.result (c.commit-answered.ensures.cause clean)))
