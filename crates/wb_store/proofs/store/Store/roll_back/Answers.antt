use Rattle.std.proofs.Common.{sym, subst, IfErr, OnOk}
use Rattle.sqlite.specs.Held.{state}
use Rattle.wb_store.specs.Ending.{IsEndedFrom, IsFaultOfRollBack}
use Rattle.wb_store.proofs.SettledLemmas.{roll_back_ends, roll_back_fault, takes_back}
use Rattle.wb_store.proofs.store.Store.roll_back.Goals as goal

pub returns-clause-taken_back : goal.returns-clause-taken_back
returns-clause-taken_back g c =
    rw (← c.self.view_is) (let e = c.roll_back-answered.ensures in
    takes_back g.S.Store c.self.inside.conn c.roll_back-answered.new.conn c.roll_back-answered.result e.ok e.err
    e.survives)

pub returns-clause-ok : goal.returns-clause-ok
returns-clause-ok g c clean =
    rw (← c.self.view_is) (let e = c.roll_back-answered.ensures in
    subst (λ r. OnOk r (IsEndedFrom (state g.S.Store c.self.inside.conn)
    (state g.S.Store c.roll_back-answered.new.conn))) (sym c.rolled_back.ensures.value)
    (roll_back_ends _ _ c.roll_back-answered.result (e.ok clean) (e.cause clean)))

pub returns-clause-cause : goal.returns-clause-cause
returns-clause-cause g c clean =
    rw (← c.self.view_is) (subst (λ r. IfErr r (IsFaultOfRollBack (state g.S.Store c.self.inside.conn)
    (state g.S.Store c.roll_back-answered.new.conn))) (sym c.rolled_back.ensures.value)
    (roll_back_fault _ _ c.roll_back-answered.result (c.roll_back-answered.ensures.cause clean)))
