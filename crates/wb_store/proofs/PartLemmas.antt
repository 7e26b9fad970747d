-- A call on the savepoint, with the fault of the store in place of an error.
use Rattle.std.proofs.Common.{◌≡◌, ℕ, [], List, Result, Ok, Err, IfErr, OnOk, refl, sym, ap, subst}
use Rattle.sqlite_trees.specs.declared.store.Store.{Ghosts}
use Rattle.sqlite.specs.declared.error.Error.{Error}
use Rattle.sqlite.specs.Held.{Held, state}
use Rattle.sqlite.specs.State.{State, Executes}
use Rattle.wb_sql.specs.Savepoints.{RunsOnPart}
use Rattle.wb_sql.specs.Transactions.{IsKeptOrUndone}
use Rattle.wb_states.specs.declared.store_fault.StoreFault.{StoreFault}
use Rattle.wb_states.specs.declared.store_fault.Table.TheVariants.{Office}
use Rattle.wb_store.specs.Faults.{answer_on}
use Rattle.wb_store.specs.Savepoints.{CallsPart, IsFaultOnPart}

pub part_called : {S A : Type 0} {g : Ghosts S} {sql : List ℕ} {Needs : State → Type 0} {Done : State → State → Type 0} {old new : Held S} {r : Result A Error} {answer : Result A StoreFault}
    → RunsOnPart g sql Needs Done old new r → answer ≡ answer_on r Office → CallsPart g sql Needs Done old new answer
part_called {A = A} {g = g} {sql = sql} {Needs = Needs} {Done = Done} {old = old} {new = new} {r = r} ran is =
    subst (λ (t : Result A StoreFault). CallsPart g sql Needs Done old new t) (sym is) (record {
      ok = λ clean needed. ok_on (Done (state g old) (state g new)) r (ran.ok clean needed);
      err = λ clean inside. err_on r (ran.err clean inside);
      ended = λ over. let ended = ran.ended over in (ap (λ answered. answer_on answered Office) ended.0, ended.1);
      survives = ran.survives;
    })
  where
    ok_on : (P : Type 0) (answered : Result A Error) → OnOk answered P → OnOk (answer_on answered Office) P
    ok_on P (Ok x) h = h
    ok_on P (Err e) h = tt

    err_on : (answered : Result A Error) → IfErr answered (λ e. Executes sql [] (state g old) (state g new) (Err e) × IsKeptOrUndone (state g old) (state g new))
        → IfErr (answer_on answered Office) (IsFaultOnPart sql (state g old) (state g new))
    err_on (Ok x) h = tt
    err_on (Err e) h = (e, h.0, refl, h.1)
