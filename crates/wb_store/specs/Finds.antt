-- What several look-ups in the office's tables, one after another, promise together.
use Rattle.std.specs.Prelude.{◌≡◌, ◌⊎◌, Result, IfOk, IfErr, IsTrue, OnOk}
use Rattle.sqlite_trees.specs.declared.store.Store.{Ghosts}
use Rattle.sqlite.specs.Held.{Held, state}
use Rattle.sqlite.specs.State.{HasCleanDisk, IsUnchanged, Survives}
use Rattle.wb_sql.specs.Among.{HasOffice}
use Rattle.wb_states.specs.declared.store_fault.StoreFault.{StoreFault}
use Rattle.wb_states.specs.Machine.{Machine, IsConsistent}
use Rattle.wb_store.specs.Stands.{StandsFor}
use Rattle.wb_store.specs.Calls.{FailsToLookUp}
use Rattle.wb_store.specs.Queries.{OfficeQuery}

-- nothing was asked of the connection yet, or it was left as it was, with its limit of steps
abbrev pub StaysAs : {S : Type 0} → Ghosts S → Held S → Held S → Type 0
StaysAs g old new = (old ≡ new) ⊎ (IsUnchanged (state g old) (state g new) × ((state g new).step_limit ≡ (state g old).step_limit))

-- a look-up by one of the office's queries failed with this fault, after others that left the database as it was
abbrev pub FailsToFind : {S : Type 0} → Ghosts S → Held S → Held S → StoreFault → Type 0
FailsToFind {S} g old new fault = (mid : Held S) × (query : OfficeQuery) × StaysAs g old mid × FailsToLookUp query (state g mid) (state g new) fault

-- look-ups, one after another: if they succeed, the answer is that of the state of a consistent office for which the database stands, and the
-- database stays as it is; if they fail over an open connection, one of them did, after others that changed nothing; and a crash leaves no more
-- than before
pub record Finds {S A : Type 0} (g : Ghosts S) (Answer : Machine → A → Type 0) (old new : Held S) (result : Result A StoreFault) : Type 0 where
  pub value : HasCleanDisk (state g new) → HasOffice old.schema
      → IfOk result (λ answer. (machine : Machine) → IsConsistent machine → StandsFor machine (state g old).now → Answer machine answer)
  pub same : HasCleanDisk (state g new) → HasOffice old.schema → OnOk result (StaysAs g old new)
  pub err : HasCleanDisk (state g new) → HasOffice old.schema → IsTrue (state g old).is_open → IfErr result (FailsToFind g old new)
  pub survives : Survives (state g old) (state g new) (λ _. ¬ HasOffice old.schema)
