-- What several changes of the office's tables, one after another in a transaction, promise together.
use Rattle.std.specs.Prelude.{Result, IsTrue, IfErr, OnOk, OnErr}
use Rattle.sqlite_trees.specs.declared.store.Store.{Ghosts}
use Rattle.sqlite.specs.Held.{Held, state}
use Rattle.sqlite.specs.State.{HasCleanDisk, Survives}
use Rattle.wb_states.specs.declared.store_fault.StoreFault.{StoreFault}
use Rattle.wb_states.specs.Machine.{Machine}
use Rattle.wb_store.specs.Stands.{StandsFor}
use Rattle.wb_store.specs.Settled.{IsUnderWay}
use Rattle.wb_store.specs.Writes.{OfficeWrite}
use Rattle.wb_office.specs.Changed.{FailsAtOnce, ComesToStandFor, IsLeftOrBack}

-- these writes stopped with this fault: the database stood for some state after those before it, and then one failed,
-- or was not made for this reason
abbrev pub StopsWith : {S : Type 0} → Ghosts S → (OfficeWrite → Type 0) → (StoreFault → Type 0) → Held S → Held S → StoreFault → Type 0
StopsWith {S} g Is Why old new fault = (now : Machine) × (mid : Held S) × ComesToStandFor g now old mid × FailsAtOnce g Is Why mid new fault

-- the database stands for no state of an office
abbrev pub IsNoOffice : {S : Type 0} → Ghosts S → Held S → Type 0
IsNoOffice g held = (machine : Machine) → ¬ StandsFor machine (state g held).now

-- these writes in a transaction, one after another: if they succeed, a database that stood for a state stands for the
-- state after them; if they fail, one of them did, after others, or was not made for one of these reasons, and the
-- transaction is under way or taken back; and a crash leaves no more than before
pub record ChangesInTurn {S A : Type 0} (g : Ghosts S) (Is : OfficeWrite → Type 0) (Why : StoreFault → Type 0) (after : Machine → Machine) (old new : Held S)
    (result : Result A StoreFault) : Type 0 where
  pub ok : HasCleanDisk (state g new) → OnOk result ((machine : Machine) → StandsFor machine (state g old).now → ComesToStandFor g (after machine) old new)
  pub cause : HasCleanDisk (state g new) → IsTrue old.in_transaction → (machine : Machine) → StandsFor machine (state g old).now
      → IfErr result (StopsWith g Is Why old new)
  pub err : HasCleanDisk (state g new) → (before now : Machine) → IsUnderWay before now (state g old) → OnErr result (IsLeftOrBack g before new)
  pub survives : Survives (state g old) (state g new) (λ _. IsNoOffice g old)
