-- The transaction of an accepted command: how it ends, and why it was not committed.
use Rattle.std.specs.Prelude.{◌⊎◌, Option, Result, Ok, Err, IfErr, OnOk}
use Rattle.sqlite_trees.specs.declared.store.Store.{Ghosts}
use Rattle.sqlite.specs.Tree.{Trees}
use Rattle.sqlite.specs.Held.{Held, state}
use Rattle.sqlite.specs.State.{State, HasCleanDisk, Survives}
use Rattle.wb_states.specs.declared.command.Command.{Command}
use Rattle.wb_states.specs.declared.store_fault.StoreFault.{StoreFault}
use Rattle.wb_states.specs.Machine.{Machine, Key}
use Rattle.wb_step.specs.Step.{step}
use Rattle.wb_store.specs.Stands.{StandsFor}
use Rattle.wb_store.specs.Calls.{Becomes}
use Rattle.wb_store.specs.Ending.{IsEndedFrom, IsFaultOfCommit, IsFaultOfRollBack}
use Rattle.wb_store.specs.Others.{KeepsOthers}
use Rattle.wb_store.specs.Settled.{IsSettled, IsBackAt, LeavesEither, begun}
use Rattle.wb_office.specs.declared.carry.CarryError.{CarryError}
use Rattle.wb_office.specs.declared.carry.CarryError.TheVariants.{TakenBack, RollBackFailed, InDoubt}
use Rattle.wb_office.specs.Changed.{IsStepOf, FailsToChange}

-- ---- how a transaction ended that was not committed

-- the failure of a transaction with this fault, by the answer to the call that was to take it back
abbrev pub failure_of : {A : Type 0} → StoreFault → Result A StoreFault → CarryError
failure_of fault (Ok x) = TakenBack fault
failure_of fault (Err why) = RollBackFailed fault

-- what was committed before stands, unless the commit is in doubt: then that or the state after the command
abbrev pub LeavesAs : Machine → Machine → State → CarryError → Type 0
LeavesAs before now s (TakenBack fault) = IsBackAt before s
LeavesAs before now s (RollBackFailed fault) = IsBackAt before s
LeavesAs before now s (InDoubt fault) = LeavesEither before now s

-- ROLLBACK took the transaction back, or found it over
abbrev pub IsEnded : {S : Type 0} → Ghosts S → Held S → Type 0
IsEnded {S} g new = (at : Held S) × IsEndedFrom (state g at) (state g new)

-- ROLLBACK failed, for another reason than that the transaction was over
abbrev pub FailsToRollBack : {S : Type 0} → Ghosts S → Held S → Type 0
FailsToRollBack {S} g new = (at : Held S) × ((why : StoreFault) × IsFaultOfRollBack (state g at) (state g new) why)

-- the whole change was written, and then the commit failed with this fault
abbrev pub FailsAtCommit : {S : Type 0} → Ghosts S → Machine → Held S → StoreFault → Type 0
FailsAtCommit {S} g now old fault = (at : Held S) × (Becomes now (state g (begun old)) (state g at) × IsFaultOfCommit g at fault)

-- a write of the change failed with this fault, or was not made
abbrev pub FailsAtChange : {S : Type 0} → Ghosts S → Command → Option Key → Machine → Machine → Held S → StoreFault → Type 0
FailsAtChange {S} g command key after whole old fault = (at : Held S) × FailsToChange g command key after whole (begun old) at fault

-- why the transaction was not committed, and how ROLLBACK answered, if it was run
abbrev pub EndsFor : {S : Type 0} → Ghosts S → Command → Option Key → Machine → Machine → Held S → Held S → CarryError → Type 0
EndsFor g command key after whole old new (TakenBack fault) =
    (FailsAtChange g command key after whole old fault ⊎ FailsAtCommit g (step whole command).1 old fault) × IsEnded g new
EndsFor g command key after whole old new (RollBackFailed fault) =
    (FailsAtChange g command key after whole old fault ⊎ FailsAtCommit g (step whole command).1 old fault) × FailsToRollBack g new
EndsFor g command key after whole old new (InDoubt fault) = FailsAtCommit g (step whole command).1 old fault

-- ---- the transaction

-- these trees hold the tables of the office after a step of the one for which the database stands
abbrev pub HoldsStep : {S : Type 0} → Ghosts S → Command → Option Key → Machine → Held S → Trees → Type 0
HoldsStep g command key after old db =
    (whole : Machine) → StandsFor whole (state g old).now → IsStepOf whole command key after → StandsFor (step whole command).1 (record { schema = old.schema; trees = db })

-- the change of an accepted command in a transaction of its own, over a connection that is settled at the whole office:
-- if it succeeds, the connection is settled at the office after the command, and the tables of others keep their rows;
-- if it fails, the office is as before, but if the commit is in doubt a crash leaves the one or the other; and a crash
-- after it leaves no third
pub record CarriesOut {S A : Type 0} (g : Ghosts S) (command : Command) (key : Option Key) (after : Machine) (old new : Held S) (result : Result A CarryError) : Type 0 where
  pub ok : HasCleanDisk (state g new) → (whole : Machine) → IsSettled whole (state g old) → IsStepOf whole command key after
      → OnOk result (IsSettled (step whole command).1 (state g new))
  pub err : HasCleanDisk (state g new) → (whole : Machine) → IsSettled whole (state g old) → IsStepOf whole command key after
      → IfErr result (LeavesAs whole (step whole command).1 (state g new))
  pub cause : HasCleanDisk (state g new) → (whole : Machine) → IsSettled whole (state g old) → IsStepOf whole command key after
      → IfErr result (EndsFor g command key after whole old new)
  pub others : HasCleanDisk (state g new) → (whole : Machine) → IsSettled whole (state g old) → IsStepOf whole command key after
      → OnOk result (KeepsOthers (state g old).now (state g new).now)
  pub survives : Survives (state g old) (state g new) (HoldsStep g command key after old)
