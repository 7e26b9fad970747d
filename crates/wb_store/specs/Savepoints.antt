-- What a call on the savepoint of a transaction of the office promises.
use Rattle.std.specs.Prelude.{◌≡◌, ℕ, false, List, [], Result, Err, IsTrue, IfErr, OnOk}
use Rattle.sqlite_trees.specs.declared.store.Store.{Ghosts}
use Rattle.sqlite.specs.declared.error.Error.{Error}
use Rattle.sqlite.specs.Held.{Held, state}
use Rattle.sqlite.specs.State.{State, HasCleanDisk, Executes, Survives}
use Rattle.wb_sql.specs.Transactions.{IsKeptOrUndone}
use Rattle.wb_states.specs.declared.store_fault.StoreFault.{StoreFault}
use Rattle.wb_states.specs.declared.store_fault.Table.TheVariants.{Office}
use Rattle.wb_store.specs.Faults.{fault_of, unfit}

-- the statement failed with an error, of which this is the fault, that of the table of the office, since it names no table; and nothing was written, or
-- the whole transaction is taken back
abbrev pub IsFaultOnPart : List ℕ → State → State → StoreFault → Type 0
IsFaultOnPart sql old new fault = (error : Error) × Executes sql [] old new (Err error) × (fault ≡ fault_of error Office) × IsKeptOrUndone old new

-- a call on the savepoint of a transaction, by this statement: if it succeeds on one that meets the need, this is done; if it fails, its statement did; it
-- is refused if the transaction is over; and a crash leaves no more than before
pub record CallsPart {S A : Type 0} (g : Ghosts S) (sql : List ℕ) (Needs : State → Type 0) (Done : State → State → Type 0) (old new : Held S) (result : Result A StoreFault) : Type 0 where
  pub ok : HasCleanDisk (state g new) → Needs (state g old) → OnOk result (Done (state g old) (state g new))
  pub err : HasCleanDisk (state g new) → IsTrue old.in_transaction → IfErr result (IsFaultOnPart sql (state g old) (state g new))
  pub ended : old.in_transaction ≡ false → (result ≡ Err (unfit Office)) × (new ≡ old)
  pub survives : Survives (state g old) (state g new) (λ _. ¬ Needs (state g old))
