-- What a call on the office's tables promises, whether it succeeds, fails or is cut off by a crash: a change in a transaction, and a look-up.
use Rattle.std.specs.Prelude.{◌≡◌, ◌⊎◌, ℕ, true, false, List, Result, Err, IsTrue, IfOk, IfErr, OnOk}
use Rattle.sqlite_trees.specs.declared.store.Store.{Ghosts}
use Rattle.sqlite.specs.declared.error.Error.{Error}
use Rattle.sqlite.specs.Held.{Held, state}
use Rattle.sqlite.specs.State.{State, HasCleanDisk, IsUnchanged, Executes, FailsToQuery, Shows, Survives}
use Rattle.wb_sql.specs.Transactions.{IsKeptOrUndone}
use Rattle.wb_sql.specs.Among.{HasOffice}
use Rattle.wb_states.specs.declared.store_fault.StoreFault.{StoreFault}
use Rattle.wb_states.specs.declared.store_fault.StoreFault.TheVariants.{Memory}
use Rattle.wb_states.specs.Machine.{Machine, IsConsistent}
use Rattle.wb_store.specs.Faults.{fault_of, unfit}
use Rattle.wb_store.specs.Merging.{Scratch, no_merge}
use Rattle.wb_store.specs.Stands.{StandsFor, StandsWith}
use Rattle.wb_store.specs.Others.{KeepsOthers}
use Rattle.wb_store.specs.Queries.{IsTextOfQuery, OfficeQuery, given_to, table_asked}
use Rattle.wb_store.specs.Writes.{IsTextOfWrite, OfficeWrite, table_written, written_by}

-- in a transaction the database stands for this state, with these rows of a merge, now, with the schema that it had; the tables of others keep their rows, what was committed
-- stays, and so does the limit of steps
pub record BecomesWith (machine : Machine) (scratch : Scratch) (old new : State) : Type 0 where
  pub stands : StandsWith machine scratch new.now
  pub schema_is : new.now.schema ≡ old.now.schema
  pub shown : Shows old new new.now old.committed true
  pub marks : new.marks ≡ old.marks
  pub others : KeepsOthers old.now new.now
  pub limit : new.step_limit ≡ old.step_limit

-- the same while no merge runs
abbrev pub Becomes : Machine → State → State → Type 0
Becomes machine old new = BecomesWith machine no_merge old new

-- the statement of a write failed with an error, of which this is the fault, and nothing was written, or the whole transaction is taken back
pub record FailsToWrite (write : OfficeWrite) (old new : State) (fault : StoreFault) : Type 0 where
  pub error : Error
  pub sql : List ℕ
  pub text : IsTextOfWrite write sql
  pub failed : Executes sql (written_by write) old new (Err error)
  pub fault_is : fault ≡ fault_of error (table_written write)
  pub left : IsKeptOrUndone old new

-- a write to one of the office's tables in a transaction: if it succeeds, a database that stood for a state that allows it stands for the state
-- after it, also while a merge runs, whose rows stay; if it fails, its statement did; if the transaction is over, it is refused; and a crash leaves no more than before
pub record Changes {S A : Type 0} (g : Ghosts S) (write : OfficeWrite) (Allows : Machine → Type 0) (after : Machine → Machine) (old new : Held S) (result : Result A StoreFault) : Type 0 where
  pub ok : HasCleanDisk (state g new) → OnOk result ((machine : Machine) → StandsFor machine (state g old).now → Allows machine → Becomes (after machine) (state g old) (state g new))
  pub beside : HasCleanDisk (state g new)
      → OnOk result ((machine : Machine) (scratch : Scratch) → StandsWith machine scratch (state g old).now → Allows machine → BecomesWith (after machine) scratch (state g old) (state g new))
  pub err : HasCleanDisk (state g new) → IsTrue old.in_transaction → IfErr result (FailsToWrite write (state g old) (state g new))
  pub ended : old.in_transaction ≡ false → (result ≡ Err (unfit (table_written write))) × (new ≡ old)
  pub survives : Survives (state g old) (state g new) (λ _. ¬ HasOffice old.schema)

-- the query failed with an error, of which this is the fault, and changed nothing or took a transaction back
pub record FailsToRead (query : OfficeQuery) (old new : State) (fault : StoreFault) : Type 0 where
  pub error : Error
  pub sql : List ℕ
  pub text : IsTextOfQuery query sql
  pub failed : FailsToQuery sql (given_to query) old new error
  pub fault_is : fault ≡ fault_of error (table_asked query)
  pub left : IsKeptOrUndone old new

-- why a look-up fails: its query failed; or memory ran out for its answer; or a row is not what an office keeps
abbrev pub FailsToLookUp : OfficeQuery → State → State → StoreFault → Type 0
FailsToLookUp query old new fault =
    FailsToRead query old new fault
    ⊎ (((fault ≡ Memory) × IsUnchanged old new)
    ⊎ ((fault ≡ unfit (table_asked query)) × IsUnchanged old new × ((machine : Machine) (scratch : Scratch) → IsConsistent machine → ¬ StandsWith machine scratch old.now)))

-- a look-up in one of the office's tables, by this query: if it succeeds, its answer is that of the state for which the database stands, also while a merge runs, and the
-- database stays as it is; if it fails, it fails for one of the reasons above; and a crash leaves no more than before
pub record LooksUp {S A : Type 0} (g : Ghosts S) (query : OfficeQuery) (Answer : Machine → A → Type 0) (old new : Held S) (result : Result A StoreFault) : Type 0 where
  pub value : HasCleanDisk (state g new) → IfOk result (λ answer. (machine : Machine) (scratch : Scratch) → StandsWith machine scratch (state g old).now → Answer machine answer)
  pub same : HasCleanDisk (state g new) → HasOffice old.schema → OnOk result (IsUnchanged (state g old) (state g new))
  pub err : HasCleanDisk (state g new) → HasOffice old.schema → IfErr result (FailsToLookUp query (state g old) (state g new))
  pub survives : Survives (state g old) (state g new) (λ _. ¬ HasOffice old.schema)
