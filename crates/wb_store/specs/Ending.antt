-- What the two ends of a transaction of the office answer: COMMIT and ROLLBACK, with the fault of the store in place of an error.
use Rattle.std.specs.Prelude.{◌≡◌, ◌⊎◌, Bool, true, false, if◌then◌else◌, [], Result, Ok, Err}
use Rattle.sqlite_trees.specs.declared.store.Store.{Ghosts}
use Rattle.sqlite.specs.declared.error.Error.{Error}
use Rattle.sqlite.specs.declared.error.Error.TheVariants.{SqliteFailure}
use Rattle.sqlite.specs.declared.error.ErrorCode.TheVariants.{TransactionState}
use Rattle.sqlite.specs.Held.{Held}
use Rattle.sqlite.specs.State.{State, IsRolledBack, Executes}
use Rattle.wb_sql.specs.declared.transaction.CommitError.{CommitError}
use Rattle.wb_sql.specs.declared.transaction.CommitError.TheVariants as commit
use Rattle.wb_sql.specs.Transactions.{rollback_text, cause_of, FailsToCommit}
use Rattle.wb_states.specs.declared.store_fault.StoreFault.{StoreFault}
use Rattle.wb_states.specs.declared.store_fault.StoreFault.TheVariants.{Device, Memory}
use Rattle.wb_states.specs.declared.store_fault.Table.TheVariants.{Office}
use Rattle.wb_store.specs.Faults.{fault_of}

-- the fault of a commit in doubt: out of memory counts as a failure of the device, since `Memory` says that nothing was committed
abbrev pub doubt_of : StoreFault → StoreFault
doubt_of Memory = Device
doubt_of fault = fault

-- the fault of a commit that was not made, or is in doubt: that of the table of the office, since COMMIT names none
abbrev pub fault_of_commit : CommitError → StoreFault
fault_of_commit commit.Memory = Memory
fault_of_commit (commit.InDoubt error) = doubt_of (fault_of error Office)

-- what COMMIT answered
abbrev pub committed : {A : Type 0} → Result A CommitError → Result A StoreFault
committed (Ok x) = Ok x
committed (Err e) = Err (fault_of_commit e)

-- COMMIT failed with an error, of which this is the fault
abbrev pub IsFaultOfCommit : {S : Type 0} → Ghosts S → Held S → StoreFault → Type 0
IsFaultOfCommit g at fault = (e : CommitError) × FailsToCommit g at (cause_of e) × (fault ≡ fault_of_commit e)

-- the error says that no transaction is under way
abbrev pub is_over : Error → Bool
is_over (SqliteFailure TransactionState) = true
is_over _ = false

-- what ROLLBACK answered: that no transaction was under way is no failure
abbrev pub rolled_back : Result (Unit {0}) Error → Result (Unit {0}) StoreFault
rolled_back (Ok x) = Ok x
rolled_back (Err error) = if is_over error then Ok tt else Err (fault_of error Office)

-- ROLLBACK took the transaction back, or found it over
abbrev pub IsEndedFrom : State → State → Type 0
IsEndedFrom at new = IsRolledBack at new ⊎ ((why : Error) × Executes rollback_text [] at new (Err why) × (is_over why ≡ true))

-- ROLLBACK failed, for another reason than that the transaction was over, of which this is the fault
abbrev pub IsFaultOfRollBack : State → State → StoreFault → Type 0
IsFaultOfRollBack at new fault = (why : Error) × Executes rollback_text [] at new (Err why) × (is_over why ≡ false) × (fault ≡ fault_of why Office)
