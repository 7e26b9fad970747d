-- The tables of a merge in a transaction of the office: what stands in them, how calls of a merge go on, and why one of them fails.
use Rattle.std.specs.Prelude.{◌≡◌, ◌⊎◌, ⊤, ℕ, Bool, true, false, List, Option, None, Some, IsTrue}
use Rattle.std.specs.FinMap as map
use Rattle.sqlite_trees.specs.declared.store.Store.{Ghosts}
use Rattle.sqlite.specs.Effect.{Database}
use Rattle.sqlite.specs.Held.{Held, state}
use Rattle.sqlite.specs.State.{State, Savepoint, HasCleanDisk, IsUnchanged, Survives}
use Rattle.wb_sql.specs.Savepoints.{IsSavedAs, back_text, release_text, save_text}
use Rattle.wb_states.specs.declared.record.Record.{Record}
use Rattle.wb_states.specs.declared.store_fault.StoreFault.{StoreFault}
use Rattle.wb_states.specs.declared.store_fault.Table.TheVariants.{SourceRecord}
use Rattle.wb_states.specs.Machine.{Machine, Key}
use Rattle.wb_archive.specs.Tables.{Contents, HasFittingTake, Tables}
use Rattle.wb_store.specs.Calls.{FailsToLookUp, FailsToWrite}
use Rattle.wb_store.specs.Faults.{unfit}
use Rattle.wb_store.specs.Merging.{Scratch}
use Rattle.wb_store.specs.Others.{KeepsOthers}
use Rattle.wb_store.specs.Queries.{OfficeQuery}
use Rattle.wb_store.specs.Savepoints.{IsFaultOnPart}
use Rattle.wb_store.specs.ScratchLookups as scratch
use Rattle.wb_store.specs.ScratchWrites as scratch_write
use Rattle.wb_store.specs.ScratchWrites.{ScratchWrite}
use Rattle.wb_store.specs.Stands.{StandsWith}
use Rattle.wb_store.specs.Writes as write
use Rattle.wb_store.specs.Writes.{OfficeWrite}

-- ---- what stands in the tables

-- what is kept of the archive's lists, as the rows of a merge
abbrev pub scratch_of : Contents → Scratch
scratch_of now = record { sources = now.sources; binaries = now.binaries }

-- this stands in the tables of a database
abbrev pub HoldsContents : Contents → Database → Type 0
HoldsContents now db = StandsWith now.machine (scratch_of now) db

-- the newest savepoint of a transaction saw this in the tables, and the tables of others have the rows that they had then
pub record IsSavedWith (saved : Contents) (s : State) : Type 0 where
  pub front : List Savepoint
  pub was : Database
  pub newest : IsSavedAs front was s
  pub holds : HoldsContents saved was
  pub others : KeepsOthers was s.now

-- the savepoint of a merge, if it set one, saw this
abbrev pub HasSavepoint : Bool → Option Contents → State → Type 0
HasSavepoint false None s = ⊤
HasSavepoint false (Some saved) s = ⊥
HasSavepoint true None s = ⊥
HasSavepoint true (Some saved) s = IsSavedWith saved s

-- this stands in the tables in a transaction, and this stood in them at the savepoint, if the merge set one
pub record HoldsTables (is_saved : Bool) (tables : Tables) (s : State) : Type 0 where
  pub now : HoldsContents tables.now s.now
  pub saved : HasSavepoint is_saved tables.saved s

-- the tables are those of a merge, whatever stands in them
abbrev pub IsMerging : Bool → State → Type 0
IsMerging is_saved s = (tables : Tables) × HoldsTables is_saved tables s

-- the database has the office's tables, whatever stands in them
abbrev pub HoldsSome : Database → Type 0
HoldsSome db = (now : Contents) × HoldsContents now db

-- ---- calls that succeeded

-- a connection goes on in its transaction: it was open and is, what was committed stays, and so does the limit of
-- steps, and the tables of others keep their rows
pub record GoesOn (old new : State) : Type 0 where
  pub was_open : IsTrue old.is_open
  pub is_open : IsTrue new.is_open
  pub committed : new.committed ≡ old.committed
  pub inside : IsTrue old.in_transaction → IsTrue new.in_transaction
  pub others : KeepsOthers old.now new.now
  pub limit : new.step_limit ≡ old.step_limit

-- nothing was asked of the connection yet, or it went on in its transaction
abbrev pub RunsTo : {S : Type 0} → Ghosts S → Held S → Held S → Type 0
RunsTo g old new = (old ≡ new) ⊎ GoesOn (state g old) (state g new)

-- the transaction has these savepoints, and after them that of the merge, if it set one
abbrev pub HasOtherSavepoints : Bool → List Savepoint → State → Type 0
HasOtherSavepoints false others s = s.marks ≡ others
HasOtherSavepoints true others s = (was : Database) × IsSavedAs others was s

-- calls of a merge in a transaction succeeded: the tables are still those of a merge, the transaction went on, and it has the same savepoints beside that
-- of the merge; and a crash leaves no more than before
pub record RunsOn {S : Type 0} (g : Ghosts S) (was_saved : Bool) (old : Held S) (is_saved : Bool) (new : Held S) : Type 0 where
  pub runs : HasCleanDisk (state g new) → IsMerging was_saved (state g old) → IsMerging is_saved (state g new) × RunsTo g old new
  pub savepoints : HasCleanDisk (state g new) → IsMerging was_saved (state g old)
      → (others : List Savepoint) → HasOtherSavepoints was_saved others (state g old) → HasOtherSavepoints is_saved others (state g new)
  pub survives : Survives (state g old) (state g new) (λ _. ¬ IsMerging was_saved (state g old))

-- ---- a call that failed

-- the write puts or takes out a record
abbrev pub IsOfRecord : OfficeWrite → Type 0
IsOfRecord (write.PutsRecord entry) = ⊤
IsOfRecord (write.RemovesRecord key) = ⊤
IsOfRecord _ = ⊥

-- the take number of each record of an office fits
abbrev pub AllTakesFit : Machine → Type 0
AllTakesFit machine = (key : Key) (current : Record) → map.get machine.records key ≡ Some current → HasFittingTake current

-- a record that was looked up has a take number above the limit, for which no row of its table is blamed; the database stays as it is
pub record FindsTakeOverLimit (old new : State) (fault : StoreFault) : Type 0 where
  pub fault_is : fault ≡ unfit SourceRecord
  pub same : IsUnchanged old new
  pub over : (machine : Machine) (kept : Scratch) → StandsWith machine kept old.now → ¬ AllTakesFit machine

-- the text of a statement on the savepoint
abbrev pub SavepointText : Type 0
SavepointText = (sql : List ℕ) × ((sql ≡ save_text) ⊎ ((sql ≡ back_text) ⊎ (sql ≡ release_text)))

-- a call of a merge failed with this fault: a write of a record or of a row of the lists, a look-up of the one or the other, or a statement on the
-- savepoint; or a record that was looked up has a take number above the limit
abbrev pub FailsAtCall : State → State → StoreFault → Type 0
FailsAtCall old new fault =
    ((it : OfficeWrite) × (IsOfRecord it × FailsToWrite it old new fault))
    ⊎ (((it : ScratchWrite) × scratch_write.FailsToWrite it old new fault)
    ⊎ (((query : OfficeQuery) × FailsToLookUp query old new fault)
    ⊎ (((query : OfficeQuery) × scratch.FailsToLookUp query old new fault)
    ⊎ (((text : SavepointText) × IsFaultOnPart text.0 old new fault)
    ⊎ FindsTakeOverLimit old new fault))))

-- a call of a merge failed with this fault, after others that succeeded
abbrev pub FailsAfter : {S : Type 0} → Ghosts S → Held S → Held S → StoreFault → Type 0
FailsAfter {S} g old new fault = (mid : Held S) × (RunsTo g old mid × (HoldsSome (state g mid).now × FailsAtCall (state g mid) (state g new) fault))

-- calls of a merge in a transaction succeeded, and then one failed with this fault; and a crash leaves no more than before
pub record FailsIn {S : Type 0} (g : Ghosts S) (was_saved : Bool) (old new : Held S) (fault : StoreFault) : Type 0 where
  pub cause : HasCleanDisk (state g new) → IsMerging was_saved (state g old) → IsTrue old.in_transaction → FailsAfter g old new fault
  pub survives : Survives (state g old) (state g new) (λ _. ¬ IsMerging was_saved (state g old))
