-- How an office of the first schema is brought over into the second, in one transaction: each step of it, and the whole.
use Rattle.std.specs.Prelude.{◌≡◌, ◌⊎◌, ℕ, true, false, List, [], ◌∷◌, map, Result, Err, IfOk, IfErr, IsTrue, OnOk, Vec}
use Rattle.std.specs.List.{AllByRecursion}
use Rattle.std.specs.FinMap as finite
use Rattle.sqlite_trees.specs.declared.store.Store.{Ghosts}
use Rattle.sqlite.specs.declared.error.Error.{Error}
use Rattle.sqlite.specs.Effect.{Database}
use Rattle.sqlite.specs.Held.{Held, state}
use Rattle.sqlite.specs.Order.{Row}
use Rattle.sqlite.specs.Schema.{Schema}
use Rattle.sqlite.specs.State.{State, Executes, HasCleanDisk, IsUnchanged, Shows, Survives}
use Rattle.sqlite.specs.Tree.{Trees}
use Rattle.wb_sql.specs.Among.{DeletesAmong, HasOffice, HasStates, UpdatesAmong, rows_in}
use Rattle.wb_sql.specs.FirstSchema.{second_format}
use Rattle.wb_sql.specs.Making.{IsMaking}
use Rattle.wb_sql.specs.Tables.{office, source_record, source_state, scratch_source, scratch_binary}
use Rattle.wb_sql.specs.Transactions.{FailsToCommit}
use Rattle.wb_sql.specs.Upgrading.{HasFirstOffice, with_second}
use Rattle.wb_archive.specs.Tables.{HasFittingTake}
use Rattle.wb_rows.specs.FirstSchema.{IsOfFirst, first_cells}
use Rattle.wb_rows.specs.Reading.{IsReadable}
use Rattle.wb_states.specs.declared.keyed.KeyedRecord.{KeyedRecord}
use Rattle.wb_states.specs.declared.store_fault.StoreFault.{StoreFault}
use Rattle.wb_states.specs.declared.store_fault.StoreFault.TheVariants.{Memory}
use Rattle.wb_states.specs.declared.store_fault.Table.{Table}
use Rattle.wb_states.specs.declared.store_fault.Table.TheVariants.{Office, SourceRecord, SourceState}
use Rattle.wb_states.specs.Lookups.{entry_of}
use Rattle.wb_states.specs.Machine.{IsConsistent, Machine}
use Rattle.wb_states.specs.Queue.{Entry}
use Rattle.wb_store.specs.Calls.{FailsToRead}
use Rattle.wb_store.specs.Faults.{fault_of, unfit}
use Rattle.wb_store.specs.Others.{KeepsOthersIn, KeepsOthersOver}
use Rattle.wb_store.specs.Queries as ask
use Rattle.wb_store.specs.Settled.{IsFirstOffice, IsSettled, StandsForTrees, begun}
use Rattle.wb_store.specs.Stands.{HasArchsOf, HasBuildersOf, StandsFor, StandsForFirst}
use Rattle.wb_store.specs.Writes as write
use Rattle.wb_store.specs.Writes.{IsTextOfWrite, table_written, written_by}

-- these are the records of the state
abbrev pub AreRecordsOf : Machine → List Entry → Type 0
AreRecordsOf machine records = records ≡ finite.entries machine.records

-- ---- the records of the first schema

-- a record of the first schema that can be read, with a take number that fits
abbrev pub IsFirstEntry : Entry → Type 0
IsFirstEntry entry = IsReadable entry × IsOfFirst entry.1 × HasFittingTake entry.1

-- the columns of a record with its key, in the first schema
abbrev pub first_keyed : KeyedRecord → Row
first_keyed read = first_cells (entry_of read)

-- why the records of the first schema are not read: the query failed; or memory ran out; or a row is not what an office keeps
abbrev pub FailsToReadFirst : State → State → StoreFault → Type 0
FailsToReadFirst old new fault =
    FailsToRead ask.States old new fault
    ⊎ (((fault ≡ Memory) × IsUnchanged old new) ⊎ ((fault ≡ unfit SourceState) × IsUnchanged old new × ((machine : Machine) → IsConsistent machine → ¬ StandsForFirst machine old.now)))

-- all records of an office of the first schema are read, by their keys: if it succeeds, they are those of the state for which the database stands, and the
-- database stays as it is; if it fails, it fails for one of the reasons above; and a crash leaves no more than before
pub record ReadsFirst {S X : Type 0} (g : Ghosts S) (old new : Held S) (result : Result (Vec KeyedRecord X) StoreFault) : Type 0 where
  pub value : HasCleanDisk (state g new) → HasFirstOffice old.schema
      → IfOk result (λ made. (machine : Machine) → StandsForFirst machine (state g old).now → AreRecordsOf machine (map entry_of made.items))
  pub fit : IfOk result (λ made. AllByRecursion (λ read. HasFittingTake read.current) made.items)
  pub same : HasCleanDisk (state g new) → HasFirstOffice old.schema → OnOk result (IsUnchanged (state g old) (state g new))
  pub err : HasCleanDisk (state g new) → HasFirstOffice old.schema → IfErr result (FailsToReadFirst (state g old) (state g new))
  pub survives : Survives (state g old) (state g new) (λ _. ¬ HasFirstOffice old.schema)

-- ---- the steps

-- on the way the tables of both schemas are there, that of records has no row, and of the office and of the records of the first schema the rows are these
pub record IsBetween (machine : Machine) (counts : Row) (AreStates : List Row → Type 0) (db : Database) : Type 0 where
  pub has : HasOffice db.schema
  pub old : HasStates db.schema
  pub counts_are : rows_in db office ≡ counts ∷ []
  pub archs : HasArchsOf machine db
  pub builders : HasBuildersOf machine db
  pub records : rows_in db source_record ≡ []
  pub states : AreStates (rows_in db source_state)
  pub sources : rows_in db scratch_source ≡ []
  pub binaries : rows_in db scratch_binary ≡ []

-- the state without its records
abbrev pub without_records : Machine → Machine
without_records machine = record machine { records = finite.empty }

-- the state with these records too
abbrev pub with_records : Machine → List Entry → Machine
with_records machine [] = machine
with_records machine (entry ∷ entries) = with_records (record machine { records = finite.insert machine.records entry.0 entry.1 }) entries

-- in a transaction this is true of the database now, its schema has become this one of what it was, the tables of others keep their rows, and what was committed stays
pub record IsMoved (become : Schema → Schema) (After : Database → Type 0) (old new : State) : Type 0 where
  pub reached : After new.now
  pub others : KeepsOthersIn become old.now new.now
  pub shown : Shows old new new.now old.committed true
  pub marks : new.marks ≡ old.marks

-- a statement of an upgrade over this schema, with its parameters and the table that its fault names: one that makes a table or an index of the second schema; the one
-- that removes the records of the first; the one that sets the format; or one that puts a record
abbrev pub IsUpgrading : Schema → List ℕ → Row → Table → Type 0
IsUpgrading schema sql params table =
    (IsMaking schema sql × (params ≡ []) × (table ≡ SourceRecord))
    ⊎ ((DeletesAmong source_state sql [] 0 × (params ≡ []) × (table ≡ SourceState))
    ⊎ ((UpdatesAmong office sql [] second_format 0 × (params ≡ []) × (table ≡ Office))
    ⊎ ((entry : Entry) × IsTextOfWrite (write.PutsRecord entry) sql × (params ≡ written_by (write.PutsRecord entry)) × (table ≡ table_written (write.PutsRecord entry)))))

-- a statement of the upgrade failed in the transaction, under the limit of steps that there was, with an error of which this is the fault
abbrev pub FailsToMove : {S : Type 0} → Ghosts S → Held S → Held S → StoreFault → Type 0
FailsToMove {S} g old new fault =
    (at : Held S) × (sql : List ℕ) × (params : Row) × (e : Error) × (table : Table) × IsTrue (state g at).in_transaction × ((state g at).step_limit ≡ (state g old).step_limit)
    × IsUpgrading (state g at).now.schema sql params table × Executes sql params (state g at) (state g new) (Err e) × (fault ≡ fault_of e table)

-- the connection is open, and a transaction is under way
pub record IsInside (s : State) : Type 0 where
  pub is_open : IsTrue s.is_open
  pub inside : IsTrue s.in_transaction

-- a step in a transaction over a database of which the first is true: if it succeeds, the second is, the schema has become this one of what it was, and the tables of
-- others keep their rows; if it fails, one of its statements did; and a crash leaves no more than before. The limit of steps stays
pub record Moves {S A : Type 0} (g : Ghosts S) (become : Schema → Schema) (Before After : Database → Type 0) (old new : Held S) (result : Result A StoreFault) : Type 0 where
  pub ok : HasCleanDisk (state g new) → IsInside (state g old) → OnOk result (Before (state g old).now → IsMoved become After (state g old) (state g new))
  pub err : HasCleanDisk (state g new) → IsInside (state g old) → Before (state g old).now → IfErr result (FailsToMove g old new)
  pub survives : HasCleanDisk (state g new) → IsInside (state g old) → Before (state g old).now → Survives (state g old) (state g new) (λ _. ⊥)
  pub was_clean : HasCleanDisk (state g new) → HasCleanDisk (state g old)
  pub limit : (state g new).step_limit ≡ (state g old).step_limit

-- ---- the whole

-- an open connection to an office of the first schema in this state
pub record HasFirst (machine : Machine) (s : State) : Type 0 where
  pub is_open : IsTrue s.is_open
  pub office : IsFirstOffice machine s.now

-- a crash leaves what it could leave before, or the office of the second schema in this state
abbrev pub LeavesOrUpgrades : Machine → State → State → Type 0
LeavesOrUpgrades machine old new = (db : Trees) → new.may_leave db → old.may_leave db ⊎ StandsForTrees machine db

-- why an office is not brought over in the transaction that began: a statement failed, or, after all of them, the commit
abbrev pub FailsToUpgrade : {S : Type 0} → Ghosts S → Machine → Held S → StoreFault → Type 0
FailsToUpgrade {S} g machine old fault =
    (at : Held S)
    × (FailsToMove g (begun old) at fault ⊎ (IsMoved with_second (StandsFor machine) (state g (begun old)) (state g at) × ((e : Error) × FailsToCommit g at e × (fault ≡ fault_of e Office))))

-- an office of the first schema, of which these are the records, is brought over into the second, whole or not at all, also after a crash; if it is, the tables of
-- others keep their rows; no transaction is under way then; the limit of steps stays
pub record UpgradesOffice {S A : Type 0} (g : Ghosts S) (records : List Entry) (old new : Held S) (result : Result A StoreFault) : Type 0 where
  pub was_clean : HasCleanDisk (state g new) → HasCleanDisk (state g old)
  pub limit : (state g new).step_limit ≡ (state g old).step_limit
  pub idle : HasCleanDisk (state g new) → (state g new).in_transaction ≡ false
  pub upgraded : HasCleanDisk (state g new) → (machine : Machine) → HasFirst machine (state g old) → AreRecordsOf machine records → OnOk result (IsSettled machine (state g new))
  pub others : HasCleanDisk (state g new) → (machine : Machine) → HasFirst machine (state g old) → AreRecordsOf machine records
      → OnOk result (KeepsOthersOver (state g old).now (state g new).now)
  pub crash : HasCleanDisk (state g new) → (machine : Machine) → HasFirst machine (state g old) → AreRecordsOf machine records → LeavesOrUpgrades machine (state g old) (state g new)
  pub err : HasCleanDisk (state g new) → (machine : Machine) → HasFirst machine (state g old) → AreRecordsOf machine records → IfErr result (FailsToUpgrade g machine old)
