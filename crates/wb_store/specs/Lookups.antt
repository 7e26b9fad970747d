-- What a query on one of the office's tables answers, and when what it answers is not read.
use Rattle.std.specs.Prelude.{◌≡◌, ◌⊎◌, ℕ, ◌<◌, Bool, ◌&&◌, pos, List, [], ◌∷◌, length, map, filter, Option, is_some}
use Rattle.std.specs.Prelude.{Result, Vec, IfOk, IfErr, OnOk, IsUtf8}
use Rattle.std.specs.FinMap as finite
use Rattle.std.specs.List.{AllByRecursion}
use Rattle.std.specs.Option.{option_map}
use Rattle.sqlite.specs.declared.types.Value.TheVariants.{Int}
use Rattle.sqlite.specs.declared.error.Error.{Error}
use Rattle.sqlite.specs.Given.{IsPlain}
use Rattle.sqlite.specs.Held.{Held, state}
use Rattle.sqlite.specs.Listing.{understood}
use Rattle.sqlite.specs.Order.{Row, column}
use Rattle.sqlite.specs.State.{State, HasCleanDisk, IsUnchanged, FailsToQuery, Survives}
use Rattle.sqlite_trees.specs.declared.store.Store.{Ghosts}
use Rattle.deb_text.specs.Lists.{first_of, sorted_by}
use Rattle.wb_sql.specs.Queries.{TableQuery, Asks, Answers}
use Rattle.wb_sql.specs.Transactions.{IsKeptOrUndone}
use Rattle.wb_states.specs.declared.arch.OsCpu.{OsCpu}
use Rattle.wb_states.specs.declared.store_fault.StoreFault.{StoreFault}
use Rattle.wb_states.specs.declared.store_fault.Table.{Table}
use Rattle.wb_states.specs.declared.store_fault.Table.TheVariants.{SourceRecord}
use Rattle.wb_states.specs.Machine.{Key, Machine, IsConsistent}
use Rattle.wb_states.specs.Holds.{is_held_by, held_of, take_cmp}
use Rattle.wb_states.specs.Queue.{Entry}
use Rattle.wb_states.specs.declared.keyed.KeyedRecord.{KeyedRecord}
use Rattle.wb_states.specs.declared.state.State.{State as BuildState}
use Rattle.wb_states.specs.Lookups.{entry_of}
use Rattle.wb_rows.specs.Cells.{record_cells, arch_cells, builder_cells, state_cells, number}
use Rattle.wb_rows.specs.Reading.{IsReadable}
use Rattle.wb_store.specs.Faults.{IsUnfit, fault_of}

-- the columns of a record with its key
abbrev pub keyed_cells : KeyedRecord → Row
keyed_cells row = record_cells (entry_of row)

-- the row is that of a record that can be read
abbrev pub HasRecord : Row → Type 0
HasRecord row = (entry : Entry) × IsReadable entry × (row ≡ record_cells entry)

-- the rows have the columns of some that fit
abbrev pub AreRowsOf : {X : Type 0} → (X → Row) → (X → Type 0) → List Row → Type 0
AreRowsOf {X} columns Fits rows = (xs : List X) × AllByRecursion Fits xs × (rows ≡ map columns xs)

-- the rows are those of records that can be read
abbrev pub AreRecords : List Row → Type 0
AreRecords = AreRowsOf record_cells IsReadable

-- the row is that of a state
abbrev pub HasState : Row → Type 0
HasState row = (state : BuildState) × (row ≡ state_cells state)

-- the rows are those of states
abbrev pub AreStates : List Row → Type 0
AreStates rows = (states : List BuildState) × (rows ≡ map state_cells states)

-- an architecture whose row can be read: its texts are UTF-8
pub record IsReadableArch (arch : List ℕ × OsCpu) : Type 0 where
  pub name : IsUtf8 arch.0
  pub os : IsUtf8 arch.1.os
  pub cpu : IsUtf8 arch.1.cpu

-- the row is that of an architecture that can be read
abbrev pub HasArch : Row → Type 0
HasArch row = (arch : List ℕ × OsCpu) × IsReadableArch arch × (row ≡ arch_cells arch)

-- the rows are those of architectures that can be read
abbrev pub AreArchs : List Row → Type 0
AreArchs = AreRowsOf arch_cells IsReadableArch

-- the words of the first of the architectures whose rows these are, if there is one
abbrev pub FirstWords : List Row → Option OsCpu → Type 0
FirstWords rows found = (archs : List (List ℕ × OsCpu)) × (rows ≡ map arch_cells archs) × (found ≡ option_map (λ arch. arch.1) (first_of archs))

-- a builder and an architecture whose row can be read: their names are UTF-8
pub record IsReadablePair (pair : Key) : Type 0 where
  pub builder : IsUtf8 pair.0
  pub arch : IsUtf8 pair.1

-- the row is that of a builder and an architecture that can be read
abbrev pub HasPair : Row → Type 0
HasPair row = (pair : Key) × IsReadablePair pair × (row ≡ builder_cells pair)

-- the rows are those of builders and architectures that can be read
abbrev pub ArePairs : List Row → Type 0
ArePairs = AreRowsOf builder_cells IsReadablePair

-- the rows are those of builders for these architectures
abbrev pub HaveArchs : List Row → List (List ℕ) → Type 0
HaveArchs rows archs = (pairs : List Key) × (rows ≡ map builder_cells pairs) × (archs ≡ map (λ pair. pair.1) pairs)

-- the rows that a query may answer
abbrev pub MayAnswer : List ℕ → Row → State → List Row → Type 0
MayAnswer sql params s rows = (q : TableQuery) (count : ℕ) → Asks s.now.schema sql q count → Answers q params (s.now.trees q.tree) rows

-- the query failed with an error, of which this is the fault if it is on the table, and changed nothing or took a transaction back
abbrev pub IsQueryFault : Table → List ℕ → Row → State → State → StoreFault → Type 0
IsQueryFault table sql params old new fault = (e : Error) × FailsToQuery sql params old new e × IsKeptOrUndone old new × (fault ≡ fault_of e table)

-- the rows of a query, whose failure is a fault of this table: if it succeeds, they are its answer, and the database stays as it is; if it fails, it fails as the query does;
-- and a crash leaves no more than before
pub record ReadsTable {S X : Type 0} (g : Ghosts S) (table : Table) (sql : List ℕ) (params : Row) (old new : Held S) (result : Result (Vec Row X) StoreFault) : Type 0 where
  pub value : HasCleanDisk (state g new) → IfOk result (λ rows. MayAnswer sql params (state g old) rows.items)
  pub same : HasCleanDisk (state g new) → IsPlain (understood old.schema sql) → OnOk result (IsUnchanged (state g old) (state g new))
  pub err : HasCleanDisk (state g new) → IfErr result (IsQueryFault table sql params (state g old) (state g new))
  pub survives : Survives (state g old) (state g new) (λ _. ¬ IsPlain (understood old.schema sql))

-- why the records of a query are not read: it failed; or memory ran out for them; or a row that it answers is no record
abbrev pub FailsToReadRecords : List ℕ → Row → State → State → StoreFault → Type 0
FailsToReadRecords sql params old new fault =
    IsQueryFault SourceRecord sql params old new fault
    ⊎ (IsUnchanged old new × ((rows : List Row) × MayAnswer sql params old rows × IsUnfit SourceRecord (AreRecords rows) fault))

-- the records of a query: if it succeeds, their columns are its rows, and the database stays as it is; if it fails, it fails for one of the
-- reasons above; and a crash leaves no more than before
pub record ReadsRecords {S X : Type 0} (g : Ghosts S) (sql : List ℕ) (params : Row) (old new : Held S) (result : Result (Vec KeyedRecord X) StoreFault) : Type 0 where
  pub value : HasCleanDisk (state g new) → IfOk result (λ rows. MayAnswer sql params (state g old) (map keyed_cells rows.items))
  pub same : HasCleanDisk (state g new) → IsPlain (understood old.schema sql) → OnOk result (IsUnchanged (state g old) (state g new))
  pub err : HasCleanDisk (state g new) → IsPlain (understood old.schema sql) → IfErr result (FailsToReadRecords sql params (state g old) (state g new))
  pub survives : Survives (state g old) (state g new) (λ _. ¬ IsPlain (understood old.schema sql))

-- a record that the builder holds, and that has a take number
abbrev pub is_held_with_take : List ℕ → Entry → Bool
is_held_with_take builder entry = is_held_by builder entry && is_some entry.1.take

-- these are the records that the builder holds, as far as they have a take number, by take number: in a consistent
-- office all that it holds
pub record AreHeld (machine : Machine) (builder : List ℕ) (entries : List Entry) : Type 0 where
  pub with_take : entries
      ≡ sorted_by take_cmp (filter (is_held_with_take builder) (finite.entries machine.records))
  pub whole : IsConsistent machine → entries ≡ held_of machine builder

-- the row of the counts, as a query answers it
abbrev pub counts_row : ℕ → ℕ → Row
counts_row handed accepted = Int (pos 2) ∷ number handed ∷ number accepted ∷ []

-- there is one row, that of these counts
abbrev pub AreCounts : List Row → ℕ → ℕ → Type 0
AreCounts rows handed accepted = rows ≡ counts_row handed accepted ∷ []

-- there is one row, that of some counts
abbrev pub HaveCounts : List Row → Type 0
HaveCounts rows = (handed : ℕ) × (accepted : ℕ) × AreCounts rows handed accepted

-- a column has a number from 0
abbrev pub HasNumberAt : Row → ℕ → Type 0
HasNumberAt row at = (n : ℕ) × (at < length row) × (column row at ≡ number n)
