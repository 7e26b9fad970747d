-- The writes to the scratch tables of a merge: what each changes of the two lists, with which parameters, and what a call that does it promises.
use Rattle.std.specs.Prelude.{◌≡◌, ◌⊎◌, ⊤, ℕ, false, List, [], ◌∷◌, Result, Err, IsTrue, IfErr, OnOk}
use Rattle.sqlite_trees.specs.declared.store.Store.{Ghosts}
use Rattle.sqlite.specs.declared.error.Error.{Error}
use Rattle.sqlite.specs.Held.{Held, state}
use Rattle.sqlite.specs.Order.{Row}
use Rattle.sqlite.specs.State.{State, HasCleanDisk, Executes, Survives}
use Rattle.wb_sql.specs.Among.{DeletesAmong, HasOffice, InsertsAmong}
use Rattle.wb_sql.specs.ScratchStatements as sql
use Rattle.wb_sql.specs.Tables as tables
use Rattle.wb_sql.specs.Transactions.{IsKeptOrUndone}
use Rattle.wb_states.specs.declared.scratch.BinaryRow.{BinaryRow}
use Rattle.wb_states.specs.declared.scratch.SourceRow.{SourceRow}
use Rattle.wb_states.specs.declared.store_fault.StoreFault.{StoreFault}
use Rattle.wb_states.specs.declared.store_fault.Table.{Table}
use Rattle.wb_states.specs.declared.store_fault.Table.TheVariants.{ScratchBinary, ScratchSource}
use Rattle.wb_states.specs.Machine.{Machine}
use Rattle.wb_rows.specs.Cells.{number}
use Rattle.wb_rows.specs.Scratch.{binary_cells, source_cells}
use Rattle.wb_store.specs.Calls.{BecomesWith}
use Rattle.wb_store.specs.Faults.{fault_of, unfit}
use Rattle.wb_store.specs.Merging.{Scratch, IsNewBinary, IsNewSource, with_binary, with_source, binaries_after, sources_after, without_binaries, without_sources}
use Rattle.wb_store.specs.Stands.{StandsWith}

-- a write to one of the scratch tables
pub data ScratchWrite : Type 0 where
  -- adds a source package, and a binary package
  AddsSource : SourceRow → ScratchWrite
  AddsBinary : BinaryRow → ScratchWrite
  -- removes the source packages, and the binary packages, up to a place
  RemovesSources : ℕ → ScratchWrite
  RemovesBinaries : ℕ → ScratchWrite
  -- removes all source packages, and all binary packages
  ClearsSources : ScratchWrite
  ClearsBinaries : ScratchWrite

-- the table that it changes
abbrev pub table_written : ScratchWrite → Table
table_written (AddsSource row) = ScratchSource
table_written (AddsBinary row) = ScratchBinary
table_written (RemovesSources place) = ScratchSource
table_written (RemovesBinaries place) = ScratchBinary
table_written ClearsSources = ScratchSource
table_written ClearsBinaries = ScratchBinary

-- its parameters
abbrev pub written_by : ScratchWrite → Row
written_by (AddsSource row) = source_cells row
written_by (AddsBinary row) = binary_cells row
written_by (RemovesSources place) = number place ∷ []
written_by (RemovesBinaries place) = number place ∷ []
written_by ClearsSources = []
written_by ClearsBinaries = []

-- over each schema that has the table, the text is this write, and has as many parameters as are given
abbrev pub IsTextOfWrite : ScratchWrite → List ℕ → Type 0
IsTextOfWrite (AddsSource row) text = InsertsAmong tables.scratch_source text sql.source_row 9
IsTextOfWrite (AddsBinary row) text = InsertsAmong tables.scratch_binary text sql.binary_row 7
IsTextOfWrite (RemovesSources place) text = DeletesAmong tables.scratch_source text sql.is_up_to_place 1
IsTextOfWrite (RemovesBinaries place) text = DeletesAmong tables.scratch_binary text sql.is_up_to_place 1
IsTextOfWrite ClearsSources text = DeletesAmong tables.scratch_source text [] 0
IsTextOfWrite ClearsBinaries text = DeletesAmong tables.scratch_binary text [] 0

-- the rows for which it is made: a package that is added has a new place
abbrev pub Allows : ScratchWrite → Scratch → Type 0
Allows (AddsSource row) scratch = IsNewSource row.seq scratch
Allows (AddsBinary row) scratch = IsNewBinary row.seq scratch
Allows _ scratch = ⊤

-- the rows after it
abbrev pub after_write : ScratchWrite → Scratch → Scratch
after_write (AddsSource row) = with_source row
after_write (AddsBinary row) = with_binary row
after_write (RemovesSources place) = sources_after place
after_write (RemovesBinaries place) = binaries_after place
after_write ClearsSources = without_sources
after_write ClearsBinaries = without_binaries

-- the statement of a write failed with an error, of which this is the fault, and nothing was written, or the whole transaction is taken back
pub record FailsToWrite (write : ScratchWrite) (old new : State) (fault : StoreFault) : Type 0 where
  pub error : Error
  pub sql : List ℕ
  pub text : IsTextOfWrite write sql
  pub failed : Executes sql (written_by write) old new (Err error)
  pub fault_is : fault ≡ fault_of error (table_written write)
  pub left : IsKeptOrUndone old new

-- a write to one of the scratch tables in a transaction: if it succeeds, the rows allowed it, and a database that stood for a state with rows that allow it
-- stands for the same state with the rows after it; if it fails, its statement did; if the transaction is over, it is refused; and a crash leaves no more
-- than before
pub record ChangesScratch {S A : Type 0} (g : Ghosts S) (write : ScratchWrite) (old new : Held S) (result : Result A StoreFault) : Type 0 where
  pub ok : HasCleanDisk (state g new)
      → OnOk result ((machine : Machine) (scratch : Scratch) → StandsWith machine scratch (state g old).now → Allows write scratch → BecomesWith machine (after_write write scratch) (state g old) (state g new))
  pub allowed : HasCleanDisk (state g new) → OnOk result ((machine : Machine) (scratch : Scratch) → StandsWith machine scratch (state g old).now → Allows write scratch)
  pub err : HasCleanDisk (state g new) → IsTrue old.in_transaction → IfErr result (FailsToWrite write (state g old) (state g new))
  pub ended : old.in_transaction ≡ false → (result ≡ Err (unfit (table_written write))) × (new ≡ old)
  pub survives : Survives (state g old) (state g new) (λ _. ¬ HasOffice old.schema)

-- nothing was done yet, or the database stands for the same state with other rows of a merge
abbrev pub ReachesScratch : {S : Type 0} → Ghosts S → Machine → Held S → Held S → Type 0
ReachesScratch g machine old new = (old ≡ new) ⊎ ((left : Scratch) × BecomesWith machine left (state g old) (state g new))

-- one of several such writes failed, after others
abbrev pub FailsToClear : {S : Type 0} → Ghosts S → Machine → Held S → Held S → StoreFault → Type 0
FailsToClear {S} g machine old new fault = (mid : Held S) × (write : ScratchWrite) × ReachesScratch g machine old mid × FailsToWrite write (state g mid) (state g new) fault

-- several such writes in a transaction, the first of which is to this table: if they succeed, a database that stood for a state with rows of a merge
-- stands for the same state with these rows; if they fail, one of them did, after others; if the transaction is over, the first is refused; and a crash
-- leaves no more than before
pub record ClearsScratch {S A : Type 0} (g : Ghosts S) (first : Table) (after : Scratch → Scratch) (old new : Held S) (result : Result A StoreFault) : Type 0 where
  pub ok : HasCleanDisk (state g new)
      → OnOk result ((machine : Machine) (scratch : Scratch) → StandsWith machine scratch (state g old).now → BecomesWith machine (after scratch) (state g old) (state g new))
  pub err : HasCleanDisk (state g new) → IsTrue old.in_transaction → (machine : Machine) (scratch : Scratch) → StandsWith machine scratch (state g old).now
      → IfErr result (FailsToClear g machine old new)
  pub ended : old.in_transaction ≡ false → (result ≡ Err (unfit first)) × (new ≡ old)
  pub survives : Survives (state g old) (state g new) (λ _. (machine : Machine) (scratch : Scratch) → ¬ StandsWith machine scratch (state g old).now)
