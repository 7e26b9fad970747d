-- All rows of the office's tables, table by table, and what a call that shows them promises.
use Rattle.std.specs.Prelude.{◌≡◌, ◌⊎◌, pos, List, [], ◌∷◌, ◌++◌, map, Result, IfOk, IfErr, OnOk}
use Rattle.sqlite_trees.specs.declared.store.Store.{Ghosts}
use Rattle.sqlite.specs.declared.types.Value.TheVariants.{Int}
use Rattle.sqlite.specs.Held.{Held, state}
use Rattle.sqlite.specs.Order.{Row}
use Rattle.sqlite.specs.State.{HasCleanDisk, IsUnchanged, Survives}
use Rattle.wb_sql.specs.Among.{HasOffice}
use Rattle.wb_states.specs.declared.store_fault.StoreFault.{StoreFault}
use Rattle.wb_states.specs.declared.store_fault.StoreFault.TheVariants.{Memory}
use Rattle.wb_states.specs.declared.store_fault.Table.{Table}
use Rattle.wb_states.specs.declared.store_fault.Table.TheVariants as on
use Rattle.wb_states.specs.Machine.{Machine, IsConsistent}
use Rattle.wb_rows.specs.declared.cell.Cell.{Cell}
use Rattle.wb_rows.specs.declared.cell.TableRow.{TableRow}
use Rattle.wb_rows.specs.Cells.{number}
use Rattle.wb_rows.specs.Shown.{AreReadableCells, row_of, values_of}
use Rattle.wb_rows.specs.Scratch.{binary_cells, source_cells}
use Rattle.wb_store.specs.Calls.{FailsToRead}
use Rattle.wb_store.specs.Faults.{unfit}
use Rattle.wb_store.specs.Finds.{StaysAs}
use Rattle.wb_store.specs.Merging.{Scratch}
use Rattle.wb_store.specs.Queries as ask
use Rattle.wb_store.specs.Queries.{OfficeQuery, table_asked}
use Rattle.wb_store.specs.ScratchLookups.{AreReadable}
use Rattle.wb_store.specs.Stands.{StandsWith, arch_rows, builder_rows, record_rows}

-- the office's tables in their order
abbrev pub office_tables : List Table
office_tables = on.Office ∷ on.Arch ∷ on.Builder ∷ on.SourceRecord ∷ on.ScratchSource ∷ on.ScratchBinary ∷ []

-- the columns of the row of the office: its id is 1, the format 2, and then stand the two counts
abbrev pub office_cells : Machine → Row
office_cells machine = Int (pos 1) ∷ Int (pos 2) ∷ number machine.handed ∷ number machine.accepted ∷ []

-- the columns of each row of a table, by its key, as a state and the rows of a merge have them
abbrev pub rows_of_table : Machine → Scratch → Table → List Row
rows_of_table machine scratch on.Office = office_cells machine ∷ []
rows_of_table machine scratch on.Arch = arch_rows machine
rows_of_table machine scratch on.Builder = builder_rows machine
rows_of_table machine scratch on.SourceRecord = record_rows machine
rows_of_table machine scratch on.ScratchSource = map source_cells scratch.sources
rows_of_table machine scratch on.ScratchBinary = map binary_cells scratch.binaries
rows_of_table machine scratch on.SourceState = []

-- rows of one table, each with the table
abbrev pub with_table : Table → List Row → List (Table × Row)
with_table table rows = map (λ row. (table, row)) rows

-- the rows of these tables, one table after another
abbrev pub rows_of_tables : Machine → Scratch → List Table → List (Table × Row)
rows_of_tables machine scratch [] = []
rows_of_tables machine scratch (table ∷ tables) = with_table table (rows_of_table machine scratch table) ++ rows_of_tables machine scratch tables

-- all rows of the office's tables
abbrev pub table_rows : Machine → Scratch → List (Table × Row)
table_rows machine scratch = rows_of_tables machine scratch office_tables

-- the query for all rows of a table
abbrev pub query_of_table : Table → OfficeQuery
query_of_table on.Office = ask.OfficeRow
query_of_table on.Arch = ask.Archs
query_of_table on.Builder = ask.Builders
query_of_table on.SourceRecord = ask.Records
query_of_table on.ScratchSource = ask.Sources
query_of_table on.ScratchBinary = ask.Binaries
query_of_table on.SourceState = ask.States

-- the row is that of cells that are shown
abbrev pub HasCells : Row → Type 0
HasCells row = (cells : List Cell) × AreReadableCells cells × (row ≡ values_of cells)

-- why the rows of a table are not shown: its query failed; or memory ran out for them; or a row is not what an office keeps
abbrev pub FailsToShow : {S : Type 0} → Ghosts S → Table → Held S → Held S → StoreFault → Type 0
FailsToShow g table old new fault =
    FailsToRead (query_of_table table) (state g old) (state g new) fault
    ⊎ (((fault ≡ Memory) × IsUnchanged (state g old) (state g new))
    ⊎ ((fault ≡ unfit table) × IsUnchanged (state g old) (state g new)
    × ((machine : Machine) (scratch : Scratch) → IsConsistent machine → AreReadable scratch → ¬ StandsWith machine scratch (state g old).now)))

-- the rows of one of the tables are not shown, after calls that left the database as it was
abbrev pub FailsToShowOne : {S : Type 0} → Ghosts S → Held S → Held S → StoreFault → Type 0
FailsToShowOne {S} g old new fault = (mid : Held S) × (table : Table) × StaysAs g old mid × FailsToShow g table mid new fault

-- the rows of one table are shown after those before
pub record ShowsTable {S A : Type 0} (g : Ghosts S) (table : Table) (before after : List (Table × Row)) (old new : Held S) (result : Result A StoreFault) : Type 0 where
  pub value : HasCleanDisk (state g new)
      → OnOk result ((machine : Machine) (scratch : Scratch) → StandsWith machine scratch (state g old).now → after ≡ before ++ with_table table (rows_of_table machine scratch table))
  pub same : HasCleanDisk (state g new) → HasOffice old.schema → OnOk result (IsUnchanged (state g old) (state g new))
  pub err : HasCleanDisk (state g new) → HasOffice old.schema → IfErr result (FailsToShow g table old new)
  pub survives : Survives (state g old) (state g new) (λ _. ¬ HasOffice old.schema)

-- the rows of tables are shown after those before: if it succeeds, they are exactly the rows of the state and of the merge with which the
-- database stands, each once, and the database stays as it is; if it fails, it fails for one of the reasons above; and a crash leaves no more
-- than before
pub record ShowsRows {S A : Type 0} (g : Ghosts S) (tables : List Table) (before after : List (Table × Row)) (old new : Held S) (result : Result A StoreFault) : Type 0 where
  pub value : HasCleanDisk (state g new)
      → OnOk result ((machine : Machine) (scratch : Scratch) → StandsWith machine scratch (state g old).now → after ≡ before ++ rows_of_tables machine scratch tables)
  pub same : HasCleanDisk (state g new) → HasOffice old.schema → OnOk result (StaysAs g old new)
  pub err : HasCleanDisk (state g new) → HasOffice old.schema → IfErr result (FailsToShowOne g old new)
  pub survives : Survives (state g old) (state g new) (λ _. ¬ HasOffice old.schema)

-- all rows of the office's tables are shown
pub record ShowsAll {S : Type 0} (g : Ghosts S) (old new : Held S) (result : Result (List TableRow) StoreFault) : Type 0 where
  pub value : HasCleanDisk (state g new)
      → IfOk result (λ rows. (machine : Machine) (scratch : Scratch) → StandsWith machine scratch (state g old).now → map row_of rows ≡ table_rows machine scratch)
  pub same : HasCleanDisk (state g new) → HasOffice old.schema → OnOk result (StaysAs g old new)
  pub err : HasCleanDisk (state g new) → HasOffice old.schema → IfErr result (FailsToShowOne g old new)
  pub survives : Survives (state g old) (state g new) (λ _. ¬ HasOffice old.schema)
