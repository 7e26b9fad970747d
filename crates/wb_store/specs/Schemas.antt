-- The two schemas of an office's tables: the number of the format, and how each keeps the records.
use Rattle.std.specs.Prelude.{⊤, ℕ, [], ◌∷◌}
use Rattle.std.specs.List.{AllByRecursion}
use Rattle.std.specs.FinMap as finite
use Rattle.sqlite.specs.Order.{Row}
use Rattle.wb_states.specs.Machine.{Machine}
use Rattle.wb_states.specs.Queue.{Entry}
use Rattle.wb_states.specs.declared.record.Record.{Record}
use Rattle.wb_states.specs.declared.store_fault.Table.{Table}
use Rattle.wb_states.specs.declared.store_fault.Table.TheVariants.{SourceRecord, SourceState}
use Rattle.wb_rows.specs.Cells.{number, record_cells}
use Rattle.wb_rows.specs.FirstSchema.{IsNoFirst, IsOfFirst, first_cells}
use Rattle.wb_rows.specs.Reading.{IsNoRecord}
use Rattle.wb_store.specs.declared.format.Format.{Format}
use Rattle.wb_store.specs.declared.format.Format.TheVariants.{One, Two}
use Rattle.wb_store.specs.Queries as ask
use Rattle.wb_store.specs.Queries.{OfficeQuery}

-- the number of the format
abbrev pub number_of : Format → ℕ
number_of One = 1
number_of Two = 2

-- the columns of the row of the office, as a query answers it
abbrev pub row_in : Format → ℕ → ℕ → Row
row_in format handed accepted = number (number_of format) ∷ number handed ∷ number accepted ∷ []

-- the table of the records
abbrev pub table_of_records : Format → Table
table_of_records One = SourceState
table_of_records Two = SourceRecord

-- the query for all of them
abbrev pub query_of_records : Format → OfficeQuery
query_of_records One = ask.States
query_of_records Two = ask.Records

-- the columns of a record
abbrev pub cells_in : Format → Entry → Row
cells_in One = first_cells
cells_in Two = record_cells

-- a record as the schema can keep it
abbrev pub IsKeptIn : Format → Record → Type 0
IsKeptIn One = IsOfFirst
IsKeptIn Two = λ _. ⊤

-- the schema can keep each record of the state
abbrev pub AreKeptIn : Format → Machine → Type 0
AreKeptIn format machine = AllByRecursion (λ entry. IsKeptIn format entry.1) (finite.entries machine.records)

-- the row is not that of a record of the schema that can be read
abbrev pub IsNoneIn : Format → Row → Type 0
IsNoneIn One = IsNoFirst
IsNoneIn Two = IsNoRecord
