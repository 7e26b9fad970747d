-- The writes to the office's tables: what each changes of which table, with which parameters.
use Rattle.std.specs.Prelude.{ℕ, List, [], ◌∷◌}
use Rattle.sqlite.specs.Order.{Row}
use Rattle.sqlite.specs.declared.types.Value.TheVariants.{Text}
use Rattle.wb_sql.specs.Among.{DeletesAmong, InsertsAmong, UpdatesAmong, UpsertsRecords}
use Rattle.wb_sql.specs.OfficeStatements as sql
use Rattle.wb_sql.specs.Tables as tables
use Rattle.wb_states.specs.declared.arch.OsCpu.{OsCpu}
use Rattle.wb_states.specs.declared.store_fault.Table.{Table}
use Rattle.wb_states.specs.declared.store_fault.Table.TheVariants.{Arch, Builder, Office, SourceRecord}
use Rattle.wb_states.specs.Machine.{Key}
use Rattle.wb_states.specs.Queue.{Entry}
use Rattle.wb_rows.specs.Cells.{arch_cells, builder_cells, number, record_cells}

-- a write to one of the office's tables
pub data OfficeWrite : Type 0 where
  -- sets the two counts, of take numbers handed out and of commands accepted
  SetsCounts : ℕ → ℕ → OfficeWrite
  -- adds an architecture with its words
  AddsArch : List ℕ × OsCpu → OfficeWrite
  -- adds a builder for an architecture
  AddsBuilder : Key → OfficeWrite
  -- takes an architecture out, and takes a builder from an architecture
  RemovesArch : List ℕ → OfficeWrite
  RemovesBuilder : Key → OfficeWrite
  -- puts a record at its key, or in place of the one that is there; puts it in place of the one that is there; and takes out the one at a key
  PutsRecord : Entry → OfficeWrite
  ReplacesRecord : Entry → OfficeWrite
  RemovesRecord : Key → OfficeWrite

-- the table that it changes
abbrev pub table_written : OfficeWrite → Table
table_written (SetsCounts handed accepted) = Office
table_written (AddsArch arch) = Arch
table_written (AddsBuilder pair) = Builder
table_written (RemovesArch name) = Arch
table_written (RemovesBuilder pair) = Builder
table_written (PutsRecord entry) = SourceRecord
table_written (ReplacesRecord entry) = SourceRecord
table_written (RemovesRecord key) = SourceRecord

-- its parameters
abbrev pub written_by : OfficeWrite → Row
written_by (SetsCounts handed accepted) = number handed ∷ number accepted ∷ []
written_by (AddsArch arch) = arch_cells arch
written_by (AddsBuilder pair) = builder_cells pair
written_by (RemovesArch name) = Text name ∷ []
written_by (RemovesBuilder pair) = Text pair.0 ∷ Text pair.1 ∷ []
written_by (PutsRecord entry) = record_cells entry
written_by (ReplacesRecord entry) = record_cells entry
written_by (RemovesRecord key) = Text key.0 ∷ Text key.1 ∷ []

-- over each schema that has the table, the text is this write, and has as many parameters as are given
abbrev pub IsTextOfWrite : OfficeWrite → List ℕ → Type 0
IsTextOfWrite (SetsCounts handed accepted) text = UpdatesAmong tables.office text [] sql.office_sets 2
IsTextOfWrite (AddsArch arch) text = InsertsAmong tables.arch text sql.arch_row 3
IsTextOfWrite (AddsBuilder pair) text = InsertsAmong tables.builder text sql.builder_row 2
IsTextOfWrite (RemovesArch name) text = DeletesAmong tables.arch text sql.has_arch_name 1
IsTextOfWrite (RemovesBuilder pair) text = DeletesAmong tables.builder text sql.has_pair 2
IsTextOfWrite (PutsRecord entry) text = UpsertsRecords text
IsTextOfWrite (ReplacesRecord entry) text = UpdatesAmong tables.source_record text sql.has_record_key sql.record_sets 16
IsTextOfWrite (RemovesRecord key) text = DeletesAmong tables.source_record text sql.has_record_key 2
