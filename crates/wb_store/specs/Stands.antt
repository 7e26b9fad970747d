-- When a database stands for a state of the office: it has the office's tables, and they hold the rows of that state.
use Rattle.std.specs.Prelude.{◌≡◌, List, [], ◌∷◌, map, pos, IsPermutation}
use Rattle.std.specs.FinMap as finite
use Rattle.sqlite.specs.declared.types.Value.TheVariants.{Null, Int}
use Rattle.sqlite.specs.Order.{Row}
use Rattle.sqlite.specs.Effect.{Database}
use Rattle.sqlite.specs.Schema.{Schema}
use Rattle.wb_sql.specs.Rows.{cells_of, IsStored}
use Rattle.wb_sql.specs.Tables.{office, arch, builder, source_state, scratch_source, scratch_binary}
use Rattle.wb_sql.specs.Among.{HasOffice, HasStates, rows_in}
use Rattle.wb_sql.specs.Upgrading.{HasFirstOffice}
use Rattle.wb_states.specs.Machine.{Machine, builder_pairs}
use Rattle.wb_rows.specs.Cells.{arch_cells, builder_cells, number}
use Rattle.wb_store.specs.declared.format.Format.{Format}
use Rattle.wb_store.specs.declared.format.Format.TheVariants.{One, Two}
use Rattle.wb_store.specs.Queries.{table_of}
use Rattle.wb_store.specs.Schemas.{AreKeptIn, cells_in, number_of, table_of_records}
use Rattle.wb_store.specs.Merging.{Scratch, IsInOrder, no_merge, stored_source, stored_binary}

-- a table holds rows with these columns, each once, and no other row
pub record HoldsRows (columns : List Row) (rows : List Row) : Type 0 where
  pub stored : IsStored rows
  pub same : IsPermutation columns (cells_of rows)

-- the row of the office in a format, with its rowid: its id is 1, then stand the number of the format and the two counts
abbrev pub office_row_in : Format → Machine → Row
office_row_in format machine = Int (pos 1) ∷ Null ∷ number (number_of format) ∷ number machine.handed ∷ number machine.accepted ∷ []

-- in format 2
abbrev pub office_row : Machine → Row
office_row = office_row_in Two

-- the columns of each record of the state in a format
abbrev pub record_rows_in : Format → Machine → List Row
record_rows_in format machine = map (cells_in format) (finite.entries machine.records)

-- in format 2
abbrev pub record_rows : Machine → List Row
record_rows = record_rows_in Two

-- the columns of each architecture of the state
abbrev pub arch_rows : Machine → List Row
arch_rows machine = map arch_cells (finite.entries machine.archs)

-- the columns of each of these pairs
abbrev pub builder_rows : Machine → List Row
builder_rows machine = map builder_cells (builder_pairs machine)

-- the table of the office has the row of this state in a format
abbrev pub HasCountsOf : Format → Machine → Database → Type 0
HasCountsOf format machine db = rows_in db office ≡ office_row_in format machine ∷ []

-- the table of architectures holds those of this state
abbrev pub HasArchsOf : Machine → Database → Type 0
HasArchsOf machine db = HoldsRows (arch_rows machine) (rows_in db arch)

-- the table of builders holds those of this state
abbrev pub HasBuildersOf : Machine → Database → Type 0
HasBuildersOf machine db = HoldsRows (builder_rows machine) (rows_in db builder)

-- the table of records of a format holds those of this state
abbrev pub HasRecordsOf : Format → Machine → Database → Type 0
HasRecordsOf format machine db = HoldsRows (record_rows_in format machine) (rows_in db (table_of (table_of_records format)))

-- if the database has the table of the records of the first schema, which an upgraded office keeps, that has no row
abbrev pub AreEmptied : Database → Type 0
AreEmptied db = HasStates db.schema → rows_in db source_state ≡ []

-- The rows of a merge are two lists, each in the order of the places in the lists of the archive, and empty while no
-- merge runs: so what is said of a store then speaks of no merge. A place is the rowid of its row, so a table has its
-- rows in the order of the places, and a look-up in that order is a filter of the list.

-- the database has the office's tables with their indexes, beside those of others, and they hold the rows of this state and, of a merge, these rows in
-- the order of their places, and no other row
pub record StandsWith (machine : Machine) (scratch : Scratch) (db : Database) : Type 0 where
  pub has : HasOffice db.schema
  pub counts : HasCountsOf Two machine db
  pub archs : HasArchsOf machine db
  pub builders : HasBuildersOf machine db
  pub records : HasRecordsOf Two machine db
  pub sources : rows_in db scratch_source ≡ map stored_source scratch.sources
  pub binaries : rows_in db scratch_binary ≡ map stored_binary scratch.binaries
  pub order : IsInOrder scratch
  pub emptied : AreEmptied db

-- the same while no merge runs: the database stands for the state
abbrev pub StandsFor : Machine → Database → Type 0
StandsFor machine db = StandsWith machine no_merge db

-- the database has the tables of the first schema, beside those of others, and they hold the rows of this state, each record of which that schema can keep, and
-- no other row
pub record StandsForFirst (machine : Machine) (db : Database) : Type 0 where
  pub has : HasFirstOffice db.schema
  pub counts : HasCountsOf One machine db
  pub archs : HasArchsOf machine db
  pub builders : HasBuildersOf machine db
  pub records : HasRecordsOf One machine db
  pub kept : AreKeptIn One machine
  pub sources : rows_in db scratch_source ≡ []
  pub binaries : rows_in db scratch_binary ≡ []

-- the schema has an office's tables in a format
abbrev pub HasIn : Format → Schema → Type 0
HasIn One = HasFirstOffice
HasIn Two = HasOffice

-- the database stands for the state in a format
abbrev pub StandsIn : Format → Machine → Database → Type 0
StandsIn One = StandsForFirst
StandsIn Two = StandsFor
