-- The format of an office, which is read from its own table, whatever else the database has.
use Rattle.std.specs.Prelude.{◌≡◌, ℕ, List, [], ◌∷◌, codes, Some, slice_get}
use Rattle.sqlite.specs.Schema.{Schema}
use Rattle.sqlite.specs.Table.{Table}
use Rattle.sqlite_schema.specs.declared.schema.Column.{Column}
use Rattle.sqlite_schema.specs.Names.{column_named, place_of}
use Rattle.wb_sql.specs.Queries.{TableQuery, Asks}
use Rattle.wb_sql.specs.Among.{HasTable}
use Rattle.wb_sql.specs.OfficeStatements.{cell, no_limit, none_skipped}

-- of the columns of the table, the first with this name, where ASCII letters of either case are the same, has it in these letters
pub record HasColumn (table : Table) (name : List ℕ) : Type 0 where
  pub place : ℕ
  pub column : Column
  pub named : column_named table name ≡ Some place
  pub listed : slice_get table.columns place ≡ Some column
  pub spelled : column.name ≡ name

-- the schema has a table `office` with a column `format`, whatever else it has
pub record HasFormatColumn (schema : Schema) : Type 0 where
  pub table : Table
  pub has : HasTable schema table
  pub spelled : table.name ≡ codes "office"
  pub format : HasColumn table (codes "format")

-- where a row of that table has its format
abbrev pub format_place : {schema : Schema} → HasFormatColumn schema → ℕ
format_place has = place_of has.table has.format.place

-- the format in each row of that table
abbrev pub formats_in : {schema : Schema} → HasFormatColumn schema → TableQuery
formats_in has =
    record { tree = has.table.tree; filter = []; project = cell (format_place has) ∷ []; order = []; collations = []; limit = no_limit; offset = none_skipped }

-- over each schema that has such a table, the text, which has no parameter, asks for the format in each of its rows
abbrev pub AsksFormat : List ℕ → Type 0
AsksFormat sql = (schema : Schema) (has : HasFormatColumn schema) → Asks schema sql (formats_in has) 0
