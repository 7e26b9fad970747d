-- What CREATE TABLE and CREATE INDEX make of a database.
use Rattle.std.specs.Prelude.{◌≡◌, ℕ, true, false, List, [], slice_get, Some, Ok}
use Rattle.sqlite.specs.Schema.{Schema}
use Rattle.sqlite.specs.Table.{Table}
use Rattle.sqlite_schema.specs.declared.schema.Index.{Index}
use Rattle.sqlite.specs.Command.TheVariants.{CreateTable, CreateIndex}
use Rattle.sqlite.specs.Compile.{table_defined_by, index_defined_by}
use Rattle.sqlite.specs.Change.{created, indexed, next_tree, KeepsRows}
use Rattle.sqlite.specs.Does.{lacks_sequence}
use Rattle.sqlite.specs.Listing.{understood}
use Rattle.sqlite.specs.State.{State, Shows}
use Rattle.wb_sql.specs.Statements.{Means, statement_in}

-- over this schema the text is the CREATE TABLE of this table, which has no AUTOINCREMENT
pub record DefinesTable (schema : Schema) (sql : List ℕ) (table : Table) : Type 0 where
  pub means : Means schema sql CreateTable 0
  pub alone : statement_in sql (understood schema sql) ≡ sql
  pub defines : table_defined_by sql ≡ Ok table
  pub uncounted : lacks_sequence (created schema table) ≡ false

-- over this schema the text is the CREATE INDEX of this index of the table
pub record DefinesIndex (schema : Schema) (sql : List ℕ) (table : Table) (index : Index) : Type 0 where
  pub at : ℕ
  pub listed : slice_get schema.tables at ≡ Some table
  pub means : Means schema sql (CreateIndex at) 0
  pub alone : statement_in sql (understood schema sql) ≡ sql
  pub defines : index_defined_by table sql ≡ Ok index

-- the schema is this one now, the rows of all tables are as they were, and so is the transaction
pub record SetsSchema (schema : Schema) (old new : State) : Type 0 where
  pub schema_is : new.now.schema ≡ schema
  pub rows : KeepsRows old.now.schema.tables old.now.trees new.now.trees
  pub shown : Shows old new new.now old.committed true
  pub marks : new.marks ≡ old.marks

-- a CREATE TABLE leaves this: the schema with the table, which has no row
abbrev pub CreatesTable : List ℕ → State → State → Type 0
CreatesTable sql old new =
    (table : Table) → DefinesTable old.now.schema sql table → SetsSchema (created old.now.schema table) old new × (new.now.trees (next_tree old.now.schema) ≡ [])

-- a CREATE INDEX leaves this
abbrev pub CreatesIndex : List ℕ → State → State → Type 0
CreatesIndex sql old new = (table : Table) (index : Index) → DefinesIndex old.now.schema sql table index → SetsSchema (indexed old.now.schema table index) old new
