-- The office's tables, made in a database that lacks them, beside the tables of others, with no row but that of an empty office.
use Rattle.std.specs.Prelude.{◌≡◌, ◌⊎◌, ℕ, true, false, List, [], ◌∷◌, pos, Result, Err, IsTrue, IfErr, OnOk}
use Rattle.std.specs.List.{AllByRecursion}
use Rattle.sqlite.specs.Change.{created, indexed, is_used, KeepsRows}
use Rattle.sqlite.specs.Does.{lacks_sequence}
use Rattle.sqlite.specs.Schema.{Schema}
use Rattle.sqlite.specs.Order.{Row}
use Rattle.sqlite.specs.Table.{Table}
use Rattle.sqlite.specs.declared.error.Error.{Error}
use Rattle.sqlite.specs.declared.types.Value.TheVariants.{Null, Int}
use Rattle.sqlite.specs.Held.{Held, state}
use Rattle.sqlite.specs.State.{State, HasCleanDisk, Shows, Survives, Executes}
use Rattle.sqlite_schema.specs.declared.schema.Index.{Index}
use Rattle.sqlite_trees.specs.declared.store.Store.{Ghosts}
use Rattle.wb_sql.specs.Definitions.{DefinesTable, DefinesIndex}
use Rattle.wb_sql.specs.Tables.{office, arch, builder, source_record, scratch_source, scratch_binary, office_schema}
use Rattle.wb_sql.specs.Tables.{record_order, record_take, source_name, binary_source, binary_name}
use Rattle.wb_sql.specs.OfficeStatements.{first_office_row}
use Rattle.wb_sql.specs.Changes.{never_acts_on}
use Rattle.sqlite_rules.specs.Lists.{Has}
use Rattle.wb_sql.specs.Among.{HasTable, table_at, table_in, index_at, rows_in, ReplacesAmong, tree_named}

-- ---- the schema, one CREATE after another: what is made stands after what was there

-- the schema with this index too, on one of the office's tables
abbrev pub with_index : Schema → Table → Index → Schema
with_index schema table index = indexed schema (table_in schema table) index

-- with the table of the office
unfoldable pub with_office : Schema → Schema
with_office schema = created schema office

-- and that of architectures
unfoldable pub with_arch : Schema → Schema
with_arch schema = created (with_office schema) arch

-- and that of builders
unfoldable pub with_builder : Schema → Schema
with_builder schema = created (with_arch schema) builder

-- and that of records
unfoldable pub with_source_record : Schema → Schema
with_source_record schema = created (with_builder schema) source_record

-- and its first index
unfoldable pub with_record_order : Schema → Schema
with_record_order schema = with_index (with_source_record schema) source_record record_order

-- and its second index
unfoldable pub with_record_take : Schema → Schema
with_record_take schema = with_index (with_record_order schema) source_record record_take

-- and the scratch table of source packages
unfoldable pub with_scratch_source : Schema → Schema
with_scratch_source schema = created (with_record_take schema) scratch_source

-- and its index
unfoldable pub with_source_name : Schema → Schema
with_source_name schema = with_index (with_scratch_source schema) scratch_source source_name

-- and the scratch table of binary packages
unfoldable pub with_scratch_binary : Schema → Schema
with_scratch_binary schema = created (with_source_name schema) scratch_binary

-- and its first index
unfoldable pub with_binary_source : Schema → Schema
with_binary_source schema = with_index (with_scratch_binary schema) scratch_binary binary_source

-- and its second index: the schema with all of the office's tables and indexes
unfoldable pub with_tables : Schema → Schema
with_tables schema = with_index (with_binary_source schema) scratch_binary binary_name

-- ---- the texts

-- over each schema in which its name is free, the text is a CREATE TABLE of this table
abbrev pub CreatesAmong : Table → List ℕ → Type 0
CreatesAmong table sql = (schema : Schema) → is_used schema table.name ≡ false → lacks_sequence schema ≡ false → DefinesTable schema sql (table_at 0 table)

-- over each schema that has the table, and in which the index's name is free, the text is a CREATE INDEX of this index on it
abbrev pub IndexesAmong : Table → Index → List ℕ → Type 0
IndexesAmong table index sql =
    (schema : Schema) (tree : ℕ) → HasTable schema (table_at tree table) → is_used schema index.name ≡ false → DefinesIndex schema sql (table_at tree table) (index_at 0 tree index)

-- ---- the database

-- the schema is this one, and these tables of the office have no row
pub record HasEmptyTables (schema : Schema) (tables : List Table) (s : State) : Type 0 where
  pub schema_is : s.now.schema ≡ schema
  pub empty : AllByRecursion (λ table. rows_in s.now table ≡ []) tables

-- in a transaction the schema becomes this one, in which these tables of the office have no row, and the tables of others keep their rows
pub record MakesTables (others : List Table) (schema : Schema) (tables : List Table) (old new : State) : Type 0 where
  pub made : HasEmptyTables schema tables new
  pub kept : KeepsRows others old.now.trees new.now.trees
  pub shown : Shows old new new.now old.committed true
  pub marks : new.marks ≡ old.marks

-- the row of an empty office, with its rowid: format 2, nothing handed out and nothing accepted
abbrev pub first_row : Row
first_row = Int (pos 1) ∷ Null ∷ Int (pos 2) ∷ Int (pos 0) ∷ Int (pos 0) ∷ []

-- the office's tables but that of the office
abbrev pub tables_after_office : List Table
tables_after_office = arch ∷ builder ∷ source_record ∷ scratch_source ∷ scratch_binary ∷ []

-- in a transaction the database gets the tables of an empty office, with its row, and the tables of others keep their rows
pub record MakesOffice (base : Schema) (old new : State) : Type 0 where
  pub made : HasEmptyTables (with_tables base) tables_after_office new
  pub office_row : rows_in new.now office ≡ first_row ∷ []
  pub kept : KeepsRows base.tables old.now.trees new.now.trees
  pub shown : Shows old new new.now old.committed true
  pub marks : new.marks ≡ old.marks

-- over this schema the text makes one of the office's tables, or one of its indexes on a table that is there, whose name is free; or it puts the first
-- row into the table of the office, which is there, and no foreign key that refers to it does anything
abbrev pub IsMaking : Schema → List ℕ → Type 0
IsMaking schema sql =
    ((table : Table) × Has office_schema.tables table × CreatesAmong table sql × (is_used schema table.name ≡ false) × (lacks_sequence schema ≡ false))
    ⊎ (((table : Table) × (index : Index) × Has office_schema.indexes index × IndexesAmong table index sql × HasTable schema (table_in schema table) × (is_used schema index.name ≡ false))
    ⊎ (ReplacesAmong office sql first_office_row 0 × HasTable schema (table_in schema office) × (never_acts_on schema (tree_named schema office.name) ≡ true)))

-- a statement of the call, which makes something of the office, failed with this error in the transaction, under the step limit that there was
abbrev pub FailsAt : {S : Type 0} → Ghosts S → Held S → Held S → Error → Type 0
FailsAt {S} g old new e =
    (at : Held S) × (sql : List ℕ) × IsTrue at.in_transaction × ((state g at).step_limit ≡ (state g old).step_limit) × IsMaking (state g at).now.schema sql
    × Executes sql [] (state g at) (state g new) (Err e)

-- a call that, in a transaction over this schema, in which these tables of the office have no row, makes this if it succeeds; if it fails, it fails as
-- one of its statements does; and a crash leaves no more than before
pub record Makes {S A : Type 0} (g : Ghosts S) (from : Schema) (tables : List Table) (Made : State → State → Type 0) (old new : Held S) (result : Result A Error) : Type 0 where
  pub made : HasCleanDisk (state g new) → HasEmptyTables from tables (state g old) → OnOk result (Made (state g old) (state g new))
  pub err : HasCleanDisk (state g new) → IsTrue old.in_transaction → HasEmptyTables from tables (state g old) → IfErr result (FailsAt g old new)
  pub survives : Survives (state g old) (state g new) (λ _. ¬ HasEmptyTables from tables (state g old))
