-- The parts of the office's schema, by which it is recognized.
use Rattle.std.specs.Prelude.{◌≡◌, ℕ, ◌^◌, ◌==◌, nat_le, pos, true, false, Some, None, List, [], ◌∷◌, length, map, filter, slice_get}
use Rattle.sqlite.specs.Collation.TheVariants.{Binary}
use Rattle.sqlite.specs.Schema.{Schema}
use Rattle.sqlite.specs.Table.{Table}
use Rattle.sqlite.specs.Term.{Term, lit, col, op2}
use Rattle.sqlite.specs.declared.types.Value.TheVariants.{Int}
use Rattle.sqlite_schema.specs.declared.code.Op.{Op}
use Rattle.sqlite_schema.specs.declared.code.Op.TheVariants as op
use Rattle.sqlite_schema.specs.declared.schema.Column.{Column}
use Rattle.sqlite_schema.specs.declared.schema.Index.{Index}
use Rattle.sqlite_schema.specs.Names.{table_named}
use Rattle.sqlite_sql.specs.declared.ops.BinaryOp.TheVariants.{Compare}
use Rattle.sqlite_sql.specs.declared.ops.CompareOp.TheVariants.{Eq}
use Rattle.sqlite_value.specs.Keys.{plain}
use Rattle.wb_sql.specs.declared.columns.ColumnDefinition.{ColumnDefinition}
use Rattle.wb_sql.specs.declared.columns.IndexDefinition.{IndexDefinition}
use Rattle.sqlite_catalog.specs.Listing.{automatic}
use Rattle.wb_sql.specs.Tables.{index_on, typed, office, arch, builder, source_record, scratch_source, scratch_binary}
use Rattle.wb_sql.specs.Tables.{record_order, record_take, source_name, binary_source, binary_name}
use Rattle.wb_sql.specs.Among.{HasIndexed}

-- the column that is defined so
abbrev pub column_of : ColumnDefinition → Column
column_of definition = typed definition.kind definition.not_null definition.name.now

-- the columns that are defined so
abbrev pub columns_of : List ColumnDefinition → List Column
columns_of = map column_of

-- the index of a key, which comes once, on this table, but for its tree
abbrev pub key_on : List ℕ → ℕ → List ℕ → Index
key_on name table columns = record (index_on name 0 table columns) { is_unique = true }

-- the index that is defined so, on this table, but for its tree
abbrev pub index_of : ℕ → IndexDefinition → Index
index_of table definition = record (index_on definition.name.now 0 table definition.columns.now) { is_unique = definition.is_unique }

-- the indexes that are defined so, on this table, but for their trees
abbrev pub indexes_of : ℕ → List IndexDefinition → List Index
indexes_of table = map (index_of table)

-- one of the tables alone is in this tree, and the tree is stored
pub record IsAlone (tables : List Table) (tree : ℕ) : Type 0 where
  pub one : length (filter (λ t. t.tree == tree) tables) ≡ 1
  pub stored : nat_le (2 ^ 31) tree ≡ false

-- of the tables of the schema, the first with this name, if it is also the only one in its tree, and the tree is stored
pub record IsFound (schema : Schema) (name : List ℕ) (table : Table) : Type 0 where
  pub at : ℕ
  pub named : table_named schema name ≡ Some at
  pub listed : slice_get schema.tables at ≡ Some table
  pub in_tree : filter (λ t. t.tree == table.tree) schema.tables ≡ table ∷ []
  pub stored : nat_le (2 ^ 31) table.tree ≡ false

-- the schema has each of the office's tables, and on each its indexes, in whatever trees, and no other
pub record HasTables (schema : Schema) : Type 0 where
  pub office_is : HasIndexed schema office []
  pub archs_are : HasIndexed schema arch (automatic arch 0 (1 ∷ []) 2 ∷ [])
  pub builders_are : HasIndexed schema builder (automatic builder 0 (1 ∷ 2 ∷ []) 4 ∷ [])
  pub records_are : HasIndexed schema source_record (automatic source_record 0 (1 ∷ 2 ∷ []) 6 ∷ record_order ∷ record_take ∷ [])
  pub sources_are : HasIndexed schema scratch_source (source_name ∷ [])
  pub binaries_are : HasIndexed schema scratch_binary (binary_source ∷ binary_name ∷ [])

-- a table of this name and these columns, where no default is computed and no row is counted
pub record IsTable (table : Table) (name : List ℕ) (columns : List Column) : Type 0 where
  pub name_is : table.name ≡ name
  pub columns_are : table.columns ≡ columns
  pub uncomputed : table.computed ≡ []
  pub unstamped : table.stamps ≡ office.stamps
  pub uncounted : table.is_counted ≡ false

-- a table whose first column is its INTEGER PRIMARY KEY, without a UNIQUE
pub record IsKeyedById (table : Table) : Type 0 where
  pub key_is : table.key ≡ Some 0
  pub primary_is : table.primary ≡ 0 ∷ []
  pub no_unique : table.uniques ≡ []
  pub no_order : table.orders ≡ []

-- a table whose PRIMARY KEY has these places, with an index in their order, without another UNIQUE
pub record IsKeyedBy (table : Table) (places : List ℕ) : Type 0 where
  pub no_key : table.key ≡ None
  pub primary_is : table.primary ≡ places
  pub one_unique : table.uniques ≡ places ∷ []
  pub one_order : table.orders ≡ plain ∷ []

-- the id of a row is 1
abbrev pub id_is_one : Term
id_is_one = op2 (Compare Eq Binary) (col 1 0) (lit (Int (pos 1)))

-- the node at the root compares a node that is the id of a row with one that is the number 1
pub record ComparesIdWithOne (nodes : List Op) (root : ℕ) : Type 0 where
  pub id : ℕ
  pub one : ℕ
  pub root_is : slice_get nodes root ≡ Some (op.Binary (Compare Eq Binary) id one)
  pub id_is : slice_get nodes id ≡ Some (op.Column 1 0)
  pub one_is : slice_get nodes one ≡ Some (op.Literal (Int (pos 1)))
