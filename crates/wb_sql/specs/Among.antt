-- The office's tables in a schema that may have tables, indexes and views of others.
use Rattle.std.specs.Prelude.{◌≡◌, ℕ, ◌^◌, ◌==◌, ◌≤◌, ◌<◌, nat_le, Bool, true, false, not, ◌||◌, List, [], ◌∷◌, ◌++◌, ◌⊎◌, map, filter, slice_get, None, Some, option_map, option_and_then, unwrap_or}
use Rattle.std.specs.List.{AllByRecursion, list_all, list_any}
use Rattle.sqlite.specs.Schema.{Schema}
use Rattle.sqlite.specs.Table.{Table}
use Rattle.sqlite.specs.Term.{Term}
use Rattle.sqlite.specs.Order.{Row}
use Rattle.sqlite.specs.Effect.{Database}
use Rattle.sqlite.specs.Change.{next_tree}
use Rattle.sqlite.specs.Does.{lacks_sequence}
use Rattle.sqlite_schema.specs.declared.schema.Index.{Index}
use Rattle.sqlite_schema.specs.Names.{same_name, table_named}
use Rattle.sqlite_catalog.specs.Listing.{automatic}
use Rattle.wb_sql.specs.Queries.{TableQuery, Asks}
use Rattle.wb_sql.specs.Changes.{ReplacesInto, InsertsInto, UpsertsInto, UpdatesIn, DeletesFrom, does_nothing, never_acts_on}
use Rattle.wb_sql.specs.Tables.{office, arch, builder, source_record, source_state, state_order, scratch_source, scratch_binary, office_schema}
use Rattle.wb_sql.specs.OfficeStatements.{record_row, record_sets, record_key}
use Rattle.wb_sql.specs.Tables.{record_order, record_take, source_name, binary_source, binary_name}

-- a table whose rows are in another tree
abbrev pub table_at : ℕ → Table → Table
table_at tree table = record table { tree = tree }

-- the same query on a table in another tree
abbrev pub query_at : ℕ → TableQuery → TableQuery
query_at tree q = record q { tree = tree }

-- the schema has this table at a place, the table is the first with its name and the only one in its tree, and the tree is stored
pub record HasTable (schema : Schema) (table : Table) : Type 0 where
  pub at : ℕ
  pub named : table_named schema table.name ≡ Some at
  pub listed : slice_get schema.tables at ≡ Some table
  pub in_tree : filter (λ t. t.tree == table.tree) schema.tables ≡ table ∷ []
  pub stored : nat_le (2 ^ 31) table.tree ≡ false

-- the tree of the first table with this name; if there is none, 0
abbrev pub tree_named : Schema → List ℕ → ℕ
tree_named schema name = unwrap_or (option_map (λ t. t.tree) (option_and_then (slice_get schema.tables) (table_named schema name))) 0

-- one of the office's tables, in the tree in which the schema has it
abbrev pub table_in : Schema → Table → Table
table_in schema table = table_at (tree_named schema table.name) table

-- a query on one of the office's tables, in the tree in which the schema has it
abbrev pub query_in : Schema → Table → TableQuery → TableQuery
query_in schema table q = query_at (tree_named schema table.name) q

-- the rows of one of the office's tables
abbrev pub rows_in : Database → Table → List Row
rows_in db table = db.trees (tree_named db.schema table.name)

-- the indexes on the table in this tree are these, and it has none of others
abbrev pub HasIndexes : Schema → ℕ → List Index → Type 0
HasIndexes schema tree indexes = filter (λ i. i.table == tree) schema.indexes ≡ indexes

-- an index in this tree, on the table in another
abbrev pub index_at : ℕ → ℕ → Index → Index
index_at tree table index = record index { tree = tree; table = table }

-- an index, but for its tree
abbrev pub treeless : Index → Index
treeless index = record index { tree = 0 }

-- the indexes on the table in this tree
abbrev pub indexes_on : ℕ → List Index → List Index
indexes_on table = filter (λ index. index.table == table)

-- the schema has one of the office's tables, and on it these indexes, in whatever trees, and no other
pub record HasIndexed (schema : Schema) (table : Table) (indexes : List Index) : Type 0 where
  pub has : HasTable schema (table_in schema table)
  pub indexed : map treeless (indexes_on (tree_named schema table.name) schema.indexes) ≡ map (index_at 0 (tree_named schema table.name)) indexes

-- the schema has the table of the records of the first schema, and on it their indexes, in whatever trees, and no other: those of the take number and of the
-- key, and their order
abbrev pub HasStates : Schema → Type 0
HasStates schema = HasIndexed schema source_state (automatic source_state 0 (10 ∷ []) 6 ∷ automatic source_state 1 (1 ∷ 2 ∷ []) 7 ∷ state_order ∷ [])

-- the schema has no table of this name, or has it with its indexes, as an office that was upgraded
abbrev pub MayHaveStates : Schema → Type 0
MayHaveStates schema = (table_named schema source_state.name ≡ None) ⊎ HasStates schema

-- the trees of the indexes of the office's tables
pub record IndexTrees : Type 0 where
  pub arch_key : ℕ
  pub builder_key : ℕ
  pub record_key : ℕ
  pub record_order : ℕ
  pub record_take : ℕ
  pub source_name : ℕ
  pub binary_source : ℕ
  pub binary_name : ℕ

-- the indexes of the records, in these trees, on the table in this one
abbrev pub record_indexes : IndexTrees → ℕ → List Index
record_indexes at tree =
    automatic (table_at tree source_record) 0 (1 ∷ 2 ∷ []) at.record_key ∷ index_at at.record_order tree record_order ∷ index_at at.record_take tree record_take ∷ []

-- the name of one of the office's tables
abbrev pub names_office : List ℕ → Bool
names_office name = list_any (λ table. same_name table.name name) office_schema.tables

-- the name of one of the office's tables, of the first schema or of the second
abbrev pub names_either : List ℕ → Bool
names_either name = names_office name || same_name source_state.name name

-- no reference of the table is to one of these
abbrev pub refers_to_none : Table → Bool
refers_to_none table = list_all (λ ref. not (names_either ref.parent)) table.references

-- no table but these refers to one of them
abbrev pub are_unreferred : Schema → Bool
are_unreferred schema = list_all (λ table. names_either table.name || refers_to_none table) schema.tables

-- each foreign key of the table that refers to one of these does nothing
abbrev pub is_quiet : Table → Bool
is_quiet table = list_all (λ ref. not (names_either ref.parent) || does_nothing ref) table.references

-- each foreign key of the schema that refers to one of these does nothing
abbrev pub are_quiet : Schema → Bool
are_quiet schema = list_all is_quiet schema.tables

-- the schema has the office's tables with their indexes, beside tables, indexes and views of others, and the table of the records of the first schema if it was
-- upgraded; no table of others refers to them, and no foreign key that refers to one of them does anything
pub record HasOffice (schema : Schema) : Type 0 where
  pub at : IndexTrees
  pub office_is : HasTable schema (table_in schema office)
  pub office_indexes : HasIndexes schema (tree_named schema office.name) []
  pub arch_is : HasTable schema (table_in schema arch)
  pub arch_indexes : HasIndexes schema (tree_named schema arch.name) (automatic (table_in schema arch) 0 (1 ∷ []) at.arch_key ∷ [])
  pub builder_is : HasTable schema (table_in schema builder)
  pub builder_indexes : HasIndexes schema (tree_named schema builder.name) (automatic (table_in schema builder) 0 (1 ∷ 2 ∷ []) at.builder_key ∷ [])
  pub record_is : HasTable schema (table_in schema source_record)
  pub records_indexed : HasIndexes schema (tree_named schema source_record.name) (record_indexes at (tree_named schema source_record.name))
  pub source_is : HasTable schema (table_in schema scratch_source)
  pub source_indexes : HasIndexes schema (tree_named schema scratch_source.name) (index_at at.source_name (tree_named schema scratch_source.name) source_name ∷ [])
  pub binary_is : HasTable schema (table_in schema scratch_binary)
  pub binary_indexes :
      HasIndexes schema (tree_named schema scratch_binary.name)
      (index_at at.binary_source (tree_named schema scratch_binary.name) binary_source ∷ index_at at.binary_name (tree_named schema scratch_binary.name) binary_name ∷ [])
  pub states : MayHaveStates schema
  pub unreferred : are_unreferred schema ≡ true
  pub quiet : are_quiet schema ≡ true

-- the name of one of the office's tables or of their indexes, of either schema
abbrev pub is_office_name : List ℕ → Bool
is_office_name name = names_either name || list_any (λ index. same_name index.name name) (office_schema.indexes ++ state_order ∷ [])

-- no table, index or view of the schema has one of these names
pub record HasFreeNames (schema : Schema) : Type 0 where
  pub tables : list_any (λ table. is_office_name table.name) schema.tables ≡ false
  pub indexes : list_any (λ index. is_office_name index.name) schema.indexes ≡ false
  pub views : list_any (λ view. is_office_name view.name) schema.views ≡ false

-- an office can be made in the schema: its names are free, no table refers to one of its tables, and if a table counts its rowids (AUTOINCREMENT), the
-- table of these counts is there
pub record LacksOffice (schema : Schema) : Type 0 where
  pub free : HasFreeNames schema
  pub unreferred : list_all refers_to_none schema.tables ≡ true
  pub counted : lacks_sequence schema ≡ false

-- the trees of the schema have numbers below 2^16, and each index is on a table of such a tree, as in the schema of every sound database
pub record IsNumbered (schema : Schema) : Type 0 where
  pub bounded : next_tree schema ≤ 2 ^ 16
  pub indexes : AllByRecursion (λ index. index.table < next_tree schema) schema.indexes

-- over each schema that has the table, in whatever tree and beside whatever else, the text, which has so many parameters, asks this
abbrev pub AsksAmong : Table → List ℕ → TableQuery → ℕ → Type 0
AsksAmong table sql q count = (schema : Schema) (tree : ℕ) → HasTable schema (table_at tree table) → Asks schema sql (query_at tree q) count

-- over each schema that has the table, and in which no foreign key that refers to it does anything, the text, which has so many parameters, is
-- INSERT OR REPLACE INTO the table VALUES (terms)
abbrev pub ReplacesAmong : Table → List ℕ → List Term → ℕ → Type 0
ReplacesAmong table sql terms count =
    (schema : Schema) (tree : ℕ) → HasTable schema (table_at tree table) → never_acts_on schema tree ≡ true → ReplacesInto schema sql (table_at tree table) terms count

-- over each such schema the text, which has so many parameters, is INSERT INTO the table VALUES (terms)
abbrev pub InsertsAmong : Table → List ℕ → List Term → ℕ → Type 0
InsertsAmong table sql terms count =
    (schema : Schema) (tree : ℕ) → HasTable schema (table_at tree table) → never_acts_on schema tree ≡ true → InsertsInto schema sql (table_at tree table) terms count

-- over each such schema that has the table of records with its indexes, the text is INSERT INTO the table VALUES (a record) ON CONFLICT (its key) DO UPDATE SET
-- each column that is not of the key
abbrev pub UpsertsRecords : List ℕ → Type 0
UpsertsRecords sql =
    (schema : Schema) (tree : ℕ) (at : IndexTrees) → HasTable schema (table_at tree source_record) → HasIndexes schema tree (record_indexes at tree) → never_acts_on schema tree ≡ true
    → UpsertsInto schema sql (table_at tree source_record) record_row record_sets record_key 16

-- over each such schema the text, which has so many parameters, is DELETE FROM the table WHERE each of these tests
abbrev pub DeletesAmong : Table → List ℕ → List Term → ℕ → Type 0
DeletesAmong table sql tests count =
    (schema : Schema) (tree : ℕ) → HasTable schema (table_at tree table) → never_acts_on schema tree ≡ true → DeletesFrom schema sql (table_at tree table) tests count

-- over each such schema the text, which has so many parameters, is UPDATE the table SET each column to its term WHERE each of these tests
abbrev pub UpdatesAmong : Table → List ℕ → List Term → List Term → ℕ → Type 0
UpdatesAmong table sql tests sets count =
    (schema : Schema) (tree : ℕ) → HasTable schema (table_at tree table) → never_acts_on schema tree ≡ true → UpdatesIn schema sql (table_at tree table) tests sets count
