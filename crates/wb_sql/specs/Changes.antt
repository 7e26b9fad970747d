-- What INSERT, INSERT OR REPLACE, INSERT ON CONFLICT, UPDATE and DELETE on one table change of a database.
use Rattle.std.specs.Prelude.{◌≡◌, ◌≢◌, ℕ, ◌/◌, ◌^◌, ◌==◌, nat_le, pos, negsuc, Bool, true, false, not, ◌&&◌, ◌||◌, List, [], ◌∷◌, ◌++◌, length, take, slice_get, Some, option_map, unwrap_or, IsPermutation}
use Rattle.std.specs.List.{AllByRecursion, list_all}
use Rattle.sqlite.specs.Order.{Row}
use Rattle.sqlite.specs.Schema.{Schema}
use Rattle.sqlite.specs.Table.{Table}
use Rattle.sqlite.specs.Term.{Term, lit, col, op2, eval_all, holds}
use Rattle.sqlite.specs.declared.types.Value.TheVariants.{Int}
use Rattle.sqlite.specs.Collation.TheVariants.{Binary}
use Rattle.sqlite_sql.specs.declared.ops.BinaryOp.TheVariants.{Compare}
use Rattle.sqlite_sql.specs.declared.ops.CompareOp.TheVariants.{Eq}
use Rattle.sqlite.specs.Tree.{rowid, put_row}
use Rattle.sqlite.specs.Rows.{shown}
use Rattle.sqlite_rules.specs.Keys.{conflicts}
use Rattle.sqlite_rules.specs.Lists.{Has}
use Rattle.sqlite.specs.Source.TheVariants.{Values}
use Rattle.sqlite.specs.Command.TheVariants.{Insert, InsertOr, Update, Delete}
use Rattle.sqlite_schema.specs.declared.schema.Action.{Action}
use Rattle.sqlite_schema.specs.declared.schema.Action.TheVariants.{NoAction}
use Rattle.sqlite_schema.specs.declared.schema.Reference.{Reference}
use Rattle.sqlite_schema.specs.Rules.{parent_key}
use Rattle.sqlite_schema.specs.declared.command.Conflict.TheVariants.{Abort, Replace}
use Rattle.sqlite_schema.specs.declared.command.Upsert.{Upsert}
use Rattle.sqlite.specs.Edit.{IsNoIndex}
use Rattle.sqlite.specs.State.{State, Shows}
use Rattle.wb_sql.specs.Queries.{TableQuery, query_of, rowids_where}
use Rattle.wb_sql.specs.Rows.{cells, cells_of, IsStored, IsTyped, inserted, apart, replaced, without, with_next_rowid, meets}
use Rattle.wb_sql.specs.Statements.{Means}

-- the action of a foreign key that does nothing (NO ACTION)
abbrev pub is_no_action : Action → Bool
is_no_action NoAction = true
is_no_action _ = false

-- the foreign key does nothing if the row to which it refers is deleted or changed: the change is refused instead
abbrev pub does_nothing : Reference → Bool
does_nothing ref = is_no_action ref.on_delete && is_no_action ref.on_update

-- the foreign key refers to the rows of the table in this tree
abbrev pub refers_to_tree : Schema → ℕ → Reference → Bool
refers_to_tree schema tree ref = unwrap_or (option_map (λ key. key.0 == tree) (parent_key schema.tables ref)) false

-- each foreign key of the schema that refers to the rows of the table in this tree does nothing
abbrev pub never_acts_on : Schema → ℕ → Bool
never_acts_on schema tree = list_all (λ table. list_all (λ ref. not (refers_to_tree schema tree ref) || does_nothing ref) table.references) schema.tables

-- the table is that of the schema at this place, counts no rowids (AUTOINCREMENT) and reads no time, and no foreign key that refers to it does anything
pub record IsPlainTable (schema : Schema) (at : ℕ) (table : Table) : Type 0 where
  pub listed : slice_get schema.tables at ≡ Some table
  pub uncounted : table.is_counted ≡ false
  pub unstamped : table.stamps.terms ≡ []
  pub quiet : never_acts_on schema table.tree ≡ true

-- the terms are one row of VALUES of this width
pub record IsOneRow (terms : List Term) (width : ℕ) : Type 0 where
  pub count : length terms / width ≡ 1
  pub all : take width terms ≡ terms

-- over this schema the text, which has so many parameters, is INSERT OR REPLACE INTO the table VALUES (terms)
pub record ReplacesInto (schema : Schema) (sql : List ℕ) (table : Table) (terms : List Term) (count : ℕ) : Type 0 where
  pub at : ℕ
  pub width : ℕ
  pub table_is : IsPlainTable schema at table
  pub one_row : IsOneRow terms width
  pub means : Means schema sql (InsertOr at Replace (Values terms width) []) count

-- over this schema the text, which has so many parameters, is INSERT INTO the table VALUES (terms)
pub record InsertsInto (schema : Schema) (sql : List ℕ) (table : Table) (terms : List Term) (count : ℕ) : Type 0 where
  pub at : ℕ
  pub width : ℕ
  pub table_is : IsPlainTable schema at table
  pub one_row : IsOneRow terms width
  pub means : Means schema sql (Insert at (Values terms width)) count

-- SELECT rowid, rowid, terms FROM the table WHERE each of these tests: each row that passes, and what it is to be
abbrev pub rows_renewed : ℕ → List Term → List Term → TableQuery
rows_renewed tree tests terms = record {
  tree = tree;
  filter = tests;
  project = col 1 0 ∷ col 1 0 ∷ terms;
  order = [];
  collations = [];
  limit = lit (Int (negsuc 0));
  offset = lit (Int (pos 0));
}

-- SELECT rowid, rowid, terms FROM the table WHERE rowid = the parameter at this place: the row with this rowid, and what it is to be
abbrev pub row_of_rowid : ℕ → ℕ → List Term → TableQuery
row_of_rowid tree place terms = rows_renewed tree (op2 (Compare Eq Binary) (col 1 0) (col 0 place) ∷ []) terms

-- ON CONFLICT (the columns of the key) DO UPDATE SET each column to its term: the row that is there keeps its rowid, which is read after the
-- parameters, of which there are so many
abbrev pub renewal : ℕ → List ℕ → ℕ → List Term → Upsert
renewal tree key count sets = record { target = Some key; update = Some (record { lets = []; body = query_of (row_of_rowid tree count sets) }) }

-- over this schema the text, which has so many parameters, is INSERT INTO the table VALUES (terms) ON CONFLICT (key) DO UPDATE SET each column to its
-- term; no column of the key is the rowid
pub record UpsertsInto (schema : Schema) (sql : List ℕ) (table : Table) (terms sets : List Term) (key : List ℕ) (count : ℕ) : Type 0 where
  pub at : ℕ
  pub width : ℕ
  pub table_is : IsPlainTable schema at table
  pub stored : nat_le (2 ^ 31) table.tree ≡ false
  pub one_row : IsOneRow terms width
  pub columns : list_all (λ place. not (place == 0)) key ≡ true
  pub means : Means schema sql (InsertOr at Abort (Values terms width) (renewal table.tree key count sets ∷ [])) count

-- a row of the table has the key of the new one
abbrev pub has_key : Schema → Table → List ℕ → Row → Row → Bool
has_key schema table key new row = conflicts (Some key) schema.indexes table new row

-- what becomes of a new row is decided by its key: only a row with that key meets it, and each column of such a row is set to that of the new one
pub record IsDecidedBy (schema : Schema) (table : Table) (key : List ℕ) (params given : Row) (sets : List Term) (rows : List Row) : Type 0 where
  pub by_key : (row : Row) → Has rows row → meets schema table (with_next_rowid rows given) row ≡ true → has_key schema table key (with_next_rowid rows given) row ≡ true
  pub cells_are : (row : Row) → Has rows row → has_key schema table key (with_next_rowid rows given) row ≡ true
      → eval_all sets ((params ++ rowid row ∷ shown table (with_next_rowid rows given)) ∷ row ∷ []) ≡ cells given

-- a table's rows are these now, and nothing else of the database, its schema and the transaction is changed
pub record SetsTable (table : Table) (rows : List Row) (old new : State) : Type 0 where
  pub rows_are : new.now.trees table.tree ≡ rows
  pub tables : AllByRecursion (λ t. t.tree ≢ table.tree → new.now.trees t.tree ≡ old.now.trees t.tree) old.now.schema.tables
  pub others : (t : ℕ) → t ≢ table.tree → IsNoIndex old.now.schema t → new.now.trees t ≡ old.now.trees t
  pub schema : new.now.schema ≡ old.now.schema
  pub shown : Shows old new new.now old.committed true
  pub marks : new.marks ≡ old.marks

-- over this schema the text, which has so many parameters, is DELETE FROM the table WHERE each of these tests
pub record DeletesFrom (schema : Schema) (sql : List ℕ) (table : Table) (tests : List Term) (count : ℕ) : Type 0 where
  pub at : ℕ
  pub table_is : IsPlainTable schema at table
  pub stored : nat_le (2 ^ 31) table.tree ≡ false
  pub means : Means schema sql (Delete at (record { lets = []; body = query_of (rowids_where table.tree tests) })) count

-- over this schema the text, which has so many parameters, is UPDATE the table SET each column to its term WHERE each of these tests
pub record UpdatesIn (schema : Schema) (sql : List ℕ) (table : Table) (tests sets : List Term) (count : ℕ) : Type 0 where
  pub at : ℕ
  pub table_is : IsPlainTable schema at table
  pub stored : nat_le (2 ^ 31) table.tree ≡ false
  pub means : Means schema sql (Update at (record { lets = []; body = query_of (rows_renewed table.tree tests sets) })) count

-- one row of the table, and no other, passes the tests
pub record IsOnlyOne (tests : List Term) (params : Row) (rows : List Row) (row : Row) : Type 0 where
  pub there : Has rows row
  pub passes : list_all (holds (params ∷ row ∷ [])) tests ≡ true
  pub alone : (other : Row) → Has rows other → list_all (holds (params ∷ other ∷ [])) tests ≡ true → other ≡ row

-- an INSERT OR REPLACE of one row leaves this, for each table that the text is a statement on: the row that is given and those
-- that do not meet it, all without rowids
abbrev pub Replaces : List ℕ → Row → State → State → Type 0
Replaces sql params old new =
    (table : Table) (terms : List Term) (count : ℕ) → ReplacesInto old.now.schema sql table terms count → IsStored (old.now.trees table.tree) → IsTyped table (eval_all terms (params ∷ []))
    → SetsTable table (replaced old.now.schema table (eval_all terms (params ∷ [])) (old.now.trees table.tree)) old new × IsStored (new.now.trees table.tree)
    × IsPermutation (cells (eval_all terms (params ∷ [])) ∷ cells_of (apart old.now.schema table (eval_all terms (params ∷ [])) (old.now.trees table.tree))) (cells_of (new.now.trees table.tree))

-- an INSERT ON CONFLICT of one row whose key decides leaves this: the row that is given, with the rowid of the one that has its key or a new one, and
-- those that do not meet it
abbrev pub Upserts : List ℕ → Row → State → State → Type 0
Upserts sql params old new =
    (table : Table) (terms sets : List Term) (key : List ℕ) → UpsertsInto old.now.schema sql table terms sets key (length params) → IsStored (old.now.trees table.tree)
    → IsTyped table (eval_all terms (params ∷ [])) → IsDecidedBy old.now.schema table key params (eval_all terms (params ∷ [])) sets (old.now.trees table.tree)
    → SetsTable table (new.now.trees table.tree) old new × IsStored (new.now.trees table.tree)
    × IsPermutation (cells (eval_all terms (params ∷ [])) ∷ cells_of (apart old.now.schema table (eval_all terms (params ∷ [])) (old.now.trees table.tree))) (cells_of (new.now.trees table.tree))

-- an INSERT of one row leaves this
abbrev pub Inserts : List ℕ → Row → State → State → Type 0
Inserts sql params old new =
    (table : Table) (terms : List Term) (count : ℕ) → InsertsInto old.now.schema sql table terms count → IsStored (old.now.trees table.tree) → IsTyped table (eval_all terms (params ∷ []))
    → SetsTable table (inserted (eval_all terms (params ∷ [])) (old.now.trees table.tree)) old new × IsStored (new.now.trees table.tree)
    × IsPermutation (cells (eval_all terms (params ∷ [])) ∷ cells_of (old.now.trees table.tree)) (cells_of (new.now.trees table.tree))

-- a DELETE leaves this
abbrev pub Deletes : List ℕ → Row → State → State → Type 0
Deletes sql params old new =
    (table : Table) (tests : List Term) (count : ℕ) → DeletesFrom old.now.schema sql table tests count → IsStored (old.now.trees table.tree)
    → SetsTable table (without (λ row. list_all (holds (params ∷ row ∷ [])) tests) (old.now.trees table.tree)) old new × IsStored (new.now.trees table.tree)

-- an UPDATE whose tests one row passes leaves this: that row, with its rowid and what each of its columns is set to, and the others
abbrev pub Updates : List ℕ → Row → State → State → Type 0
Updates sql params old new =
    (table : Table) (tests sets : List Term) (count : ℕ) (row : Row) → UpdatesIn old.now.schema sql table tests sets count → IsStored (old.now.trees table.tree)
    → IsOnlyOne tests params (old.now.trees table.tree) row → IsTyped table (rowid row ∷ eval_all sets (params ∷ row ∷ []))
    → SetsTable table (put_row (rowid row ∷ eval_all sets (params ∷ row ∷ [])) (without (λ other. list_all (holds (params ∷ other ∷ [])) tests) (old.now.trees table.tree))) old new
    × IsStored (new.now.trees table.tree)
    × IsPermutation (eval_all sets (params ∷ row ∷ []) ∷ cells_of (without (λ other. list_all (holds (params ∷ other ∷ [])) tests) (old.now.trees table.tree))) (cells_of (new.now.trees table.tree))
