-- Tables of one schema with different columns are in different trees, and what another table's change leaves of one.
use Rattle.std.proofs.Common.{◌≡◌, ◌≢◌, ℕ, ◌==◌, List, [], ◌∷◌, filter, length, sym, ap, ◌∙◌}
use Rattle.sqlite.specs.Schema.{Schema}
use Rattle.sqlite.specs.Table.{Table}
use Rattle.sqlite.specs.Order.{Row}
use Rattle.sqlite.specs.State.{State}
use Rattle.sqlite_trees.proofs.ListLemmas.{all-slice_get}
use Rattle.wb_sql.specs.Changes.{SetsTable}
use Rattle.wb_sql.specs.Among.{HasTable, table_in, tree_named, rows_in}

-- how many columns the first of these tables has
abbrev width_of : List Table → ℕ
width_of [] = 0
width_of (t ∷ ts) = length t.columns

-- two tables of a schema that differ in their columns are in different trees
apart_trees : (schema : Schema) (a b : Table) → HasTable schema a → HasTable schema b → length a.columns ≢ length b.columns → a.tree ≢ b.tree
apart_trees schema a b first second differ same =
    differ (ap width_of (sym first.in_tree ∙ ap (λ tree. filter (λ t. t.tree == tree) schema.tables) same ∙ second.in_tree))

-- a change of one table leaves the rows of another of the office's tables
pub other_rows : (old new : State) (table : Table) (rows : List Row) (t : Table) → HasTable old.now.schema table → SetsTable table rows old new → HasTable old.now.schema (table_in old.now.schema t)
    → length t.columns ≢ length table.columns → rows_in new.now t ≡ rows_in old.now t
other_rows old new table rows t is made has differ =
    ap (λ (s : Schema). new.now.trees (tree_named s t.name)) made.schema
    ∙ all-slice_get (λ t. t.tree ≢ table.tree → new.now.trees t.tree ≡ old.now.trees t.tree) old.now.schema.tables has.at (table_in old.now.schema t) has.listed made.tables
    (apart_trees old.now.schema (table_in old.now.schema t) table has is differ)

-- a change of one of the office's tables leaves these rows in it
pub own_rows : (old new : State) (t : Table) (rows : List Row) → SetsTable (table_in old.now.schema t) rows old new → rows_in new.now t ≡ rows
own_rows old new t rows made = ap (λ (s : Schema). new.now.trees (tree_named s t.name)) made.schema ∙ made.rows_are
