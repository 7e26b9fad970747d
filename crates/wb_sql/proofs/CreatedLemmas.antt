-- What a CREATE TABLE and a CREATE INDEX keep of a schema, and what they add.
use Rattle.std.proofs.Common.{◌≡◌, ◌≢◌, ℕ, ◌+◌, ◌<◌, ◌≤◌, ◌^◌, ◌==◌, not, Bool, true, false, List, [], ◌∷◌, ◌++◌, None, Some, refl, sym, ap, ap₂, ◌∙◌, inl, inr, arith, max, fold, filter, append-nil, codes}
use Rattle.std.specs.List.{AllByRecursion, list_any}
use Rattle.std.proofs.lemmas.Bool.{and_left, and_right, and_cases, eq-eqb, ne_eqb, lt-leb, not_from_true}
use Rattle.std.proofs.lemmas.List.Elements.{filter-append}
use Rattle.sqlite.specs.Schema.{Schema}
use Rattle.sqlite.specs.Table.{Table}
use Rattle.sqlite.specs.Change.{created, indexed, next_tree, past_views, is_used, automatics}
use Rattle.sqlite.specs.Does.{lacks_sequence}
use Rattle.sqlite_rules.proofs.ListLemmas.{all_from, has_got}
use Rattle.sqlite_catalog.proofs.ListFacts.{filter_kept, filter_left}
use Rattle.sqlite_catalog.proofs.SoundLemmas.{lowered}
use Rattle.sqlite_catalog.proofs.StepLemmas.{no_table, no_index, no_view, table_below, index_below}
use Rattle.sqlite_schema.specs.declared.schema.Index.{Index}
use Rattle.sqlite_schema.specs.Names.{same_name, table_named, index_named, view_named}
use Rattle.wb_sql.specs.Among.{HasTable, HasIndexes, table_at, tree_named, table_in}
use Rattle.wb_sql.proofs.AloneLemmas.{tree_is}
use Rattle.wb_sql.proofs.AppendLemmas.{IsLast, all_so, listed_before, placed_before, none_after, placed_last, found_before, filter_none, filter_whole, any_last, past_from, past_within}

-- ---- trees

-- each tree is below the next one
pub below_next : (schema : Schema) → AllByRecursion (λ t. t.tree < next_tree schema) schema.tables × AllByRecursion (λ i. i.tree < next_tree schema) schema.indexes
below_next schema = (all_from _ schema.tables (table_below schema), all_from _ schema.indexes (index_below schema))

-- the views are below the next tree
pub views_below : (schema : Schema) → past_views schema ≤ next_tree schema
views_below schema =
    let past : ℕ = fold (λ n t. max n (t.tree + 1)) (past_views schema) schema.tables in
    omega (arith, past_from (λ t. t.tree) (past_views schema) schema.tables, past_from (λ i. i.tree) past schema.indexes)

-- the next tree is no more than what each tree is below
pub next_within : (schema : Schema) (m : ℕ) → past_views schema ≤ m → AllByRecursion (λ t. t.tree < m) schema.tables → AllByRecursion (λ i. i.tree < m) schema.indexes
    → next_tree schema ≤ m
next_within schema m views tables indexes = past_within (λ i. i.tree) _ m schema.indexes (past_within (λ t. t.tree) (past_views schema) m schema.tables views tables) indexes

-- a table that the schema has is below the next tree
pub has_below : (schema : Schema) (table : Table) → HasTable schema table → table.tree < next_tree schema
has_below schema table h = table_below schema table (has_got schema.tables h.at table h.listed)

-- ---- what stands stays

-- a table stays where another is made
pub created_keeps : (schema : Schema) (table t : Table) → HasTable schema t → HasTable (created schema table) t
created_keeps schema table t h =
    let low = has_below schema t h in
    record {
      at = h.at;
      named = placed_before (λ u. same_name u.name t.name) 0 h.at schema.tables _ h.named;
      listed = listed_before schema.tables _ h.at t h.listed;
      in_tree = filter_left (λ u. u.tree == t.tree) schema.tables (table_at (next_tree schema) table) (ne_eqb _ _ (λ e. absurd (omega arith))) ∙ h.in_tree;
      stored = h.stored;
    }

-- or an index
pub indexed_keeps : (schema : Schema) (table : Table) (index : Index) (t : Table) → HasTable schema t → HasTable (indexed schema table index) t
indexed_keeps schema table index t h = record { at = h.at; named = h.named; listed = h.listed; in_tree = h.in_tree; stored = h.stored }

-- where the new table stands
new_last : (schema : Schema) (table : Table) → is_used schema table.name ≡ false → IsLast (λ t. same_name t.name table.name) 0 schema.tables (table_at (next_tree schema) table)
new_last schema table free =
    placed_last (λ t. same_name t.name table.name) 0 schema.tables (table_at (next_tree schema) table) (no_table schema table.name free) ((lowered table.name table.name).1 refl)

-- the new table
pub created_has : (schema : Schema) (table : Table) → is_used schema table.name ≡ false → next_tree schema < 2 ^ 31
    → HasTable (created schema table) (table_at (next_tree schema) table)
created_has schema table free low =
    let new : Table = table_at (next_tree schema) table in
    let last = new_last schema table free in
    let from : 0 + last.at ≡ last.at = omega arith in
    let others = all_so _ (λ t. (t.tree == new.tree) ≡ false) (λ t below. ne_eqb t.tree new.tree (λ e. absurd (omega arith))) schema.tables (below_next schema).0 in
    record {
      at = last.at;
      named = last.placed ∙ ap Some from;
      listed = last.listed;
      in_tree = filter_kept (λ u. u.tree == new.tree) schema.tables new (eq-eqb new.tree new.tree refl)
          ∙ ap (λ others. others ++ new ∷ []) (filter_none (λ u. u.tree == new.tree) schema.tables others);
      stored = lt-leb _ _ low;
    }

-- the indexes of the keys are on their table
automatics_on : (table : Table) (at tree : ℕ) (keys : List (List ℕ)) → AllByRecursion (λ i. i.table ≡ table.tree) (automatics table at tree keys)
automatics_on table at tree [] = tt
automatics_on table at tree (key ∷ keys) = (refl, automatics_on table (at + 1) (tree + 1) keys)

-- the indexes of a table stay where another is made
pub created_keeps_indexes : (schema : Schema) (table : Table) (tree : ℕ) (indexes : List Index) → tree < next_tree schema → HasIndexes schema tree indexes
    → HasIndexes (created schema table) tree indexes
created_keeps_indexes schema table tree indexes low are =
    let new : Table = table_at (next_tree schema) table in
    let autos : List Index = automatics new 0 (new.tree + 1) new.uniques in
    let on_new = automatics_on new 0 (new.tree + 1) new.uniques in
    let others = all_so _ (λ i. (i.table == tree) ≡ false) (λ i e. ne_eqb i.table tree (λ same. absurd (omega arith))) autos on_new in
    filter-append (λ i. i.table == tree) schema.indexes autos
    ∙ (ap₂ ◌++◌ are (filter_none (λ i. i.table == tree) autos others)
    ∙ append-nil indexes)

-- the indexes of the new table
pub created_has_indexes : (schema : Schema) (table : Table) → AllByRecursion (λ i. i.table < next_tree schema) schema.indexes
    → HasIndexes (created schema table) (next_tree schema) (automatics (table_at (next_tree schema) table) 0 (next_tree schema + 1) table.uniques)
created_has_indexes schema table low =
    let new : Table = table_at (next_tree schema) table in
    let autos : List Index = automatics new 0 (new.tree + 1) new.uniques in
    filter-append (λ i. i.table == new.tree) schema.indexes autos
    ∙ ap₂ ◌++◌
    (filter_none (λ i. i.table == new.tree) schema.indexes (all_so _ _ (λ i below. ne_eqb i.table new.tree (λ same. absurd (omega arith))) schema.indexes low))
    (filter_whole (λ i. i.table == new.tree) autos (all_so _ _ (λ i e. eq-eqb i.table new.tree e) autos (automatics_on new 0 (new.tree + 1) new.uniques)))

-- a new index is the last of its table
pub indexed_has_indexes : (schema : Schema) (table : Table) (index : Index) (indexes : List Index) → HasIndexes schema table.tree indexes
    → HasIndexes (indexed schema table index) table.tree (indexes ++ record index { tree = next_tree schema; table = table.tree } ∷ [])
indexed_has_indexes schema table index indexes are =
    let new : Index = record index { tree = next_tree schema; table = table.tree } in
    filter_kept (λ i. i.table == table.tree) schema.indexes new (eq-eqb table.tree table.tree refl) ∙ ap (λ before. before ++ new ∷ []) are

-- and the indexes of another stay
pub indexed_keeps_indexes : (schema : Schema) (table : Table) (index : Index) (tree : ℕ) (indexes : List Index) → table.tree ≢ tree → HasIndexes schema tree indexes
    → HasIndexes (indexed schema table index) tree indexes
indexed_keeps_indexes schema table index tree indexes apart are = filter_left (λ i. i.table == tree) schema.indexes _ (ne_eqb table.tree tree apart) ∙ are

-- two tables that the schema has in one tree have one name
pub one_name : (schema : Schema) (t u : Table) → HasTable schema t → HasTable schema u → t.tree ≡ u.tree → t.name ≡ u.name
one_name schema t u h k e =
    let same : t ∷ [] ≡ u ∷ [] = sym h.in_tree ∙ (ap (λ tree. filter (λ x. x.tree == tree) schema.tables) e ∙ k.in_tree) in
    let one : t ≡ u = cc in
    ap (λ x. x.name) one

-- ---- trees of names

-- where a table stays in its tree, its name has that tree
stays_in : (schema after : Schema) (table : Table) → HasTable after (table_in schema table) → tree_named after table.name ≡ tree_named schema table.name
stays_in schema after table h = tree_is after table.name (table_in schema table) h.at h.named h.listed

-- the trees of the tables do not move where a table is made
pub same_tree : (schema : Schema) (new table : Table) → HasTable schema (table_in schema table) → tree_named (created schema new) table.name ≡ tree_named schema table.name
same_tree schema new table h = stays_in schema (created schema new) table (created_keeps schema new (table_in schema table) h)

-- or an index
pub same_tree_indexed : (schema : Schema) (on : Table) (index : Index) (table : Table) → HasTable schema (table_in schema table)
    → tree_named (indexed schema on index) table.name ≡ tree_named schema table.name
same_tree_indexed schema on index table h = refl

-- the new table is in the next tree
pub new_tree : (schema : Schema) (table : Table) → is_used schema table.name ≡ false → tree_named (created schema table) table.name ≡ next_tree schema
new_tree schema table free =
    let last = new_last schema table free in
    let from : 0 + last.at ≡ last.at = omega arith in
    tree_is (created schema table) table.name (table_at (next_tree schema) table) last.at (last.placed ∙ ap Some from) last.listed

-- ---- names

-- a name that no table, index or view has is free
pub free_from : (schema : Schema) (name : List ℕ) → table_named schema name ≡ None → index_named schema name ≡ None → view_named schema name ≡ None → is_used schema name ≡ false
free_from schema name a b c = rw (a, b, c)

-- what is free stays free where a table with other names is made
pub created_free : (schema : Schema) (table : Table) (name : List ℕ) → is_used schema name ≡ false → same_name table.name name ≡ false
    → AllByRecursion (λ i. same_name i.name name ≡ false) (automatics (table_at (next_tree schema) table) 0 (next_tree schema + 1) table.uniques)
    → is_used (created schema table) name ≡ false
created_free schema table name free own autos =
    free_from (created schema table) name
    (none_after (λ t. same_name t.name name) 0 schema.tables _ (no_table schema name free) (own, tt))
    (none_after (λ i. same_name i.name name) 0 schema.indexes _ (no_index schema name free) autos)
    (no_view schema name free)

-- or an index with another
pub indexed_free : (schema : Schema) (table : Table) (index : Index) (name : List ℕ) → is_used schema name ≡ false → same_name index.name name ≡ false
    → is_used (indexed schema table index) name ≡ false
indexed_free schema table index name free own =
    free_from (indexed schema table index) name
    (no_table schema name free)
    (none_after (λ i. same_name i.name name) 0 schema.indexes _ (no_index schema name free) (own, tt))
    (no_view schema name free)

-- ---- what counts rowids

-- the table of counts is there where it was, and one that counts none does not need it
pub created_counted : (schema : Schema) (table : Table) → table.is_counted ≡ false → lacks_sequence schema ≡ false → lacks_sequence (created schema table) ≡ false
created_counted schema table plain lacks =
    elim (and_cases (list_any (λ t. t.is_counted) schema.tables) _ lacks) [
      | inl none ↦ and_left _ _ (any_last (λ t. t.is_counted) schema.tables (table_at (next_tree schema) table) none plain)
      | inr there ↦ and_right _ _ (not_from_true _ (found_before (λ t. same_name t.name (codes "sqlite_sequence")) schema.tables _ (not_false _ there)))
    ]
  where
    not_false : (b : Bool) → not b ≡ false → b ≡ true
    not_false true e = refl
    not_false false e = absurd (cc)
