-- What a schema has of the office on the way, and what making one more table or index leaves of that.
use Rattle.std.proofs.Common.{◌≡◌, ◌≢◌, ℕ, ◌+◌, ◌<◌, ◌≤◌, ◌^◌, ◌&&◌, ◌||◌, not, Bool, true, false, List, [], ◌∷◌, ◌++◌, refl, sym, ap, subst, ◌∙◌, arith, append_assoc}
use Rattle.std.specs.List.{AllByRecursion, list_all}
use Rattle.std.proofs.lemmas.Bool.{and_parts, not-true}
use Rattle.sqlite.specs.Schema.{Schema}
use Rattle.sqlite.specs.Table.{Table}
use Rattle.sqlite.specs.Change.{created, indexed, next_tree, past_views, is_used, automatics}
use Rattle.sqlite.specs.Does.{lacks_sequence}
use Rattle.sqlite_rules.proofs.ListLemmas.{test_push}
use Rattle.sqlite_catalog.proofs.SoundLemmas.{lowered}
use Rattle.sqlite_schema.specs.declared.schema.Index.{Index}
use Rattle.sqlite_schema.specs.Names.{same_name}
use Rattle.wb_sql.specs.Among.{HasTable, HasIndexes, table_at, tree_named, table_in, names_either, refers_to_none, are_unreferred, is_quiet, are_quiet}
use Rattle.wb_sql.proofs.AppendLemmas.{all_so, all_append, all_split, all_both, all_pass, all_fail}
use Rattle.wb_sql.proofs.CreatedLemmas.{below_next, views_below, next_within, has_below, created_keeps, created_has, indexed_keeps, created_keeps_indexes, created_has_indexes, indexed_has_indexes, indexed_keeps_indexes, one_name, same_tree, new_tree, created_free, indexed_free, created_counted}

-- ---- the tables with their indexes

-- one of the office's tables, and its indexes by its tree
pub record Owned : Type 0 where
  pub table : Table
  pub indexes : ℕ → List Index

-- a table with the indexes of its keys
abbrev pub own : Table → Owned
own table = record { table = table; indexes = λ tree. automatics (table_at tree table) 0 (tree + 1) table.uniques }

-- with one more index, made in this schema
abbrev pub own_more : Schema → Owned → Index → Owned
own_more schema o index = record { table = o.table; indexes = λ tree. o.indexes tree ++ record index { tree = next_tree schema; table = tree } ∷ [] }

-- the schema has the table with these indexes and no other
pub record IsOwned (schema : Schema) (o : Owned) : Type 0 where
  pub has : HasTable schema (table_in schema o.table)
  pub indexed : HasIndexes schema (tree_named schema o.table.name) (o.indexes (tree_named schema o.table.name))

-- a table with its indexes in the tree that its name has
owned_in : (schema : Schema) (o : Owned) (tree : ℕ) → tree_named schema o.table.name ≡ tree → HasTable schema (table_at tree o.table) → HasIndexes schema tree (o.indexes tree)
    → IsOwned schema o
owned_in schema o tree same has indexes = record {
  has = subst (λ t. HasTable schema (table_at t o.table)) (sym same) has;
  indexed = subst (λ t. HasIndexes schema t (o.indexes t)) (sym same) indexes;
}

-- it stays where another table is made
created_keeps_owned : (schema : Schema) (table : Table) (o : Owned) → IsOwned schema o → IsOwned (created schema table) o
created_keeps_owned schema table o h =
    owned_in (created schema table) o (tree_named schema o.table.name) (same_tree schema table o.table h.has) (created_keeps schema table (table_in schema o.table) h.has)
    (created_keeps_indexes schema table (tree_named schema o.table.name) (o.indexes (tree_named schema o.table.name)) (has_below schema (table_in schema o.table) h.has) h.indexed)

-- the new table
created_has_owned : (schema : Schema) (table : Table) → is_used schema table.name ≡ false → next_tree schema < 2 ^ 31
    → AllByRecursion (λ i. i.table < next_tree schema) schema.indexes
    → IsOwned (created schema table) (own table)
created_has_owned schema table free low below =
    owned_in (created schema table) (own table) (next_tree schema) (new_tree schema table free) (created_has schema table free low) (created_has_indexes schema table below)

-- a table stays where an index is made on a table with another name
indexed_keeps_owned : (schema : Schema) (on : Table) (index : Index) (o : Owned) → HasTable schema (table_in schema on) → o.table.name ≢ on.name → IsOwned schema o
    → IsOwned (indexed schema (table_in schema on) index) o
indexed_keeps_owned schema on index o there apart h = record {
  has = indexed_keeps schema (table_in schema on) index (table_in schema o.table) h.has;
  indexed = indexed_keeps_indexes schema (table_in schema on) index (tree_named schema o.table.name) (o.indexes (tree_named schema o.table.name))
      (λ e. apart (one_name schema (table_in schema o.table) (table_in schema on) h.has there (sym e))) h.indexed;
}

-- the table with its new index
indexed_has_owned : (schema : Schema) (o : Owned) (index : Index) → IsOwned schema o → IsOwned (indexed schema (table_in schema o.table) index) (own_more schema o index)
indexed_has_owned schema o index h = record {
  has = indexed_keeps schema (table_in schema o.table) index (table_in schema o.table) h.has;
  indexed = indexed_has_indexes schema (table_in schema o.table) index (o.indexes (tree_named schema o.table.name)) h.indexed;
}

-- ---- stages

-- what is known of a schema on the way, with room for so many trees more
pub record IsStage (base schema : Schema) (owned : List Owned) (names : List (List ℕ)) (room : ℕ) : Type 0 where
  pub more : List Table
  pub tables_are : schema.tables ≡ base.tables ++ more
  pub owns : AllByRecursion (IsOwned schema) owned
  pub free : AllByRecursion (λ name. is_used schema name ≡ false) names
  pub counted : lacks_sequence schema ≡ false
  pub unreferred : are_unreferred schema ≡ true
  pub quiet : are_quiet schema ≡ true
  pub bounded : next_tree schema + room ≤ 65556
  pub below : AllByRecursion (λ index. index.table < next_tree schema) schema.indexes

-- a name differs from those of the table and of the indexes of its keys
abbrev pub differs : Table → ℕ → List ℕ → Bool
differs table tree name = not (same_name table.name name) && list_all (λ i. not (same_name i.name name)) (automatics (table_at tree table) 0 (tree + 1) table.uniques)

-- a table of the office, of at most one key, that differs from these names
pub record IsNew (table : Table) (names : List (List ℕ)) : Type 0 where
  pub uncounted : table.is_counted ≡ false
  pub unlike : (tree : ℕ) → list_all (differs table tree) names ≡ true
  pub unreferred : (names_either table.name || refers_to_none table) ≡ true
  pub quiet : is_quiet table ≡ true
  pub narrow : (tree : ℕ) → AllByRecursion (λ i. (i.table < tree + 1) × (i.tree < tree + 2)) (automatics (table_at tree table) 0 (tree + 1) table.uniques)

-- the next tree after a table of at most one key
next_created : (schema : Schema) (table : Table) (names : List (List ℕ)) → IsNew table names → next_tree (created schema table) ≤ next_tree schema + 2
next_created schema table names new =
    let old = below_next schema in
    let views : past_views schema ≤ next_tree schema = views_below schema in
    next_within (created schema table) (next_tree schema + 2) (omega arith)
    (all_append _ schema.tables _ (all_so _ _ (λ t h. omega arith) schema.tables old.0) (omega arith, tt))
    (all_append _ schema.indexes _ (all_so _ _ (λ i h. omega arith) schema.indexes old.1) (all_so _ _ (λ i h. h.1) _ (new.narrow (next_tree schema))))

-- and after an index
next_indexed : (schema : Schema) (table : Table) (index : Index) → next_tree (indexed schema table index) ≤ next_tree schema + 1
next_indexed schema table index =
    let old = below_next schema in
    let views : past_views schema ≤ next_tree schema = views_below schema in
    next_within (indexed schema table index) (next_tree schema + 1) (omega arith)
    (all_so _ _ (λ t h. omega arith) schema.tables old.0)
    (all_append _ schema.indexes _ (all_so _ _ (λ i h. omega arith) schema.indexes old.1) (omega arith, tt))

-- the index is in the tree before that
past_indexed : (schema : Schema) (table : Table) (index : Index) → next_tree schema < next_tree (indexed schema table index)
past_indexed schema table index =
    let made : Schema = indexed schema table index in
    let new : Index = record index { tree = next_tree schema; table = table.tree } in
    (all_split (λ i. i.tree < next_tree made) schema.indexes (new ∷ []) (below_next made).1).1.0

-- a stage on which a table is made
pub table_step : (base schema : Schema) (table : Table) (owned : List Owned) (names : List (List ℕ)) (room : ℕ)
    → IsStage base schema owned (table.name ∷ names) (room + 2) → IsNew table names → IsStage base (created schema table) (owned ++ own table ∷ []) names room
table_step base schema table owned names room was new =
    let bounded : next_tree schema + (room + 2) ≤ 65556 = was.bounded in
    let next : next_tree (created schema table) ≤ next_tree schema + 2 = next_created schema table names new in
    let low : next_tree schema < 2 ^ 31 = omega arith in
    let placed = created_has schema table was.free.0 low in
    let past : next_tree schema < next_tree (created schema table) = has_below (created schema table) (table_at (next_tree schema) table) placed in
    record {
      more = was.more ++ table_at (next_tree schema) table ∷ [];
      tables_are = ap (λ tables. tables ++ table_at (next_tree schema) table ∷ []) was.tables_are ∙ append_assoc base.tables was.more _;
      owns =
          all_append (IsOwned (created schema table)) owned _
          (all_so _ _ (created_keeps_owned schema table) owned was.owns) (created_has_owned schema table was.free.0 low was.below, tt);
      free = all_both _ _ _
          (λ name free apart. let parts = and_parts _ _ apart in created_free schema table name free (not-true _ parts.0) (all_fail (λ i. same_name i.name name) _ parts.1))
          names was.free.1 (all_pass (differs table (next_tree schema)) names (new.unlike (next_tree schema)));
      counted = created_counted schema table new.uncounted was.counted;
      unreferred = test_push _ schema.tables _ was.unreferred new.unreferred;
      quiet = test_push _ schema.tables _ was.quiet new.quiet;
      bounded = omega arith;
      below =
          all_append _ schema.indexes _ (all_so _ _ (λ i h. omega arith) schema.indexes was.below)
          (all_so _ _ (λ i h. let on : i.table < next_tree schema + 1 = h.0 in omega arith) _ (new.narrow (next_tree schema)));
    }

-- names that differ are not one
pub apart_of : (name other : List ℕ) → not (same_name name other) ≡ true → name ≢ other
apart_of name other differ e = let same : same_name name other ≡ true = subst (λ n. same_name name n ≡ true) e ((lowered name name).1 refl) in let no = not-true _ differ in cc

-- a stage on which an index is made on the last table
pub index_step : (base schema : Schema) (o : Owned) (index : Index) (owned : List Owned) (names : List (List ℕ)) (room : ℕ)
    → IsStage base schema (owned ++ o ∷ []) (index.name ∷ names) (room + 1)
    → list_all (λ p. not (same_name p.table.name o.table.name)) owned ≡ true → list_all (λ name. not (same_name index.name name)) names ≡ true
    → IsStage base (indexed schema (table_in schema o.table) index) (owned ++ own_more schema o index ∷ []) names room
index_step base schema o index owned names room was others unlike =
    let bounded : next_tree schema + (room + 1) ≤ 65556 = was.bounded in
    let made : Schema = indexed schema (table_in schema o.table) index in
    let next : next_tree made ≤ next_tree schema + 1 = next_indexed schema (table_in schema o.table) index in
    let parts = all_split (IsOwned schema) owned (o ∷ []) was.owns in
    let here = parts.1.0 in
    let low : tree_named schema o.table.name < next_tree schema = has_below schema (table_in schema o.table) here.has in
    let past : next_tree schema < next_tree made = past_indexed schema (table_in schema o.table) index in
    record {
      more = was.more;
      tables_are = was.tables_are;
      owns = all_append (IsOwned made) owned _
          (all_both _ _ _ (λ p h differ. indexed_keeps_owned schema o.table index p here.has (apart_of _ _ differ) h) owned parts.0 (all_pass _ owned others))
          (indexed_has_owned schema o index here, tt);
      free =
          all_both _ _ _ (λ name free apart. indexed_free schema (table_in schema o.table) index name free apart) names
          was.free.1 (all_fail (λ name. same_name index.name name) names unlike);
      counted = was.counted;
      unreferred = was.unreferred;
      quiet = was.quiet;
      bounded = omega arith;
      below = all_append _ schema.indexes _ (all_so _ _ (λ i h. omega arith) schema.indexes was.below) (omega arith, tt);
    }
