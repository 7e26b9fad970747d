-- How the office's tables are recognized among the tables, indexes and views of others.
use Rattle.std.proofs.Common.{◌≡◌, refl, sym, subst, ap, ◌∙◌, ℕ, ◌^◌, ◌==◌, nat_le, nat_lt, true, false, Some, List, [], ◌∷◌, map, length, filter, slice_get}
use Rattle.std.proofs.lemmas.Bool.{eq-eqb, lt-ltb, ltb-true, lt-leb, leb-false}
use Rattle.sqlite.specs.Schema.{Schema}
use Rattle.sqlite.specs.Table.{Table}
use Rattle.sqlite_schema.specs.declared.schema.Index.{Index}
use Rattle.sqlite_schema.specs.Names.{table_named}
use Rattle.wb_sql.specs.Among.{HasTable, HasIndexed, HasOffice, MayHaveStates, table_at, table_in, index_at, treeless, indexes_on, are_unreferred, are_quiet}
use Rattle.wb_sql.proofs.AloneLemmas.{alone_is, tree_is}
use Rattle.wb_sql.specs.Recognition.{IsFound, IsAlone, HasTables}

-- a tree below 2^31 is stored
pub stored_is : (tree : ℕ) → nat_lt tree (2 ^ 31) ≡ true → nat_le (2 ^ 31) tree ≡ false
stored_is tree e = lt-leb _ _ (ltb-true _ _ e)

-- and only such a tree is
pub is_stored : (tree : ℕ) → nat_le (2 ^ 31) tree ≡ false → nat_lt tree (2 ^ 31) ≡ true
is_stored tree e = lt-ltb _ _ (leb-false _ _ e)

-- the table with the name, alone in its tree
pub found : (schema : Schema) (name : List ℕ) (at : ℕ) (table : Table) → table_named schema name ≡ Some at → slice_get schema.tables at ≡ Some table → IsAlone schema.tables table.tree → IsFound schema name table
found schema name at table named listed alone =
    record { at = at; named = named; listed = listed; in_tree = alone_is (λ t. t.tree == table.tree) schema.tables at table alone.one listed (eq-eqb table.tree table.tree refl); stored = alone.stored }

-- what is there is one
some_is : {A : Type 0} (x y : A) → Some x ≡ Some y → x ≡ y
some_is x y e = cc

-- what is found with the name is the table at the first place with it, which is alone in its tree
pub alone_if_found : (schema : Schema) (name : List ℕ) (at : ℕ) (table other : Table)
    → table_named schema name ≡ Some at → slice_get schema.tables at ≡ Some table → IsFound schema name other → IsAlone schema.tables table.tree
alone_if_found schema name at table other named listed f =
    let place : f.at ≡ at = some_is _ _ (sym f.named ∙ named) in
    let same : other ≡ table = some_is _ _ (sym f.listed ∙ (ap (slice_get schema.tables) place ∙ listed)) in
    record {
      one = subst (λ u. length (filter (λ t. t.tree == u.tree) schema.tables) ≡ 1) same (ap length f.in_tree);
      stored = subst (λ u. nat_le (2 ^ 31) u.tree ≡ false) same f.stored;
    }

-- the schema has what is found with the name of one of the office's tables, and is that table
has_of : (schema : Schema) (table t : Table) → IsFound schema table.name t → t ≡ table_at t.tree table → HasTable schema (table_in schema table)
has_of schema table t f is =
    let e : t ≡ table_in schema table = is ∙ ap (λ tree. table_at tree table) (sym (tree_is schema table.name t f.at f.named f.listed)) in
    record {
      at = f.at;
      named = f.named;
      listed = f.listed ∙ ap Some e;
      in_tree = subst (λ u. filter (λ x. x.tree == u.tree) schema.tables ≡ u ∷ []) e f.in_tree;
      stored = subst (λ u. nat_le (2 ^ 31) u.tree ≡ false) e f.stored;
    }

-- one of the office's tables that the schema has is found with its name
pub found_of : (schema : Schema) (table : Table) → HasTable schema (table_in schema table) → IsFound schema table.name (table_in schema table)
found_of schema table has = record { at = has.at; named = has.named; listed = has.listed; in_tree = has.in_tree; stored = has.stored }

-- what is found with the name of one of the office's tables is that table, and these are its indexes
pub indexed_by : (schema : Schema) (table t : Table) (indexes : List Index)
    → IsFound schema table.name t → t ≡ table_at t.tree table → map treeless (indexes_on t.tree schema.indexes) ≡ map (index_at 0 t.tree) indexes → HasIndexed schema table indexes
indexed_by schema table t indexes f is these = record {
  has = has_of schema table t f is;
  indexed = subst (λ tree. map treeless (indexes_on tree schema.indexes) ≡ map (index_at 0 tree) indexes) (sym (tree_is schema table.name t f.at f.named f.listed)) these;
}

-- the indexes of what is found are those of the office's table
pub indexes_of_found : (schema : Schema) (table t : Table) (indexes : List Index)
    → IsFound schema table.name t → HasIndexed schema table indexes → map treeless (indexes_on t.tree schema.indexes) ≡ map (index_at 0 t.tree) indexes
indexes_of_found schema table t indexes f h = subst (λ tree. map treeless (indexes_on tree schema.indexes) ≡ map (index_at 0 tree) indexes) (tree_is schema table.name t f.at f.named f.listed) h.indexed

-- the indexes, but for their trees, are none
unindexed : (indexes : List Index) → map treeless indexes ≡ [] → indexes ≡ []
unindexed [] e = refl
unindexed (i ∷ is) e = absurd (cc)

-- the first of the indexes is this one in some tree
record IsHead (indexes : List Index) (index : Index) (others : List Index) : Type 0 where
  pub tree : ℕ
  pub rest : List Index
  pub is : indexes ≡ record index { tree = tree } ∷ rest
  pub rest_is : map treeless rest ≡ others

-- indexes of which the first is this one, in this tree
abbrev moved : ℕ → List Index → Index → List Index
moved tree rest index = record index { tree = tree } ∷ rest

-- indexes that are not none, but for their trees, have a first
head_of : (indexes : List Index) (index : Index) (others : List Index) → map treeless indexes ≡ index ∷ others → IsHead indexes index others
head_of [] index others e = absurd (cc)
head_of (i ∷ is) index others e =
    let one : treeless i ≡ index = cc in
    record { tree = i.tree; rest = is; is = ap (moved i.tree is) one; rest_is = cc }

-- one index, but for its tree, is that index in some tree
one_index : (indexes : List Index) (a : Index) → map treeless indexes ≡ a ∷ [] → (k : ℕ) × (indexes ≡ record a { tree = k } ∷ [])
one_index indexes a e =
    let h = head_of indexes a [] e in
    (h.tree, h.is ∙ ap (λ rest. moved h.tree rest a) (unindexed h.rest h.rest_is))

-- two indexes
two_indexes : (indexes : List Index) (a b : Index) → map treeless indexes ≡ a ∷ b ∷ [] → (j : ℕ) × ((k : ℕ) × (indexes ≡ record a { tree = j } ∷ record b { tree = k } ∷ []))
two_indexes indexes a b e =
    let h = head_of indexes a (b ∷ []) e in
    let r = one_index h.rest b h.rest_is in
    (h.tree, (r.0, h.is ∙ ap (λ rest. moved h.tree rest a) r.1))

-- three indexes
three_indexes : (indexes : List Index) (a b c : Index) → map treeless indexes ≡ a ∷ b ∷ c ∷ []
    → (i : ℕ) × ((j : ℕ) × ((k : ℕ) × (indexes ≡ record a { tree = i } ∷ record b { tree = j } ∷ record c { tree = k } ∷ [])))
three_indexes indexes a b c e =
    let h = head_of indexes a (b ∷ c ∷ []) e in
    let r = two_indexes h.rest b c h.rest_is in
    (h.tree, (r.0, (r.1.0, h.is ∙ ap (λ rest. moved h.tree rest a) r.1.1)))

-- a schema with each of the tables and its indexes, where nothing of others touches them, has the office's tables
pub office_of : (schema : Schema) → HasTables schema → MayHaveStates schema → are_unreferred schema ≡ true → are_quiet schema ≡ true → HasOffice schema
office_of schema h states unreferred quiet =
    let a = one_index _ _ h.archs_are.indexed in
    let b = one_index _ _ h.builders_are.indexed in
    let r = three_indexes _ _ _ _ h.records_are.indexed in
    let s = one_index _ _ h.sources_are.indexed in
    let p = two_indexes _ _ _ h.binaries_are.indexed in
    record {
      at = record { arch_key = a.0; builder_key = b.0; record_key = r.0; record_order = r.1.0; record_take = r.1.1.0; source_name = s.0; binary_source = p.0; binary_name = p.1.0 };
      office_is = h.office_is.has;
      office_indexes = unindexed _ h.office_is.indexed;
      arch_is = h.archs_are.has;
      arch_indexes = a.1;
      builder_is = h.builders_are.has;
      builder_indexes = b.1;
      record_is = h.records_are.has;
      records_indexed = r.1.1.1;
      source_is = h.sources_are.has;
      source_indexes = s.1;
      binary_is = h.binaries_are.has;
      binary_indexes = p.1.1;
      states = states;
      unreferred = unreferred;
      quiet = quiet;
    }
