-- How a schema grows from the tables of the first schema to those of the second.
use Rattle.std.proofs.Common.{◌≡◌, ◌≢◌, ℕ, ◌<◌, ◌≤◌, ◌^◌, ◌||◌, not, true, false, List, [], ◌∷◌, ◌++◌, refl, sym, ap, subst, ◌∙◌, arith, append-nil, map, inr}
use Rattle.std.specs.List.{AllByRecursion, list_all}
use Rattle.std.specs.Fmt.{digits}
use Rattle.std.proofs.lemmas.Bool.{and_parts, not-true}
use Rattle.std.proofs.lemmas.List.{map-append}
use Rattle.sqlite.specs.Schema.{Schema}
use Rattle.sqlite.specs.Table.{Table}
use Rattle.sqlite.specs.Change.{created, indexed, next_tree, is_used}
use Rattle.sqlite.specs.Does.{lacks_sequence}
use Rattle.sqlite.specs.State.{State}
use Rattle.sqlite_trees.proofs.ListLemmas.{all-slice_get}
use Rattle.sqlite_catalog.specs.Listing.{automatic}
use Rattle.sqlite_rules.proofs.ListLemmas.{test_push}
use Rattle.sqlite_schema.specs.declared.schema.Index.{Index}
use Rattle.sqlite_schema.specs.Names.{same_name}
use Rattle.wb_sql.specs.Among.{HasTable, HasIndexed, HasOffice, HasStates, IsNumbered, rows_in, index_at, table_at, table_in, treeless, indexes_on, tree_named, names_either, refers_to_none, is_quiet}
use Rattle.wb_sql.specs.Making.{MakesTables, with_index}
use Rattle.wb_sql.specs.Tables.{office, arch, builder, source_record, source_state, state_order, scratch_source, scratch_binary}
use Rattle.wb_sql.specs.Tables.{record_order, record_take, source_name, binary_source, binary_name}
use Rattle.wb_sql.specs.Upgrading.{HasFirstOffice, second_names}
use Rattle.wb_sql.specs.Upgrading.{with_second_record, with_second_order, with_second_take, with_second_source, with_second_binary, with_second}
use Rattle.wb_sql.proofs.AppendLemmas.{all_so, all_append, all_split, all_both, all_pass, all_fail, each_fails}
use Rattle.wb_sql.proofs.CreatedLemmas.{has_below, created_keeps, created_has, indexed_keeps, created_keeps_indexes, created_has_indexes, indexed_has_indexes, indexed_keeps_indexes, one_name, same_tree, new_tree, created_free, indexed_free, created_counted}
use Rattle.wb_sql.proofs.GrowthLemmas.{IsGrown}
use Rattle.wb_sql.proofs.OwnedLemmas.{differs, apart_of}
use Rattle.wb_sql.proofs.RecognitionLemmas.{office_of}

-- ---- a table with its indexes

-- a table with its indexes in the tree that its name has
indexed_in : (schema : Schema) (table : Table) (indexes : List Index) (tree : ℕ) → tree_named schema table.name ≡ tree → HasTable schema (table_at tree table)
    → map treeless (indexes_on tree schema.indexes) ≡ map (index_at 0 tree) indexes → HasIndexed schema table indexes
indexed_in schema table indexes tree same has are = record {
  has = subst (λ t. HasTable schema (table_at t table)) (sym same) has;
  indexed = subst (λ t. map treeless (indexes_on t schema.indexes) ≡ map (index_at 0 t) indexes) (sym same) are;
}

-- it stays where another table is made
created_keeps_indexed : (schema : Schema) (made table : Table) (indexes : List Index) → HasIndexed schema table indexes → HasIndexed (created schema made) table indexes
created_keeps_indexed schema made table indexes h =
    let tree : ℕ = tree_named schema table.name in
    let same = created_keeps_indexes schema made tree (indexes_on tree schema.indexes) (has_below schema (table_in schema table) h.has) refl in
    indexed_in (created schema made) table indexes tree (same_tree schema made table h.has) (created_keeps schema made (table_in schema table) h.has) (ap (map treeless) same ∙ h.indexed)

-- the schema has the table with these indexes
abbrev HasOne : Schema → Table × List Index → Type 0
HasOne schema it = HasIndexed schema it.0 it.1

-- and so do others
created_keeps_all : (schema : Schema) (made : Table) (those : List (Table × List Index)) → AllByRecursion (HasOne schema) those
    → AllByRecursion (HasOne (created schema made)) those
created_keeps_all schema made = all_so _ _ (λ it have. created_keeps_indexed schema made it.0 it.1 have)

-- the new table of records, with the index of its key
created_has_records : (schema : Schema) → is_used schema source_record.name ≡ false → next_tree schema < 2 ^ 31
    → AllByRecursion (λ i. i.table < next_tree schema) schema.indexes
    → HasIndexed (created schema source_record) source_record (automatic source_record 0 (1 ∷ 2 ∷ []) 6 ∷ [])
created_has_records schema free low below =
    indexed_in (created schema source_record) source_record (automatic source_record 0 (1 ∷ 2 ∷ []) 6 ∷ []) (next_tree schema) (new_tree schema source_record free)
    (created_has schema source_record free low) (ap (map treeless) (created_has_indexes schema source_record below))

-- a table stays where an index is made on a table with another name
indexed_keeps_indexed : (schema : Schema) (on : Table) (index : Index) (table : Table) (indexes : List Index) → HasTable schema (table_in schema on) → table.name ≢ on.name
    → HasIndexed schema table indexes → HasIndexed (with_index schema on index) table indexes
indexed_keeps_indexed schema on index table indexes there apart h =
    let tree : ℕ = tree_named schema table.name in
    record {
      has = indexed_keeps schema (table_in schema on) index (table_in schema table) h.has;
      indexed = ap (map treeless) (indexed_keeps_indexes schema (table_in schema on) index tree (indexes_on tree schema.indexes)
          (λ e. apart (one_name schema (table_in schema table) (table_in schema on) h.has there (sym e))) refl)
          ∙ h.indexed;
    }

-- the table with its new index
indexed_has_indexed : (schema : Schema) (table : Table) (index : Index) (indexes : List Index) → HasIndexed schema table indexes
    → HasIndexed (with_index schema table index) table (indexes ++ index ∷ [])
indexed_has_indexed schema table index indexes h =
    let tree : ℕ = tree_named schema table.name in
    let before : List Index = indexes_on tree schema.indexes in
    let new : Index = record index { tree = next_tree schema; table = tree } in
    record {
      has = indexed_keeps schema (table_in schema table) index (table_in schema table) h.has;
      indexed = ap (map treeless) (indexed_has_indexes schema (table_in schema table) index before refl)
          ∙ (map-append treeless before (new ∷ [])
          ∙ (ap (λ those. those ++ index_at 0 tree index ∷ []) h.indexed
          ∙ sym (map-append (index_at 0 tree) indexes (index ∷ []))));
    }

-- ---- names

-- names that are free stay free where a table with other names is made
created_leaves_free : (schema : Schema) (table : Table) (names : List (List ℕ)) → AllByRecursion (λ name. is_used schema name ≡ false) names
    → list_all (differs table (next_tree schema)) names ≡ true → AllByRecursion (λ name. is_used (created schema table) name ≡ false) names
created_leaves_free schema table names free unlike =
    all_both _ _ _
    (λ name free apart. let parts = and_parts _ _ apart in created_free schema table name free (not-true _ parts.0) (all_fail (λ i. same_name i.name name) _ parts.1))
    names free (all_pass (differs table (next_tree schema)) names unlike)

-- or an index with another
indexed_leaves_free : (schema : Schema) (on : Table) (index : Index) (names : List (List ℕ)) → AllByRecursion (λ name. is_used schema name ≡ false) names
    → list_all (λ name. not (same_name index.name name)) names ≡ true → AllByRecursion (λ name. is_used (indexed schema on index) name ≡ false) names
indexed_leaves_free schema on index names free unlike =
    all_both _ _ _ (λ name free apart. indexed_free schema on index name free apart) names free (all_fail (λ name. same_name index.name name) names unlike)

-- ---- stages

-- the names of what is made, from each stage on
abbrev pub from_second_name : List (List ℕ)
from_second_name = binary_name.name ∷ []

abbrev pub from_second_binary : List (List ℕ)
from_second_binary = binary_source.name ∷ from_second_name

abbrev pub from_second_source : List (List ℕ)
from_second_source = source_name.name ∷ from_second_binary

abbrev pub from_second_take : List (List ℕ)
from_second_take = record_take.name ∷ from_second_source

abbrev pub from_second_order : List (List ℕ)
from_second_order = record_order.name ∷ from_second_take

-- the table of records differs from what is made after it
record_unlike : (tree : ℕ) → list_all (differs source_record tree) from_second_order ≡ true
unfolding same_name digits
record_unlike tree = refl

-- and so does each of the indexes
order_unlike : list_all (λ name. not (same_name record_order.name name)) from_second_take ≡ true
unfolding same_name
order_unlike = refl

take_unlike : list_all (λ name. not (same_name record_take.name name)) from_second_source ≡ true
unfolding same_name
take_unlike = refl

source_unlike : list_all (λ name. not (same_name source_name.name name)) from_second_binary ≡ true
unfolding same_name
source_unlike = refl

binary_unlike : list_all (λ name. not (same_name binary_source.name name)) from_second_name ≡ true
unfolding same_name
binary_unlike = refl

-- what is known of a schema on the way: the table of records is made, these tables have these indexes, and these names are free
pub record IsUpgrading (base schema : Schema) (indexed : List (Table × List Index)) (names : List (List ℕ)) : Type 0 where
  pub tables_are : schema.tables ≡ base.tables ++ table_at (next_tree base) source_record ∷ []
  pub have : AllByRecursion (HasOne schema) indexed
  pub free : AllByRecursion (λ name. is_used schema name ≡ false) names
  pub counted : lacks_sequence schema ≡ false

-- tables stay where an index is made on one with another name
indexed_keeps_all : (schema : Schema) (on : Table) (index : Index) → HasTable schema (table_in schema on) → (those : List (Table × List Index))
    → list_all (λ it. not (same_name it.0.name on.name)) those ≡ true → AllByRecursion (HasOne schema) those
    → AllByRecursion (HasOne (with_index schema on index)) those
indexed_keeps_all schema on index there those apart have =
    all_both _ _ _ (λ it has other. indexed_keeps_indexed schema on index it.0 it.1 there (apart_of it.0.name on.name other) has) those have (all_pass (λ it. not (same_name it.0.name on.name)) those apart)

-- an index is made on one of the tables
index_one : {base schema : Schema} {names : List (List ℕ)} (before : List (Table × List Index)) (on : Table) (indexes : List Index) (after : List (Table × List Index)) (index : Index)
    → IsUpgrading base schema (before ++ (on, indexes) ∷ after) (index.name ∷ names) → list_all (λ it. not (same_name it.0.name on.name)) before ≡ true
    → list_all (λ it. not (same_name it.0.name on.name)) after ≡ true → list_all (λ name. not (same_name index.name name)) names ≡ true
    → IsUpgrading base (with_index schema on index) (before ++ (on, indexes ++ index ∷ []) ∷ after) names
index_one {base} {schema} {names} before on indexes after index was apart_before apart_after unlike =
    let have = all_split _ before ((on, indexes) ∷ after) was.have in
    let there = have.1.0.has in
    record {
      tables_are = was.tables_are;
      have = all_append _ before ((on, indexes ++ index ∷ []) ∷ after) (indexed_keeps_all schema on index there before apart_before have.0)
          (indexed_has_indexed schema on index indexes have.1.0, indexed_keeps_all schema on index there after apart_after have.1.1);
      free = indexed_leaves_free schema (table_in schema on) index names was.free.1 unlike;
      counted = was.counted;
    }

-- the tables that get no index, with those that they have
abbrev pub with_no_new : List (Table × List Index)
with_no_new =
    (office, []) ∷ (arch, automatic arch 0 (1 ∷ []) 2 ∷ []) ∷ (builder, automatic builder 0 (1 ∷ 2 ∷ []) 4 ∷ [])
    ∷ (source_state, automatic source_state 0 (10 ∷ []) 6 ∷ automatic source_state 1 (1 ∷ 2 ∷ []) 7 ∷ state_order ∷ []) ∷ []

-- and the table of records, with the index of its key and these
abbrev pub with_records : List Index → List (Table × List Index)
with_records more = with_no_new ++ (source_record, automatic source_record 0 (1 ∷ 2 ∷ []) 6 ∷ more) ∷ []

-- and the scratch tables with these
abbrev pub with_scratch : List Index → List Index → List Index → List (Table × List Index)
with_scratch records sources binaries = with_records records ++ (scratch_source, sources) ∷ (scratch_binary, binaries) ∷ []

module _ (base : Schema) (first : HasFirstOffice base) (numbered : IsNumbered base) where
  -- what is made has free names
  names_free : AllByRecursion (λ name. is_used base name ≡ false) second_names
  names_free = each_fails (λ name. is_used base name) second_names first.free

  record_stage : IsUpgrading base (with_second_record base) (with_scratch [] [] []) from_second_order
  unfolding with_second_record
  record_stage =
      let bounded : next_tree base ≤ 65536 = numbered.bounded in
      let tables = first.tables in
      record {
        tables_are = refl;
        have = all_append (HasOne (with_second_record base)) with_no_new ((source_record, automatic source_record 0 (1 ∷ 2 ∷ []) 6 ∷ []) ∷ (scratch_source, []) ∷ (scratch_binary, []) ∷ [])
            (created_keeps_all base source_record with_no_new (tables.office_is, (tables.archs_are, (tables.builders_are, (tables.states_are, tt))))) (
              created_has_records base names_free.0 (omega arith) numbered.indexes,
              created_keeps_all base source_record ((scratch_source, []) ∷ (scratch_binary, []) ∷ []) (tables.sources_are, (tables.binaries_are, tt)),
            );
        free = created_leaves_free base source_record from_second_order names_free.1 (record_unlike (next_tree base));
        counted = created_counted base source_record refl first.counted;
      }

  order_stage : IsUpgrading base (with_second_order base) (with_scratch (record_order ∷ []) [] []) from_second_take
  unfolding with_second_order same_name
  order_stage = index_one with_no_new source_record _ ((scratch_source, []) ∷ (scratch_binary, []) ∷ []) record_order record_stage refl refl order_unlike

  take_stage : IsUpgrading base (with_second_take base) (with_scratch (record_order ∷ record_take ∷ []) [] []) from_second_source
  unfolding with_second_take same_name
  take_stage = index_one with_no_new source_record _ ((scratch_source, []) ∷ (scratch_binary, []) ∷ []) record_take order_stage refl refl take_unlike

  source_stage : IsUpgrading base (with_second_source base) (with_scratch (record_order ∷ record_take ∷ []) (source_name ∷ []) []) from_second_binary
  unfolding with_second_source same_name
  source_stage = index_one (with_records (record_order ∷ record_take ∷ [])) scratch_source [] ((scratch_binary, []) ∷ []) source_name take_stage refl refl source_unlike

  binary_stage : IsUpgrading base (with_second_binary base) (with_scratch (record_order ∷ record_take ∷ []) (source_name ∷ []) (binary_source ∷ [])) from_second_name
  unfolding with_second_binary same_name
  binary_stage = index_one (with_records (record_order ∷ record_take ∷ []) ++ (scratch_source, source_name ∷ []) ∷ []) scratch_binary [] [] binary_source source_stage refl refl binary_unlike

  second_stage : IsUpgrading base (with_second base) (with_scratch (record_order ∷ record_take ∷ []) (source_name ∷ []) (binary_source ∷ binary_name ∷ [])) []
  unfolding with_second same_name
  second_stage =
      index_one (with_records (record_order ∷ record_take ∷ []) ++ (scratch_source, source_name ∷ []) ∷ []) scratch_binary (binary_source ∷ []) [] binary_name binary_stage refl refl refl

-- ---- the schema on the way

-- a stage is a schema on the way
grown_by : {base schema : Schema} {indexed : List (Table × List Index)} {names : List (List ℕ)} → HasTable schema (table_in schema source_record)
    → IsUpgrading base schema indexed names → IsGrown base schema (source_record ∷ []) names
grown_by {base} records stage = record {
  more = table_at (next_tree base) source_record ∷ [];
  tables_are = stage.tables_are;
  has = (records, tt);
  free = stage.free;
  counted = stage.counted;
}

module _ (base : Schema) (first : HasFirstOffice base) (numbered : IsNumbered base) where
  -- the schema before anything is made
  pub first_grown : IsGrown base base [] second_names
  first_grown = record { more = []; tables_are = sym (append-nil base.tables); has = tt; free = names_free base first numbered; counted = first.counted }

  -- after the table of records
  pub second_record_grown : IsGrown base (with_second_record base) (source_record ∷ []) from_second_order
  second_record_grown = let stage = record_stage base first numbered in grown_by stage.have.1.1.1.1.0.has stage

  -- and its first index
  pub second_order_grown : IsGrown base (with_second_order base) (source_record ∷ []) from_second_take
  second_order_grown = let stage = order_stage base first numbered in grown_by stage.have.1.1.1.1.0.has stage

  -- and its second index
  pub second_take_grown : IsGrown base (with_second_take base) (source_record ∷ []) from_second_source
  second_take_grown = let stage = take_stage base first numbered in grown_by stage.have.1.1.1.1.0.has stage

  -- and the index of the scratch table of source packages
  pub second_source_grown : IsGrown base (with_second_source base) (source_record ∷ []) from_second_binary
  second_source_grown = let stage = source_stage base first numbered in grown_by stage.have.1.1.1.1.0.has stage

  -- and the first index of that of binary packages
  pub second_binary_grown : IsGrown base (with_second_binary base) (source_record ∷ []) from_second_name
  second_binary_grown = let stage = binary_stage base first numbered in grown_by stage.have.1.1.1.1.0.has stage

  -- the scratch tables, when their indexes are made
  pub sources_there : HasTable (with_second_take base) (table_in (with_second_take base) scratch_source)
  sources_there = (take_stage base first numbered).have.1.1.1.1.1.0.has

  pub binaries_there : HasTable (with_second_source base) (table_in (with_second_source base) scratch_binary)
  binaries_there = (source_stage base first numbered).have.1.1.1.1.1.1.0.has

  pub binaries_still_there : HasTable (with_second_binary base) (table_in (with_second_binary base) scratch_binary)
  binaries_still_there = (binary_stage base first numbered).have.1.1.1.1.1.1.0.has

-- ---- the office

-- the new table is one of the office's, and its one foreign key does nothing
record_unreferred : (tree : ℕ) → (names_either (table_at tree source_record).name || refers_to_none (table_at tree source_record)) ≡ true
unfolding same_name
record_unreferred tree = refl

record_quiet : (tree : ℕ) → is_quiet (table_at tree source_record) ≡ true
unfolding same_name
record_quiet tree = refl

-- the schema with all that is made has the office's tables
pub office_upgraded : (base : Schema) → HasFirstOffice base → IsNumbered base → HasOffice (with_second base)
office_upgraded base first numbered =
    let stage = second_stage base first numbered in
    let have = stage.have in
    office_of (with_second base) (record {
      office_is = have.0;
      archs_are = have.1.0;
      builders_are = have.1.1.0;
      records_are = have.1.1.1.1.0;
      sources_are = have.1.1.1.1.1.0;
      binaries_are = have.1.1.1.1.1.1.0;
    })
    (inr have.1.1.1.0)
    (subst (λ tables. list_all (λ (t : Table). names_either t.name || refers_to_none t) tables ≡ true) (sym stage.tables_are)
    (test_push _ base.tables _ first.unreferred (record_unreferred (next_tree base))))
    (subst (λ tables. list_all is_quiet tables ≡ true) (sym stage.tables_are) (test_push is_quiet base.tables _ first.quiet (record_quiet (next_tree base))))

-- the table of the records of the first schema is there
pub second_has_states : (base : Schema) → HasFirstOffice base → IsNumbered base → HasStates (with_second base)
second_has_states base first numbered = (second_stage base first numbered).have.1.1.1.0

-- a table that was there stays in its tree
pub second_keeps_tree : (base : Schema) (table : Table) → HasTable base (table_in base table) → tree_named (with_second base) table.name ≡ tree_named base table.name
unfolding with_second with_second_binary with_second_source with_second_take with_second_order with_second_record
second_keeps_tree base table has = same_tree base source_record table has

-- and keeps its rows
pub second_keeps_rows : (base : Schema) (table : Table) → HasTable base (table_in base table) → (old new : State) → old.now.schema ≡ base
    → MakesTables base.tables (with_second base) (source_record ∷ []) old new → rows_in new.now table ≡ rows_in old.now table
second_keeps_rows base table has old new was made =
    ap (λ (s : Schema). new.now.trees (tree_named s table.name)) made.made.schema_is
    ∙ (ap new.now.trees (second_keeps_tree base table has)
    ∙ (all-slice_get (λ t. new.now.trees t.tree ≡ old.now.trees t.tree) base.tables has.at (table_in base table) has.listed made.kept
    ∙ ap (λ (s : Schema). old.now.trees (tree_named s table.name)) (sym was)))

-- ---- what each CREATE makes of the schema before it

pub second_record_is : (base : Schema) → with_second_record base ≡ created base source_record
unfolding with_second_record
second_record_is base = refl

pub second_order_is : (base : Schema) → with_second_order base ≡ with_index (with_second_record base) source_record record_order
unfolding with_second_order
second_order_is base = refl

pub second_take_is : (base : Schema) → with_second_take base ≡ with_index (with_second_order base) source_record record_take
unfolding with_second_take
second_take_is base = refl

pub second_source_is : (base : Schema) → with_second_source base ≡ with_index (with_second_take base) scratch_source source_name
unfolding with_second_source
second_source_is base = refl

pub second_binary_is : (base : Schema) → with_second_binary base ≡ with_index (with_second_source base) scratch_binary binary_source
unfolding with_second_binary
second_binary_is base = refl

pub second_is : (base : Schema) → with_second base ≡ with_index (with_second_binary base) scratch_binary binary_name
unfolding with_second
second_is base = refl
