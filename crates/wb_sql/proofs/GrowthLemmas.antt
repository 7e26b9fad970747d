-- How a schema grows by the office's tables and indexes.
use Rattle.std.proofs.Common.{◌≡◌, ℕ, ◌+◌, ◌≤◌, not, true, false, List, [], ◌∷◌, ◌++◌, refl, sym, arith, append-nil, map, inl}
use Rattle.std.specs.List.{AllByRecursion, list_all}
use Rattle.std.specs.Fmt.{digits}
use Rattle.std.proofs.lemmas.Bool.{and_parts, or_left, or_right}
use Rattle.sqlite.specs.Schema.{Schema}
use Rattle.sqlite.specs.Table.{Table}
use Rattle.sqlite.specs.Change.{next_tree, is_used}
use Rattle.sqlite.specs.Does.{lacks_sequence}
use Rattle.sqlite_catalog.proofs.StepLemmas.{no_table}
use Rattle.sqlite_schema.specs.declared.schema.Index.{Index}
use Rattle.sqlite_schema.specs.Names.{same_name}
use Rattle.wb_sql.specs.Tables.{office, arch, builder, source_record, source_state, scratch_source, scratch_binary}
use Rattle.wb_sql.specs.Tables.{record_order, record_take, source_name, binary_source, binary_name}
use Rattle.wb_sql.specs.Among.{HasTable, HasStates, tree_named, table_in, names_either, refers_to_none, is_quiet, is_office_name, LacksOffice, IsNumbered, HasOffice}
use Rattle.wb_sql.specs.Making.{with_office, with_arch, with_builder, with_source_record, with_record_order, with_record_take, with_scratch_source, with_source_name, with_scratch_binary, with_binary_source, with_tables}
use Rattle.wb_sql.proofs.AppendLemmas.{all_so, all_pass, tests_so}
use Rattle.wb_sql.proofs.FreeLemmas.{office_free}
use Rattle.wb_sql.proofs.OwnedLemmas.{Owned, own, own_more, IsOwned, IsStage, IsNew, table_step, index_step}
pub use Rattle.wb_sql.proofs.CreatedLemmas.{same_tree, same_tree_indexed, new_tree}

-- what is known of a schema on the way: which of the office's tables it has, which names are free in it, and what it grew from
pub record IsGrown (base schema : Schema) (tables : List Table) (names : List (List ℕ)) : Type 0 where
  pub more : List Table
  pub tables_are : schema.tables ≡ base.tables ++ more
  pub has : AllByRecursion (λ table. HasTable schema (table_in schema table)) tables
  pub free : AllByRecursion (λ name. is_used schema name ≡ false) names
  pub counted : lacks_sequence schema ≡ false

-- ---- the names of the office

-- the names of what is made, from each stage on, and that of the table of the first schema, which is never made
abbrev pub from_binary_name : List (List ℕ)
from_binary_name = binary_name.name ∷ source_state.name ∷ []

abbrev pub from_binary_source : List (List ℕ)
from_binary_source = binary_source.name ∷ from_binary_name

abbrev pub from_scratch_binary : List (List ℕ)
from_scratch_binary = scratch_binary.name ∷ from_binary_source

abbrev pub from_source_name : List (List ℕ)
from_source_name = source_name.name ∷ from_scratch_binary

abbrev pub from_scratch_source : List (List ℕ)
from_scratch_source = scratch_source.name ∷ from_source_name

abbrev pub from_record_take : List (List ℕ)
from_record_take = record_take.name ∷ from_scratch_source

abbrev pub from_record_order : List (List ℕ)
from_record_order = record_order.name ∷ from_record_take

abbrev pub from_source_record : List (List ℕ)
from_source_record = source_record.name ∷ from_record_order

abbrev pub from_builder : List (List ℕ)
from_builder = builder.name ∷ from_source_record

abbrev pub from_arch : List (List ℕ)
from_arch = arch.name ∷ from_builder

abbrev pub from_office : List (List ℕ)
from_office = office.name ∷ from_arch

-- they are names of the office
are_office_names : list_all is_office_name from_office ≡ true
unfolding same_name digits
are_office_names = refl

-- each of the tables differs from what is made after it
office_new : IsNew office from_arch
unfolding same_name digits
office_new = record { uncounted = refl; unlike = λ tree. refl; unreferred = refl; quiet = refl; narrow = λ tree. tt }

arch_new : IsNew arch from_builder
unfolding same_name digits
arch_new = record { uncounted = refl; unlike = λ tree. refl; unreferred = refl; quiet = refl; narrow = λ tree. ((omega arith, omega arith), tt) }

builder_new : IsNew builder from_source_record
unfolding same_name digits
builder_new = record { uncounted = refl; unlike = λ tree. refl; unreferred = refl; quiet = refl; narrow = λ tree. ((omega arith, omega arith), tt) }

source_record_new : IsNew source_record from_record_order
unfolding same_name digits
source_record_new = record { uncounted = refl; unlike = λ tree. refl; unreferred = refl; quiet = refl; narrow = λ tree. ((omega arith, omega arith), tt) }

scratch_source_new : IsNew scratch_source from_source_name
unfolding same_name digits
scratch_source_new = record { uncounted = refl; unlike = λ tree. refl; unreferred = refl; quiet = refl; narrow = λ tree. tt }

scratch_binary_new : IsNew scratch_binary from_binary_source
unfolding same_name digits
scratch_binary_new = record { uncounted = refl; unlike = λ tree. refl; unreferred = refl; quiet = refl; narrow = λ tree. tt }

-- an index differs from these names, and its table from these
record IsNewIndex (index : Index) (table : Table) (owned : List Owned) (names : List (List ℕ)) : Type 0 where
  pub others : list_all (λ p. not (same_name p.table.name table.name)) owned ≡ true
  pub unlike : list_all (λ name. not (same_name index.name name)) names ≡ true

-- the tables before those of the records, of the source packages and of the binary packages
abbrev before_records : List Owned
before_records = own office ∷ own arch ∷ own builder ∷ []

abbrev records_in : Schema → Owned
records_in base = own_more (with_record_order base) (own_more (with_source_record base) (own source_record) record_order) record_take

abbrev before_sources : Schema → List Owned
before_sources base = own office ∷ own arch ∷ own builder ∷ records_in base ∷ []

abbrev sources_in : Schema → Owned
sources_in base = own_more (with_scratch_source base) (own scratch_source) source_name

abbrev before_binaries : Schema → List Owned
before_binaries base = own office ∷ own arch ∷ own builder ∷ records_in base ∷ sources_in base ∷ []

abbrev binaries_in : Schema → Owned
binaries_in base = own_more (with_binary_source base) (own_more (with_scratch_binary base) (own scratch_binary) binary_source) binary_name

-- each of the indexes differs from what is made after it
record_order_new : IsNewIndex record_order source_record before_records from_record_take
unfolding same_name
record_order_new = record { others = refl; unlike = refl }

record_take_new : IsNewIndex record_take source_record before_records from_scratch_source
unfolding same_name
record_take_new = record { others = refl; unlike = refl }

source_name_new : (base : Schema) → IsNewIndex source_name scratch_source (before_sources base) from_scratch_binary
unfolding same_name
source_name_new base = record { others = refl; unlike = refl }

binary_source_new : (base : Schema) → IsNewIndex binary_source scratch_binary (before_binaries base) from_binary_name
unfolding same_name
binary_source_new base = record { others = refl; unlike = refl }

binary_name_new : (base : Schema) → IsNewIndex binary_name scratch_binary (before_binaries base) (source_state.name ∷ [])
unfolding same_name
binary_name_new base = record { others = refl; unlike = refl }

-- ---- the stages, one by one

module _ (base : Schema) (lacks : LacksOffice base) (numbered : IsNumbered base) where
  base_stage : IsStage base base [] from_office 17
  base_stage = record {
    more = [];
    tables_are = sym (append-nil base.tables);
    owns = tt;
    free = all_so _ _ (office_free base lacks) from_office (all_pass is_office_name from_office are_office_names);
    counted = lacks.counted;
    unreferred = tests_so refers_to_none _ (λ t none. or_right _ _ none) base.tables lacks.unreferred;
    quiet =
        tests_so refers_to_none is_quiet
        (λ t none. tests_so (λ ref. not (names_either ref.parent)) _ (λ ref other. or_left _ _ other) t.references none) base.tables lacks.unreferred;
    bounded = let bounded : next_tree base ≤ 65536 = numbered.bounded in omega arith;
    below = numbered.indexes;
  }

  office_stage : IsStage base (with_office base) (own office ∷ []) from_arch 15
  unfolding with_office
  office_stage = table_step base base office [] from_arch 15 base_stage office_new

  arch_stage : IsStage base (with_arch base) (own office ∷ own arch ∷ []) from_builder 13
  unfolding with_arch
  arch_stage = table_step base (with_office base) arch (own office ∷ []) from_builder 13 office_stage arch_new

  builder_stage : IsStage base (with_builder base) before_records from_source_record 11
  unfolding with_builder
  builder_stage = table_step base (with_arch base) builder (own office ∷ own arch ∷ []) from_source_record 11 arch_stage builder_new

  record_stage : IsStage base (with_source_record base) (before_records ++ own source_record ∷ []) from_record_order 9
  unfolding with_source_record
  record_stage = table_step base (with_builder base) source_record before_records from_record_order 9 builder_stage source_record_new

  order_stage : IsStage base (with_record_order base) (before_records ++ own_more (with_source_record base) (own source_record) record_order ∷ []) from_record_take 8
  unfolding with_record_order
  order_stage =
      index_step base (with_source_record base) (own source_record) record_order before_records from_record_take 8 record_stage record_order_new.others record_order_new.unlike

  take_stage : IsStage base (with_record_take base) (before_sources base) from_scratch_source 7
  unfolding with_record_take
  take_stage =
      index_step base (with_record_order base) (own_more (with_source_record base) (own source_record) record_order) record_take before_records from_scratch_source 7 order_stage
      record_take_new.others record_take_new.unlike

  source_stage : IsStage base (with_scratch_source base) (before_sources base ++ own scratch_source ∷ []) from_source_name 5
  unfolding with_scratch_source
  source_stage = table_step base (with_record_take base) scratch_source (before_sources base) from_source_name 5 take_stage scratch_source_new

  source_name_stage : IsStage base (with_source_name base) (before_binaries base) from_scratch_binary 4
  unfolding with_source_name
  source_name_stage =
      index_step base (with_scratch_source base) (own scratch_source) source_name (before_sources base) from_scratch_binary 4 source_stage
      (source_name_new base).others (source_name_new base).unlike

  binary_stage : IsStage base (with_scratch_binary base) (before_binaries base ++ own scratch_binary ∷ []) from_binary_source 2
  unfolding with_scratch_binary
  binary_stage = table_step base (with_source_name base) scratch_binary (before_binaries base) from_binary_source 2 source_name_stage scratch_binary_new

  binary_source_stage :
      IsStage base (with_binary_source base) (before_binaries base ++ own_more (with_scratch_binary base) (own scratch_binary) binary_source ∷ []) from_binary_name 1
  unfolding with_binary_source
  binary_source_stage =
      index_step base (with_scratch_binary base) (own scratch_binary) binary_source (before_binaries base) from_binary_name 1 binary_stage
      (binary_source_new base).others (binary_source_new base).unlike

  tables_stage : IsStage base (with_tables base) (before_binaries base ++ binaries_in base ∷ []) (source_state.name ∷ []) 0
  unfolding with_tables
  tables_stage =
      index_step base (with_binary_source base) (own_more (with_scratch_binary base) (own scratch_binary) binary_source) binary_name (before_binaries base) (source_state.name ∷ []) 0 binary_source_stage
      (binary_name_new base).others (binary_name_new base).unlike

-- the tables with their indexes are tables
has_owned : (schema : Schema) (owned : List Owned) → AllByRecursion (IsOwned schema) owned
    → AllByRecursion (λ table. HasTable schema (table_in schema table)) (map (λ o. o.table) owned)
has_owned schema [] owns = tt
has_owned schema (o ∷ owned) owns = (owns.0.has, has_owned schema owned owns.1)

-- a stage is a schema on the way
grown_of : (base schema : Schema) (owned : List Owned) (names : List (List ℕ)) (room : ℕ) → IsStage base schema owned names room
    → IsGrown base schema (map (λ o. o.table) owned) names
grown_of base schema owned names room s = record {
  more = s.more;
  tables_are = s.tables_are;
  has = has_owned schema owned s.owns;
  free = s.free;
  counted = s.counted;
}

module _ (base : Schema) (lacks : LacksOffice base) (numbered : IsNumbered base) where
  -- the schema before anything is made
  pub base_grown : IsGrown base base [] from_office
  base_grown = grown_of base base [] from_office 17 (base_stage base lacks numbered)

  -- after the table of the office
  pub office_grown : IsGrown base (with_office base) (office ∷ []) from_arch
  office_grown = grown_of base (with_office base) (own office ∷ []) from_arch 15 (office_stage base lacks numbered)

  -- and that of architectures
  pub arch_grown : IsGrown base (with_arch base) (office ∷ arch ∷ []) from_builder
  arch_grown = grown_of base (with_arch base) (own office ∷ own arch ∷ []) from_builder 13 (arch_stage base lacks numbered)

  -- and that of builders
  pub builder_grown : IsGrown base (with_builder base) (office ∷ arch ∷ builder ∷ []) from_source_record
  builder_grown = grown_of base (with_builder base) before_records from_source_record 11 (builder_stage base lacks numbered)

  -- and that of records
  pub record_grown : IsGrown base (with_source_record base) (office ∷ arch ∷ builder ∷ source_record ∷ []) from_record_order
  record_grown = grown_of base (with_source_record base) (before_records ++ own source_record ∷ []) from_record_order 9 (record_stage base lacks numbered)

  -- and its first index
  pub order_grown : IsGrown base (with_record_order base) (office ∷ arch ∷ builder ∷ source_record ∷ []) from_record_take
  order_grown =
      grown_of base (with_record_order base) (before_records ++ own_more (with_source_record base) (own source_record) record_order ∷ []) from_record_take 8
      (order_stage base lacks numbered)

  -- and its second index
  pub take_grown : IsGrown base (with_record_take base) (office ∷ arch ∷ builder ∷ source_record ∷ []) from_scratch_source
  take_grown = grown_of base (with_record_take base) (before_sources base) from_scratch_source 7 (take_stage base lacks numbered)

  -- and the scratch table of source packages
  pub source_grown : IsGrown base (with_scratch_source base) (office ∷ arch ∷ builder ∷ source_record ∷ scratch_source ∷ []) from_source_name
  source_grown = grown_of base (with_scratch_source base) (before_sources base ++ own scratch_source ∷ []) from_source_name 5 (source_stage base lacks numbered)

  -- and its index
  pub source_name_grown : IsGrown base (with_source_name base) (office ∷ arch ∷ builder ∷ source_record ∷ scratch_source ∷ []) from_scratch_binary
  source_name_grown = grown_of base (with_source_name base) (before_binaries base) from_scratch_binary 4 (source_name_stage base lacks numbered)

  -- and the scratch table of binary packages
  pub binary_grown : IsGrown base (with_scratch_binary base) (office ∷ arch ∷ builder ∷ source_record ∷ scratch_source ∷ scratch_binary ∷ []) from_binary_source
  binary_grown = grown_of base (with_scratch_binary base) (before_binaries base ++ own scratch_binary ∷ []) from_binary_source 2 (binary_stage base lacks numbered)

  -- and its first index
  pub binary_source_grown : IsGrown base (with_binary_source base) (office ∷ arch ∷ builder ∷ source_record ∷ scratch_source ∷ scratch_binary ∷ []) from_binary_name
  binary_source_grown =
      grown_of base (with_binary_source base) (before_binaries base ++ own_more (with_scratch_binary base) (own scratch_binary) binary_source ∷ []) from_binary_name 1
      (binary_source_stage base lacks numbered)

  -- and its second index
  pub tables_grown : IsGrown base (with_tables base) (office ∷ arch ∷ builder ∷ source_record ∷ scratch_source ∷ scratch_binary ∷ []) (source_state.name ∷ [])
  tables_grown = grown_of base (with_tables base) (before_binaries base ++ binaries_in base ∷ []) (source_state.name ∷ []) 0 (tables_stage base lacks numbered)

-- ---- the office

-- the schema with all tables has the office
pub office_made : (base : Schema) → LacksOffice base → IsNumbered base → HasOffice (with_tables base)
office_made base lacks numbered =
    let s = tables_stage base lacks numbered in
    let o = s.owns.0 in
    let a = s.owns.1.0 in
    let b = s.owns.1.1.0 in
    let r = s.owns.1.1.1.0 in
    let p = s.owns.1.1.1.1.0 in
    let q = s.owns.1.1.1.1.1.0 in
    let tree = tree_named (with_tables base) in
    record {
      at = record {
        arch_key = tree arch.name + 1;
        builder_key = tree builder.name + 1;
        record_key = tree source_record.name + 1;
        record_order = next_tree (with_source_record base);
        record_take = next_tree (with_record_order base);
        source_name = next_tree (with_scratch_source base);
        binary_source = next_tree (with_scratch_binary base);
        binary_name = next_tree (with_binary_source base);
      };
      office_is = o.has;
      office_indexes = o.indexed;
      arch_is = a.has;
      arch_indexes = a.indexed;
      builder_is = b.has;
      builder_indexes = b.indexed;
      record_is = r.has;
      records_indexed = r.indexed;
      source_is = p.has;
      source_indexes = p.indexed;
      binary_is = q.has;
      binary_indexes = q.indexed;
      states = inl (no_table (with_tables base) source_state.name s.free.0);
      unreferred = s.unreferred;
      quiet = s.quiet;
    }

-- and no table of the records of the first schema
pub made_lacks_states : (base : Schema) → LacksOffice base → IsNumbered base → ¬ HasStates (with_tables base)
made_lacks_states base lacks numbered h =
    let none = no_table (with_tables base) source_state.name (tables_stage base lacks numbered).free.0 in
    let some = h.has.named in
    cc

-- a schema that lacks the office does not have it
pub lacks_none : (schema : Schema) → LacksOffice schema → ¬ HasOffice schema
lacks_none schema lacks h =
    let free : is_used schema office.name ≡ false = office_free schema lacks office.name (and_parts _ _ are_office_names).0 in
    let none = no_table schema office.name free in
    let some = h.office_is.named in
    cc

-- the schema of nothing lacks it
pub empty_lacks : LacksOffice (record { tables = []; indexes = []; views = [] })
empty_lacks = record { free = record { tables = refl; indexes = refl; views = refl }; unreferred = refl; counted = refl }
