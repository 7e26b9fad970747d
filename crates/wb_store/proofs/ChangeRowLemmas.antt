-- The rows of the office's tables by their keys: which rows a statement takes out, and which stay.
use Rattle.std.proofs.Common.{◌≡◌, inr, ℕ, ℤ, pos, Bool, true, false, not, ◌&&◌, ◌||◌, cond, List, [], ◌∷◌, drop, map, filter, Option, Some, None, IsTrue, Ordering, Less, Equal, Greater, refl, sym, ap, ap₂, subst, ◌∙◌, IsPermutation}
use Rattle.std.specs.List.{AllByRecursion, list_any, list_all}
use Rattle.std.specs.Ordering.{is_eq, eq_by_cmp, ordering_then}
use Rattle.std.specs.Cmp.{eq_by_cmp_equiv}
use Rattle.std.specs.FinMap as finite
use Rattle.std.specs.FinSet as set
use Rattle.std.proofs.lemmas.Bool.{and_parts, or_parts}
use Rattle.sqlite.specs.Collation.TheVariants.{Binary}
use Rattle.sqlite.specs.Edit.{have_rowids, id_in, next_rowid}
use Rattle.sqlite.specs.Order.{Row, column}
use Rattle.sqlite.specs.Schema.{Schema}
use Rattle.sqlite.specs.Table.{Table}
use Rattle.sqlite.specs.Tree.{rowid}
use Rattle.sqlite.specs.Term.{holds}
use Rattle.sqlite.specs.Rowids.TheVariants.{Chosen}
use Rattle.sqlite.specs.Cast.{cast}
use Rattle.sqlite.specs.Kind.TheVariants.{Integer, Text as OfText}
use Rattle.sqlite.specs.declared.types.Value.TheVariants.{Null, Int, Real, Text, Blob}
use Rattle.sqlite_value.specs.declared.value.Value.{Value}
use Rattle.sqlite_sql.specs.Ops.{binary}
use Rattle.sqlite_value.specs.Order.{value_cmp}
use Rattle.sqlite_value.proofs.OrderLemmas.{value_cmp-Text}
use Rattle.sqlite_schema.specs.Rules.{equal}
use Rattle.sqlite_trees.specs.View.{is_int}
use Rattle.sqlite_trees.proofs.ListLemmas.{filter-map, IsPermutation-filter}
use Rattle.sqlite_rules.proofs.ListLemmas.{all_has}
use Rattle.sqlite_rules.proofs.TableLemmas.{int_is}
use Rattle.sqlite_rules.proofs.PlaceLemmas.{next_is_free}
use Rattle.deb_text.specs.Text.{text_cmp, pair_cmp}
use Rattle.deb_text.proofs.KeyLemmas.{text_cmp_total, text_cmp-same, pair_cmp_total, pair_cmp-same, eq_by_cmp-same}
use Rattle.wb_states.specs.declared.arch.OsCpu.{OsCpu}
use Rattle.wb_states.specs.Machine.{Machine, Key, builder_pairs}
use Rattle.wb_states.specs.Queue.{Entry}
use Rattle.wb_sql.specs.Changes.{has_key, IsDecidedBy}
use Rattle.wb_sql.specs.Rows.{cells, cells_of, IsStored, IsTyped, meets, apart, without}
use Rattle.wb_sql.proofs.WriteLemmas.{cast_int, cast_null}
use Rattle.wb_sql.proofs.UpsertLemmas.{true_of, equal_int}
use Rattle.wb_sql.specs.Tables.{office, source_record}
use Rattle.wb_sql.specs.Among.{HasOffice, table_at, table_in, tree_named}
use Rattle.wb_sql.specs.OfficeStatements.{record_key, record_sets, has_arch_name, has_record_key}
use Rattle.wb_sql.proofs.MeetingLemmas.{meets_record_among, has_key_among}
use Rattle.wb_sql.proofs.RecordLemmas.{record_typed}
use Rattle.wb_rows.specs.Cells.{arch_cells, builder_cells, record_cells, text_or_null, number_or_null}
use Rattle.wb_store.specs.Stands.{arch_rows, builder_rows, office_row, record_rows}
use Rattle.wb_store.proofs.MapLemmas.{entries-remove, items-left}

-- ---- what SQL finds equal

equal_texts : (s t : List ℕ) → equal Binary (Text s) (Text t) ≡ eq_by_cmp text_cmp s t
unfolding binary
equal_texts s t = true_of (is_eq (value_cmp (Text s) (Text t))) ∙ ap is_eq (value_cmp-Text s t)

-- what equals a text is that text
text_equal : (value : Value) (t : List ℕ) → equal Binary value (Text t) ≡ true → value ≡ Text t
unfolding binary value_cmp
text_equal Null t h = absurd (cc)
text_equal (Int n) t h = absurd (cc)
text_equal (Real x) t h = absurd (cc)
text_equal (Text s) t h = ap Text (eq_by_cmp-same text_cmp-same s t (sym (equal_texts s t) ∙ h))
text_equal (Blob b) t h = absurd (cc)

both_tied : (r s : Ordering) → (is_eq r && is_eq s) ≡ is_eq (ordering_then r s)
both_tied Less s = refl
both_tied Equal s = refl
both_tied Greater s = refl

-- columns that begin with these two texts
abbrev pub begins_with : List ℕ → List ℕ → Row → Bool
begins_with first second columns = equal Binary (column columns 0) (Text first) && equal Binary (column columns 1) (Text second)

-- the columns of a record begin with its key
pub begins_with-record : (arch source : List ℕ) (entry : Entry) → begins_with arch source (record_cells entry) ≡ eq_by_cmp pair_cmp (arch, source) entry.0
begins_with-record arch source entry =
    (λ i. equal_texts entry.0.0 arch i && equal_texts entry.0.1 source i) ∙ both_tied (text_cmp entry.0.0 arch) (text_cmp entry.0.1 source)
    ∙ (eq_by_cmp_equiv pair_cmp_total).symm entry.0 (arch, source)

pub first_cell : (row : Row) → column row 1 ≡ column (cells row) 0
first_cell [] = refl
first_cell (id ∷ row) = refl

pub second_cell : (row : Row) → column row 2 ≡ column (cells row) 1
second_cell [] = refl
second_cell (id ∷ row) = refl

-- ---- which rows stay

-- the rows that are left, if those go whose columns pass a test
left_by : (test goes : Row → Bool) (rows : List Row) → AllByRecursion (λ row. test row ≡ goes (cells row)) rows
    → cells_of (filter (λ row. not (test row)) rows) ≡ filter (λ columns. not (goes columns)) (cells_of rows)
left_by test goes [] same = refl
left_by test goes (row ∷ rows) same =
    let left = filter (λ r. not (test r)) rows in
    let kept = filter (λ columns. not (goes columns)) (cells_of rows) in
    let more = left_by test goes rows same.1 in
    ap (λ b. cells_of (cond (not b) (row ∷ left) left)) same.0
    ∙ elim (goes (cells row)) as (λ b. cells_of (cond (not b) (row ∷ left) left) ≡ cond (not b) (cells row ∷ kept) kept)
    [ true ↦ more | false ↦ ap (λ l. cells row ∷ l) more ]

-- and if those go that begin with these texts
left_rows : (test : Row → Bool) (first second : List ℕ) (rows : List Row) → AllByRecursion (λ row. test row ≡ begins_with first second (cells row)) rows
    → cells_of (filter (λ row. not (test row)) rows) ≡ filter (λ columns. not (begins_with first second columns)) (cells_of rows)
left_rows test first second = left_by test (begins_with first second)

and_true : (a b : Bool) → (a && (b && true)) ≡ (a && b)
and_true true true = refl
and_true true false = refl
and_true false b = refl

-- the record of these texts
abbrev pub passes : List ℕ → List ℕ → Row → Bool
passes arch source row = list_all (holds ((Text arch ∷ Text source ∷ []) ∷ row ∷ [])) has_record_key

pub passes_is : (arch source : List ℕ) (row : Row) → passes arch source row ≡ begins_with arch source (cells row)
passes_is arch source row =
    and_true (equal Binary (column row 1) (Text arch)) (equal Binary (column row 2) (Text source))
    ∙ (λ i. equal Binary (first_cell row i) (Text arch) && equal Binary (second_cell row i) (Text source))

each_passes : (arch source : List ℕ) (rows : List Row) → AllByRecursion (λ row. passes arch source row ≡ begins_with arch source (cells row)) rows
each_passes arch source [] = tt
each_passes arch source (row ∷ rows) = (passes_is arch source row, each_passes arch source rows)

-- the columns that a DELETE by key leaves
pub cells_without : (arch source : List ℕ) (rows : List Row)
    → cells_of (without (passes arch source) rows) ≡ filter (λ columns. not (begins_with arch source columns)) (cells_of rows)
cells_without arch source rows = left_rows (passes arch source) arch source rows (each_passes arch source rows)

-- the architecture of this name
abbrev pub is_of_arch : List ℕ → Row → Bool
is_of_arch name row = list_all (holds ((Text name ∷ []) ∷ row ∷ [])) has_arch_name

-- columns that begin with this text
abbrev pub begins : List ℕ → Row → Bool
begins first columns = equal Binary (column columns 0) (Text first)

is_of_arch-is : (name : List ℕ) (row : Row) → is_of_arch name row ≡ begins name (cells row)
is_of_arch-is name row = alone (equal Binary (column row 1) (Text name))
    ∙ (λ i. equal Binary (first_cell row i) (Text name)) where
      alone : (b : Bool) → (b && true) ≡ b
      alone true = refl
      alone false = refl

each_of_arch : (name : List ℕ) (rows : List Row) → AllByRecursion (λ row. is_of_arch name row ≡ begins name (cells row))
    rows
each_of_arch name [] = tt
each_of_arch name (row ∷ rows) = (is_of_arch-is name row, each_of_arch name rows)

-- the columns that a DELETE by name leaves
pub cells_without_arch : (name : List ℕ) (rows : List Row)
    → cells_of (without (is_of_arch name) rows) ≡ filter (λ columns. not (begins name columns)) (cells_of rows)
cells_without_arch name rows = left_by (is_of_arch name) (begins name) rows (each_of_arch name rows)

-- the columns of an architecture begin with its name
begins-arch : (name : List ℕ) (arch : List ℕ × OsCpu) → begins name (arch_cells arch) ≡ eq_by_cmp text_cmp name arch.0
begins-arch name arch = equal_texts arch.0 name ∙ (eq_by_cmp_equiv text_cmp_total).symm arch.0 name

-- the columns of a pair begin with it
begins_with-pair : (name of : List ℕ) (pair : Key) → begins_with name of (builder_cells pair) ≡ eq_by_cmp pair_cmp
    (name, of) pair
begins_with-pair name of pair =
    (λ i. equal_texts pair.0 name i && equal_texts pair.1 of i) ∙ both_tied (text_cmp pair.0 name) (text_cmp pair.1 of)
    ∙ (eq_by_cmp_equiv pair_cmp_total).symm pair (name, of)

-- the architectures without that of a name
pub archs_without : (machine : Machine) (name : List ℕ) (columns : List Row) → IsPermutation (arch_rows machine) columns
    → IsPermutation (map arch_cells (finite.entries (finite.remove machine.archs name)))
    (filter (λ c. not (begins name c)) columns)
archs_without machine name columns same =
    let es = finite.entries machine.archs in
    let left : filter (λ c. not (begins name c)) (map arch_cells es) ≡ map arch_cells
    (finite.entries (finite.remove machine.archs name)) =
    filter-map (λ c. not (begins name c)) arch_cells es
    ∙ (λ i. map arch_cells (filter (λ (e : List ℕ × OsCpu). not (begins-arch name e i)) es))
    ∙ ap (map arch_cells) (sym (entries-remove text_cmp_total text_cmp-same machine.archs name)) in
    subst (λ l. IsPermutation l (filter (λ c. not (begins name c)) columns)) left
    (IsPermutation-filter (λ c. not (begins name c)) (arch_rows machine) columns same)

-- the pairs of builders and architectures without one
pub pairs_without : (machine : Machine) (name of : List ℕ) (columns : List Row)
    → IsPermutation (builder_rows machine) columns
    → IsPermutation (builder_rows (record machine { builders = set.remove machine.builders (name, of) }))
    (filter (λ c. not (begins_with name of c)) columns)
pairs_without machine name of columns same =
    let left : filter (λ c. not (begins_with name of c)) (builder_rows machine) ≡ builder_rows
    (record machine { builders = set.remove machine.builders (name, of) }) =
    filter-map (λ c. not (begins_with name of c)) builder_cells (builder_pairs machine)
    ∙ (λ i. map builder_cells (filter (λ (pair : Key). not (begins_with-pair name of pair i)) (builder_pairs machine)))
    ∙ ap (map builder_cells) (sym (items-left pair_cmp_total pair_cmp-same machine.builders (name, of))) in
    subst (λ l. IsPermutation l (filter (λ c. not (begins_with name of c)) columns)) left
    (IsPermutation-filter (λ c. not (begins_with name of c)) (builder_rows machine) columns same)

-- the rowid is another
other_rowid : (id : ℤ) (row : Row) → is_int (rowid row) ≡ true → is_eq (value_cmp (rowid row) (Int id)) ≡ false → equal Binary (rowid row) (Int id) ≡ false
other_rowid id row whole free =
    let is = int_is (rowid row) whole in
    ap (λ v. equal Binary v (Int id)) is ∙ equal_int (id_in (rowid row)) id ∙ ap (λ v. is_eq (value_cmp v (Int id))) (sym is) ∙ free

module _ (schema : Schema) (has : HasOffice schema) (id : ℤ) (arch source : List ℕ) (more : Row) where
  abbrev new : Row
  new = Int id ∷ Text arch ∷ Text source ∷ more

  -- a record that comes with a new rowid meets the one that has its key
  meets_key : (row : Row) → is_int (rowid row) ≡ true → is_eq (value_cmp (rowid row) (Int id)) ≡ false
      → meets schema (table_in schema source_record) new row ≡ begins_with arch source (cells row)
  meets_key row whole free =
      meets_record_among schema (tree_named schema source_record.name) has.at.record_key has.at.record_order has.at.record_take new row has.records_indexed
      ∙ ap (λ b. b || (equal Binary (column row 1) (Text arch) && equal Binary (column row 2) (Text source))) (other_rowid id row whole free)
      ∙ (λ i. equal Binary (first_cell row i) (Text arch) && equal Binary (second_cell row i) (Text source))

  each_meets : (rows : List Row) → have_rowids rows ≡ true → list_any (λ row. is_eq (value_cmp (rowid row) (Int id))) rows ≡ false
      → AllByRecursion (λ row. meets schema (table_in schema source_record) new row ≡ begins_with arch source (cells row)) rows
  each_meets [] whole free = tt
  each_meets (row ∷ rows) whole free =
      let ints = and_parts (is_int (rowid row)) (have_rowids rows) whole in
      let others = or_parts (is_eq (value_cmp (rowid row) (Int id))) (list_any (λ r. is_eq (value_cmp (rowid r) (Int id))) rows) free in
      (meets_key row ints.0 others.0, each_meets rows ints.1 others.1)

each_whole : (rows : List Row) → have_rowids rows ≡ true → AllByRecursion (λ row. IsTrue (is_int (rowid row))) rows
each_whole [] whole = tt
each_whole (row ∷ rows) whole = let parts = and_parts (is_int (rowid row)) (have_rowids rows) whole in (parts.0, each_whole rows parts.1)

-- the columns beside which a record is put
pub cells_apart : (schema : Schema) (has : HasOffice schema) (arch source : List ℕ) (more : Row) (rows : List Row) → IsStored rows
    → cells_of (apart schema (table_in schema source_record) (Null ∷ Text arch ∷ Text source ∷ more) rows) ≡ filter (λ columns. not (begins_with arch source columns)) (cells_of rows)
cells_apart schema has arch source more rows stored =
    let id = next_rowid rows in
    let free = next_is_free Chosen rows (Text arch ∷ Text source ∷ more) stored.rising (each_whole rows stored.whole) in
    left_rows (meets schema (table_in schema source_record) (Int id ∷ Text arch ∷ Text source ∷ more)) arch source rows (each_meets schema has id arch source more rows stored.whole free)

-- a record's key decides where it is put: it meets, with a new rowid, the one that has its key, and of that one each column is set to its own
pub record_decides : (schema : Schema) (has : HasOffice schema) (entry : Entry) (rows : List Row) → IsStored rows
    → IsDecidedBy schema (table_in schema source_record) record_key (record_cells entry) (Null ∷ record_cells entry) record_sets rows
record_decides schema has entry rows stored = record {
  by_key = λ row there met. keyed row ∙ sym (all_has (λ r. meets schema (table_in schema source_record) (Int (next_rowid rows) ∷ record_cells entry) r ≡ begins_with entry.0.0 entry.0.1 (cells r)) rows row each there) ∙ met;
  cells_are = λ row there met.
      let same = and_parts _ _ (sym (by_columns row) ∙ met) in
      ap₂ (λ a b. a ∷ b ∷ drop 2 (record_cells entry)) (text_equal _ _ same.0) (text_equal _ _ same.1);
}
  where
    by_columns : (row : Row) → has_key schema (table_in schema source_record) record_key (Int (next_rowid rows) ∷ record_cells entry) row ≡ (equal Binary (column row 1) (Text entry.0.0) && equal Binary (column row 2) (Text entry.0.1))
    by_columns row = has_key_among schema (tree_named schema source_record.name) has.at.record_key has.at.record_order has.at.record_take (Int (next_rowid rows) ∷ record_cells entry) row has.records_indexed

    keyed : (row : Row) → has_key schema (table_in schema source_record) record_key (Int (next_rowid rows) ∷ record_cells entry) row ≡ begins_with entry.0.0 entry.0.1 (cells row)
    keyed row = by_columns row ∙ (λ i. equal Binary (first_cell row i) (Text entry.0.0) && equal Binary (second_cell row i) (Text entry.0.1))

    each : AllByRecursion (λ row. meets schema (table_in schema source_record) (Int (next_rowid rows) ∷ record_cells entry) row ≡ begins_with entry.0.0 entry.0.1 (cells row)) rows
    each = each_meets schema has (next_rowid rows) entry.0.0 entry.0.1 (drop 2 (record_cells entry)) rows stored.whole
        (next_is_free Chosen rows (record_cells entry) stored.rising (each_whole rows stored.whole))

-- the records without that of one key
pub records_without : (machine : Machine) (arch source : List ℕ) (columns : List Row) → IsPermutation (record_rows machine) columns
    → IsPermutation (map record_cells (finite.entries (finite.remove machine.records (arch, source)))) (filter (λ c. not (begins_with arch source c)) columns)
records_without machine arch source columns same =
    let es = finite.entries machine.records in
    let left : filter (λ c. not (begins_with arch source c)) (map record_cells es) ≡ map record_cells (finite.entries (finite.remove machine.records (arch, source))) =
    filter-map (λ c. not (begins_with arch source c)) record_cells es
    ∙ (λ i. map record_cells (filter (λ (e : Entry). not (begins_with-record arch source e i)) es))
    ∙ ap (map record_cells) (sym (entries-remove pair_cmp_total pair_cmp-same machine.records (arch, source))) in
    subst (λ l. IsPermutation l (filter (λ c. not (begins_with arch source c)) columns)) left
    (IsPermutation-filter (λ c. not (begins_with arch source c)) (record_rows machine) columns same)

-- ---- the office's row

-- a row is typed in whatever tree its table is
pub typed_at : (tree : ℕ) (table : Table) (given : Row) → IsTyped table given → IsTyped (table_at tree table) given
typed_at tree table given typed = record { row = typed.row; id = typed.id; cast = typed.cast; present = typed.present }

pub office_typed : (machine : Machine) → IsTyped office (office_row machine)
office_typed machine = record {
  row = refl;
  id = inr (pos 1, refl);
  cast = ap₂ ◌∷◌ cast_null (ap₂ ◌∷◌ (cast_int (pos 2)) (ap₂ ◌∷◌ (cast_int (pos machine.handed)) (ap₂ ◌∷◌ (cast_int (pos machine.accepted)) refl)));
  present = refl;
}

-- ---- a record's row

cast_text_or_null : (text : Option (List ℕ)) → cast OfText (text_or_null text) ≡ text_or_null text
cast_text_or_null None = refl
cast_text_or_null (Some t) = refl

cast_number_or_null : (found : Option ℕ) → cast Integer (number_or_null found) ≡ number_or_null found
cast_number_or_null None = cast_null
cast_number_or_null (Some n) = cast_int (pos n)

pub entry_typed : (entry : Entry) → IsTyped source_record (Null ∷ record_cells entry)
entry_typed entry =
    record_typed entry.0.0 entry.0.1 _ _ _ _ _ _ _ _ _ _ _ _ _ _ (cast_text_or_null entry.1.holder) (cast_number_or_null entry.1.take) (cast_text_or_null entry.1.depends)
