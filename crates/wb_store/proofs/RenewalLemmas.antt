-- The one row that an UPDATE on one of the office's tables writes anew: the record of a key, and the office's row.
use Rattle.std.proofs.Common.{◌≡◌, inl, inr, ℕ, true, List, [], ◌∷◌, drop, map, filter, Option, Some, None, refl, sym, ap, subst, ◌∙◌, IsPermutation}
use Rattle.std.specs.Option.{IsSome}
use Rattle.std.specs.FinMap as finite
use Rattle.sqlite.specs.Edit.{id_in}
use Rattle.sqlite.specs.Order.{Row, column}
use Rattle.sqlite.specs.Tree.{rowid}
use Rattle.sqlite.specs.Term.{eval_all}
use Rattle.sqlite.proofs.Callers.{one_permutation}
use Rattle.sqlite_trees.specs.View.{is_int}
use Rattle.sqlite_trees.proofs.ListLemmas.{filter-map, IsPermutation-filter}
use Rattle.sqlite_rules.specs.Lists.{Has}
use Rattle.sqlite_rules.proofs.ListLemmas.{test_has, has_filtered, has_kept}
use Rattle.sqlite_rules.proofs.TableLemmas.{int_is}
use Rattle.deb_text.specs.Text.{pair_cmp}
use Rattle.deb_text.proofs.KeyLemmas.{pair_cmp_total, pair_cmp-same}
use Rattle.wb_states.specs.declared.record.Record.{Record}
use Rattle.wb_states.specs.Machine.{Key, Machine}
use Rattle.wb_states.specs.Queue.{Entry}
use Rattle.wb_sql.specs.Changes.{IsOnlyOne}
use Rattle.wb_sql.specs.Rows.{cells, cells_of, IsTyped}
use Rattle.wb_sql.specs.Tables.{source_record}
use Rattle.wb_sql.specs.OfficeStatements.{record_sets, has_record_key}
use Rattle.wb_rows.specs.Cells.{record_cells}
use Rattle.wb_store.specs.Stands.{HoldsRows, record_rows}
use Rattle.wb_store.proofs.OrderLemmas.{entry_at, filter_at}
use Rattle.wb_store.proofs.ChangeRowLemmas.{begins_with, begins_with-record, passes, passes_is, first_cell, second_cell, entry_typed}

-- a list that a function maps to one item has one item, and it is mapped to that
one_mapped : {X Y : Type 0} (f : X → Y) (y : Y) (xs : List X) → map f xs ≡ y ∷ [] → (x : X) × (xs ≡ x ∷ []) × (f x ≡ y)
one_mapped f y [] e = absurd cc
one_mapped f y (x ∷ []) e = let same : f x ≡ y = cc in (x, refl, same)
one_mapped f y (x ∷ z ∷ xs) e = absurd cc

-- the columns of the rows that pass the tests of a key
cells_passing : (arch source : List ℕ) (rows : List Row) → cells_of (filter (passes arch source) rows) ≡ filter (begins_with arch source) (cells_of rows)
cells_passing arch source rows = (λ i. cells_of (filter (λ row. passes_is arch source row i) rows)) ∙ sym (filter-map (begins_with arch source) cells rows)

-- a list of one item has no other
only_has : {X : Type 0} (item other : X) → Has (item ∷ []) other → other ≡ item
only_has item other (inl same) = same
only_has item other (inr none) = absurd none

-- the row of a table that has no other alone passes where there are no tests
pub only_row : (params row : Row) → IsOnlyOne [] params (row ∷ []) row
only_row params row = record { there = inl refl; passes = refl; alone = λ other is pass. only_has row other is }

-- what is found is there
found_is : {X : Type 0} (found : Option X) → IsSome found → (x : X) × (found ≡ Some x)
found_is None there = absurd cc
found_is (Some x) there = (x, refl)

-- this row alone passes the tests of the entry's key, and what its columns are set to are those of the entry
pub record IsRenewed (rows : List Row) (entry : Entry) (row : Row) : Type 0 where
  pub only : IsOnlyOne has_record_key (record_cells entry) rows row
  pub sets : eval_all record_sets (record_cells entry ∷ row ∷ []) ≡ record_cells entry
  pub typed : IsTyped source_record (rowid row ∷ eval_all record_sets (record_cells entry ∷ row ∷ []))

module _ (machine : Machine) (arch source : List ℕ) where
  -- the columns of the one record that has the key
  columns_at : (old : Record) → finite.get machine.records (arch, source) ≡ Some old → filter (begins_with arch source) (record_rows machine) ≡ record_cells ((arch, source), old) ∷ []
  columns_at old found =
      let key : Key = (arch, source) in
      let es = finite.entries machine.records in
      filter-map (begins_with arch source) record_cells es ∙ (λ i. map record_cells (filter (λ (e : Entry). begins_with-record arch source e i) es))
      ∙ ap (map record_cells) (filter_at pair_cmp pair_cmp_total pair_cmp-same key es (finite.entries_sorted machine.records) ∙ ap (entry_at key) (sym (finite.get-entries machine.records key) ∙ found))

  module _ (rows : List Row) (holds : HoldsRows (record_rows machine) rows) (current : Record) where
    abbrev entry : Entry
    entry = ((arch, source), current)

    -- the row of a record that is there
    pub row_renewed : IsSome (finite.get machine.records (arch, source)) → (row : Row) × IsRenewed rows entry row
    row_renewed there =
        let old = found_is (finite.get machine.records (arch, source)) there in
        let was : Row = record_cells ((arch, source), old.0) in
        let test = passes arch source in
        let chosen : IsPermutation (was ∷ []) (filter (begins_with arch source) (cells_of rows)) =
        subst (λ l. IsPermutation l (filter (begins_with arch source) (cells_of rows))) (columns_at old.0 old.1)
        (IsPermutation-filter (begins_with arch source) (record_rows machine) (cells_of rows) holds.same) in
        let one = one_mapped cells was (filter test rows) (cells_passing arch source rows ∙ one_permutation was _ chosen) in
        let row : Row = one.0 in
        let kept = has_filtered test rows row (subst (λ l. Has l row) (sym one.1) (inl refl)) in
        let sets : eval_all record_sets (record_cells entry ∷ row ∷ []) ≡ record_cells entry =
        (λ i. first_cell row i ∷ second_cell row i ∷ drop 2 (record_cells entry)) ∙ (λ i. column (one.2 i) 0 ∷ column (one.2 i) 1 ∷ drop 2 (record_cells entry)) in
        let typed = entry_typed entry in
        let whole : is_int (rowid row) ≡ true = test_has (λ r. is_int (rowid r)) rows row holds.stored.whole kept.0 in
        let full : IsTyped source_record (rowid row ∷ record_cells entry) = record { row = refl; id = inr (id_in (rowid row), int_is (rowid row) whole); cast = typed.cast; present = typed.present } in (
          row,
          record {
            only = record { there = kept.0; passes = kept.1; alone = λ other is pass. only_has row other (subst (λ l. Has l other) one.1 (has_kept test rows other is pass)) };
            sets = sets;
            typed = subst (λ c. IsTyped source_record (rowid row ∷ c)) (sym sets) full;
          },
        )
