-- The rows of the office's tables are those of one state.
use Rattle.std.proofs.Common.{◌≡◌, ℕ, Bool, true, false, if◌then◌else◌, List, [], ◌∷◌, ◌++◌, refl, sym, ap, ap₂, ◌∙◌, nat_eq}
use Rattle.std.specs.FinMap as finite
use Rattle.std.specs.FinSet as set
use Rattle.std.specs.List.{list_any}
use Rattle.std.specs.Ordering.{eq_by_cmp}
use Rattle.std.proofs.lemmas.List.{append-nil}
use Rattle.sqlite.specs.Order.{Row, column}
use Rattle.deb_text.specs.Text.{pair_cmp}
use Rattle.deb_text.proofs.KeyLemmas.{pair_cmp-same, pair_cmp_total}
use Rattle.wb_states.specs.declared.store_fault.Table.{Table}
use Rattle.wb_states.specs.declared.store_fault.Table.TheVariants as on
use Rattle.wb_states.specs.Machine.{Machine, builder_pairs}
use Rattle.wb_rows.specs.Cells.{arch_cells, builder_cells, record_cells}
use Rattle.wb_rows.specs.Scratch.{binary_cells, source_cells}
use Rattle.wb_rows.proofs.CellsLemmas.{arch_cells-same, builder_cells-same, number-same, record_cells-same}
use Rattle.wb_store.specs.Merging.{Scratch}
use Rattle.wb_store.specs.TableRows.{office_tables, rows_of_table, rows_of_tables, table_rows, with_table}
use Rattle.wb_states.proofs.PairLemmas.{contains-keys}
use Rattle.wb_store.proofs.OrderLemmas.{map_injective}
use Rattle.wb_store.proofs.PackageLemmas.{binary_cells-same, source_cells-same}

-- ---- the rows of one table among those of all

abbrev place : Table → ℕ
place on.Office = 0
place on.Arch = 1
place on.Builder = 2
place on.SourceRecord = 3
place on.ScratchSource = 4
place on.ScratchBinary = 5
place on.SourceState = 6

module _ (at : ℕ) where
  abbrev is_at : Table → Bool
  is_at table = nat_eq (place table) at

  abbrev picked : List (Table × Row) → List Row
  picked [] = []
  picked (row ∷ rows) = if is_at row.0 then row.1 ∷ picked rows else picked rows

  picked-append : (xs ys : List (Table × Row)) → picked (xs ++ ys) ≡ picked xs ++ picked ys
  picked-append [] ys = refl
  picked-append (x ∷ xs) ys = by_place (is_at x.0) (picked-append xs ys)
    where
      by_place : (is : Bool) → picked (xs ++ ys) ≡ picked xs ++ picked ys
          → (if is then x.1 ∷ picked (xs ++ ys) else picked (xs ++ ys)) ≡ (if is then x.1 ∷ picked xs else picked xs) ++ picked ys
      by_place true rest = ap (λ rows. x.1 ∷ rows) rest
      by_place false rest = rest

  picked-with_table : (table : Table) (rows : List Row) → picked (with_table table rows) ≡ (if is_at table then rows else [])
  picked-with_table table [] = by_place (is_at table)
    where
      by_place : (is : Bool) → ◌≡◌ {A = List Row} [] (if is then [] else [])
      by_place true = refl
      by_place false = refl
  picked-with_table table (row ∷ rows) = by_place (is_at table) (picked-with_table table rows)
    where
      by_place : (is : Bool) → picked (with_table table rows) ≡ (if is then rows else [])
          → (if is then row ∷ picked (with_table table rows) else picked (with_table table rows)) ≡ (if is then row ∷ rows else [])
      by_place true rest = ap (λ l. row ∷ l) rest
      by_place false rest = rest

  module _ (machine : Machine) (scratch : Scratch) where
    abbrev chosen : List Table → List Row
    chosen [] = []
    chosen (table ∷ tables) = (if is_at table then rows_of_table machine scratch table else []) ++ chosen tables

    picked-tables : (tables : List Table) → picked (rows_of_tables machine scratch tables) ≡ chosen tables
    picked-tables [] = refl
    picked-tables (table ∷ tables) =
        picked-append (with_table table (rows_of_table machine scratch table)) (rows_of_tables machine scratch tables)
        ∙ ap₂ ◌++◌ (picked-with_table table (rows_of_table machine scratch table)) (picked-tables tables)

-- they are its rows
rows_at : (machine : Machine) (scratch : Scratch) (table : Table) → picked (place table) (table_rows machine scratch) ≡ rows_of_table machine scratch table
rows_at machine scratch on.Office = picked-tables 0 machine scratch office_tables ∙ append-nil (rows_of_table machine scratch on.Office)
rows_at machine scratch on.Arch = picked-tables 1 machine scratch office_tables ∙ append-nil (rows_of_table machine scratch on.Arch)
rows_at machine scratch on.Builder = picked-tables 2 machine scratch office_tables ∙ append-nil (rows_of_table machine scratch on.Builder)
rows_at machine scratch on.SourceRecord = picked-tables 3 machine scratch office_tables ∙ append-nil (rows_of_table machine scratch on.SourceRecord)
rows_at machine scratch on.ScratchSource = picked-tables 4 machine scratch office_tables ∙ append-nil (rows_of_table machine scratch on.ScratchSource)
rows_at machine scratch on.ScratchBinary = picked-tables 5 machine scratch office_tables ∙ append-nil (rows_of_table machine scratch on.ScratchBinary)
rows_at machine scratch on.SourceState = picked-tables 6 machine scratch office_tables

-- ---- the state

abbrev first_row : List Row → Row
first_row [] = []
first_row (row ∷ rows) = row

module _ (one other : Machine) (some more : Scratch) (same : table_rows one some ≡ table_rows other more) where
  same_rows : (table : Table) → rows_of_table one some table ≡ rows_of_table other more table
  same_rows table = sym (rows_at one some table) ∙ ap (picked (place table)) same ∙ rows_at other more table

  same_handed : one.handed ≡ other.handed
  same_handed = number-same one.handed other.handed (ap (λ rows. column (first_row rows) 2) (same_rows on.Office))

  same_accepted : one.accepted ≡ other.accepted
  same_accepted = number-same one.accepted other.accepted (ap (λ rows. column (first_row rows) 3) (same_rows on.Office))

  same_archs : one.archs ≡ other.archs
  same_archs = finite.same_entries_map one.archs other.archs (map_injective arch_cells arch_cells-same (finite.entries one.archs) (finite.entries other.archs) (same_rows on.Arch))

  same_records : one.records ≡ other.records
  same_records = finite.same_entries_map one.records other.records (map_injective record_cells record_cells-same (finite.entries one.records) (finite.entries other.records) (same_rows on.SourceRecord))

  same_builders : one.builders ≡ other.builders
  same_builders =
      let pairs : builder_pairs one ≡ builder_pairs other = map_injective builder_cells builder_cells-same (builder_pairs one) (builder_pairs other) (same_rows on.Builder) in
      set.same_set pair_cmp_total pair_cmp-same one.builders other.builders (λ pair.
      contains-keys pair_cmp_total one.builders pair ∙ ap (list_any (eq_by_cmp pair_cmp pair)) pairs ∙ sym (contains-keys pair_cmp_total other.builders pair))

  pub one_machine : one ≡ other
  one_machine = λ i. record { records = same_records i; archs = same_archs i; builders = same_builders i; handed = same_handed i; accepted = same_accepted i }

  pub one_scratch : some ≡ more
  one_scratch = λ i. record {
    sources = map_injective source_cells source_cells-same some.sources more.sources (same_rows on.ScratchSource) i;
    binaries = map_injective binary_cells binary_cells-same some.binaries more.binaries (same_rows on.ScratchBinary) i;
  }
