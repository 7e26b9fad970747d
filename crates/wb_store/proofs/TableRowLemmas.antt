-- All rows of the office's tables, as the queries for them answer them, and that they can be shown as cells.
use Rattle.std.proofs.Common.{◌≡◌, pos, Bool, true, false, List, [], ◌∷◌, map, filter, refl, ap, ap₂, subst, ◌∙◌, ℕ, Option, Some, None, IfSome, IsUtf8, IsPermutation}
use Rattle.std.specs.FinMap as finite
use Rattle.std.specs.List.{AllByRecursion}
use Rattle.sqlite.proofs.Callers.{one_permutation}
use Rattle.sqlite.specs.Effect.{Database}
use Rattle.sqlite.specs.Order.{Row}
use Rattle.sqlite.specs.Query.{Output}
use Rattle.sqlite_keyed.proofs.ListLemmas.{all_of, filter_all}
use Rattle.sqlite_value.specs.Order.{value_cmp}
use Rattle.wb_sql.specs.Among.{rows_in}
use Rattle.wb_sql.specs.OfficeStatements as sql
use Rattle.wb_sql.specs.Queries.{Answers, outputs}
use Rattle.wb_sql.specs.ScratchStatements as merge
use Rattle.wb_sql.specs.Tables as tables
use Rattle.wb_sql.proofs.AnswerLemmas.{whole_answer}
use Rattle.wb_states.specs.declared.scratch.BinaryRow.{BinaryRow}
use Rattle.wb_states.specs.declared.scratch.SourceRow.{SourceRow}
use Rattle.wb_states.specs.declared.store_fault.Table.{Table}
use Rattle.wb_states.specs.declared.store_fault.Table.TheVariants as on
use Rattle.wb_states.specs.Machine.{IsConsistent, Machine, builder_pairs}
use Rattle.wb_states.specs.Queue.{Entry, rank_of}
use Rattle.wb_states.specs.State.{code_of}
use Rattle.wb_rows.specs.declared.cell.Cell.{Cell}
use Rattle.wb_rows.specs.declared.cell.Cell.TheVariants as cell
use Rattle.wb_rows.specs.Cells.{arch_cells, builder_cells, flag, number, number_or_null, record_cells, text_or_null}
use Rattle.wb_rows.specs.Reading.{IsReadable}
use Rattle.wb_rows.specs.Scratch.{IsReadableBinary, IsReadableSource, binary_cells, own_number, source_cells}
use Rattle.wb_rows.specs.Scratch.{version_or_empty}
use Rattle.wb_rows.specs.Shown.{AreReadableCells, IsReadableCell, value_of, values_of}
use Rattle.wb_rows.proofs.ScratchLemmas.{offer-utf8}
use Rattle.wb_rows.proofs.TextLemmas.{version-utf8}
use Rattle.wb_store.specs.Lookups.{AreRowsOf, IsReadableArch, IsReadablePair}
use Rattle.wb_store.specs.Merging.{Scratch, stored_binary, stored_source}
use Rattle.wb_store.specs.Queries.{AnswersTo, IsCurrent}
use Rattle.wb_store.specs.ScratchLookups.{AreReadable}
use Rattle.wb_store.specs.Stands.{StandsWith}
use Rattle.wb_store.specs.TableRows.{office_cells, query_of_table, rows_of_table}
use Rattle.wb_store.proofs.ArchLemmas.{archs_answer}
use Rattle.wb_store.proofs.BuilderLemmas.{pairs_readable}
use Rattle.wb_store.proofs.EqualLemmas.{order-number, then_none}
use Rattle.wb_store.proofs.FormLemmas.{kept_arch_readable, kept_readable}
use Rattle.wb_store.proofs.OpeningBuilderLemmas.{builders_answer}
use Rattle.wb_store.proofs.OpeningRecordLemmas.{records_answer}
use Rattle.wb_store.proofs.OrderLemmas.{all_from_in}
use Rattle.wb_store.proofs.PackageLemmas.{in_order}

-- ---- what the queries answer

keeps_all : {X : Type 0} (xs : List X) → filter (λ x. true) xs ≡ xs
keeps_all xs = filter_all (λ x. true) xs (all_of (λ x. true ≡ true) (λ x. refl) xs)

module _ (machine : Machine) {scratch : Scratch} (db : Database) (stands : StandsWith machine scratch db) (answer : List Row) where
  office_answer : Answers sql.office_row [] (rows_in db tables.office) answer → answer ≡ office_cells machine ∷ []
  office_answer a =
      let one : Output = ([], office_cells machine) in
      let all : outputs sql.office_row [] (rows_in db tables.office) ≡ one ∷ [] = ap (outputs sql.office_row []) stands.counts in
      let ordered : a.ordered ≡ one ∷ [] = one_permutation one a.ordered (subst (λ l. IsPermutation l a.ordered) all a.same) in
      whole_answer sql.office_row [] (rows_in db tables.office) answer a refl refl ∙ ap (map (λ (o : Output). o.1)) ordered

  sources_answer : Answers merge.all_sources [] (rows_in db tables.scratch_source) answer → answer ≡ map source_cells scratch.sources
  sources_answer a =
      in_order (λ (row : SourceRow). row.seq) stored_source source_cells merge.all_sources [] (λ row. true) (λ row. refl) (λ row. refl)
      (λ a b. then_none (value_cmp (number a.seq) (number b.seq)) ∙ order-number a.seq b.seq) refl refl scratch.sources stands.order.sources (rows_in db tables.scratch_source) answer stands.sources a
      ∙ ap (map source_cells) (keeps_all scratch.sources)

  binaries_answer : Answers merge.all_binaries [] (rows_in db tables.scratch_binary) answer → answer ≡ map binary_cells scratch.binaries
  binaries_answer a =
      in_order (λ (row : BinaryRow). row.seq) stored_binary binary_cells merge.all_binaries [] (λ row. true) (λ row. refl) (λ row. refl)
      (λ a b. then_none (value_cmp (number a.seq) (number b.seq)) ∙ order-number a.seq b.seq) refl refl scratch.binaries stands.order.binaries (rows_in db tables.scratch_binary) answer stands.binaries a
      ∙ ap (map binary_cells) (keeps_all scratch.binaries)

  -- the query for all rows of a table answers them
  pub table_answer : (table : Table) → IsCurrent table → AnswersTo (query_of_table table) db answer → answer ≡ rows_of_table machine scratch table
  table_answer on.Office current a = office_answer a
  table_answer on.Arch current a = archs_answer machine db stands.archs answer a
  table_answer on.Builder current a = builders_answer machine db stands.builders answer a
  table_answer on.SourceRecord current a = records_answer machine db stands.records answer a
  table_answer on.ScratchSource current a = sources_answer a
  table_answer on.ScratchBinary current a = binaries_answer a
  table_answer on.SourceState current a = absurd current

-- ---- rows as cells

abbrev cell_or_null : Option (List ℕ) → Cell
cell_or_null None = cell.Null
cell_or_null (Some text) = cell.Text text

text_or_null-cell : (text : Option (List ℕ)) → text_or_null text ≡ value_of (cell_or_null text)
text_or_null-cell None = refl
text_or_null-cell (Some text) = refl

cell_or_null-readable : (text : Option (List ℕ)) → IfSome text IsUtf8 → IsReadableCell (cell_or_null text)
cell_or_null-readable None fit = tt
cell_or_null-readable (Some text) fit = fit

abbrev whole_or_null : Option ℕ → Cell
whole_or_null None = cell.Null
whole_or_null (Some n) = cell.Whole (pos n)

number_or_null-cell : (n : Option ℕ) → number_or_null n ≡ value_of (whole_or_null n)
number_or_null-cell None = refl
number_or_null-cell (Some n) = refl

whole_or_null-readable : (n : Option ℕ) → IsReadableCell (whole_or_null n)
whole_or_null-readable None = tt
whole_or_null-readable (Some n) = tt

abbrev flag_cell : Bool → Cell
flag_cell true = cell.Whole (pos 1)
flag_cell false = cell.Whole (pos 0)

flag-cell : (is : Bool) → flag is ≡ value_of (flag_cell is)
flag-cell true = refl
flag-cell false = refl

flag_cell-readable : (is : Bool) → IsReadableCell (flag_cell is)
flag_cell-readable true = tt
flag_cell-readable false = tt

abbrev number_cell : ℕ → Cell
number_cell n = cell.Whole (pos n)

abbrev record_shown : Entry → List Cell
record_shown entry =
    let current = entry.1 in
    cell.Text entry.0.0 ∷ cell.Text entry.0.1 ∷ number_cell (code_of current.state) ∷ cell.Text current.version ∷ cell.Text current.priority ∷ cell.Text current.section ∷ flag_cell current.earlier
    ∷ number_cell current.number ∷ cell_or_null current.holder ∷ whole_or_null current.take ∷ cell.Text current.waits ∷ cell_or_null current.depends ∷ cell.Text current.note ∷ cell.Text current.message
    ∷ cell.Whole current.build_priority ∷ number_cell (rank_of current) ∷ []

record_cells-shown : (entry : Entry) → record_cells entry ≡ values_of (record_shown entry)
record_cells-shown entry =
    let current = entry.1 in
    λ i. value_of (cell.Text entry.0.0) ∷ value_of (cell.Text entry.0.1) ∷ number (code_of current.state) ∷ value_of (cell.Text current.version) ∷ value_of (cell.Text current.priority)
    ∷ value_of (cell.Text current.section) ∷ flag-cell current.earlier i ∷ number current.number ∷ text_or_null-cell current.holder i ∷ number_or_null-cell current.take i
    ∷ value_of (cell.Text current.waits) ∷ text_or_null-cell current.depends i ∷ value_of (cell.Text current.note) ∷ value_of (cell.Text current.message) ∷ value_of (cell.Whole current.build_priority)
    ∷ number (rank_of current) ∷ []

record_readable : (entry : Entry) → IsReadable entry → AreReadableCells (record_shown entry)
record_readable entry fit =
    let current = entry.1 in
    let late : AreReadableCells (cell_or_null current.depends ∷ cell.Text current.note ∷ cell.Text current.message ∷ cell.Whole current.build_priority ∷ number_cell (rank_of current) ∷ []) =
    (cell_or_null-readable current.depends fit.depends, (fit.note, (fit.message, (tt, (tt, tt))))) in
    let middle : AreReadableCells (flag_cell current.earlier ∷ number_cell current.number ∷ cell_or_null current.holder ∷ whole_or_null current.take ∷ cell.Text current.waits ∷ cell_or_null current.depends ∷ cell.Text current.note ∷ cell.Text current.message ∷ cell.Whole current.build_priority ∷ number_cell (rank_of current) ∷ []) =
    (flag_cell-readable current.earlier, (tt, (cell_or_null-readable current.holder fit.holder, (whole_or_null-readable current.take, (fit.waits, late))))) in
    (fit.arch, (fit.source, (tt, (version-utf8 current.version fit.version, (fit.priority, (fit.section, middle))))))

abbrev source_shown : SourceRow → List Cell
source_shown row =
    number_cell row.seq ∷ cell.Text row.name ∷ cell.Text row.version ∷ cell.Text row.architecture ∷ flag_cell row.extra ∷ cell.Text row.priority ∷ cell.Text row.section ∷ cell.Text row.depends
    ∷ cell.Text row.depends_arch ∷ []

source_cells-shown : (row : SourceRow) → source_cells row ≡ values_of (source_shown row)
source_cells-shown row =
    λ i. number row.seq ∷ value_of (cell.Text row.name) ∷ value_of (cell.Text row.version) ∷ value_of (cell.Text row.architecture) ∷ flag-cell row.extra i ∷ value_of (cell.Text row.priority)
    ∷ value_of (cell.Text row.section) ∷ value_of (cell.Text row.depends) ∷ value_of (cell.Text row.depends_arch) ∷ []

source_readable : (row : SourceRow) → IsReadableSource row → AreReadableCells (source_shown row)
source_readable row fit =
    (tt, (fit.name, (version-utf8 row.version fit.version, (fit.architecture, (flag_cell-readable row.extra, (fit.priority, (fit.section, (fit.depends, (fit.depends_arch, tt)))))))))

abbrev binary_shown : BinaryRow → List Cell
binary_shown row =
    number_cell row.seq ∷ cell.Text row.name ∷ cell.Text (version_or_empty row.version) ∷ cell.Text row.source ∷
    cell.Text row.source_version ∷ number_cell row.number
    ∷ number_cell (own_number row.own row.version) ∷ []

binary_cells-shown : (row : BinaryRow) → binary_cells row ≡ values_of (binary_shown row)
binary_cells-shown row = refl

binary_readable : (row : BinaryRow) → IsReadableBinary row → AreReadableCells (binary_shown row)
binary_readable row fit = (
  tt,
  (
    fit.name,
    (
      offer-utf8 row.version fit.version,
      (fit.source, (version-utf8 row.source_version fit.source_version, (tt, (tt, tt)))),
    ),
  ),
)

-- rows of some that fit are those of cells that are shown
module _ {X : Type 0} (columns : X → Row) (Fits : X → Type 0) (shown : X → List Cell) (is : (x : X) → columns x ≡ values_of (shown x)) (fit : (x : X) → Fits x → AreReadableCells (shown x)) where
  all_shown : (xs : List X) → AllByRecursion Fits xs → AreRowsOf values_of AreReadableCells (map columns xs)
  all_shown [] all = ([], tt, refl)
  all_shown (x ∷ xs) all = let rest = all_shown xs all.1 in (shown x ∷ rest.0, (fit x all.0, rest.1), ap₂ ◌∷◌ (is x) rest.2)

module _ (machine : Machine) (scratch : Scratch) (sound : IsConsistent machine) (readable : AreReadable scratch) where
  -- the rows of a table of a consistent office, and of a merge that can be read, are those of cells that are shown
  pub table_shown : (table : Table) → AreRowsOf values_of AreReadableCells (rows_of_table machine scratch table)
  table_shown on.Office =
      ((cell.Whole (pos 1) ∷ cell.Whole (pos 2) ∷ number_cell machine.handed ∷ number_cell machine.accepted ∷ []) ∷ [], ((tt, (tt, (tt, (tt, tt)))), tt), refl)
  table_shown on.Arch =
      all_shown arch_cells IsReadableArch (λ arch. cell.Text arch.0 ∷ cell.Text arch.1.os ∷ cell.Text arch.1.cpu ∷ []) (λ arch. refl) (λ arch fit. (fit.name, (fit.os, (fit.cpu, tt))))
      (finite.entries machine.archs) (all_from_in IsReadableArch (finite.entries machine.archs) (kept_arch_readable machine sound))
  table_shown on.Builder =
      all_shown builder_cells IsReadablePair (λ pair. cell.Text pair.0 ∷ cell.Text pair.1 ∷ []) (λ pair. refl) (λ pair fit. (fit.builder, (fit.arch, tt))) (builder_pairs machine) (pairs_readable machine sound)
  table_shown on.SourceRecord =
      all_shown record_cells IsReadable record_shown record_cells-shown record_readable (finite.entries machine.records) (all_from_in IsReadable (finite.entries machine.records) (kept_readable machine sound))
  table_shown on.ScratchSource = all_shown source_cells IsReadableSource source_shown source_cells-shown source_readable scratch.sources readable.sources
  table_shown on.ScratchBinary = all_shown binary_cells IsReadableBinary binary_shown binary_cells-shown binary_readable scratch.binaries readable.binaries
  table_shown on.SourceState = ([], tt, refl)
