-- A row of as many columns as there are cells is these cells, if each column is one of them.
use Rattle.std.proofs.Common.{◌≡◌, ℕ, suc, ◌+◌, List, [], ◌∷◌, ◌++◌, length, refl, subst, zero-add, arith}
use Rattle.sqlite.specs.Order.{Row}
use Rattle.wb_states.specs.declared.record.Record.{Record}
use Rattle.wb_states.specs.Queue.{rank_of}
use Rattle.wb_rows.specs.Cells.{record_cells, number, number_or_null, flag, text_or_null}
use Rattle.wb_rows.specs.FirstSchema.{first_cells, first_rank_of, shared_fields}
use Rattle.wb_rows.specs.Reading.{HasColumns, field_cells, state_cell, text_cell}
use Rattle.sqlite.specs.declared.types.Value.TheVariants.{Int}
use Rattle.sqlite.specs.Order.{column}
use Rattle.wb_rows.proofs.CellsLemmas.{earlier}

-- a row is its columns
pub row-is : (row cells : Row) → length row ≡ length cells → HasColumns row 0 cells → row ≡ cells
row-is [] [] same h = refl
row-is [] (cell ∷ cells) same h = absurd (omega arith)
row-is (x ∷ row) [] same h = absurd (omega arith)
row-is (x ∷ row) (cell ∷ cells) same h =
    let shorter : length row ≡ length cells = omega arith in
    let rest = row-is row cells shorter (earlier x row 0 cells h.1) in
    λ i. h.0 i ∷ rest i

-- some columns, and those after them
pub joined : (row : Row) (at : ℕ) (cells more : Row) → HasColumns row at cells → HasColumns row (length cells + at) more → HasColumns row at (cells ++ more)
joined row at [] more h k = subst (λ (n : ℕ). HasColumns row n more) (zero-add at) k
joined row at (cell ∷ cells) more h k =
    let place : suc (length cells) + at ≡ length cells + suc at = omega arith in
    (h.0, joined row (suc at) cells more h.1 (subst (λ (n : ℕ). HasColumns row n more) place k))

-- the fields of a record that both schemas have, from their columns
pub shared : (row : Row) (current : Record)
    → HasColumns row 2 (state_cell current.state ∷ text_cell current.version ∷ []) → HasColumns row 4 (text_cell current.priority ∷ text_cell current.section ∷ [])
    → HasColumns row 6 (flag current.earlier ∷ number current.number ∷ []) → HasColumns row 8 (text_or_null current.holder ∷ number_or_null current.take ∷ [])
    → HasColumns row 10 (text_cell current.waits ∷ text_or_null current.depends ∷ []) → HasColumns row 12 (text_cell current.note ∷ text_cell current.message ∷ [])
    → HasColumns row 2 (shared_fields current)
shared row current s l b h n r = (s.0, (s.1.0, (l.0, (l.1.0, (b.0, (b.1.0, (h.0, (h.1.0, (n.0, (n.1.0, (r.0, (r.1.0, tt))))))))))))

-- the fields of a record, from these and its build priority
pub fields : (row : Row) (current : Record) → HasColumns row 2 (shared_fields current) → HasColumns row 14 (Int current.build_priority ∷ []) → HasColumns row 2 (field_cells current)
fields row current = joined row 2 (shared_fields current) (Int current.build_priority ∷ [])

-- a row of 15 columns that are those of a key, of fields and of their rank is the row of that record in the first schema
pub first_whole : (row : Row) (arch source : List ℕ) (current : Record) → length row ≡ 15 → HasColumns row 0 (text_cell arch ∷ text_cell source ∷ [])
    → HasColumns row 2 (shared_fields current) → column row 14 ≡ number (first_rank_of current) → row ≡ first_cells ((arch, source), current)
first_whole row arch source current size key rest rank =
    row-is row (first_cells ((arch, source), current)) size
    (joined row 0 (text_cell arch ∷ text_cell source ∷ []) (shared_fields current ++ number (first_rank_of current) ∷ []) key
    (joined row 2 (shared_fields current) (number (first_rank_of current) ∷ []) rest (rank, tt)))

-- a row of 16 columns that are those of a key, of fields and of their rank is the row of that record
pub whole : (row : Row) (arch source : List ℕ) (current : Record) → length row ≡ 16 → HasColumns row 0 (text_cell arch ∷ text_cell source ∷ [])
    → HasColumns row 2 (field_cells current) → column row 15 ≡ number (rank_of current) → row ≡ record_cells ((arch, source), current)
whole row arch source current size key rest rank =
    row-is row (record_cells ((arch, source), current)) size
    (joined row 0 (text_cell arch ∷ text_cell source ∷ []) (field_cells current ++ number (rank_of current) ∷ []) key (joined row 2 (field_cells current) (number (rank_of current) ∷ []) rest (rank, tt)))
