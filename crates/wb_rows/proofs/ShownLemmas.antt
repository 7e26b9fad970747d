-- Rows that are shown as cells.
use Rattle.std.proofs.Common.{◌≡◌, ℕ, zero, suc, ◌+◌, ◌<◌, List, [], ◌∷◌, ◌++◌, length, refl, sym, ap, subst, ◌∙◌, arith}
use Rattle.std.proofs.lemmas.List.{map-append}
use Rattle.sqlite.specs.Order.{Row, column}
use Rattle.wb_rows.specs.declared.cell.Cell.{Cell}
use Rattle.wb_rows.specs.Reading.{HasColumns, HoldsNone}
use Rattle.wb_rows.specs.Shown.{HasNoCells, IsReadableCell, value_of, values_of}
use Rattle.wb_rows.proofs.ColumnLemmas.{joined, row-is}

-- how many values cells show
pub length-values : (cells : List Cell) → length (values_of cells) ≡ length cells
length-values [] = refl
length-values (cell ∷ cells) = ap suc (length-values cells)

-- one more column is read
pub column_read : (row : Row) (cells after : List Cell) (cell : Cell) (at : ℕ) → length cells ≡ at → HasColumns row 0 (values_of cells) → after ≡ cells ++ cell ∷ [] → column row at ≡ value_of cell
    → HasColumns row 0 (values_of after)
column_read row cells after cell at count columns pushed is =
    let place : length (values_of cells) ≡ at = length-values cells ∙ count in
    let place0 : length (values_of cells) + 0 ≡ at = omega (arith, place) in
    subst (λ l. HasColumns row 0 l) (sym (ap values_of pushed ∙ map-append value_of cells (cell ∷ [])))
    (joined row 0 (values_of cells) (value_of cell ∷ []) columns (subst (λ (n : ℕ). HasColumns row n (value_of cell ∷ [])) (sym place0) (is, tt)))

-- a row with a column that is not shown is not shown
pub none_shown : (row : Row) (at : ℕ) → at < length row → HoldsNone value_of IsReadableCell (column row at) → HasNoCells row
none_shown [] at within none cells fit same = absurd (omega (arith, within))
none_shown (x ∷ row) at within none [] fit same = absurd cc
none_shown (x ∷ row) zero within none (cell ∷ cells) fit same = none cell fit.0 (let is : x ≡ value_of cell = cc in is)
none_shown (x ∷ row) (suc at) within none (cell ∷ cells) fit same =
    none_shown row at (omega (arith, within)) none cells fit.1 (let is : row ≡ values_of cells = cc in is)

-- a row of as many columns as were read is the cells that were read
pub whole_row : (row : Row) (cells : List Cell) → length cells ≡ length row → HasColumns row 0 (values_of cells) → row ≡ values_of cells
whole_row row cells count columns = row-is row (values_of cells) (sym (length-values cells ∙ count)) columns
