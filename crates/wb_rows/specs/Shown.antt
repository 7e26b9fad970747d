-- A row of one of the office's tables as cells, each a whole number, a text or NULL, and which rows are shown so.
use Rattle.std.specs.Prelude.{◌≢◌, ⊤, List, map, IsUtf8}
use Rattle.std.specs.List.{AllByRecursion}
use Rattle.sqlite.specs.declared.types.Value.{Value}
use Rattle.sqlite.specs.declared.types.Value.TheVariants.{Int, Text, Null}
use Rattle.sqlite.specs.Order.{Row}
use Rattle.wb_states.specs.declared.store_fault.Table.{Table}
use Rattle.wb_rows.specs.declared.cell.Cell.{Cell}
use Rattle.wb_rows.specs.declared.cell.Cell.TheVariants as cell
use Rattle.wb_rows.specs.declared.cell.TableRow.{TableRow}

-- the SQL value that a cell shows
abbrev pub value_of : Cell → Value
value_of (cell.Whole n) = Int n
value_of (cell.Text text) = Text text
value_of cell.Null = Null

-- the SQL values that cells show
abbrev pub values_of : List Cell → Row
values_of = map value_of

-- the table of a row, and the SQL values of its columns
abbrev pub row_of : TableRow → Table × Row
row_of row = (row.table, values_of row.cells)

-- a text is shown if it is UTF-8, and each number and NULL is
abbrev pub IsReadableCell : Cell → Type 0
IsReadableCell (cell.Whole n) = ⊤
IsReadableCell (cell.Text text) = IsUtf8 text
IsReadableCell cell.Null = ⊤

-- each of the cells is shown
abbrev pub AreReadableCells : List Cell → Type 0
AreReadableCells = AllByRecursion IsReadableCell

-- the row cannot be shown as cells
abbrev pub HasNoCells : Row → Type 0
HasNoCells row = (cells : List Cell) → AreReadableCells cells → row ≢ values_of cells
