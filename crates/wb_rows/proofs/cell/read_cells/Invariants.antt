-- The cells so far are the first columns of the row.
use Rattle.std.proofs.Common.{◌≡◌, length}
use Rattle.wb_rows.specs.Reading.{HasColumns}
use Rattle.wb_rows.specs.Shown.{values_of}
use Rattle.wb_rows.proofs.cell.read_cells.Given as goal

abbrev pub invariant-loop-at : goal.invariant-loop-at
invariant-loop-at l = record {
  count : length l.cells.items ≡ l.at;
  columns : HasColumns l.row 0 (values_of l.cells.items);
}
