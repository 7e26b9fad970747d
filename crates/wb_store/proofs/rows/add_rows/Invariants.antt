-- The rows before were added, with their table.
use Rattle.std.proofs.Common.{◌≡◌, ◌++◌, List}
use Rattle.std.proofs.Common.{map as each}
use Rattle.sqlite.specs.Order.{Row}
use Rattle.wb_rows.specs.Shown.{row_of}
use Rattle.wb_store.specs.TableRows.{with_table}
use Rattle.wb_store.proofs.rows.add_rows.Given as goal

abbrev pub invariant-loop-row : goal.invariant-loop-row
invariant-loop-row l =
    (before : List Row) × (before ++ l.row-iterator.rest.items ≡ l.fn.found.items)
    × (each row_of l.made ≡ each row_of l.fn.made ++ with_table l.fn.table before)
