use Rattle.std.proofs.Common.{◌≡◌, ◌++◌}
use Rattle.std.proofs.Common.{map as each}
use Rattle.wb_rows.specs.Cells.{builder_cells}
use Rattle.wb_store.proofs.builders.pairs_in.Given as goal

abbrev pub invariant-loop-row : goal.invariant-loop-row
invariant-loop-row l = each builder_cells l.made.items ++ l.row-iterator.rest.items ≡ l.fn.rows.items
