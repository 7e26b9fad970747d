use Rattle.std.proofs.Common.{◌≡◌, ◌++◌}
use Rattle.std.proofs.Common.{map as each}
use Rattle.wb_rows.specs.Scratch.{binary_cells}
use Rattle.wb_store.proofs.packages.binaries_in.Given as goal

abbrev pub invariant-loop-row : goal.invariant-loop-row
invariant-loop-row l = each binary_cells l.made.items ++ l.row-iterator.rest.items ≡ l.fn.rows.items
