use Rattle.std.proofs.Common.{◌≡◌, ◌++◌}
use Rattle.std.proofs.Common.{map as each}
use Rattle.std.specs.List.{AllByRecursion}
use Rattle.wb_rows.specs.Cells.{builder_cells}
use Rattle.wb_store.specs.Checks.{IsFormedBuilder}
use Rattle.wb_store.proofs.checks.builders.builders_in.Given as goal

abbrev pub invariant-loop-row : goal.invariant-loop-row
invariant-loop-row l = (each builder_cells l.made.items ++ l.row-iterator.rest.items ≡ l.fn.rows.items) × AllByRecursion (IsFormedBuilder l.fn.archs) l.made.items
