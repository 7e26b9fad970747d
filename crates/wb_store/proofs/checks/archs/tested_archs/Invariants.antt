use Rattle.std.proofs.Common.{◌≡◌, ◌++◌}
use Rattle.std.proofs.Common.{map as each}
use Rattle.std.specs.List.{AllByRecursion}
use Rattle.wb_rows.specs.Cells.{arch_cells}
use Rattle.wb_store.specs.Checks.{IsFormedArch}
use Rattle.wb_store.proofs.checks.archs.tested_archs.Given as goal

abbrev pub invariant-loop-row : goal.invariant-loop-row
invariant-loop-row l = (each arch_cells l.made.items ++ l.row-iterator.rest.items ≡ l.fn.rows.items) × AllByRecursion IsFormedArch l.made.items
