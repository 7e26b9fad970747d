use Rattle.std.proofs.Common.{◌≡◌, ◌++◌, List}
use Rattle.std.proofs.Common.{map as each}
use Rattle.wb_rows.specs.Cells.{builder_cells}
use Rattle.wb_states.specs.Machine.{Key}
use Rattle.wb_store.proofs.builders.arch_names_in.Given as goal

abbrev pub invariant-loop-row : goal.invariant-loop-row
invariant-loop-row l = (pairs : List Key) × (each builder_cells pairs ++ l.row-iterator.rest.items ≡ l.fn.rows.items) × (l.made.items ≡ each (λ pair. pair.1) pairs)
