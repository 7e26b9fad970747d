use Rattle.std.proofs.Common.{◌≡◌, ◌++◌}
use Rattle.std.proofs.Common.{map as each}
use Rattle.std.specs.List.{AllByRecursion}
use Rattle.wb_archive.specs.Tables.{HasFittingTake}
use Rattle.wb_rows.specs.FirstSchema.{IsOfFirst}
use Rattle.wb_store.specs.Upgrading.{first_keyed}
use Rattle.wb_store.proofs.upgrading.first_records_in.Given as goal

abbrev pub invariant-loop-row : goal.invariant-loop-row
invariant-loop-row l =
    (each first_keyed l.made.items ++ l.row-iterator.rest.items ≡ l.fn.rows.items) × AllByRecursion (λ read. IsOfFirst read.current × HasFittingTake read.current) l.made.items
