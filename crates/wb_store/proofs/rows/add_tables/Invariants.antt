-- What is left to be shown makes the whole.
use Rattle.std.proofs.Common.{drop}
use Rattle.std.proofs.Common.{map as each}
use Rattle.wb_rows.specs.Shown.{row_of}
use Rattle.std.specs.List.{AllByRecursion}
use Rattle.wb_store.specs.Queries.{IsCurrent}
use Rattle.wb_store.proofs.ShowLemmas.{HasShown}
use Rattle.wb_store.proofs.rows.add_tables.Given as goal

abbrev pub invariant-loop-table : goal.invariant-loop-table
invariant-loop-table g l = AllByRecursion IsCurrent l.tables → HasShown g.S.Store l.tables (drop l.table-index l.tables) (each row_of l.fn.made) (each row_of l.made) l.fn.conn l.conn
