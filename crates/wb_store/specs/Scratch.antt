-- Whether one of the office's tables has rows, and what a call that asks this promises.
use Rattle.std.specs.Prelude.{◌≡◌, Bool, Result, IfOk, IfErr, OnOk}
use Rattle.sqlite_trees.specs.declared.store.Store.{Ghosts}
use Rattle.sqlite.specs.Effect.{Database}
use Rattle.sqlite.specs.Held.{Held, state}
use Rattle.sqlite.specs.State.{HasCleanDisk, IsUnchanged, Survives}
use Rattle.deb_text.specs.Lists.{is_nonempty}
use Rattle.wb_sql.specs.Among.{rows_in}
use Rattle.wb_states.specs.declared.store_fault.StoreFault.{StoreFault}
use Rattle.wb_states.specs.declared.store_fault.Table.{Table}
use Rattle.wb_store.specs.Calls.{FailsToRead}
use Rattle.wb_store.specs.Queries.{HasAsked, OfficeQuery, table_asked, table_of}

-- whether the table has a row
abbrev pub has_rows : Table → Database → Bool
has_rows table db = is_nonempty (rows_in db (table_of table))

-- a test whether the table of this query has a row: if it succeeds, its answer is that of the database, and the database stays as it is; if it fails, its
-- query did; and a crash leaves no more than before
pub record TestsForRows {S : Type 0} (g : Ghosts S) (query : OfficeQuery) (old new : Held S) (result : Result Bool StoreFault) : Type 0 where
  pub value : HasCleanDisk (state g new) → HasAsked query old.schema → IfOk result (λ found. found ≡ has_rows (table_asked query) (state g old).now)
  pub same : HasCleanDisk (state g new) → HasAsked query old.schema → OnOk result (IsUnchanged (state g old) (state g new))
  pub err : HasCleanDisk (state g new) → HasAsked query old.schema → IfErr result (FailsToRead query (state g old) (state g new))
  pub survives : Survives (state g old) (state g new) (λ _. ¬ HasAsked query old.schema)
