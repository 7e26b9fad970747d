-- The rows of the office's tables, as an office that stands at a state shows them.
use Rattle.std.proofs.Common.{◌≡◌, false, List, map, Result, Ok, Err, IfErr, IfOk, Bool}
use Rattle.sqlite_trees.specs.declared.store.Store.{Ghosts}
use Rattle.sqlite.specs.Held.{Held, state}
use Rattle.sqlite.specs.State.{HasCleanDisk}
use Rattle.wb_sql.specs.Among.{HasOffice}
use Rattle.wb_states.specs.declared.store_fault.StoreFault.{StoreFault}
use Rattle.wb_states.specs.Machine.{Machine}
use Rattle.wb_rows.specs.declared.cell.TableRow.{TableRow}
use Rattle.wb_rows.specs.Shown.{row_of}
use Rattle.wb_store.specs.Merging.{no_merge}
use Rattle.wb_store.specs.TableRows.{FailsToShowOne, ShowsAll, table_rows}
use Rattle.wb_store.proofs.SettledLemmas.{settled_back}
use Rattle.wb_store.proofs.StaysLemmas.{no_more, stays_settled_as}
use Rattle.wb_office.specs.declared.known.Known.{Known}
use Rattle.wb_office.specs.Standing.{StandsAt}
use Rattle.wb_office.proofs.ApplyLemmas.{settled_at}

module _ {S : Type 0} {g : Ghosts S} {old new : Held S} where
  -- they are exactly those of the state, and the office stands there as before
  pub shows_at : (closed : Bool) (known : Known) (r : Result (List TableRow) StoreFault) → ShowsAll g old new r
      → IfOk r (λ rows. HasCleanDisk (state g new) → closed ≡ false → (machine : Machine) → StandsAt machine closed known (state g old)
      → (map row_of rows ≡ table_rows machine no_merge) × StandsAt machine closed known (state g new))
  shows_at closed known (Err fault) shows = tt
  shows_at closed known (Ok rows) shows = λ clean opened machine stands.
      let settled = settled_at stands opened in
      let holds = settled.holds.stands in
      let after = stays_settled_as g old new (shows.same clean holds.has) (no_more g old new shows.survives holds.has clean) settled in (
        shows.value clean machine no_merge holds,
        record { consistent = stands.consistent; knows = stands.knows; back = settled_back (state g new) after; is_open = λ _. after.is_open },
      )

  -- and why not
  pub fails_at : (r : Result (List TableRow) StoreFault) → ShowsAll g old new r → IfErr r (λ fault. HasCleanDisk (state g new) → HasOffice old.schema → FailsToShowOne g old new fault)
  fails_at (Ok rows) shows = tt
  fails_at (Err fault) shows = λ clean office. shows.err clean office
