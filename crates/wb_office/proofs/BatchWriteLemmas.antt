-- Many changes are made, and then the counts are written.
use Rattle.std.proofs.Common.{inl, inr, refl, Result, Ok, Err, arith}
use Rattle.std.specs.Prelude.{⊤}
use Rattle.sqlite_trees.specs.declared.store.Store.{Ghosts}
use Rattle.sqlite.specs.Held.{Held, state}
use Rattle.wb_sql.proofs.CallLemmas.{on_ok}
use Rattle.wb_states.specs.declared.counts.Counts.{Counts}
use Rattle.wb_states.specs.declared.store_fault.StoreFault.{StoreFault}
use Rattle.wb_states.specs.declared.store_fault.Table.TheVariants.{Office}
use Rattle.wb_states.specs.Machine.{Machine}
use Rattle.wb_store.specs.Stands.{StandsFor}
use Rattle.wb_store.specs.Calls.{Becomes, Changes}
use Rattle.wb_store.specs.Faults.{IsUnfit}
use Rattle.wb_store.specs.Writes as write
use Rattle.wb_store.specs.Writes.{OfficeWrite}
use Rattle.wb_office.specs.Batches.{Batch, Puts, Removes, CannotChange, CannotWriteBatch, HaveFit, IsChangeOf}
use Rattle.wb_office.specs.Batches.{IsWriteOfBatch, WritesBatch, batch_changed}
use Rattle.wb_office.specs.Turns.{ChangesInTurn}
use Rattle.wb_office.proofs.TurnLemmas.{for_more, not_made, one_change, then_changes}
use Rattle.wb_office.proofs.WriteLemmas.{becomes_then, reached_stands}

-- an office with these counts
abbrev counts_written : Counts → Machine → Machine
counts_written counts machine = record machine { handed = counts.handed; accepted = counts.accepted }

change_of : (batch : Batch) (counts : Counts) (it : OfficeWrite) → IsChangeOf batch it → IsWriteOfBatch batch counts it
change_of (Puts rows) counts (write.SetsCounts handed accepted) none = absurd none
change_of (Removes arch names pairs) counts (write.SetsCounts handed accepted) none = absurd none
change_of batch counts it is = is

module _ {S : Type 0} (g : Ghosts S) (batch : Batch) (counts : Counts) where
  changes : {old new : Held S} (r : Result (Unit {0}) StoreFault)
      → ChangesInTurn g (IsChangeOf batch) (CannotChange batch) (batch_changed batch) old new r
      → ChangesInTurn g (IsWriteOfBatch batch counts) (CannotWriteBatch batch counts) (batch_changed batch) old new r
  changes r h = for_more g r (change_of batch counts) (λ e why. inr why) h

  -- changes that could not be made
  pub batch_stops : {old new : Held S} (e : StoreFault)
      → ChangesInTurn {A = Unit {0}} g (IsChangeOf batch) (CannotChange batch) (batch_changed batch) old new (Err e)
      → WritesBatch {A = Unit {0}} g batch counts old new (Err e)
  batch_stops e h = let it = changes (Err e) h in record
      { ok = λ clean. tt; cause = it.cause; err = it.err; survives = it.survives }

  -- counts that do not fit
  pub counts_unfit : {held : Held S} (e : StoreFault) → IsUnfit Office (HaveFit counts) e
      → WritesBatch {A = Unit {0}} g batch counts held held (Err e)
  counts_unfit {held = held} e why =
      let it : ChangesInTurn {A = Unit {0}} g (IsWriteOfBatch batch counts) (CannotWriteBatch batch counts)
      (λ machine. machine) held held (Err e) = not_made g e (inl why) in
      record { ok = λ clean. tt; cause = it.cause; err = it.err; survives = it.survives }

  -- the changes, and then the counts
  pub batch_then_counts : {old mid new : Held S} (x : Unit {0}) (r : Result (Unit {0}) StoreFault)
      → ChangesInTurn g (IsChangeOf batch) (CannotChange batch) (batch_changed batch) old mid (Ok x)
      → Changes g (write.SetsCounts counts.handed counts.accepted) (λ _. ⊤) (counts_written counts) mid new r
      → WritesBatch g batch counts old new r
  batch_then_counts {old = old} {mid = mid} {new = new} x r one two =
      let first = changes (Ok x) one in
      let both = then_changes g x r first (one_change g r (refl, refl) two) in
      record {
        ok = λ clean. on_ok {P = (machine : Machine) → StandsFor machine (state g mid).now → ⊤ → Becomes (counts_written counts machine) (state g mid) (state g new)} r
            (λ becomes whole stands.
            let comes = first.ok (omega (arith, two.survives.clean, clean)) whole stands in
            becomes_then g old mid new comes (becomes (batch_changed batch whole) (reached_stands g old mid comes) tt))
            (two.ok clean);
        cause = both.cause;
        err = both.err;
        survives = both.survives;
      }
