-- What look-ups and tests, one after another, leave of a connection that was settled.
use Rattle.std.proofs.Common.{inl, inr, sym, subst, ◌∙◌}
use Rattle.sqlite_trees.specs.declared.store.Store.{Ghosts}
use Rattle.sqlite.specs.Held.{Held, state}
use Rattle.sqlite.specs.State.{State, HasCleanDisk, IsUnchanged, IsRolledBack, Survives}
use Rattle.wb_sql.specs.Transactions.{IsKeptOrUndone, LeavesNoMore}
use Rattle.wb_sql.specs.Among.{HasOffice}
use Rattle.wb_states.specs.Machine.{Machine}
use Rattle.wb_store.specs.Settled.{IsBackAt, IsSettled}
use Rattle.wb_store.proofs.SettledLemmas.{goes_back_again, settled_back, stays_back, stays_settled}
use Rattle.wb_store.specs.Finds.{StaysAs}
pub use Rattle.wb_store.specs.MergeLaws.{was_clean}
use Rattle.wb_store.proofs.FindsLemmas.{unchanged_then}

rolled_back_then : (a b c : State) → IsUnchanged a b → IsRolledBack b c → IsRolledBack a c
rolled_back_then a b c one two = record {
  was_open = λ _. one.0.was_open;
  undone = λ is_open. let u = two.undone is_open in (u.0 ∙ one.0.committed_is, u.1 ∙ one.0.committed_is);
  autocommit = two.autocommit;
  unmarked = two.unmarked;
  counts = record { changes = two.counts.changes ∙ one.1.changes; last_rowid = two.counts.last_rowid ∙ one.1.last_rowid };
}

undone_then : (a b c : State) → IsUnchanged a b → IsKeptOrUndone b c → IsKeptOrUndone a c
undone_then a b c kept (inl same) = inl (unchanged_then a b c kept same)
undone_then a b c kept (inr undone) = inr (rolled_back_then a b c kept undone)

-- a failure after calls that left the database as it was changes nothing, or takes the transaction back
pub undone_after : {S : Type 0} (g : Ghosts S) (old mid new : Held S) → StaysAs g old mid → IsKeptOrUndone (state g mid) (state g new) → IsKeptOrUndone (state g old) (state g new)
undone_after g old mid new (inl same) failed = subst (λ h. IsKeptOrUndone (state g h) (state g new)) (sym same) failed
undone_after g old mid new (inr kept) failed = undone_then (state g old) (state g mid) (state g new) kept.0 failed

module _ {S : Type 0} (g : Ghosts S) (old new : Held S) where
  -- a crash leaves no more of a database with the office's tables
  pub no_more : Survives (state g old) (state g new) (λ _. ¬ HasOffice old.schema) → HasOffice old.schema → HasCleanDisk (state g new) → LeavesNoMore (state g old) (state g new)
  no_more survives same clean db may = elim (survives.crash clean db may) [ inl was ↦ was | inr other ↦ absurd (other same) ]

  -- what stays as it was stays settled
  pub stays_settled_as : {machine : Machine} → StaysAs g old new → LeavesNoMore (state g old) (state g new) → IsSettled machine (state g old) → IsSettled machine (state g new)
  stays_settled_as {machine = machine} (inl same) less settled = subst (λ h. IsSettled machine (state g h)) same settled
  stays_settled_as (inr kept) less settled = stays_settled (state g old) (state g new) kept.0 less settled

  -- what was kept or undone is back at its state
  pub back_by : {machine : Machine} → IsKeptOrUndone (state g old) (state g new) → LeavesNoMore (state g old) (state g new) → IsSettled machine (state g old) → IsBackAt machine (state g new)
  back_by (inl same) less settled = stays_back (state g old) (state g new) same less (settled_back (state g old) settled)
  back_by (inr undone) less settled = goes_back_again (state g old) (state g new) undone less (settled_back (state g old) settled)
