-- How the transaction that writes many changes and the counts, begun, written and ended, carries it out.
use Rattle.std.proofs.Common.{◌≡◌, inl, inr, refl, sym, subst, arith, Result, Ok, Err, OnOk, IfErr}
use Rattle.sqlite_trees.specs.declared.store.Store.{Ghosts}
use Rattle.sqlite.specs.Tree.{Trees}
use Rattle.sqlite.specs.Held.{Held, state}
use Rattle.sqlite.specs.State.{HasCleanDisk, Survives}
use Rattle.sqlite.proofs.Callers.{survives_begin}
use Rattle.sqlite.proofs.StateLemmas.{survives_then, survives_weaker}
use Rattle.wb_sql.specs.Transactions.{LeavesNoMore}
use Rattle.wb_states.specs.declared.counts.Counts.{Counts}
use Rattle.wb_states.specs.declared.store_fault.StoreFault.{StoreFault}
use Rattle.wb_states.specs.declared.store_fault.StoreFault.TheVariants.{Memory}
use Rattle.wb_states.specs.Machine.{Machine}
use Rattle.wb_store.specs.Stands.{StandsFor}
use Rattle.wb_store.specs.Calls.{Becomes}
use Rattle.wb_store.specs.Ending.{IsEndedFrom, IsFaultOfCommit, IsFaultOfRollBack}
use Rattle.wb_store.specs.Settled.{IsSettled, IsUnderWay, SettlesBy, TakesBack}
use Rattle.wb_store.proofs.OthersLemmas.{others_still}
use Rattle.wb_store.proofs.SettledLemmas.{begins, office_stands}
use Rattle.wb_office.specs.declared.carry.CarryError.{CarryError}
use Rattle.wb_office.specs.declared.carry.CarryError.TheVariants.{InDoubt}
use Rattle.wb_office.specs.Changed.{IsLeftOrBack}
use Rattle.wb_office.specs.Carried.{failure_of, LeavesAs, FailsAtCommit}
use Rattle.wb_store.specs.Settled.{begun}
use Rattle.wb_office.specs.Batches.{Batch, BatchEndsFor, CarriesBatch, FailsToWriteBatch, HoldsBatch, WritesBatch}
use Rattle.wb_office.specs.Batches.{batch_written}
use Rattle.wb_office.proofs.CarryLemmas.{leaves_back}
use Rattle.wb_office.proofs.WriteLemmas.{reached_way}

module _ {S : Type 0} (g : Ghosts S) (batch : Batch) (counts : Counts) (old : Held S) where
  abbrev Settled : Machine → Type 0
  Settled whole = IsSettled whole (state g old)

  abbrev WhyNot : Machine → StoreFault → Type 0
  WhyNot whole e = FailsToWriteBatch g batch counts whole old e

  -- ---- the start

  starts : {whole : Machine} → Settled whole → IsUnderWay whole whole (state g (begun old))
  starts h = begins g old (begun old) refl h

  stands_at_start : {whole : Machine} → Settled whole → StandsFor whole (state g (begun old)).now
  stands_at_start h = office_stands (state g old).now h.holds

  -- ---- the end of a transaction that is not committed

  ends_for : {A : Type 0} (whole : Machine) (at new : Held S) (e : StoreFault) (ended : Result A StoreFault) → WhyNot whole e
      → OnOk ended (IsEndedFrom (state g at) (state g new)) → IfErr ended (IsFaultOfRollBack (state g at) (state g new))
      → BatchEndsFor g batch counts whole old new (failure_of e ended)
  ends_for whole at new e (Ok x) why rolled failed = (why, (at, rolled))
  ends_for whole at new e (Err told) why rolled failed = (why, (at, (told, failed)))

  -- a transaction that failed is taken back
  pub batch_not : {A B : Type 0} (at new : Held S) (e : StoreFault) (ended : Result A StoreFault) (r : CarryError)
      → r ≡ failure_of e ended
      → (HasCleanDisk (state g at) → (whole : Machine) → Settled whole → WhyNot whole e)
      → (HasCleanDisk (state g at) → (whole : Machine) → Settled whole → IsLeftOrBack g whole at)
      → Survives (state g (begun old)) (state g at) (HoldsBatch g batch counts old)
      → TakesBack g at new → (HasCleanDisk (state g new) → OnOk ended (IsEndedFrom (state g at) (state g new)))
      → (HasCleanDisk (state g new) → IfErr ended (IsFaultOfRollBack (state g at) (state g new)))
      → Survives (state g at) (state g new) (λ _. ⊥) → CarriesBatch {A = B} g batch counts old new (Err r)
  batch_not at new e ended r is why way one back rolled failed two =
      let cleaner : HasCleanDisk (state g new) → HasCleanDisk (state g at) = λ clean. omega (arith, two.clean, clean) in
      record {
        ok = λ clean whole settled. tt;
        err = λ clean whole settled. subst (LeavesAs whole (batch_written batch counts whole) (state g new)) (sym is)
            (leaves_back (batch_written batch counts whole) (state g new) e ended
            (elim (way (cleaner clean) whole settled) [
              | inl still ↦ back.back clean whole still.0 (inl still.1)
              | inr over ↦ back.back clean whole whole (inr over)
            ]));
        cause = λ clean whole settled. subst (BatchEndsFor g batch counts whole old new) (sym is)
            (ends_for whole at new e ended (why (cleaner clean) whole settled) (rolled clean) (failed clean));
        others = λ clean whole settled. tt;
        survives = survives_begin g old (state g new) _
            (survives_then (state g (begun old)) (state g at) (state g new) _ _ _ (λ clean db held. held) (λ clean db none. absurd none) one two);
      }

  -- ---- the change fails

  module _ {B : Type 0} (mid : Held S) (e : StoreFault)
      (change : WritesBatch {A = B} g batch counts (begun old) mid (Err e)) where
    pub change_why : HasCleanDisk (state g mid) → (whole : Machine) → Settled whole → WhyNot whole e
    change_why clean whole settled = inl (mid, change.cause clean refl whole (stands_at_start settled))

    pub change_way : HasCleanDisk (state g mid) → (whole : Machine) → Settled whole → IsLeftOrBack g whole mid
    change_way clean whole settled = change.err clean whole whole (starts settled)

    pub change_survives : Survives (state g (begun old)) (state g mid) (HoldsBatch g batch counts old)
    change_survives = survives_weaker (state g (begun old)) (state g mid) _ _ (λ clean db other whole stands. absurd (other whole stands)) change.survives

  -- ---- the change is written, and then the commit is tried

  module _ {A B : Type 0} {x : B} (mid at : Held S) (change : WritesBatch {A = B} g batch counts (begun old) mid (Ok x))
      (r : Result A StoreFault) (settles : SettlesBy g mid at r)
      (cause : HasCleanDisk (state g at) → IfErr r (IsFaultOfCommit g mid))
      (survives : Survives (state g mid) (state g at) (λ db. db ≡ (state g mid).now.trees)) where
    cleaner : HasCleanDisk (state g at) → HasCleanDisk (state g mid)
    cleaner clean = omega (arith, survives.clean, clean)

    written : {whole : Machine} → HasCleanDisk (state g mid) → Settled whole
        → Becomes (batch_written batch counts whole) (state g (begun old)) (state g mid)
    written {whole} clean settled = change.ok clean whole (stands_at_start settled)

    less : {whole : Machine} → HasCleanDisk (state g mid) → Settled whole → LeavesNoMore (state g (begun old)) (state g mid)
    less {whole} clean settled db may = elim (change.survives.crash clean db may) [
      | inl was ↦ was
      | inr other ↦ absurd (other whole (stands_at_start settled))
    ]

    under_way : {whole : Machine} → HasCleanDisk (state g mid) → Settled whole
        → IsUnderWay whole (batch_written batch counts whole) (state g mid)
    under_way clean settled = reached_way g (begun old) mid (inr (written clean settled)) (less clean settled) (starts settled)

    holds_step : HasCleanDisk (state g mid) → (db : Trees) → db ≡ (state g mid).now.trees
        → HoldsBatch g batch counts old db
    holds_step clean db is whole stands =
        let there = (change.ok clean whole stands) in
        subst (λ trees. StandsFor (batch_written batch counts whole) (record { schema = old.schema; trees = trees }))
        (sym is)
        (subst (λ schema. StandsFor (batch_written batch counts whole)
        (record { schema = schema; trees = (state g mid).now.trees })) there.schema_is there.stands)

    pub commit_survives : Survives (state g (begun old)) (state g at) (HoldsBatch g batch counts old)
    commit_survives = survives_then (state g (begun old)) (state g mid) (state g at) _ _ _ (λ clean db other whole stands. absurd (other whole stands))
        (λ clean db is. holds_step (cleaner clean) db is) change.survives survives

    -- the commit failed with this error
    failed_at : {whole : Machine} (e : StoreFault) → r ≡ Err e → HasCleanDisk (state g at) → Settled whole
        → FailsAtCommit g (batch_written batch counts whole) old e
    failed_at e is clean settled = (mid, (written (cleaner clean) settled, subst (λ r. IfErr r (IsFaultOfCommit g mid)) is (cause clean)))

    -- the commit was made
    pub batch_carried : {C : Type 0} {y : A} {z : C} → r ≡ Ok y → CarriesBatch {A = C} g batch counts old at (Ok z)
    batch_carried is = record {
      ok = λ clean whole settled. subst (λ r. OnOk r (IsSettled (batch_written batch counts whole) (state g at))) is
          (settles.ok clean whole (batch_written batch counts whole) (under_way (cleaner clean) settled));
      err = λ clean whole settled. tt;
      cause = λ clean whole settled. tt;
      others = λ clean whole settled. others_still (state g at).now (written (cleaner clean) settled).others
          (subst (λ r. OnOk r ((state g at).now ≡ (state g mid).now)) is
          (settles.shows clean whole (batch_written batch counts whole) (under_way (cleaner clean) settled)));
      survives = survives_begin g old (state g at) _ commit_survives;
    }

    -- the commit is in doubt
    pub batch_in_doubt : {C : Type 0} (e : StoreFault) → r ≡ Err e
        → CarriesBatch {A = C} g batch counts old at (Err (InDoubt e))
    batch_in_doubt e is = record {
      ok = λ clean whole settled. tt;
      err = λ clean whole settled. settles.crash clean whole (batch_written batch counts whole)
          (under_way (cleaner clean) settled);
      cause = λ clean whole settled. failed_at e is clean settled;
      others = λ clean whole settled. tt;
      survives = survives_begin g old (state g at) _ commit_survives;
    }

    -- memory ran out for the commit
    module _ (is : r ≡ Err Memory) where
      pub memory_why : HasCleanDisk (state g at) → (whole : Machine) → Settled whole → WhyNot whole Memory
      memory_why clean whole settled = inr (failed_at Memory is clean settled)

      pub memory_way : HasCleanDisk (state g at) → (whole : Machine) → Settled whole → IsLeftOrBack g whole at
      memory_way clean whole settled = elim (settles.memory clean whole (batch_written batch counts whole)
          (under_way (cleaner clean) settled) is) [
            | inl still ↦ inl ((batch_written batch counts whole), still)
            | inr back ↦ inr back
          ]
