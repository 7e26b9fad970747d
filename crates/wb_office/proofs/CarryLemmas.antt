-- How the transaction of an accepted command, begun, written and ended, carries it out.
use Rattle.std.proofs.Common.{◌≡◌, ◌⊎◌, inl, inr, refl, sym, subst, arith, Result, Ok, Err, OnOk, IfErr, Option}
use Rattle.sqlite_trees.specs.declared.store.Store.{Ghosts}
use Rattle.sqlite.specs.Tree.{Trees}
use Rattle.sqlite.specs.Held.{Held, state}
use Rattle.sqlite.specs.State.{State, HasCleanDisk, Survives}
use Rattle.sqlite.proofs.Callers.{survives_begin}
use Rattle.sqlite.proofs.StateLemmas.{survives_then, survives_weaker}
use Rattle.wb_sql.specs.Transactions.{LeavesNoMore}
use Rattle.wb_states.specs.declared.command.Command.{Command}
use Rattle.wb_states.specs.declared.store_fault.StoreFault.{StoreFault}
use Rattle.wb_states.specs.declared.store_fault.StoreFault.TheVariants.{Memory}
use Rattle.wb_states.specs.Machine.{Machine, Key}
use Rattle.wb_step.specs.Step.{step}
use Rattle.wb_store.specs.Stands.{StandsFor}
use Rattle.wb_store.specs.Calls.{Becomes}
use Rattle.wb_store.specs.Ending.{IsEndedFrom, IsFaultOfCommit, IsFaultOfRollBack}
use Rattle.wb_store.specs.Settled.{IsSettled, IsUnderWay, IsBackAt, SettlesBy, TakesBack}
use Rattle.wb_store.proofs.OthersLemmas.{others_still}
use Rattle.wb_store.proofs.SettledLemmas.{begins, office_stands}
use Rattle.wb_office.specs.declared.carry.CarryError.{CarryError}
use Rattle.wb_office.specs.declared.carry.CarryError.TheVariants.{InDoubt}
use Rattle.wb_office.specs.Changed.{IsStepOf, IsLeftOrBack, ChangesBy}
use Rattle.wb_office.specs.Carried.{failure_of, LeavesAs, FailsAtChange, FailsAtCommit, EndsFor, HoldsStep, CarriesOut}
use Rattle.wb_store.specs.Settled.{begun}
use Rattle.wb_office.proofs.WriteLemmas.{reached_way}

-- whatever ROLLBACK answers, the failure leaves what was committed before
pub leaves_back : {A : Type 0} {before : Machine} (now : Machine) (s : State) (e : StoreFault) (ended : Result A StoreFault)
    → IsBackAt before s → LeavesAs before now s (failure_of e ended)
leaves_back now s e (Ok x) back = back
leaves_back now s e (Err why) back = back

module _ {S : Type 0} (g : Ghosts S) (command : Command) (key : Option Key) (after : Machine) (old : Held S) where
  abbrev Settled : Machine → Type 0
  Settled whole = IsSettled whole (state g old)

  abbrev WhyNot : Machine → StoreFault → Type 0
  WhyNot whole e = FailsAtChange g command key after whole old e ⊎ FailsAtCommit g (step whole command).1 old e

  -- ---- the start

  starts : {whole : Machine} → Settled whole → IsUnderWay whole whole (state g (begun old))
  starts h = begins g old (begun old) refl h

  stands_at_start : {whole : Machine} → Settled whole → StandsFor whole (state g (begun old)).now
  stands_at_start h = office_stands (state g old).now h.holds

  -- ---- the end of a transaction that is not committed

  ends_for : {A : Type 0} (whole : Machine) (at new : Held S) (e : StoreFault) (ended : Result A StoreFault) → WhyNot whole e
      → OnOk ended (IsEndedFrom (state g at) (state g new)) → IfErr ended (IsFaultOfRollBack (state g at) (state g new))
      → EndsFor g command key after whole old new (failure_of e ended)
  ends_for whole at new e (Ok x) why rolled failed = (why, (at, rolled))
  ends_for whole at new e (Err told) why rolled failed = (why, (at, (told, failed)))

  -- a transaction that failed is taken back
  pub carries_not : {A B : Type 0} (at new : Held S) (e : StoreFault) (ended : Result A StoreFault) (r : CarryError) → r ≡ failure_of e ended
      → (HasCleanDisk (state g at) → (whole : Machine) → Settled whole → IsStepOf whole command key after → WhyNot whole e)
      → (HasCleanDisk (state g at) → (whole : Machine) → Settled whole → IsStepOf whole command key after → IsLeftOrBack g whole at)
      → Survives (state g (begun old)) (state g at) (HoldsStep g command key after old)
      → TakesBack g at new → (HasCleanDisk (state g new) → OnOk ended (IsEndedFrom (state g at) (state g new)))
      → (HasCleanDisk (state g new) → IfErr ended (IsFaultOfRollBack (state g at) (state g new)))
      → Survives (state g at) (state g new) (λ _. ⊥) → CarriesOut {A = B} g command key after old new (Err r)
  carries_not at new e ended r is why way one back rolled failed two =
      let before : HasCleanDisk (state g new) → HasCleanDisk (state g at) = λ clean. omega (arith, two.clean, clean) in
      record {
        ok = λ clean whole settled made. tt;
        err = λ clean whole settled made. subst (LeavesAs whole (step whole command).1 (state g new)) (sym is)
            (leaves_back (step whole command).1 (state g new) e ended (elim (way (before clean) whole settled made) [
              | inl still ↦ back.back clean whole still.0 (inl still.1)
              | inr over ↦ back.back clean whole whole (inr over)
            ]));
        cause = λ clean whole settled made. subst (EndsFor g command key after whole old new) (sym is)
            (ends_for whole at new e ended (why (before clean) whole settled made) (rolled clean) (failed clean));
        others = λ clean whole settled made. tt;
        survives = survives_begin g old (state g new) _
            (survives_then (state g (begun old)) (state g at) (state g new) _ _ _ (λ clean db made. made) (λ clean db none. absurd none) one two);
      }

  -- ---- the change fails

  module _ {B : Type 0} (mid : Held S) (e : StoreFault) (change : ChangesBy {A = B} g command key after (begun old) mid (Err e)) where
    pub change_why : HasCleanDisk (state g mid) → (whole : Machine) → Settled whole → IsStepOf whole command key after → WhyNot whole e
    change_why clean whole settled made = inl (mid, change.cause clean refl whole (stands_at_start settled) made)

    pub change_way : HasCleanDisk (state g mid) → (whole : Machine) → Settled whole → IsStepOf whole command key after → IsLeftOrBack g whole mid
    change_way clean whole settled made = change.err clean whole whole (starts settled) made

    pub change_survives : Survives (state g (begun old)) (state g mid) (HoldsStep g command key after old)
    change_survives = survives_weaker (state g (begun old)) (state g mid) _ _ (λ clean db other whole stands made. absurd (other (whole, stands, made))) change.survives

  -- ---- the change is written, and then the commit is tried

  module _ {A B : Type 0} {x : B} (mid at : Held S) (change : ChangesBy {A = B} g command key after (begun old) mid (Ok x)) (r : Result A StoreFault) (settles : SettlesBy g mid at r)
      (cause : HasCleanDisk (state g at) → IfErr r (IsFaultOfCommit g mid))
      (survives : Survives (state g mid) (state g at) (λ db. db ≡ (state g mid).now.trees)) where
    before : HasCleanDisk (state g at) → HasCleanDisk (state g mid)
    before clean = omega (arith, survives.clean, clean)

    written : {whole : Machine} → HasCleanDisk (state g mid) → Settled whole → IsStepOf whole command key after → Becomes (step whole command).1 (state g (begun old)) (state g mid)
    written {whole} clean settled made = change.ok clean whole (stands_at_start settled) made

    less : {whole : Machine} → HasCleanDisk (state g mid) → Settled whole → IsStepOf whole command key after → LeavesNoMore (state g (begun old)) (state g mid)
    less {whole} clean settled made db may = elim (change.survives.crash clean db may) [
      | inl was ↦ was
      | inr other ↦ absurd (other (whole, stands_at_start settled, made))
    ]

    under_way : {whole : Machine} → HasCleanDisk (state g mid) → Settled whole → IsStepOf whole command key after → IsUnderWay whole (step whole command).1 (state g mid)
    under_way clean settled made = reached_way g (begun old) mid (inr (written clean settled made)) (less clean settled made) (starts settled)

    holds_step : HasCleanDisk (state g mid) → (db : Trees) → db ≡ (state g mid).now.trees → HoldsStep g command key after old db
    holds_step clean db is whole stands made =
        let there = (change.ok clean whole stands made) in
        subst (λ trees. StandsFor (step whole command).1 (record { schema = old.schema; trees = trees })) (sym is)
        (subst (λ schema. StandsFor (step whole command).1 (record { schema = schema; trees = (state g mid).now.trees })) there.schema_is there.stands)

    pub commit_survives : Survives (state g (begun old)) (state g at) (HoldsStep g command key after old)
    commit_survives = survives_then (state g (begun old)) (state g mid) (state g at) _ _ _ (λ clean db other whole stands made. absurd (other (whole, stands, made)))
        (λ clean db is. holds_step (before clean) db is) change.survives survives

    -- the commit failed with this error
    failed_at : {whole : Machine} (e : StoreFault) → r ≡ Err e → HasCleanDisk (state g at) → Settled whole → IsStepOf whole command key after → FailsAtCommit g (step whole command).1 old e
    failed_at e is clean settled made = (mid, (written (before clean) settled made, subst (λ r. IfErr r (IsFaultOfCommit g mid)) is (cause clean)))

    -- the commit was made
    pub carries_it : {C : Type 0} {y : A} {z : C} → r ≡ Ok y → CarriesOut {A = C} g command key after old at (Ok z)
    carries_it is = record {
      ok = λ clean whole settled made. subst (λ r. OnOk r (IsSettled (step whole command).1 (state g at))) is
          (settles.ok clean whole (step whole command).1 (under_way (before clean) settled made));
      err = λ clean whole settled made. tt;
      cause = λ clean whole settled made. tt;
      others = λ clean whole settled made. others_still (state g at).now (written (before clean) settled made).others
          (subst (λ r. OnOk r ((state g at).now ≡ (state g mid).now)) is (settles.shows clean whole (step whole command).1 (under_way (before clean) settled made)));
      survives = survives_begin g old (state g at) _ commit_survives;
    }

    -- the commit is in doubt
    pub carries_in_doubt : {C : Type 0} (e : StoreFault) → r ≡ Err e → CarriesOut {A = C} g command key after old at (Err (InDoubt e))
    carries_in_doubt e is = record {
      ok = λ clean whole settled made. tt;
      err = λ clean whole settled made. settles.crash clean whole (step whole command).1 (under_way (before clean) settled made);
      cause = λ clean whole settled made. failed_at e is clean settled made;
      others = λ clean whole settled made. tt;
      survives = survives_begin g old (state g at) _ commit_survives;
    }

    -- memory ran out for the commit
    module _ (is : r ≡ Err Memory) where
      pub memory_why : HasCleanDisk (state g at) → (whole : Machine) → Settled whole → IsStepOf whole command key after → WhyNot whole Memory
      memory_why clean whole settled made = inr (failed_at Memory is clean settled made)

      pub memory_way : HasCleanDisk (state g at) → (whole : Machine) → Settled whole → IsStepOf whole command key after → IsLeftOrBack g whole at
      memory_way clean whole settled made = elim (settles.memory clean whole (step whole command).1 (under_way (before clean) settled made) is) [
        | inl still ↦ inl ((step whole command).1, still)
        | inr back ↦ inr back
      ]
