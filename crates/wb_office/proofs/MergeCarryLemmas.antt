-- How the transaction of a merge of lists, begun, written and ended, carries it out.
use Rattle.std.proofs.Common.{◌≡◌, ◌∙◌, false, inl, inr, refl, sym, ap, subst, arith, Result, Ok, Err, OnOk, IfErr}
use Rattle.std.proofs.Common.{List, Vec}
use Rattle.sqlite_trees.specs.declared.store.Store.{Ghosts}
use Rattle.sqlite.specs.Effect.{Database}
use Rattle.sqlite.specs.Held.{Held, state}
use Rattle.sqlite.specs.State.{HasCleanDisk, Survives}
use Rattle.wb_sql.specs.Transactions.{IsKeptOrUndone, LeavesNoMore}
use Rattle.wb_states.specs.declared.counts.Counts.{Counts}
use Rattle.wb_states.specs.declared.reply.PartReply.{PartReply}
use Rattle.wb_states.specs.declared.store_fault.StoreFault.{StoreFault}
use Rattle.wb_states.specs.declared.store_fault.StoreFault.TheVariants.{Device, Memory}
use Rattle.wb_states.specs.Machine.{Machine}
use Rattle.wb_states.specs.Refusals.{is_of_store}
use Rattle.wb_merge.specs.Merged.{Records}
use Rattle.wb_store.specs.Stands.{StandsFor}
use Rattle.wb_store.specs.Ending.{IsEndedFrom, IsFaultOfCommit, IsFaultOfRollBack}
use Rattle.wb_store.specs.MergeRuns.{RunsTo}
use Rattle.wb_store.specs.Others.{KeepsOthers}
use Rattle.wb_store.specs.Settled.{IsBackAt, IsOffice, IsSettled, IsUnderWay, SettlesBy, TakesBack, begun}
use Rattle.wb_store.proofs.OthersLemmas.{others_equal, others_still}
use Rattle.wb_store.proofs.SettledLemmas.{begins, goes_back_again, office_stands, stays_back, stays_settled}
use Rattle.wb_office.specs.declared.answer.Failure.{Failure}
use Rattle.wb_office.specs.declared.answer.Failure.TheVariants.{Uncommitted}
use Rattle.wb_office.specs.declared.carry.CarryError.{CarryError}
use Rattle.wb_office.specs.declared.carry.CarryError.TheVariants.{InDoubt, RollBackFailed}
use Rattle.wb_office.specs.declared.merge_lists.Stop.{Stop}
use Rattle.wb_office.specs.declared.merge_lists.Stop.TheVariants.{Failed, Refused}
use Rattle.wb_office.specs.Carried.{failure_of}
use Rattle.wb_office.specs.Kinds.{IsOfStep}
use Rattle.wb_office.specs.MergeCarried.{CarriesLists, EndsStopped, FailsAsMerge, FailsAtMergeCommit, IsNotMerged}
use Rattle.wb_office.specs.MergeLists.{FailsToMerge, IfFailed, IfRefused, IsMergedIn, IsRefusedMerge, MergesLists}
use Rattle.wb_office.specs.MergeLists.{merged_office}

-- ---- a connection whose transaction is over

module _ {S : Type 0} (g : Ghosts S) (end new : Held S) (survives : Survives (state g end) (state g new) (λ _. ⊥)) where
  -- a call that commits nothing leaves no more
  no_more : HasCleanDisk (state g new) → LeavesNoMore (state g end) (state g new)
  no_more clean db may = elim (survives.crash clean db may) [ inl was ↦ was | inr none ↦ absurd none ]

  -- what was taken back stays so, whether the connection can be used on or not
  back_still : {whole : Machine} → HasCleanDisk (state g new) → IsKeptOrUndone (state g end) (state g new) → IsBackAt whole (state g end) → IsBackAt whole (state g new)
  back_still clean (inl same) back = stays_back (state g end) (state g new) same (no_more clean) back
  back_still clean (inr undone) back = goes_back_again (state g end) (state g new) undone (no_more clean) back

-- a failure of the store is no refusal
no_refusal : (failure : Failure) (e : CarryError) → failure ≡ Uncommitted e → IsOfStep failure
no_refusal failure e is = subst IsOfStep (sym is) tt

module _ {S : Type 0} (g : Ghosts S) (Ready : Machine → Type 0) (Done : Machine → List PartReply → Records → Type 0) (counts : Counts) (old : Held S) where
  abbrev Settled : Machine → Type 0
  Settled whole = IsSettled whole (state g old)

  abbrev NotMerged : Machine → Held S → Failure → Type 0
  NotMerged whole new failure = IsNotMerged g Done counts whole old new failure

  -- ---- the start

  starts : {whole : Machine} → Settled whole → IsUnderWay whole whole (state g (begun old))
  starts h = begins g old (begun old) refl h

  stands_at_start : {whole : Machine} → Settled whole → StandsFor whole (state g (begun old)).now
  stands_at_start h = office_stands (state g old).now h.holds

  -- ---- the end of a transaction that is not committed

  -- it failed with this fault, and is taken back
  not_merged : {A : Type 0} (whole : Machine) (at new : Held S) (e : StoreFault) (ended : Result A StoreFault) → IsBackAt whole (state g new) → FailsAsMerge g Done counts whole old e
      → OnOk ended (IsEndedFrom (state g at) (state g new)) → IfErr ended (IsFaultOfRollBack (state g at) (state g new)) → NotMerged whole new (Uncommitted (failure_of e ended))
  not_merged whole at new e (Ok x) back why rolled failed = (back, (why, (at, rolled)))
  not_merged whole at new e (Err told) back why rolled failed = (back, inl (why, (at, (told, failed))))

  -- ---- the merge stops

  -- why it is not made, by why it stopped and what ROLLBACK answered
  stopped_why : (whole : Machine) (mid end new : Held S) (it : Stop) (ended : Result (Unit {0}) StoreFault) (failure : Failure) → EndsStopped g it ended end new failure
      → Survives (state g end) (state g new) (λ _. ⊥) → HasCleanDisk (state g new) → IsBackAt whole (state g end)
      → IfFailed (FailsToMerge g counts (begun old) mid) it → IfRefused (IsRefusedMerge Done counts whole) it
      → OnOk ended (IsEndedFrom (state g mid) (state g end)) → IfErr ended (IsFaultOfRollBack (state g mid) (state g end)) → NotMerged whole new failure
  stopped_why whole mid end new (Failed e) ended failure is survives clean back why refused rolled failed =
      subst (NotMerged whole new) (sym is.0) (subst (λ h. NotMerged whole h (Uncommitted (failure_of e ended))) (sym is.1)
      (not_merged whole mid end e ended back (inl (mid, why)) rolled failed))
  stopped_why whole mid end new (Refused refusal) (Ok x) failure (inl still) survives clean back why refused rolled failed =
      let same = still.1 clean in
      subst (NotMerged whole new) (sym still.0)
      (refused, stays_settled (state g end) (state g new) same (no_more g end new survives clean) (back.settled same.0.was_open))
  stopped_why whole mid end new (Refused refusal) (Ok x) failure (inr shut) survives clean back why refused rolled failed =
      let why = shut.1 clean in
      subst (NotMerged whole new) (sym shut.0) (back_still g end new survives clean why.1 back, inr (refusal, (refused, inr (refl, (end, why.0)))))
  stopped_why whole mid end new (Refused refusal) (Err fault) failure is survives clean back why refused rolled failed =
      subst (NotMerged whole new) (sym is.0) (subst (λ h. NotMerged whole h (Uncommitted (RollBackFailed fault))) (sym is.1)
      (back, inr (refusal, (refused, inl (mid, failed)))))

  -- a merge that is refused is refused by the step
  stopped_kind : (end new : Held S) (it : Stop) (ended : Result (Unit {0}) StoreFault) (failure : Failure) → EndsStopped g it ended end new failure
      → IfRefused (λ refusal. is_of_store refusal ≡ false) it → IsOfStep failure
  stopped_kind end new (Failed e) ended failure is kind = no_refusal failure (failure_of e ended) is.0
  stopped_kind end new (Refused refusal) (Ok x) failure (inl still) kind = subst IsOfStep (sym still.0) kind
  stopped_kind end new (Refused refusal) (Ok x) failure (inr shut) kind = no_refusal failure (RollBackFailed Device) shut.0
  stopped_kind end new (Refused refusal) (Err fault) failure is kind = no_refusal failure (RollBackFailed fault) is.0

  -- the merge stopped, and the transaction is taken back
  pub merge_stops : {X Y : Type 0} (mid end at new : Held S) (it : Stop) (ended : Result (Unit {0}) StoreFault) (failure : Failure) → EndsStopped g it ended at new failure
      → Survives (state g at) (state g new) (λ _. ⊥) → end ≡ at → MergesLists {X = X} g Ready Done counts (begun old) mid (Err it)
      → TakesBack g mid end → (HasCleanDisk (state g end) → OnOk ended (IsEndedFrom (state g mid) (state g end)))
      → (HasCleanDisk (state g end) → IfErr ended (IsFaultOfRollBack (state g mid) (state g end)))
      → Survives (state g mid) (state g end) (λ _. ⊥) → CarriesLists {X = Y} g Ready Done counts old new (Err failure)
  merge_stops mid end at new it ended failure ends after same change back rolled failed two =
      let is : EndsStopped g it ended end new failure = subst (λ h. EndsStopped g it ended h new failure) (sym same) ends in
      let three : Survives (state g end) (state g new) (λ _. ⊥) = subst (λ h. Survives (state g h) (state g new) (λ _. ⊥)) (sym same) after in
      let ends_clean : HasCleanDisk (state g new) → HasCleanDisk (state g end) = λ clean. omega (arith, three.clean, clean) in
      let mid_clean : HasCleanDisk (state g new) → HasCleanDisk (state g mid) = λ clean. omega (arith, two.clean, three.clean, clean) in
      record {
        was_clean = λ clean. omega (arith, change.survives.clean, two.clean, three.clean, clean);
        limit = three.limit ∙ two.limit ∙ change.survives.limit;
        room = tt;
        ok = λ clean whole settled ready. tt;
        err = λ clean whole settled ready. stopped_why whole mid end new it ended failure is three clean
            (elim (change.left (mid_clean clean) whole whole (starts settled)) [
              | inl still ↦ back.beside (ends_clean clean) whole still.0 still.1.0 still.1.1
              | inr over ↦ back.back (ends_clean clean) whole whole (inr over)
            ])
            (change.cause (mid_clean clean) refl whole (stands_at_start settled))
            (change.refused (mid_clean clean) whole (stands_at_start settled) ready) (rolled (ends_clean clean)) (failed (ends_clean clean));
        others = λ clean whole settled ready. tt;
        of_step = stopped_kind end new it ended failure is change.kind;
      }

  -- ---- the merge is made, and then the commit is tried

  -- calls of a merge leave the transaction under way
  ran_way : {whole : Machine} (now : Machine) (mid : Held S) → RunsTo g (begun old) mid → StandsFor now (state g mid).now → LeavesNoMore (state g (begun old)) (state g mid) → Settled whole
      → IsUnderWay whole now (state g mid)
  ran_way {whole = whole} now mid (inl same) stands less settled =
      let here : IsUnderWay whole whole (state g mid) = subst (λ (h : Held S). IsUnderWay whole whole (state g h)) same (starts settled) in
      record { is_open = here.is_open; inside = here.inside; stands = stands; began = here.began; alone = here.alone }
  ran_way {whole = whole} now mid (inr on) stands less settled =
      let way = starts settled in
      record {
        is_open = on.is_open;
        inside = on.inside refl;
        stands = stands;
        began = subst (IsOffice whole) (sym on.committed) way.began;
        alone = λ db may. way.alone db (less db may) ∙ ap (λ (d : Database). d.trees) (sym on.committed);
      }

  -- and the tables of others as they were
  ran_others : (mid : Held S) → RunsTo g (begun old) mid → KeepsOthers (state g old).now (state g mid).now
  ran_others mid (inl same) = others_equal (state g old).now (state g mid).now (ap (λ (h : Held S). (state g h).now) (sym same))
  ran_others mid (inr on) = on.others

  module _ {A X : Type 0} {replies : Vec PartReply X} (mid at : Held S) (change : MergesLists {X = X} g Ready Done counts (begun old) mid (Ok replies)) (r : Result A StoreFault)
      (settles : SettlesBy g mid at r) (cause : HasCleanDisk (state g at) → IfErr r (IsFaultOfCommit g mid))
      (survives : Survives (state g mid) (state g at) (λ db. db ≡ (state g mid).now.trees)) where
    cleaner : HasCleanDisk (state g at) → HasCleanDisk (state g mid)
    cleaner clean = omega (arith, survives.clean, clean)

    cleanest : HasCleanDisk (state g at) → HasCleanDisk (state g old)
    cleanest clean = omega (arith, change.survives.clean, survives.clean, clean)

    limited : at.step_limit ≡ old.step_limit
    limited = survives.limit ∙ change.survives.limit

    merged : {whole : Machine} → HasCleanDisk (state g at) → Settled whole → Ready whole → IsMergedIn g Done counts whole replies.items (begun old) mid
    merged {whole} clean settled ready = change.ok (cleaner clean) whole (stands_at_start settled) ready

    less : {whole : Machine} → HasCleanDisk (state g at) → Settled whole → LeavesNoMore (state g (begun old)) (state g mid)
    less {whole} clean settled db may = elim (change.survives.crash (cleaner clean) db may) [
      | inl was ↦ was
      | inr other ↦ absurd (other whole (stands_at_start settled))
    ]

    -- the transaction after the merge, with the records that it made
    way_of : {whole : Machine} → HasCleanDisk (state g at) → Settled whole → (made : IsMergedIn g Done counts whole replies.items (begun old) mid)
        → IsUnderWay whole (merged_office counts made.last whole) (state g mid)
    way_of {whole} clean settled made = ran_way (merged_office counts made.last whole) mid made.runs made.stands (less clean settled) settled

    -- the commit failed with this error
    failed_at : {whole : Machine} (e : StoreFault) → r ≡ Err e → HasCleanDisk (state g at) → IsMergedIn g Done counts whole replies.items (begun old) mid
        → FailsAtMergeCommit g Done counts whole old e
    failed_at e is clean made = (mid, (replies.items, (made, subst (λ r. IfErr r (IsFaultOfCommit g mid)) is (cause clean))))

    -- the commit was made
    pub merge_carried : {y : A} → r ≡ Ok y → CarriesLists g Ready Done counts old at (Ok replies)
    merge_carried is = record {
      was_clean = cleanest;
      limit = limited;
      room = change.room;
      ok = λ clean whole settled ready.
          let made = merged clean settled ready in
          record {
            last = made.last;
            accepted = made.accepted;
            settled = subst (λ r. OnOk r (IsSettled (merged_office counts made.last whole) (state g at))) is
                (settles.ok clean whole (merged_office counts made.last whole) (way_of clean settled made));
          };
      err = λ clean whole settled ready. tt;
      others = λ clean whole settled ready.
          let made = merged clean settled ready in
          others_still (state g at).now (ran_others mid made.runs)
          (subst (λ r. OnOk r ((state g at).now ≡ (state g mid).now)) is
          (settles.shows clean whole (merged_office counts made.last whole) (way_of clean settled made)));
      of_step = tt;
    }

    -- the commit is in doubt
    pub merge_in_doubt : {Y : Type 0} (e : StoreFault) → r ≡ Err e → CarriesLists {X = Y} g Ready Done counts old at (Err (Uncommitted (InDoubt e)))
    merge_in_doubt e is = record {
      was_clean = cleanest;
      limit = limited;
      room = tt;
      ok = λ clean whole settled ready. tt;
      err = λ clean whole settled ready.
          let made = merged clean settled ready in
          ((replies.items, (made.last, (made.accepted, settles.crash clean whole (merged_office counts made.last whole) (way_of clean settled made)))), failed_at e is clean made);
      others = λ clean whole settled ready. tt;
      of_step = tt;
    }

    -- memory ran out for the commit, and the transaction is taken back
    pub merge_lacks_memory : {B Y : Type 0} (new : Held S) (ended : Result B StoreFault) (error : CarryError) → r ≡ Err Memory → error ≡ failure_of Memory ended
        → TakesBack g at new → (HasCleanDisk (state g new) → OnOk ended (IsEndedFrom (state g at) (state g new)))
        → (HasCleanDisk (state g new) → IfErr ended (IsFaultOfRollBack (state g at) (state g new)))
        → Survives (state g at) (state g new) (λ _. ⊥) → CarriesLists {X = Y} g Ready Done counts old new (Err (Uncommitted error))
    merge_lacks_memory new ended error is same back rolled failed two =
        let was : HasCleanDisk (state g new) → HasCleanDisk (state g at) = λ clean. omega (arith, two.clean, clean) in
        record {
          was_clean = λ clean. cleanest (was clean);
          limit = two.limit ∙ limited;
          room = tt;
          ok = λ clean whole settled ready. tt;
          err = λ clean whole settled ready.
              let made = merged (was clean) settled ready in
              let over : IsBackAt whole (state g new) = elim (settles.memory (was clean) whole (merged_office counts made.last whole) (way_of (was clean) settled made) is) [
                | inl still ↦ back.back clean whole (merged_office counts made.last whole) (inl still)
                | inr gone ↦ back.back clean whole whole (inr gone)
              ] in
              subst (λ e. NotMerged whole new (Uncommitted e)) (sym same)
              (not_merged whole at new Memory ended over (inr (failed_at Memory is (was clean) made)) (rolled clean) (failed clean));
          others = λ clean whole settled ready. tt;
          of_step = tt;
        }
