-- What an office answers to a merge of lists that readers give, and how it stands then.
use Rattle.std.proofs.Common.{◌≡◌, ◌≢◌, ◌∙◌, refl, sym, ap, subst, inl, inr, ℕ, Bool, true, false, List, [], ◌∷◌}
use Rattle.std.proofs.Common.{Option, Some, None, Result, Ok, Err, Vec, IsTrue, IfOk, IfErr, IfSome}
use Rattle.std.proofs.lemmas.Bool.{both_ways}
use Rattle.std.proofs.lemmas.Result.{IfOk-weaker}
use Rattle.std.specs.List.{AllZip}
use Rattle.sqlite_trees.specs.declared.store.Store.{Ghosts}
use Rattle.sqlite.specs.Held.{Held, state}
use Rattle.sqlite.specs.State.{State, HasCleanDisk}
use Rattle.deb_control.specs.declared.fault.ControlFault.{ControlFault}
use Rattle.deb_control.specs.Feed.{MayStandAt}
use Rattle.deb_control.specs.FeedState.{FeedState, fresh}
use Rattle.deb_text.specs.Lists.{IsIn}
use Rattle.deb_text.specs.Options.{first_some}
use Rattle.wb_states.specs.declared.command.Part.{Part}
use Rattle.wb_states.specs.declared.refusal.Refusal.{Refusal}
use Rattle.wb_states.specs.declared.refusal.Refusal.TheVariants.{BadName, Closed, Memory, RepeatedArch, Store}
use Rattle.wb_states.specs.declared.reply.Reply.{Reply}
use Rattle.wb_states.specs.declared.store_fault.StoreFault.{StoreFault}
use Rattle.wb_states.specs.Forms.{Merge}
use Rattle.wb_states.specs.Machine.{Machine, IsConsistent}
use Rattle.wb_states.specs.Refusals.{IsOfMachine, is_of_store}
use Rattle.wb_merge.specs.declared.changes.ArchChanges.{ArchChanges}
use Rattle.wb_merge.proofs.ChangeLemmas.{notes-made}
use Rattle.wb_step.specs.Checks.{when}
use Rattle.wb_step.specs.Step.{Outcome}
use Rattle.wb_step.proofs.InvariantLemmas.{step-keeps}
use Rattle.wb_archive.specs.declared.merge.PartList.{PartList}
use Rattle.wb_archive.specs.declared.merge_from.ArchList.{ArchList}
use Rattle.wb_archive.specs.Feeds.{IsFeedBreak}
use Rattle.wb_archive.specs.Readers.{IsFeedOf, IsListOf, IsMergeOf, IsPartReadFault, IsReadFault, MayLeave}
use Rattle.wb_archive.specs.Readers.{archs_refusal, has_bad_arch, has_repeated_arch}
use Rattle.wb_archive.proofs.ReaderLemmas.{names-refused, texts-more, texts-step}
use Rattle.wb_store.specs.Settled.{IsBackAt, IsSettled, LeavesEither}
use Rattle.wb_store.proofs.SettledLemmas.{settled_back}
use Rattle.wb_office.specs.declared.answer.Failure.{Failure}
use Rattle.wb_office.specs.declared.answer.Failure.TheVariants.{Refused, Unread, Uncommitted}
use Rattle.wb_office.specs.declared.carry.CarryError.{CarryError}
use Rattle.wb_office.specs.declared.carry.CarryError.TheVariants.{TakenBack, RollBackFailed, InDoubt}
use Rattle.wb_office.specs.declared.known.Known.{Known}
use Rattle.wb_office.specs.Applies.{CannotGoOn, Ends, refusal_for}
use Rattle.wb_office.specs.AppliesLists.{AppliesLists, AreListsApplied, AreListsRefused, HasListsNoted}
use Rattle.wb_office.specs.Failed.{HasFailed}
use Rattle.wb_office.specs.ListAnswers.{AreListsLeft, ListsLeaveAs, NotesLists, RespondsLists}
use Rattle.wb_office.specs.MergeLists.{AreListsDone}
use Rattle.wb_office.specs.Standing.{Knows, LeavesOne, StandsAt}
use Rattle.wb_office.proofs.ApplyLemmas.{at_err, either_of, if_err, merge_not_taken_back, must_not_go_on, none_opens}
use Rattle.wb_office.proofs.ApplyLemmas.{not_closed_by, office_over, open_or_shut, same_err, settled_at, stays_shut}

-- ---- the state after a merge

-- a merge of what readers give leaves a consistent office consistent
merge_keeps : {R : Type 0} {remaining : R → Option (List ℕ)} {sources : R} {lists : List (ArchList R)} {machine : Machine} {outcome : Outcome} → IsConsistent machine
    → IsMergeOf remaining sources lists machine outcome → IsConsistent outcome.1
merge_keeps {remaining = remaining} {sources = sources} {lists = lists} {machine = machine} {outcome = outcome} consistent one =
    let s = texts-step (IsReadFault remaining sources) (IsPartReadFault remaining lists) one.text one.parts machine outcome one.answers in
    subst IsConsistent (sym s.left) (step-keeps machine (Merge one.text s.others) tt consistent)

-- the names of the architectures are refused neither for want of memory nor for the store
names_kind : (is_bad is_repeated : Bool) (refusal : Refusal)
    → first_some (when is_bad BadName ∷ when is_repeated RepeatedArch ∷ []) ≡ Some refusal
    → is_of_store refusal ≡ false
names_kind true is_repeated refusal is = let same : BadName ≡ refusal = cc in ap is_of_store (sym same)
names_kind false true refusal is = let same : RepeatedArch ≡ refusal = cc in ap is_of_store (sym same)
names_kind false false refusal is = cc

some_is : (a b : Refusal) → ◌≡◌ {A = Option Refusal} (Some a) (Some b) → a ≡ b
some_is a b is = cc

store_is_no_memory : {fault : StoreFault} → Store fault ≢ Memory
store_is_no_memory is = cc

-- ---- a merge

-- the names of the architectures are refused, and nothing is done
pub names_not_applied : {S R : Type 0} (g : Ghosts S) (remaining : R → Option (List ℕ)) (sources : R) (lists : List (ArchList R)) (was_closed : Bool) (known : Known) (held : Held S)
    → was_closed ≡ false → (refusal : Refusal) → archs_refusal lists ≡ Some refusal → (r : Result Reply Refusal) → r ≡ Err refusal
    → AppliesLists g remaining sources lists was_closed known held was_closed known held r
names_not_applied g remaining sources lists was_closed known held opened refusal refused r given = subst (AppliesLists g remaining sources lists was_closed known held was_closed known held) (sym given) (record {
  was_clean = λ clean. clean;
  limit = refl;
  shut = λ closed. absurd (both_ways was_closed opened closed);
  stands = λ _. record {
    ok = tt;
    never = λ is. both_ways (is_of_store refusal) of_state (ap is_of_store (same_err is));
    ends = λ of_store. absurd (both_ways (is_of_store refusal) of_state of_store);
    opens = λ _ _ closed. both_ways was_closed opened closed;
  };
  names = λ _ other is. (ap Err (some_is refusal other (sym refused ∙ is)), opened, refl, refl);
  reply = λ clean machine stands. tt;
  others = λ clean machine stands. tt;
  refused = λ clean machine stands _. (
    record {
      machines = λ other no_store. (names-refused remaining sources lists machine refusal refused, opened);
      back = λ no_store. stands.back;
      is_open = λ _. stands.is_open opened;
      ends = λ of_store. absurd (both_ways (is_of_store refusal) of_state of_store);
      left = (machine, (inl refl, either_of machine (state g held) stands.back));
    },
    stands.knows,
  );
  cause = λ clean machine stands _. (
    Refused refusal,
    held,
    ((λ of_machine. names-refused remaining sources lists machine refusal refused), settled_at stands opened),
    refl,
    λ none closed. absurd (both_ways was_closed opened closed),
    λ failed. absurd (cc (failed.1)),
    λ other. refl,
  );
})
  where
    of_state : is_of_store refusal ≡ false
    of_state = names_kind (has_bad_arch lists) (has_repeated_arch lists) refusal refused

module _ {S R : Type 0} (g : Ghosts S) (remaining : R → Option (List ℕ)) (sources : R) (lists : List (ArchList R)) where
  module _ (machine : Machine) where
    -- a call failed that left the office as it was
    lists_back : (new : Held S) (fault : StoreFault) (refusal : Refusal) (is_closed : Bool) → refusal ≡ refusal_for fault → IsBackAt machine (state g new)
        → (is_closed ≡ false → IsTrue (state g new).is_open) → (is_of_store refusal ≡ true → is_closed ≡ true)
        → AreListsRefused g remaining sources lists machine is_closed new refusal
    lists_back new fault refusal is_closed told back is_open ends = record {
      machines = λ other no_store. absurd (none_opens fault told no_store other);
      back = λ no_store. back;
      is_open = is_open;
      ends = ends;
      left = (machine, (inl refl, either_of machine (state g new) back));
    }

    -- how a merge is refused after a failure
    lists_refused : (old at new : Held S) (is_closed : Bool) (failure : Failure) (refusal : Refusal) → HasCleanDisk (state g new) → Ends g failure at new refusal is_closed
        → AreListsLeft g remaining sources lists machine old at failure → AreListsRefused g remaining sources lists machine is_closed new refusal
    lists_refused old at new is_closed (Refused other) refusal clean ends left =
        let back = ends.back clean machine (settled_back (state g at) left.1) in record {
          machines = λ no_memory no_store. (
            subst (λ (r : Refusal). IsMergeOf remaining sources lists machine (Err r, machine)) (sym ends.told) (left.0 (λ none. no_memory (ends.told ∙ none))),
            ends.opens no_store no_memory,
          );
          back = λ no_store. back;
          is_open = λ _. subst (λ (h : Held S). IsTrue (state g h).is_open) (sym (ends.is_open clean)) left.1.is_open;
          ends = ends.ends;
          left = (machine, (inl refl, either_of machine (state g new) back));
        }
    lists_refused old at new is_closed (Unread fault) refusal clean ends left =
        lists_back new fault refusal is_closed ends.told (ends.back clean machine left.1) (ends.is_open clean) ends.ends
    lists_refused old at new is_closed (Uncommitted (TakenBack fault)) refusal clean ends left =
        lists_back new fault refusal is_closed ends.told (ends.back clean machine left.0) (ends.is_open clean) ends.ends
    lists_refused old at new is_closed (Uncommitted (RollBackFailed fault)) refusal clean ends left =
        lists_back new fault refusal is_closed ends.told (ends.back clean machine left.0) (ends.is_open clean) ends.ends
    lists_refused old at new is_closed (Uncommitted (InDoubt fault)) refusal clean ends left =
        let same = ends.same (λ none. store_is_no_memory (sym ends.told ∙ none)) in record {
          machines = λ no_memory no_store. absurd (both_ways (is_of_store refusal) no_store (ap is_of_store ends.told));
          back = λ no_store. absurd (both_ways (is_of_store refusal) no_store (ap is_of_store ends.told));
          is_open = λ not_closed. absurd (both_ways is_closed not_closed (ends.ends (ap is_of_store ends.told)));
          ends = ends.ends;
          left = (left.0.1.0, (inr (left.0.0, left.0.1.1.0), subst (λ (h : Held S). LeavesEither machine left.0.1.0 (state g h)) (sym same) left.0.1.1.1));
        }

  module _ (was_closed : Bool) (was_known : Known) (old : Held S) (opened : was_closed ≡ false) (good : archs_refusal lists ≡ None) where
    no_names : (refusal : Refusal) → archs_refusal lists ≡ Some refusal → ⊥
    no_names refusal is = none_is_no_some refusal (sym good ∙ is)
      where
        none_is_no_some : (refusal : Refusal) → ¬ ◌≡◌ {A = Option Refusal} None (Some refusal)
        none_is_no_some refusal is = cc

    -- a reply leaves the office open at the state after the merge
    pub lists_applied : (new : Held S) (known : Known) (reply : Reply) → RespondsLists g remaining sources lists was_known old known new (Ok reply)
        → AppliesLists g remaining sources lists was_closed was_known old was_closed known new (Ok reply)
    lists_applied new known reply responds = record {
      was_clean = responds.was_clean;
      limit = responds.limit;
      shut = λ closed. absurd (both_ways was_closed opened closed);
      stands = λ _. record { ok = λ closed. both_ways was_closed opened closed; never = λ is. cc; ends = tt; opens = tt };
      names = λ _ other is. absurd (no_names other is);
      reply = λ clean machine stands.
          let made = responds.ok clean machine stands.consistent (settled_at stands opened) stands.knows in record {
            after = made.after;
            is = made.is;
            stands = record {
              consistent = merge_keeps stands.consistent made.is;
              knows = made.knows;
              back = settled_back (state g new) made.settled;
              is_open = λ _. made.settled.is_open;
            };
            opened = opened;
          };
      others = λ clean machine stands. responds.others clean machine stands.consistent (settled_at stands opened) stands.knows;
      refused = λ clean machine stands _. tt;
      cause = λ clean machine stands _. tt;
    }

    -- and what it changed is known, if it was noted
    pub lists_applied_noted : {X : Type 0} (start noted : Option (Vec ArchChanges X)) (new : Held S) (known : Known)
        (reply : Reply) → IfSome start (λ begun. begun.items ≡ [])
        → (HasCleanDisk (state g new) → (machine : Machine) → IsConsistent machine → IsSettled machine (state g old)
        → Knows machine was_known → NotesLists g remaining sources lists machine known start noted new reply)
        → HasCleanDisk (state g new) → (machine : Machine) → StandsAt machine was_closed was_known (state g old)
        → HasListsNoted g remaining sources lists machine was_closed known noted new reply
    lists_applied_noted start noted new known reply begun responds clean machine stands =
        let told = responds clean machine stands.consistent (settled_at stands opened) stands.knows in
        record {
          applied = record {
            after = told.merged.after;
            is = told.merged.is;
            stands = record {
              consistent = merge_keeps stands.consistent told.merged.is;
              knows = told.merged.knows;
              back = settled_back (state g new) told.merged.settled;
              is_open = λ _. told.merged.settled.is_open;
            };
            opened = opened;
          };
          are = notes-made start noted machine.records told.merged.after.records begun told.notes;
        }

    -- after a failure the office is left as the end of it says
    pub lists_not_applied : (at new : Held S) (is_closed : Bool) (known : Known) (failure : Failure) (refusal : Refusal)
        → RespondsLists g remaining sources lists was_known old known at (Err failure) → Ends g failure at new refusal is_closed
        → AppliesLists g remaining sources lists was_closed was_known old is_closed known new (Err refusal)
    lists_not_applied at new is_closed known failure refusal responds ends = record {
      was_clean = λ clean. responds.was_clean (ends.was_clean clean);
      limit = ends.limit ∙ responds.limit;
      shut = λ closed. absurd (both_ways was_closed opened closed);
      stands = λ _. record {
        ok = tt;
        never = λ is. not_closed_by failure responds.of_step (sym ends.told ∙ same_err is);
        ends = ends.ends;
        opens = λ no_store other closed. both_ways is_closed (ends.opens no_store other) closed;
      };
      names = λ _ other is. absurd (no_names other is);
      reply = λ clean machine stands. tt;
      others = λ clean machine stands. tt;
      refused = λ clean machine stands _.
          let left = responds.err (ends.was_clean clean) machine stands.consistent (settled_at stands opened) stands.knows in
          (lists_refused machine old at new is_closed failure refusal clean ends left.0, left.1);
      cause = λ clean machine stands _.
          (failure, at, (responds.err (ends.was_clean clean) machine stands.consistent (settled_at stands opened) stands.knows).0, ends.told, ends.closes clean, ends.must, ends.same);
    }

-- ---- why the store failed, of readers by what is known of their bytes

-- each list, with what is known of the bytes of its reader
abbrev known_of : {R : Type 0} → (R → Option (List ℕ)) → List (ArchList R) → List (ArchList (Option (List ℕ)))
known_of remaining [] = []
known_of remaining (list ∷ lists) = record { arch = list.arch; packages = remaining list.packages } ∷ known_of remaining lists

module _ {R : Type 0} (remaining : R → Option (List ℕ)) where
  -- the same parts of a merge are their parts
  parts_known : (lists : List (ArchList R)) (parts : List Part) → AllZip (IsListOf remaining) lists parts → AllZip (IsListOf (λ known. known)) (known_of remaining lists) parts
  parts_known [] [] zip = tt
  parts_known [] (part ∷ parts) zip = absurd zip
  parts_known (list ∷ lists) [] zip = absurd zip
  parts_known (list ∷ lists) (part ∷ parts) zip = (record { arch = zip.0.arch; packages = zip.0.packages }, parts_known lists parts zip.1)

  -- the same feeds are theirs
  feeds_known : (machine : Machine) (lists : List (ArchList R)) (feeds : List (PartList FeedState)) → AllZip (IsFeedOf remaining machine) lists feeds
      → AllZip (IsFeedOf (λ known. known) machine) (known_of remaining lists) feeds
  feeds_known machine [] [] zip = tt
  feeds_known machine [] (feed ∷ feeds) zip = absurd zip
  feeds_known machine (list ∷ lists) [] zip = absurd zip
  feeds_known machine (list ∷ lists) (feed ∷ feeds) zip = (record { arch = zip.0.arch; words = zip.0.words; packages = zip.0.packages }, feeds_known machine lists feeds zip.1)

  -- a list is among them
  in_known : (list : ArchList R) (lists : List (ArchList R)) → IsIn list lists → IsIn (record { arch = list.arch; packages = remaining list.packages }) (known_of remaining lists)
  in_known list [] there = absurd there
  in_known list (other ∷ lists) (inl is) = inl (ap (λ (l : ArchList R). record { arch = l.arch; packages = remaining l.packages }) is)
  in_known list (other ∷ lists) (inr there) = inr (in_known list lists there)

  -- a list that could not be read on is one of them
  fault_known : (lists : List (ArchList R)) (of : Part) (fault : ControlFault) → IsPartReadFault remaining lists of fault
      → IsPartReadFault (λ (known : Option (List ℕ)). known) (known_of remaining lists) of fault
  fault_known lists of fault broke = (record { arch = broke.0.arch; packages = remaining broke.0.packages }, in_known broke.0 lists broke.1, broke.2, broke.3)

  module _ (sources : R) (lists : List (ArchList R)) (machine : Machine) where
    merge_known : {outcome : Outcome} → IsMergeOf remaining sources lists machine outcome → IsMergeOf (λ known. known) (remaining sources) (known_of remaining lists) machine outcome
    merge_known {outcome} one = record {
      text = one.text;
      is = one.is;
      parts = one.parts;
      are = parts_known lists one.parts one.are;
      answers = texts-more (IsReadFault remaining sources) (IsReadFault remaining sources) (IsPartReadFault remaining lists)
          (IsPartReadFault (λ (known : Option (List ℕ)). known) (known_of remaining lists)) (λ fault broke. broke) (fault_known lists) one.text one.parts machine outcome one.answers;
    }

    leaves_known : (s : State) (failure : CarryError) → ListsLeaveAs remaining sources lists machine s failure
        → ListsLeaveAs (λ known. known) (remaining sources) (known_of remaining lists) machine s failure
    leaves_known s (TakenBack fault) left = left
    leaves_known s (RollBackFailed fault) left = left
    leaves_known s (InDoubt fault) left = (left.0, (left.1.0, (merge_known left.1.1.0, left.1.1.1)))

    -- a failure leaves the office as one of a merge of what is known
    left_known : {S : Type 0} (g : Ghosts S) (old new : Held S) (failure : Failure) → AreListsLeft g remaining sources lists machine old new failure
        → AreListsLeft g (λ known. known) (remaining sources) (known_of remaining lists) machine old new failure
    left_known g old new (Refused refusal) left = ((λ of_machine. merge_known (left.0 of_machine)), left.1)
    left_known g old new (Unread fault) left = left
    left_known g old new (Uncommitted failure) left = (
      leaves_known (state g new) failure left.0,
      (left.1.0, left.1.1, left.1.2, left.1.3, feeds_known machine lists left.1.1 left.1.4, left.1.5, left.1.6),
    )

-- ---- the office that merges lists

module _ {S R : Type 0} {g : Ghosts S} {remaining : R → Option (List ℕ)} {sources : R} {lists : List (ArchList R)} {was_closed : Bool} {was_known : Known} {old : Held S}
    {is_closed : Bool} {known : Known} {new : Held S} {r : Result Reply Refusal}
    (h : AppliesLists g remaining sources lists was_closed was_known old is_closed known new r) (machine : Machine) (clean : HasCleanDisk (state g new))
    (stands : StandsAt machine was_closed was_known (state g old)) where
  still : was_closed ≡ true → StandsAt machine is_closed known (state g new)
  still closed = let s = h.shut closed in stays_shut g stands s.1 s.2 s.3

  refused_with : (refusal : Refusal) → r ≡ Err refusal → was_closed ≡ false → AreListsRefused g remaining sources lists machine is_closed new refusal × Knows machine known
  refused_with refusal is opened =
      at_err (λ refusal. AreListsRefused g remaining sources lists machine is_closed new refusal × Knows machine known) r refusal is (h.refused clean machine stands opened)

  stands_on : (refusal : Refusal) → AreListsRefused g remaining sources lists machine is_closed new refusal × Knows machine known → IsBackAt machine (state g new)
      → StandsAt machine is_closed known (state g new)
  stands_on refusal left back = record { consistent = stands.consistent; knows = left.1; back = back; is_open = left.0.is_open }

  pub lists_reply : IfOk r (λ reply. (after : Machine) × (IsMergeOf remaining sources lists machine (Ok reply, after) × StandsAt after is_closed known (state g new)))
  lists_reply = IfOk-weaker r _ _ (λ reply (made : AreListsApplied g remaining sources lists machine is_closed known new reply). (made.after, (made.is, made.stands))) (h.reply clean machine stands)

  pub lists_are_refused : IfErr r (λ refusal. IsOfMachine refusal → is_of_store refusal ≡ false
      → IsMergeOf remaining sources lists machine (Err refusal, machine) × StandsAt machine is_closed known (state g new))
  lists_are_refused = if_err r (λ refusal is of_machine no_store. open_or_shut was_closed
      (λ closed. absurd (both_ways (is_of_store refusal) no_store (ap is_of_store (same_err (sym is ∙ (h.shut closed).0)))))
      (λ opened. let left = refused_with refusal is opened in ((left.0.machines of_machine no_store).0, stands_on refusal left (left.0.back no_store))))

  pub lists_memory : r ≡ Err Memory → StandsAt machine is_closed known (state g new)
  lists_memory is = open_or_shut was_closed still (λ opened. let left = refused_with Memory is opened in stands_on Memory left (left.0.back refl))

  pub lists_closed : r ≡ Err Closed → (is_closed ≡ true) × StandsAt machine is_closed known (state g new)
  lists_closed is = open_or_shut was_closed (λ closed. ((h.shut closed).1, still closed)) (λ opened. absurd ((h.stands opened).never is))

  -- it is closed out of memory only if its connection cannot be used on
  pub lists_cause : was_closed ≡ false → r ≡ Err Memory → is_closed ≡ true → CannotGoOn g new
  lists_cause opened is closed =
      let why = at_err _ r Memory is (h.cause clean machine stands opened) in
      must_not_go_on g why.1 new is_closed why.0 (λ e failed.
      let left = subst (AreListsLeft g remaining sources lists machine old why.1) failed why.2 in
      merge_not_taken_back g (AreListsDone MayStandAt IsFeedBreak (fresh (remaining sources)) left.1.1) left.1.2 machine left.1.0 why.1 e left.1.6) why.5 (why.4 refl closed)

  -- the store failed with the fault that is told
  lists_failed : (fault : StoreFault) → r ≡ Err (Store fault) → was_closed ≡ false → HasFailed g machine fault new
  lists_failed fault is opened =
      let why = at_err _ r (Store fault) is (h.cause clean machine stands opened) in
      let same : new ≡ why.1 = why.6 (λ none. store_is_no_memory none) in
      inr (inr (
        remaining sources,
        known_of remaining lists,
        old,
        office_over g stands opened,
        why.0,
        left_known remaining sources lists machine g old new why.0
            (subst (λ (held : Held S). AreListsLeft g remaining sources lists machine old held why.0) (sym same) why.2),
        why.3,
      ))

  pub lists_store : (fault : StoreFault) → r ≡ Err (Store fault) → (after : Machine)
      × (MayLeave remaining sources lists machine after × (LeavesOne machine after is_closed (state g new) × HasFailed g machine fault new))
  lists_store fault is = open_or_shut was_closed
      (λ closed. absurd (store_is_not_closed (sym is ∙ (h.shut closed).0)))
      (λ opened. let left = refused_with (Store fault) is opened in
      (left.0.left.0, (left.0.left.1.0, (record { closed = left.0.ends refl; left = left.0.left.1.1 }, lists_failed fault is opened))))
    where
      store_is_not_closed : {fault : StoreFault} → ¬ ◌≡◌ {A = Result Reply Refusal} (Err (Store fault)) (Err Closed)
      store_is_not_closed is = cc
