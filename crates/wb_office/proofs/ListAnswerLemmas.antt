-- What is answered to a merge of lists that readers give, from what a merge of feeds in a transaction makes.
use Rattle.std.proofs.Common.{◌≡◌, ◌⊎◌, ◌∙◌, refl, sym, ap, subst, inl, inr, ℕ, ◌+◌, Bool, true, false, not, nat_le}
use Rattle.std.proofs.Common.{List, Option, Some, None, Result, Ok, Err, Vec}
use Rattle.std.proofs.lemmas.Bool.{both_ways}
use Rattle.std.specs.List.{AllZip}
use Rattle.sqlite_trees.specs.declared.store.Store.{Ghosts}
use Rattle.sqlite.specs.Held.{Held, state}
use Rattle.sqlite.specs.State.{HasCleanDisk, State}
use Rattle.deb_control.specs.Feed.{MayStandAt}
use Rattle.deb_control.specs.FeedState.{FeedState, fresh}
use Rattle.wb_states.specs.declared.counts.Counts.{Counts}
use Rattle.wb_states.specs.declared.refusal.Refusal.{Refusal}
use Rattle.wb_states.specs.declared.refusal.Refusal.TheVariants.{Memory, Spent}
use Rattle.wb_states.specs.declared.reply.PartReply.{PartReply}
use Rattle.wb_states.specs.declared.reply.Reply.TheVariants.{Merged}
use Rattle.wb_states.specs.declared.store_fault.StoreFault.{StoreFault}
use Rattle.wb_states.specs.Limits.{count_limit}
use Rattle.wb_states.specs.Machine.{IsConsistent, Machine}
use Rattle.wb_merge.specs.declared.changes.ArchChanges.{ArchChanges}
use Rattle.wb_merge.specs.Merged.{Records}
use Rattle.wb_step.specs.Step.{Outcome}
use Rattle.wb_archive.specs.declared.merge.PartList.{PartList}
use Rattle.wb_archive.specs.declared.merge_from.ArchList.{ArchList}
use Rattle.wb_archive.specs.Feeds.{IsFeedBreak}
use Rattle.wb_archive.specs.Readers.{IsFeedOf, IsMergeOf, archs_refusal, merge_outcome, outcome_by, refusal_by}
use Rattle.wb_archive.proofs.ReaderLemmas.{feeds-merge, feeds-unread}
use Rattle.wb_store.specs.Finds.{Finds, StaysAs}
use Rattle.wb_store.specs.Opening.{AreCountsOf}
use Rattle.wb_store.specs.Settled.{IsSettled}
use Rattle.wb_store.proofs.OthersLemmas.{others_then}
use Rattle.wb_store.proofs.StaysLemmas.{was_clean}
use Rattle.wb_office.specs.declared.answer.Failure.{Failure}
use Rattle.wb_office.specs.declared.answer.Failure.TheVariants.{Refused, Unread, Uncommitted}
use Rattle.wb_office.specs.declared.carry.CarryError.{CarryError}
use Rattle.wb_office.specs.declared.carry.CarryError.TheVariants.{TakenBack, RollBackFailed, InDoubt}
use Rattle.wb_office.specs.declared.known.Known.{Known}
use Rattle.wb_office.specs.Answers.{merged_answer}
use Rattle.wb_office.specs.ListAnswers.{AreListsLeft, ListsLeaveAs, NotesLists, RespondsLists}
use Rattle.wb_office.specs.MergeCarried.{CarriesLists, IsNotMerged, MergeLeavesAs}
use Rattle.wb_office.specs.MergeLists.{AreListsDone, AreListsNoted, AreListsToRead, IsAcceptedMerge, IsRefusedMerge}
use Rattle.wb_office.specs.MergeLists.{counted, merged_office}
use Rattle.wb_office.specs.Standing.{Knows}
use Rattle.wb_office.proofs.AnswerLemmas.{found, not_found, stays_others}

-- ---- a merge of feeds

module _ {R : Type 0} (remaining : R → Option (List ℕ)) (sources : R) (lists : List (ArchList R)) (feeds : List (PartList FeedState)) where
  -- feeds of which nothing was read can be read into an office
  abbrev pub Ready : Machine → Type 0
  Ready = AreListsToRead MayStandAt (fresh (remaining sources)) feeds

  -- what comes of them
  abbrev pub Done : Machine → List PartReply → Records → Type 0
  Done = AreListsDone MayStandAt IsFeedBreak (fresh (remaining sources)) feeds

  module _ (machine : Machine) (are : AllZip (IsFeedOf remaining machine) lists feeds) where
    -- they can be read
    feeds_ready : Ready machine
    feeds_ready = record { unread = λ place here. (here.0, here.2); are_parts = feeds-unread remaining machine lists feeds are }

    module _ (names : archs_refusal lists ≡ None) (counts : Counts) (own : AreCountsOf machine counts) where
      -- a merge of them that is accepted is one of what the readers give
      merge_accepted : {replies : List PartReply} {last : Records} → IsAcceptedMerge Done counts machine replies last
          → IsMergeOf remaining sources lists machine (Ok (Merged (counts.accepted + 1) replies), merged_office counts last machine)
      merge_accepted {replies} {last} one = feeds-merge remaining machine sources lists feeds last replies _ names are one.done (told ∙ by_replies) where
        full : nat_le count_limit machine.accepted ≡ false
        full = ap (nat_le count_limit) (sym own.1) ∙ one.room

        told : ◌≡◌ {A = Outcome} (Ok (Merged (counts.accepted + 1) replies), merged_office counts last machine) (outcome_by None false machine replies last)
        told = λ i. (Ok (Merged (own.1 i + 1) replies), record machine { records = last; handed = own.0 i; accepted = own.1 i + 1 })

        by_replies : outcome_by None false machine replies last ≡ merge_outcome machine replies last
        by_replies = λ i. outcome_by (sym one.good i) (sym full i) machine replies last

      -- and so is one that is refused
      merge_refused : {refusal : Refusal} → IsRefusedMerge Done counts machine refusal → IsMergeOf remaining sources lists machine (Err refusal, machine)
      merge_refused {refusal} one = feeds-merge remaining machine sources lists feeds one.last one.replies _ names are one.done (by one.why) where
        by : (refusal_by one.replies ≡ Some refusal) ⊎ ((refusal_by one.replies ≡ None) × (refusal ≡ Spent) × (nat_le count_limit counts.accepted ≡ true))
            → ◌≡◌ {A = Outcome} (Err refusal, machine) (merge_outcome machine one.replies one.last)
        by (inl is) = λ i. outcome_by (sym is i) (nat_le count_limit machine.accepted) machine one.replies one.last
        by (inr spent) =
            let full : nat_le count_limit machine.accepted ≡ true = ap (nat_le count_limit) (sym own.1) ∙ spent.2 in
            let told : ◌≡◌ {A = Outcome} (Err refusal, machine) (Err Spent, machine) = λ i. (Err (spent.1 i), machine) in
            told ∙ (λ i. outcome_by (sym spent.0 i) (sym full i) machine one.replies one.last)

      -- where the office is left after one that was not committed
      leaves_as : (s : State) (failure : CarryError) → MergeLeavesAs Done counts machine s failure → ListsLeaveAs remaining sources lists machine s failure
      leaves_as s (TakenBack fault) left = left
      leaves_as s (RollBackFailed fault) left = left
      leaves_as s (InDoubt fault) left = (Merged (counts.accepted + 1) left.0, (merged_office counts left.1.0 machine, (merge_accepted left.1.1.0, left.1.1.1)))

      -- and why it was not made
      lists_left : {S : Type 0} (g : Ghosts S) (old mid new : Held S) → StaysAs g old mid → (failure : Failure) → IsNotMerged g Done counts machine mid new failure
          → AreListsLeft g remaining sources lists machine old new failure
      lists_left g old mid new same (Refused refusal) left = (λ of_machine. merge_refused left.0, left.1)
      lists_left g old mid new same (Unread fault) left = absurd left
      lists_left g old mid new same (Uncommitted failure) left = (leaves_as (state g new) failure left.0, (mid, feeds, counts, same, are, own, left.1))

-- ---- the answer

-- a connection is idle if it says so
pub idle_by : (idle inside : Bool) → idle ≡ not inside → idle ≡ true → inside ≡ false
idle_by idle true is told = absurd (both_ways idle is told)
idle_by idle false is told = refl

-- and otherwise a transaction is under way
pub inside_by : (idle inside : Bool) → idle ≡ not inside → idle ≡ false → inside ≡ true
inside_by idle true is told = refl
inside_by idle false is told = absurd (both_ways idle told is)

module _ {S R : Type 0} (g : Ghosts S) (remaining : R → Option (List ℕ)) (sources : R) (lists : List (ArchList R)) (was_known mid_known : Known) (old mid : Held S) where
  -- the architectures could not be read, and what is known stays
  pub lists_unread : {A : Type 0} {Answer : Machine → A → Type 0} {fault : StoreFault} → Finds {A = A} g Answer old mid (Err fault) → mid_known ≡ was_known
      → RespondsLists g remaining sources lists was_known old mid_known mid (Err (Unread fault))
  lists_unread finds same = record {
    was_clean = was_clean (state g old) (state g mid) finds.survives;
    limit = finds.survives.limit;
    ok = λ clean machine consistent settled was. tt;
    err = λ clean machine consistent settled was. (not_found g old mid finds clean settled, subst (Knows machine) (sym same) was);
    others = λ clean machine consistent settled was. tt;
    of_step = tt;
  }

  module _ {A : Type 0} {Answer : Machine → A → Type 0} {archs : A} (finds : Finds g Answer old mid (Ok archs))
      (learns : (machine : Machine) → Answer machine archs → Knows machine was_known → Knows machine mid_known) where
    -- a transaction is under way
    pub lists_not_idle : {fault : StoreFault} → mid.in_transaction ≡ true → RespondsLists g remaining sources lists was_known old mid_known mid (Err (Unread fault))
    lists_not_idle inside = record {
      was_clean = was_clean (state g old) (state g mid) finds.survives;
      limit = finds.survives.limit;
      ok = λ clean machine consistent settled was. tt;
      err = λ clean machine consistent settled was.
          let at = found g old mid finds clean consistent settled in absurd (both_ways mid.in_transaction at.0.idle inside);
      others = λ clean machine consistent settled was. tt;
      of_step = tt;
    }

    -- memory runs out for the feeds
    pub lists_not_begun : RespondsLists g remaining sources lists was_known old mid_known mid (Err (Refused Memory))
    lists_not_begun = record {
      was_clean = was_clean (state g old) (state g mid) finds.survives;
      limit = finds.survives.limit;
      ok = λ clean machine consistent settled was. tt;
      err = λ clean machine consistent settled was.
          let at = found g old mid finds clean consistent settled in ((λ of_machine. absurd (of_machine refl), at.0), learns machine at.1 was);
      others = λ clean machine consistent settled was. tt;
      of_step = refl;
    }

    module _ (names : archs_refusal lists ≡ None) (feed : FeedState) (begins : feed ≡ fresh (remaining sources)) (feeds : List (PartList FeedState))
        (are : (machine : Machine) → Answer machine archs → Knows machine was_known → AllZip (IsFeedOf remaining machine) lists feeds) (new : Held S) where
      -- what a merge of the feeds in a transaction of its own answers
      abbrev pub Carried : {X : Type 0} → Result (Vec PartReply X) Failure → Type 0
      Carried r = CarriesLists g (AreListsToRead MayStandAt feed feeds) (AreListsDone MayStandAt IsFeedBreak feed feeds) mid_known.counts mid new r

      carried : {X : Type 0} (r : Result (Vec PartReply X) Failure) → Carried r
          → CarriesLists g (Ready remaining sources lists feeds) (Done remaining sources lists feeds) mid_known.counts mid new r
      carried r carries =
          subst (λ (f : FeedState). CarriesLists g (AreListsToRead MayStandAt f feeds) (AreListsDone MayStandAt IsFeedBreak f feeds) mid_known.counts mid new r) begins carries

      -- a merge that is carried out
      pub lists_kept : {X : Type 0} (replies : Vec PartReply X) (known : Known) → Carried (Ok replies)
          → ((machine after : Machine) → Knows machine mid_known → after.archs ≡ machine.archs
          → AreCountsOf after (counted mid_known.counts) → Knows after known)
          → RespondsLists g remaining sources lists was_known old known new
          (Ok (merged_answer mid_known.counts replies.items).reply)
      lists_kept replies known one takes_over = let carries = carried (Ok replies) one in record {
        was_clean = λ clean. was_clean (state g old) (state g mid) finds.survives (carries.was_clean clean);
        limit = carries.limit ∙ finds.survives.limit;
        ok = λ clean machine consistent settled was.
            let at = found g old mid finds (carries.was_clean clean) consistent settled in
            let zip = are machine at.1 was in
            let knows = learns machine at.1 was in
            let made = carries.ok clean machine at.0 (feeds_ready remaining sources lists feeds machine zip) in record {
              after = merged_office mid_known.counts made.last machine;
              is = merge_accepted remaining sources lists feeds machine zip names mid_known.counts knows.counts made.accepted;
              settled = made.settled;
              knows = takes_over machine (merged_office mid_known.counts made.last machine) knows refl (refl, refl);
            };
        err = λ clean machine consistent settled was. tt;
        others = λ clean machine consistent settled was.
            let at = found g old mid finds (carries.was_clean clean) consistent settled in
            others_then (state g old).now (state g mid).now (state g new).now (stays_others g old mid (finds.same (carries.was_clean clean) settled.holds.stands.has))
            (carries.others clean machine at.0 (feeds_ready remaining sources lists feeds machine (are machine at.1 was)));
        of_step = tt;
      }

      -- and what it changed is noted
      pub lists_noted : {X Y : Type 0} (was_noted noted : Option (Vec ArchChanges Y)) (replies : Vec PartReply X) (known : Known)
          → CarriesLists g (AreListsToRead MayStandAt feed feeds)
          (AreListsNoted MayStandAt IsFeedBreak feed feeds was_noted noted) mid_known.counts mid new (Ok replies)
          → ((machine after : Machine) → Knows machine mid_known → after.archs ≡ machine.archs
          → AreCountsOf after (counted mid_known.counts) → Knows after known)
          → HasCleanDisk (state g new) → (machine : Machine) → IsConsistent machine → IsSettled machine (state g old)
          → Knows machine was_known
          → NotesLists g remaining sources lists machine known was_noted noted new (merged_answer mid_known.counts replies.items).reply
      lists_noted {X = X} {Y = Y} was_noted noted replies known one takes_over clean machine consistent settled known_before =
          let carries = subst (λ (f : FeedState). CarriesLists {X = X} g (AreListsToRead MayStandAt f feeds)
          (AreListsNoted {X = Y} MayStandAt IsFeedBreak f feeds was_noted noted) mid_known.counts mid new (Ok replies)) begins one in
          let at = found g old mid finds (carries.was_clean clean) consistent settled in
          let zip = are machine at.1 known_before in
          let knows = learns machine at.1 known_before in
          let made = carries.ok clean machine at.0 (feeds_ready remaining sources lists feeds machine zip) in record {
            merged = record {
              after = merged_office mid_known.counts made.last machine;
              is = merge_accepted remaining sources lists feeds machine zip names mid_known.counts knows.counts
                  (record { done = made.accepted.done.0; good = made.accepted.good; room = made.accepted.room });
              settled = made.settled;
              knows = takes_over machine (merged_office mid_known.counts made.last machine) knows refl (refl, refl);
            };
            notes = made.accepted.done.1;
          }

      -- one that is not
      pub lists_not_kept : {X : Type 0} (failure : Failure) → Carried {X = X} (Err failure)
          → RespondsLists g remaining sources lists was_known old mid_known new (Err failure)
      lists_not_kept {X} failure one = let carries = carried {X = X} (Err failure) one in record {
        was_clean = λ clean. was_clean (state g old) (state g mid) finds.survives (carries.was_clean clean);
        limit = carries.limit ∙ finds.survives.limit;
        ok = λ clean machine consistent settled was. tt;
        err = λ clean machine consistent settled was.
            let at = found g old mid finds (carries.was_clean clean) consistent settled in
            let zip = are machine at.1 was in
            let knows = learns machine at.1 was in (
              lists_left remaining sources lists feeds machine zip names mid_known.counts knows.counts g old mid new
                  (finds.same (carries.was_clean clean) settled.holds.stands.has) failure
                  (carries.err clean machine at.0 (feeds_ready remaining sources lists feeds machine zip)),
              knows,
            );
        others = λ clean machine consistent settled was. tt;
        of_step = carries.of_step;
      }
