-- What is answered to a merge of lists in memory, from what a merge of lists in a transaction makes.
use Rattle.std.proofs.Common.{◌≡◌, ◌⊎◌, ◌∙◌, refl, sym, ap, subst, inl, inr, ℕ, ◌+◌, Bool, true, false, nat_le, List}
use Rattle.std.proofs.Common.{[], ◌∷◌, Option, Some, None, Result, Ok, Err, Vec}
use Rattle.std.specs.List.{AllZip}
use Rattle.std.specs.FinMap as map
use Rattle.sqlite_trees.specs.declared.store.Store.{Ghosts}
use Rattle.sqlite.specs.Held.{Held, state}
use Rattle.sqlite.specs.State.{HasCleanDisk, State}
use Rattle.deb_control.specs.declared.fault.ControlFault.{ControlFault}
use Rattle.deb_control.specs.Lines.{lines_of, paragraphs_in}
use Rattle.deb_control.specs.Paragraphs.{ReaderState, begun}
use Rattle.deb_text.specs.Options.{first_some}
use Rattle.deb_text.proofs.OptionLemmas.{first_some-None}
use Rattle.wb_states.specs.declared.arch.OsCpu.{OsCpu}
use Rattle.wb_states.specs.declared.command.Command.TheVariants as of
use Rattle.wb_states.specs.declared.command.Merge.{Merge}
use Rattle.wb_states.specs.declared.command.Part.{Part}
use Rattle.wb_states.specs.declared.counts.Counts.{Counts}
use Rattle.wb_states.specs.declared.refusal.Refusal.{Refusal}
use Rattle.wb_states.specs.declared.refusal.Refusal.TheVariants.{Memory, Spent}
use Rattle.wb_states.specs.declared.reply.PartReply.{PartReply}
use Rattle.wb_states.specs.declared.reply.Reply.TheVariants.{Merged}
use Rattle.wb_states.specs.declared.store_fault.StoreFault.{StoreFault}
use Rattle.wb_states.specs.Limits.{count_limit}
use Rattle.wb_states.specs.Machine.{Machine}
use Rattle.wb_merge.specs.declared.changes.ArchChanges.{ArchChanges}
use Rattle.wb_merge.specs.Changes.{NotesChanges}
use Rattle.wb_merge.specs.Merged.{Records}
use Rattle.wb_step.specs.Checks.{first_refusal, text_checks, text_refusal, when}
use Rattle.wb_step.specs.Parts.{parts_refusal}
use Rattle.wb_step.specs.Step.{Outcome, outcome, step}
use Rattle.wb_step.proofs.PartLemmas.{first_refusal-Merge}
use Rattle.wb_step.proofs.PassLemmas.{when-None}
use Rattle.wb_step.proofs.StepLemmas.{step-refused}
use Rattle.wb_step.proofs.WantLemmas.{want-text}
use Rattle.wb_archive.specs.declared.merge.PartList.{PartList}
use Rattle.wb_archive.specs.Merges.{BeginsAt, BreaksFor, IsPartOf}
use Rattle.wb_archive.specs.Readers.{refusal_by}
use Rattle.wb_archive.proofs.KnownListLemmas.{begins-unread, merge-known, parts-unread}
use Rattle.wb_archive.proofs.MergeLemmas.{parts-are}
use Rattle.wb_archive.proofs.ReaderLemmas.{refusal_by-parts}
use Rattle.wb_archive.proofs.StopLemmas.{if-err-map, if-ok-map}
use Rattle.wb_store.specs.Opening.{AreCountsOf}
use Rattle.wb_store.specs.Settled.{IsSettled, LeavesEither}
use Rattle.wb_office.specs.declared.answer.Failure.{Failure}
use Rattle.wb_office.specs.declared.answer.Failure.TheVariants.{Refused, Unread, Uncommitted}
use Rattle.wb_office.specs.declared.carry.CarryError.{CarryError}
use Rattle.wb_office.specs.declared.carry.CarryError.TheVariants.{TakenBack, RollBackFailed, InDoubt}
use Rattle.wb_office.specs.Answers.{Answers, AreOf, IsLeft, merged_answer}
use Rattle.wb_office.specs.Carried.{LeavesAs}
use Rattle.wb_office.specs.MergeCarried.{CarriesLists, FailsAsMerge, FailsAtMergeCommit, IsNotMerged, IsCarriedMerge}
use Rattle.wb_office.specs.MergeCarried.{MergeEndsFor, MergeLeavesAs}
use Rattle.wb_office.specs.MergeLists.{AreListsDone, AreListsNoted, AreListsToRead, AreTextsDone, IsAcceptedMerge}
use Rattle.wb_office.specs.MergeLists.{IsMergedIn, IsRefusedMerge, merged_office}
use Rattle.wb_office.specs.PartLists.{Stands}

-- ---- lists in memory

-- a reader of a text in memory never breaks
abbrev pub NeverBreaks : ReaderState → ControlFault → Type 0
NeverBreaks reader fault = ⊥

module _ (sources : ReaderState) (lists : List (PartList ReaderState)) (text : List ℕ) (parts : List Part) (machine : Machine)
    (is : sources ≡ begun (paragraphs_in (lines_of text))) (zip : AllZip (IsPartOf (BeginsAt Stands) machine) lists parts) where
  begins : BeginsAt Stands sources text
  begins place here = sym here ∙ is

  -- they are to be read
  texts_to_read : AreListsToRead Stands sources lists machine
  texts_to_read = record { unread = begins-unread Stands sources text begins; are_parts = parts-unread Stands machine lists parts zip }

  -- what comes of them is what their texts say
  texts_done : (replies : List PartReply) (last : Records) → AreListsDone Stands NeverBreaks sources lists machine replies last → AreTextsDone text parts machine replies last
  texts_done replies last done =
      let merge = merge-known Stands NeverBreaks machine (λ records. records ≡ last) sources lists machine.records replies text parts begins zip done in
      let both = parts-are (NeverBreaks sources) (BreaksFor NeverBreaks lists) (λ fault none. none) (λ of fault none. none.3) machine text merge.bad parts machine.records merge.done.last replies
      merge.read merge.done.done in
      record { replies_are = both.0; last_is = sym merge.done.holds ∙ both.1 }

-- ---- what more is known of a merge that was carried out, or was not

module _ {S : Type 0} (g : Ghosts S) (Done Is : Machine → List PartReply → Records → Type 0) (counts : Counts) (machine : Machine)
    (gives : (replies : List PartReply) (last : Records) → Done machine replies last → Is machine replies last) where
  accepted_as : {replies : List PartReply} {last : Records} → IsAcceptedMerge Done counts machine replies last → IsAcceptedMerge Is counts machine replies last
  accepted_as {replies = replies} {last = last} one = record { done = gives replies last one.done; good = one.good; room = one.room }

  refused_as : {refusal : Refusal} → IsRefusedMerge Done counts machine refusal → IsRefusedMerge Is counts machine refusal
  refused_as one = record { replies = one.replies; last = one.last; done = gives one.replies one.last one.done; why = one.why }

  carried_as : {replies : List PartReply} {new : Held S} → IsCarriedMerge g Done counts machine replies new → IsCarriedMerge g Is counts machine replies new
  carried_as one = record { last = one.last; accepted = accepted_as one.accepted; settled = one.settled }

  merged_in_as : {replies : List PartReply} {old new : Held S} → IsMergedIn g Done counts machine replies old new → IsMergedIn g Is counts machine replies old new
  merged_in_as one = record { last = one.last; accepted = accepted_as one.accepted; runs = one.runs; stands = one.stands }

  commit_as : (old : Held S) {fault : StoreFault} → FailsAtMergeCommit g Done counts machine old fault → FailsAtMergeCommit g Is counts machine old fault
  commit_as old one = (one.0, (one.1.0, (merged_in_as one.1.1.0, one.1.1.1)))

  fails_as : (old : Held S) {fault : StoreFault} → FailsAsMerge g Done counts machine old fault → FailsAsMerge g Is counts machine old fault
  fails_as old (inl one) = inl one
  fails_as old (inr one) = inr (commit_as old one)

  ends_as : (old new : Held S) (failure : CarryError) → MergeEndsFor g Done counts machine old new failure → MergeEndsFor g Is counts machine old new failure
  ends_as old new (TakenBack fault) one = (fails_as old one.0, one.1)
  ends_as old new (RollBackFailed fault) (inl one) = inl (fails_as old one.0, one.1)
  ends_as old new (RollBackFailed fault) (inr one) = inr (one.0, (refused_as one.1.0, one.1.1))
  ends_as old new (InDoubt fault) one = commit_as old one

  leaves_as : (s : State) (failure : CarryError) → MergeLeavesAs Done counts machine s failure → MergeLeavesAs Is counts machine s failure
  leaves_as s (TakenBack fault) one = one
  leaves_as s (RollBackFailed fault) one = one
  leaves_as s (InDoubt fault) one = (one.0, (one.1.0, (accepted_as one.1.1.0, one.1.1.1)))

  not_merged_as : (old new : Held S) (failure : Failure) → IsNotMerged g Done counts machine old new failure → IsNotMerged g Is counts machine old new failure
  not_merged_as old new (Refused refusal) one = (refused_as one.0, one.1)
  not_merged_as old new (Unread fault) one = absurd one
  not_merged_as old new (Uncommitted failure) one = (leaves_as (state g new) failure one.0, ends_as old new failure one.1)

-- a merge that was carried out, or was not, of which more is known
pub carries_as : {S X : Type 0} (g : Ghosts S) (Ready : Machine → Type 0)
    (Done Is : Machine → List PartReply → Records → Type 0) (counts : Counts) (old new : Held S)
    (result : Result (Vec PartReply X) Failure)
    → ((machine : Machine) (replies : List PartReply) (last : Records) → Done machine replies last → Is machine replies last)
    → CarriesLists g Ready Done counts old new result → CarriesLists g Ready Is counts old new result
carries_as {X = X} g Ready Done Is counts old new result gives carries = record {
  was_clean = carries.was_clean;
  limit = carries.limit;
  room = carries.room;
  ok = λ clean machine settled ready.
      if-ok-map _ _ result (λ (replies : Vec PartReply X) one. carried_as g Done Is counts machine (gives machine) one)
      (carries.ok clean machine settled ready);
  err = λ clean machine settled ready.
      if-err-map _ _ result (λ (failure : Failure) one. not_merged_as g Done Is counts machine (gives machine) old new failure one)
      (carries.err clean machine settled ready);
  others = carries.others;
  of_step = carries.of_step;
}

-- ---- the step of a merge

module _ (merge : Merge) (texts : text_refusal (of.Merge merge) ≡ None) (machine : Machine) where
  -- the first refusal of a merge whose texts are not refused
  first_is : (refused : Option Refusal) (is_full : Bool) → parts_refusal machine merge.sources merge.parts ≡ refused → nat_le count_limit machine.accepted ≡ is_full
      → first_refusal machine (of.Merge merge) ≡ first_some (refused ∷ when is_full Spent ∷ [])
  unfolding text_refusal
  first_is refused is_full why full =
      let none = first_some-None (text_checks (of.Merge merge)) texts in
      first_refusal-Merge machine merge.sources merge.parts false false refused is_full (when-None _ _ none.0) (when-None _ _ none.1.1.1.1.1.1.0) why full

  module _ (counts : Counts) (own : AreCountsOf machine counts) where
    -- the step of a merge that is accepted
    step_is : {replies : List PartReply} {last : Records} → IsAcceptedMerge (AreTextsDone merge.sources merge.parts) counts machine replies last
        → step machine (of.Merge merge) ≡ (Ok (Merged (counts.accepted + 1) replies), merged_office counts last machine)
    unfolding step
    step_is one =
        ap (λ (first : Option Refusal). outcome first None machine (of.Merge merge))
        (first_is None false (sym (refusal_by-parts machine merge.sources merge.parts machine.records) ∙ ap refusal_by (sym one.done.replies_are) ∙ one.good)
        (ap (nat_le count_limit) (sym own.1) ∙ one.room))
        ∙ (λ i. (
          Ok (Merged (sym own.1 i + 1) (sym one.done.replies_are i)),
          record machine { records = sym one.done.last_is i; handed = sym own.0 i; accepted = sym own.1 i + 1 },
        ))

    -- one that is refused
    step_not : {refusal : Refusal} → IsRefusedMerge (AreTextsDone merge.sources merge.parts) counts machine refusal → (step machine (of.Merge merge)).0 ≡ Err refusal
    step_not {refusal = refusal} one = ap (λ (o : Outcome). o.0) (step-refused machine (of.Merge merge) refusal (by one.why)) where
      by_parts : parts_refusal machine merge.sources merge.parts ≡ refusal_by one.replies
      by_parts = sym (refusal_by-parts machine merge.sources merge.parts machine.records) ∙ ap refusal_by (sym one.done.replies_are)

      by : (refusal_by one.replies ≡ Some refusal) ⊎ ((refusal_by one.replies ≡ None) × (refusal ≡ Spent) × (nat_le count_limit counts.accepted ≡ true))
          → first_refusal machine (of.Merge merge) ≡ Some refusal
      by (inl is) = first_is (Some refusal) (nat_le count_limit machine.accepted) (by_parts ∙ is) refl
      by (inr spent) = first_is None true (by_parts ∙ spent.0) (ap (nat_le count_limit) (sym own.1) ∙ spent.2) ∙ ap Some (sym spent.1)

-- ---- the answer

module _ {S X : Type 0} (g : Ghosts S) (counts : Counts) (archs : List (List ℕ × OsCpu)) (merge : Merge) (texts : text_refusal (of.Merge merge) ≡ None)
    (sources : ReaderState) (lists : List (PartList ReaderState)) (is : sources ≡ begun (paragraphs_in (lines_of merge.sources)))
    (are : (machine : Machine) → archs ≡ map.entries machine.archs → AllZip (IsPartOf (BeginsAt Stands) machine) lists merge.parts) (old new : Held S) where
  -- a merge that is carried out
  pub merge_kept : (replies : Vec PartReply X) → CarriesLists g (AreListsToRead Stands sources lists) (AreListsDone Stands NeverBreaks sources lists) counts old new (Ok replies)
      → Answers g (AreOf counts archs) (of.Merge merge) old new (Ok (merged_answer counts replies.items))
  merge_kept replies carries = record {
    was_clean = carries.was_clean;
    limit = carries.limit;
    ok = λ clean machine consistent settled given.
        let zip = are machine given.1 in
        let made = carried_as g _ (AreTextsDone merge.sources merge.parts) counts machine (texts_done sources lists merge.sources merge.parts machine is zip)
        (carries.ok clean machine settled (texts_to_read sources lists merge.sources merge.parts machine is zip)) in
        let stepped = step_is merge texts machine counts given.0 made.accepted in (
          ap (λ (o : Outcome). o.0) stepped,
          subst (λ (m : Machine). IsSettled m (state g new)) (sym (ap (λ (o : Outcome). o.1) stepped)) made.settled,
          (ap (λ (o : Outcome). o.1.handed) (sym stepped), ap (λ (o : Outcome). o.1.accepted) (sym stepped)),
        );
    err = λ clean machine consistent settled given. tt;
    others = λ clean machine consistent settled given.
        carries.others clean machine settled (texts_to_read sources lists merge.sources merge.parts machine is (are machine given.1));
    of_step = tt;
    utf8 = tt;
  }

  -- and what it changed is noted
  pub merge_noted : {Y : Type 0} (was notes : Option (Vec ArchChanges Y)) (replies : Vec PartReply X)
      → CarriesLists g (AreListsToRead Stands sources lists) (AreListsNoted Stands NeverBreaks sources lists was notes) counts
      old new (Ok replies) → HasCleanDisk (state g new) → (machine : Machine) → IsSettled machine (state g old)
      → AreOf counts archs machine
      → NotesChanges was notes machine.records (step machine (of.Merge merge)).1.records
  unfolding carried_as
  merge_noted was notes replies carries clean machine settled given =
      let zip = are machine given.1 in
      let made = carries.ok clean machine settled (texts_to_read sources lists merge.sources merge.parts machine is zip) in
      let texts_made = carried_as g (AreListsNoted Stands NeverBreaks sources lists was notes)
      (AreTextsDone merge.sources merge.parts) counts machine
      (λ replies last done. texts_done sources lists merge.sources merge.parts machine is zip replies last done.0) made in
      subst (NotesChanges was notes machine.records)
      (sym (ap (λ (o : Outcome). o.1.records) (step_is merge texts machine counts given.0 texts_made.accepted)))
      made.accepted.done.1

  -- one that is not
  pub merge_not_kept : (failure : Failure) → CarriesLists {X = X} g (AreListsToRead Stands sources lists) (AreListsDone Stands NeverBreaks sources lists) counts old new (Err failure)
      → Answers g (AreOf counts archs) (of.Merge merge) old new (Err failure)
  merge_not_kept failure carries = record {
    was_clean = carries.was_clean;
    limit = carries.limit;
    ok = λ clean machine consistent settled given. tt;
    err = λ clean machine consistent settled given.
        let zip = are machine given.1 in
        left machine given.0 failure (not_merged_as g _ (AreTextsDone merge.sources merge.parts) counts machine (texts_done sources lists merge.sources merge.parts machine is zip)
        old new failure (carries.err clean machine settled (texts_to_read sources lists merge.sources merge.parts machine is zip)));
    others = λ clean machine consistent settled given. tt;
    of_step = carries.of_step;
    utf8 = tt;
  }
    where
      leaves : (machine : Machine) → AreCountsOf machine counts → (s : State) (e : CarryError) → MergeLeavesAs (AreTextsDone merge.sources merge.parts) counts machine s e
          → LeavesAs machine (step machine (of.Merge merge)).1 s e
      leaves machine own s (TakenBack fault) one = one
      leaves machine own s (RollBackFailed fault) one = one
      leaves machine own s (InDoubt fault) one =
          subst (λ (m : Machine). LeavesEither machine m s) (sym (ap (λ (o : Outcome). o.1) (step_is merge texts machine counts own one.1.1.0))) one.1.1.1

      left : (machine : Machine) → AreCountsOf machine counts → (failure : Failure) → IsNotMerged g (AreTextsDone merge.sources merge.parts) counts machine old new failure
          → IsLeft g machine (of.Merge merge) old new failure
      left machine own (Refused refusal) one = (λ of_machine. step_not merge texts machine counts own one.0, ((λ none. want-text (of.Merge merge) texts refl), one.1))
      left machine own (Unread fault) one = absurd one
      left machine own (Uncommitted e) one = (
        leaves machine own (state g new) e one.0,
        inr (inl (old, merge, counts, inl refl, refl, own, one.1)),
      )

-- memory runs out for the parts
pub merge_not_begun : {S : Type 0} (g : Ghosts S) (counts : Counts) (archs : List (List ℕ × OsCpu)) (merge : Merge) → text_refusal (of.Merge merge) ≡ None → (held : Held S)
    → Answers g (AreOf counts archs) (of.Merge merge) held held (Err (Refused Memory))
merge_not_begun g counts archs merge texts held = record {
  was_clean = λ clean. clean;
  limit = refl;
  ok = λ clean machine consistent settled given. tt;
  err = λ clean machine consistent settled given. (λ of_machine. absurd (of_machine refl), ((λ none. want-text (of.Merge merge) texts refl), settled));
  others = λ clean machine consistent settled given. tt;
  of_step = refl;
  utf8 = tt;
}
