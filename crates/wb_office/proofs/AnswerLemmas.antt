-- How a command is carried out over tables: what it names is read, it is carried out in that part, and what it changed
-- is kept.
use Rattle.std.proofs.Common.{◌≡◌, ℕ, List, inl, inr, true, false, Option, Some, None, Result, Ok, Err, IfErr, refl}
use Rattle.std.proofs.Common.{sym, ap, subst, ◌∙◌}
use Rattle.std.proofs.lemmas.Bool.{both_ways}
use Rattle.sqlite_trees.specs.declared.store.Store.{Ghosts}
use Rattle.sqlite.specs.Held.{Held, state}
use Rattle.sqlite.specs.State.{HasCleanDisk}
use Rattle.wb_sql.proofs.CallLemmas.{on_ok}
use Rattle.wb_states.specs.declared.command.Command.{Command}
use Rattle.wb_states.specs.declared.counts.Counts.{Counts}
use Rattle.wb_states.specs.declared.refusal.Refusal.{Refusal}
use Rattle.wb_states.specs.declared.reply.Reply.{Reply}
use Rattle.wb_states.specs.declared.store_fault.StoreFault.{StoreFault}
use Rattle.wb_states.specs.Machine.{Machine, Key, IsConsistent}
use Rattle.wb_states.specs.Queue.{Entry}
use Rattle.wb_states.specs.Refusals.{is_of_store}
use Rattle.wb_step.specs.Arguments.{Import, Lists, Lines, arguments_of}
use Rattle.wb_step.specs.Carries.{Carries}
use Rattle.wb_step.specs.Checks.{first_refusal}
use Rattle.wb_step.specs.Locality.{IsSingle, LooksAlike}
use Rattle.wb_step.specs.Named.{part_named}
use Rattle.wb_step.specs.Step.{Outcome, assignment_reply, outcome, reply_by, reply_to, step}
use Rattle.wb_step.specs.Targets.{again_of, target_of}
use Rattle.wb_step.specs.Utf8.{HasUtf8Texts}
use Rattle.wb_step.proofs.LocalityLemmas.{same_answer}
use Rattle.wb_step.proofs.OfficeLemmas.{refusal-cases}
use Rattle.wb_step.proofs.StateRefusalLemmas.{IsOfState, step-of-state}
use Rattle.wb_step.proofs.PartOfLemmas.{part_alike}
use Rattle.wb_step.proofs.NamedPartLemmas.{part_of_named, part_has_all_named}
use Rattle.wb_store.specs.Others.{KeepsOthers}
use Rattle.wb_store.specs.Settled.{IsSettled, IsBackAt}
use Rattle.wb_store.proofs.OthersLemmas.{others_equal, others_then}
use Rattle.wb_store.proofs.SettledLemmas.{kept_or_undone_in, office_stands}
use Rattle.wb_office.specs.declared.answer.Answered.{Answered}
use Rattle.wb_office.specs.declared.answer.Failure.{Failure}
use Rattle.wb_office.specs.declared.answer.Failure.TheVariants.{Refused, Unread, Uncommitted}
use Rattle.wb_office.specs.declared.known.Known.{Known}
use Rattle.wb_office.specs.Answers.{is_again, IsNamed, IsLeft, IsUncommitted, KeepsStep, Answers, Responds}
use Rattle.wb_office.specs.declared.carry.CarryError.{CarryError}
use Rattle.wb_office.specs.Carried.{CarriesOut}
use Rattle.wb_office.specs.Changed.{IsStepOf}
use Rattle.wb_store.specs.Finds.{StaysAs, FailsToFind, Finds}
use Rattle.wb_office.specs.Keys.{key_put}
use Rattle.wb_store.specs.Opening.{AreCountsOf}
use Rattle.wb_office.specs.Standing.{Knows}
use Rattle.wb_store.proofs.FindsLemmas.{stays_then, stays-now}
use Rattle.wb_store.proofs.StaysLemmas.{back_by, no_more, stays_settled_as, undone_after, was_clean}
use Rattle.wb_office.proofs.StepOfLemmas.{same_counts}

-- ---- look-ups over a settled connection

module _ {S : Type 0} (g : Ghosts S) (old new : Held S) where
  -- what stays as it was keeps the tables of others
  pub stays_others : StaysAs g old new → KeepsOthers (state g old).now (state g new).now
  stays_others stays = others_equal (state g old).now (state g new).now (stays-now g old new stays)

  -- look-ups that succeed leave the connection settled, with the answer of its state
  pub found : {A : Type 0} {Answer : Machine → A → Type 0} {machine : Machine} {x : A} → Finds g Answer old new (Ok x) → HasCleanDisk (state g new) → IsConsistent machine → IsSettled machine (state g old)
      → IsSettled machine (state g new) × Answer machine x
  found {machine = machine} finds clean consistent settled =
      let schema = settled.holds.stands.has in
      (stays_settled_as g old new (finds.same clean schema) (no_more g old new finds.survives schema clean) settled, finds.value clean schema machine consistent (office_stands (state g old).now settled.holds))

  -- look-ups that fail leave the connection at its state, unless a fault shut it
  pub not_found : {A : Type 0} {Answer : Machine → A → Type 0} {machine : Machine} {e : StoreFault} → Finds {A = A} g Answer old new (Err e) → HasCleanDisk (state g new) → IsSettled machine (state g old)
      → FailsToFind g old new e × IsBackAt machine (state g new)
  not_found {e = e} finds clean settled =
      let schema = settled.holds.stands.has in
      let failed : FailsToFind g old new e = finds.err clean schema settled.is_open in
      let kept = undone_after g old failed.0 new failed.2 (kept_or_undone_in g failed.0 new failed.1 e failed.3) in
      (failed, back_by g old new kept (no_more g old new finds.survives schema clean) settled)

-- ---- a step

refused_stays : (refused : Option Refusal) (again : Option Entry) (machine : Machine) (command : Command) (refusal : Refusal)
    → (outcome refused again machine command).0 ≡ Err refusal → (outcome refused again machine command).1 ≡ machine
refused_stays (Some other) again machine command refusal is = refl
refused_stays None (Some entry) machine command refusal is = refl
refused_stays None None machine command refusal is = cc

-- a repeated assignment changes nothing
again_stays : (refused : Option Refusal) (again : Option Entry) (machine : Machine) (command : Command) (reply : Reply) → is_again (reply_to machine command) ≡ false
    → (outcome refused again machine command).0 ≡ Ok reply → is_again reply ≡ true → (outcome refused again machine command).1 ≡ machine
again_stays (Some other) again machine command reply new is told = cc
again_stays None (Some entry) machine command reply new is told = refl
again_stays None None machine command reply new is told = absurd (both_ways (is_again (reply_to machine command)) new (ap is_again (same_reply (reply_to machine command) reply is) ∙ told))
  where
    same_reply : (a b : Reply) → ◌≡◌ {A = Result Reply Refusal} (Ok a) (Ok b) → a ≡ b
    same_reply a b is = cc

assigned_is_new : (machine : Machine) (found : Option Entry) → is_again (assignment_reply machine found) ≡ false
assigned_is_new machine None = refl
assigned_is_new machine (Some entry) = refl

-- the reply to an accepted command is no repetition
reply_is_new : (machine : Machine) (command : Command) → is_again (reply_to machine command) ≡ false
reply_is_new machine command = by_arguments (arguments_of command).imports (arguments_of command).builder
  where
    by_arguments : (imports : Option Import) (builder : Option (List ℕ)) → is_again (reply_by machine command imports builder) ≡ false
    by_arguments (Some (Lists merge)) builder = refl
    by_arguments (Some (Lines report)) builder = refl
    by_arguments None (Some builder) = assigned_is_new machine (target_of machine command)
    by_arguments None None = refl

-- a command that is answered with an assignment again leaves the office as it was
pub told_again : (machine : Machine) (command : Command) (reply : Reply) → (step machine command).0 ≡ Ok reply → is_again reply ≡ true → (step machine command).1 ≡ machine
unfolding step
told_again machine command reply is told = again_stays (first_refusal machine command) (again_of machine command) machine command reply (reply_is_new machine command) is told

-- what is refused in a part of the office is refused by the step
pub refusal_of_step : {part after : Machine} {command : Command} (refusal : Refusal) → Carries part after command (Err refusal) → is_of_store refusal ≡ false
refusal_of_step {part = part} {command = command} refusal carries = elim (refusal-cases refusal) [
  | inl none ↦ ap is_of_store none
  | inr of_machine ↦ (subst (λ (result : Result Reply Refusal). IfErr result IsOfState) (ap (λ (o : Outcome). o.0) (carries.refused of_machine)) (step-of-state part command)).0
]

-- the counts of a state
abbrev pub counts_at : Machine → Counts
counts_at machine = record { handed = machine.handed; accepted = machine.accepted }

-- ---- the whole command

module _ (command : Command) (machine part : Machine) (consistent : IsConsistent machine) (single : IsSingle command)
    (is : part ≡ part_named machine command) where
  -- the part looks to the command like the whole office
  part_looks_alike : LooksAlike command part machine
  part_looks_alike = subst (λ p. LooksAlike command p machine) (sym is) (part_alike (part_named machine command) machine (part_of_named machine command consistent) command consistent (part_has_all_named machine command consistent single))

  part_answers : (step part command).0 ≡ (step machine command).0
  part_answers = same_answer command part machine part_looks_alike

  -- a command that is answered with an assignment again leaves the counts
  counts_again : {after : Machine} (reply : Reply) → (step machine command).0 ≡ Ok reply → is_again reply ≡ true → step part command ≡ (Ok reply, after)
      → AreCountsOf (step machine command).1 (counts_at after)
  counts_again {after} reply answers told stepped =
      let stays : after ≡ part = sym (ap (λ (o : Outcome). o.1) stepped) ∙ told_again part command reply (ap (λ (o : Outcome). o.0) stepped) told in
      let whole = told_again machine command reply answers told in (
        ap (λ (m : Machine). m.handed) stays ∙ part_looks_alike.handed ∙ sym (ap (λ (m : Machine). m.handed) whole),
        ap (λ (m : Machine). m.accepted) stays ∙ part_looks_alike.accepted ∙ sym (ap (λ (m : Machine). m.accepted) whole),
      )

  module _ {key : Option Key} (named : key ≡ key_put machine command) {after : Machine} where
    -- an accepted command that is new is a step of the whole office
    step_of_whole : (reply : Reply) → is_again reply ≡ false → step part command ≡ (Ok reply, after) → IsStepOf machine command key after
    step_of_whole reply new stepped = record {
      part = part;
      reply = reply;
      alike = part_looks_alike;
      key_is = named;
      stepped = stepped;
      fresh = λ accepted given told. both_ways (is_again reply) new (ap is_again told);
    }

module _ {S : Type 0} (g : Ghosts S) (command : Command) (old new : Held S) (part after : Machine) (key : Option Key)
    (single : IsSingle command) where
  -- a refusal changes nothing
  pub refused_in : (refusal : Refusal) → old ≡ new → Carries part after command (Err refusal) → Answers g (IsNamed command part key) command old new (Err (Refused refusal))
  refused_in refusal same carries = record {
    was_clean = λ clean. subst (λ h. HasCleanDisk (state g h)) (sym same) clean;
    limit = ap (λ (h : Held S). h.step_limit) (sym same);
    ok = λ clean machine consistent settled named. tt;
    err = λ clean machine consistent settled named. (
      λ of_machine. sym (part_answers command machine part consistent single named.0) ∙ ap (λ (o : Outcome). o.0) (carries.refused of_machine),
      (carries.memory, subst (λ h. IsSettled machine (state g h)) same settled),
    );
    others = λ clean machine consistent settled named. tt;
    of_step = refusal_of_step refusal carries;
    utf8 = tt;
  }

  -- an assignment that is repeated changes nothing
  pub repeated_in : (reply : Reply) (counts : Counts) → counts ≡ counts_at after → old ≡ new → Carries part after command (Ok reply) → HasUtf8Texts command → is_again reply ≡ true
      → Answers g (IsNamed command part key) command old new (Ok (record { reply = reply; counts = counts }))
  repeated_in reply counts counted same carries utf8 told = record {
    was_clean = λ clean. subst (λ h. HasCleanDisk (state g h)) (sym same) clean;
    limit = ap (λ (h : Held S). h.step_limit) (sym same);
    ok = λ clean machine consistent settled named.
        let answers = sym (part_answers command machine part consistent single named.0) ∙ ap (λ (o : Outcome). o.0) carries.reply in (
          answers,
          subst (λ m. IsSettled m (state g new)) (sym (told_again machine command reply answers told)) (subst (λ h. IsSettled machine (state g h)) same settled),
          subst (AreCountsOf (step machine command).1) (sym counted) (counts_again command machine part consistent single named.0 reply answers told carries.reply),
        );
    err = λ clean machine consistent settled named. tt;
    others = λ clean machine consistent settled named. stays_others g old new (inl same);
    of_step = tt;
    utf8 = utf8;
  }

  -- what is new is kept, or it is not committed
  pub kept_in : {A : Type 0} {x : A} (reply : Reply) (counts : Counts) → counts ≡ counts_at after → Carries part after command (Ok reply) → HasUtf8Texts command → is_again reply ≡ false
      → KeepsStep {A = A} g command key after old new (Ok x) → Answers g (IsNamed command part key) command old new (Ok (record { reply = reply; counts = counts }))
  kept_in reply counts counted carries utf8 fresh keeps = record {
    was_clean = keeps.was_clean;
    limit = keeps.limit;
    ok = λ clean machine consistent settled named.
        let steps = step_of_whole command machine part consistent single named.0 named.1 reply fresh carries.reply in (
          sym (part_answers command machine part consistent single named.0) ∙ ap (λ (o : Outcome). o.0) carries.reply,
          keeps.ok clean machine settled steps,
          subst (AreCountsOf (step machine command).1) (sym counted)
              (ap (λ (m : Machine). m.handed) (same_counts command steps), ap (λ (m : Machine). m.accepted) (same_counts command steps)),
        );
    err = λ clean machine consistent settled named. tt;
    others = λ clean machine consistent settled named.
        keeps.others clean machine settled (step_of_whole command machine part consistent single named.0 named.1 reply fresh carries.reply);
    of_step = tt;
    utf8 = utf8;
  }

  pub not_kept_in : {A : Type 0} (reply : Reply) (failure : Failure) → Carries part after command (Ok reply) → is_again reply ≡ false → KeepsStep {A = A} g command key after old new (Err failure)
      → Answers g (IsNamed command part key) command old new (Err failure)
  not_kept_in reply failure carries fresh keeps = record {
    was_clean = keeps.was_clean;
    limit = keeps.limit;
    ok = λ clean machine consistent settled named. tt;
    err = λ clean machine consistent settled named.
        left_by machine failure (keeps.err clean machine settled (step_of_whole command machine part consistent single named.0 named.1 reply fresh carries.reply));
    others = λ clean machine consistent settled named. tt;
    of_step = keeps.of_step;
    utf8 = tt;
  }
    where
      left_by : (machine : Machine) (failure : Failure) → IsUncommitted g machine command old new failure → IsLeft g machine command old new failure
      left_by machine (Refused refusal) none = absurd none
      left_by machine (Unread e) none = absurd none
      left_by machine (Uncommitted e) left = left

module _ {S : Type 0} (g : Ghosts S) (command : Command) (old mid new : Held S) where
  -- a failure after look-ups that changed nothing
  left_later : (machine : Machine) (failure : Failure) → StaysAs g old mid → IsLeft g machine command mid new failure → IsLeft g machine command old new failure
  left_later machine (Refused refusal) same left = left
  left_later machine (Unread e) same left = ((left.0.0, left.0.1, stays_then g old mid left.0.0 same left.0.2, left.0.3), left.1)
  left_later machine (Uncommitted e) same left = (
    left.0,
    elim left.1 [
      | inl s ↦ inl (s.0, s.1, s.2, stays_then g old mid s.0 same s.3, s.4, s.5)
      | inr (inl m) ↦ inr (inl (m.0, m.1, m.2, stays_then g old mid m.0 same m.3, m.4, m.5, m.6))
      | inr (inr b) ↦ inr (inr (b.0, b.1, b.2, stays_then g old mid b.0 same b.3, b.4, b.5))
    ],
  )

  -- what the command names is read, and then it is answered in that part
  pub answered_in : {A : Type 0} {Answer : Machine → A → Type 0} {First Given : Machine → Type 0} {x : A} (r : Result Answered Failure) → Finds g Answer old mid (Ok x)
      → ((machine : Machine) → First machine → Answer machine x → Given machine) → Answers g Given command mid new r → Answers g First command old new r
  answered_in {Answer = Answer} {Given = Given} {x = x} r finds gives answers = record {
    was_clean = λ clean. was_clean (state g old) (state g mid) finds.survives (answers.was_clean clean);
    limit = answers.limit ∙ finds.survives.limit;
    ok = λ clean machine consistent settled first.
        let at = found g old mid finds (answers.was_clean clean) consistent settled in
        answers.ok clean machine consistent at.0 (gives machine first at.1);
    err = λ clean machine consistent settled first.
        let at = found g old mid finds (answers.was_clean clean) consistent settled in
        fails_later machine r (finds.same (answers.was_clean clean) settled.holds.stands.has) (answers.err clean machine consistent at.0 (gives machine first at.1));
    others = λ clean machine consistent settled first.
        let at = found g old mid finds (answers.was_clean clean) consistent settled in
        on_ok {P = KeepsOthers (state g mid).now (state g new).now} r
        (λ kept. others_then (state g old).now (state g mid).now (state g new).now (stays_others g old mid (finds.same (answers.was_clean clean) settled.holds.stands.has)) kept)
        (answers.others clean machine consistent at.0 (gives machine first at.1));
    of_step = answers.of_step;
    utf8 = answers.utf8;
  }
    where
      fails_later : (machine : Machine) (r : Result Answered Failure) → StaysAs g old mid → IfErr r (IsLeft g machine command mid new) → IfErr r (IsLeft g machine command old new)
      fails_later machine (Ok answered) same left = tt
      fails_later machine (Err failure) same left = left_later machine failure same left

  -- what the command names could not be read
  pub unread : {A : Type 0} {Answer : Machine → A → Type 0} {Given : Machine → Type 0} {e : StoreFault} → Finds {A = A} g Answer old new (Err e) → Answers g Given command old new (Err (Unread e))
  unread finds = record {
    was_clean = was_clean (state g old) (state g new) finds.survives;
    limit = finds.survives.limit;
    ok = λ clean machine consistent settled given. tt;
    err = λ clean machine consistent settled given. not_found g old new finds clean settled;
    others = λ clean machine consistent settled given. tt;
    of_step = tt;
    utf8 = tt;
  }

-- ---- what is known

module _ {S : Type 0} (g : Ghosts S) (command : Command) (was_known mid_known : Known) (old mid new : Held S) where
  -- the architectures are known, or read, and then the command is carried out, and what is known then is taken over
  pub responded : {A : Type 0} {Answer : Machine → A → Type 0} {archs : A} (answered : Answered) (known : Known) → Finds g Answer old mid (Ok archs)
      → ((machine : Machine) → Answer machine archs → Knows machine was_known → Knows machine mid_known)
      → {Given : Machine → Type 0} → ((machine : Machine) → Answer machine archs → Knows machine was_known → Given machine)
      → Answers g Given command mid new (Ok answered)
      → ((machine : Machine) → Knows machine mid_known → AreCountsOf (step machine command).1 answered.counts → Knows (step machine command).1 known)
      → Responds g command was_known old known new (Ok answered.reply)
  responded answered known finds learns gives answers knows = record {
    was_clean = λ clean. was_clean (state g old) (state g mid) finds.survives (answers.was_clean clean);
    limit = answers.limit ∙ finds.survives.limit;
    ok = λ clean machine consistent settled was.
        let at = found g old mid finds (answers.was_clean clean) consistent settled in
        let done = answers.ok clean machine consistent at.0 (gives machine at.1 was) in
        (done.0, done.1, knows machine (learns machine at.1 was) done.2);
    err = λ clean machine consistent settled was. tt;
    others = λ clean machine consistent settled was.
        let at = found g old mid finds (answers.was_clean clean) consistent settled in
        others_then (state g old).now (state g mid).now (state g new).now (stays_others g old mid (finds.same (answers.was_clean clean) settled.holds.stands.has))
        (answers.others clean machine consistent at.0 (gives machine at.1 was));
    of_step = tt;
    utf8 = answers.utf8;
  }

  pub not_responded : {A : Type 0} {Answer : Machine → A → Type 0} {archs : A} (failure : Failure) → Finds g Answer old mid (Ok archs)
      → ((machine : Machine) → Answer machine archs → Knows machine was_known → Knows machine mid_known)
      → {Given : Machine → Type 0} → ((machine : Machine) → Answer machine archs → Knows machine was_known → Given machine)
      → Answers g Given command mid new (Err failure) → Responds g command was_known old mid_known new (Err failure)
  not_responded failure finds learns gives answers = record {
    was_clean = λ clean. was_clean (state g old) (state g mid) finds.survives (answers.was_clean clean);
    limit = answers.limit ∙ finds.survives.limit;
    ok = λ clean machine consistent settled was. tt;
    err = λ clean machine consistent settled was.
        let at = found g old mid finds (answers.was_clean clean) consistent settled in (
          left_later g command old mid new machine failure (finds.same (answers.was_clean clean) settled.holds.stands.has)
              (answers.err clean machine consistent at.0 (gives machine at.1 was)),
          learns machine at.1 was,
        );
    others = λ clean machine consistent settled was. tt;
    of_step = answers.of_step;
    utf8 = tt;
  }

-- the architectures could not be read, and what is known stays
pub archs_unread : {S A : Type 0} (g : Ghosts S) (command : Command) (was_known known : Known) (old new : Held S) {Answer : Machine → A → Type 0} {e : StoreFault}
    → Finds {A = A} g Answer old new (Err e) → known ≡ was_known → Responds g command was_known old known new (Err (Unread e))
archs_unread g command was_known known old new finds same = record {
  was_clean = was_clean (state g old) (state g new) finds.survives;
  limit = finds.survives.limit;
  ok = λ clean machine consistent settled was. tt;
  err = λ clean machine consistent settled was. (not_found g old new finds clean settled, subst (Knows machine) (sym same) was);
  others = λ clean machine consistent settled was. tt;
  of_step = tt;
  utf8 = tt;
}

-- a transaction that was not committed
pub not_committed : {S A B : Type 0} {g : Ghosts S} {command : Command} {key : Option Key} {after : Machine} {old new : Held S} {e : CarryError} → CarriesOut {A = A} g command key after old new (Err e)
    → KeepsStep {A = B} g command key after old new (Err (Uncommitted e))
not_committed {g = g} {key = key} {after = after} {old = old} {new = new} carries = record {
  was_clean = was_clean (state g old) (state g new) carries.survives;
  limit = carries.survives.limit;
  ok = λ clean machine settled steps. tt;
  err = λ clean machine settled steps. (carries.err clean machine settled steps, inl (old, key, after, inl refl, steps, carries.cause clean machine settled steps));
  others = λ clean machine settled steps. tt;
  of_step = tt;
}
