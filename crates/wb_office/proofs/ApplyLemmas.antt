-- What an office over tables answers after a failure, and how it stands then.
use Rattle.std.proofs.Common.{◌≡◌, ◌≢◌, ◌⊎◌, inl, inr, true, false, not, Bool, List, Option, Some, None, Result, Ok}
use Rattle.std.proofs.Common.{Err, IsTrue, IfErr, refl, sym, ap, subst, ◌∙◌}
use Rattle.std.proofs.lemmas.Bool.{both_ways}
use Rattle.sqlite_trees.specs.declared.store.Store.{Ghosts}
use Rattle.sqlite.specs.Held.{Held, state}
use Rattle.sqlite.specs.State.{State, HasCleanDisk, IsUnchanged, Survives}
use Rattle.wb_sql.specs.Transactions.{IsKeptOrUndone, LeavesNoMore}
use Rattle.wb_states.specs.declared.command.Command.{Command}
use Rattle.wb_states.specs.declared.counts.Counts.{Counts}
use Rattle.wb_states.specs.declared.reply.PartReply.{PartReply}
use Rattle.wb_states.specs.declared.refusal.Refusal.{Refusal}
use Rattle.wb_states.specs.declared.refusal.Refusal.TheVariants.{Closed, Memory, Store}
use Rattle.wb_states.specs.declared.reply.Reply.{Reply}
use Rattle.wb_states.specs.Refusals.{IsOfMachine}
use Rattle.wb_states.specs.declared.store_fault.StoreFault.{StoreFault}
use Rattle.wb_states.specs.declared.store_fault.StoreFault.TheVariants as fault
use Rattle.wb_states.specs.Machine.{Machine, empty_office}
use Rattle.wb_states.specs.Refusals.{is_of_store}
use Rattle.wb_merge.specs.Merged.{Records}
use Rattle.wb_step.specs.Checks.{MayWantMemory, text_refusal}
use Rattle.wb_step.specs.Step.{Outcome, step}
use Rattle.wb_step.specs.TextChecks.{ChecksTexts}
use Rattle.wb_step.proofs.OfficeLemmas.{refusal-cases}
use Rattle.wb_step.proofs.StateRefusalLemmas.{IsOfState, step-of-state}
use Rattle.wb_step.proofs.StepLemmas.{step-text}
use Rattle.wb_step.proofs.InvariantLemmas.{step-keeps}
use Rattle.wb_store.specs.Settled.{IsSettled, IsBackAt, LeavesEither}
use Rattle.wb_store.proofs.SettledLemmas.{settled_back, stays_back, goes_back_again}
use Rattle.wb_office.specs.declared.answer.Failure.{Failure}
use Rattle.wb_office.specs.declared.answer.Failure.TheVariants.{Refused, Unread, Uncommitted}
use Rattle.wb_office.specs.declared.carry.CarryError.TheVariants.{TakenBack, RollBackFailed, InDoubt}
use Rattle.wb_office.specs.declared.known.Known.{Known}
use Rattle.wb_office.specs.Answers.{IsLeft, Responds}
use Rattle.wb_office.specs.Kinds.{IsOfStep}
use Rattle.wb_office.specs.MergeCarried.{MergeEndsFor}
use Rattle.wb_office.specs.MergeLists.{AreTextsDone}
use Rattle.wb_office.specs.Failed.{HasFailed, IsOfficeOver}
use Rattle.wb_office.specs.Standing.{Knows, StandsAt, LeavesOne}
use Rattle.wb_office.specs.Applies.{refusal_for, refusal_of, CannotBeUsed, CannotGoOn, IsNotTakenBack, IsRefusedIn}
use Rattle.wb_office.specs.Applies.{MustClose, Applies, Ends, EndsWith}
use Rattle.wb_store.proofs.StaysLemmas.{was_clean}

-- two refusals that are answered alike are the same
pub same_err : {X : Type 0} {a b : Refusal} → ◌≡◌ {A = Result X Refusal} (Err a) (Err b) → a ≡ b
same_err is = cc

-- ---- the connection after a probe

module _ {S : Type 0} (g : Ghosts S) (old new : Held S) where
  less : Survives (state g old) (state g new) (λ _. ⊥) → HasCleanDisk (state g new) → LeavesNoMore (state g old) (state g new)
  less survives clean db may = elim (survives.crash clean db may) [ inl was ↦ was | inr none ↦ absurd none ]

  probed : {machine : Machine} → IsKeptOrUndone (state g old) (state g new) → LeavesNoMore (state g old) (state g new) → IsBackAt machine (state g old) → IsBackAt machine (state g new)
  probed (inl same) fewer back = stays_back (state g old) (state g new) same fewer back
  probed (inr undone) fewer back = goes_back_again (state g old) (state g new) undone fewer back

  -- out of memory, and the connection is asked whether it can be used
  pub ends_of_memory : (usable : Bool) → (HasCleanDisk (state g new) → IsTrue usable → IsUnchanged (state g old) (state g new)) → (HasCleanDisk (state g new) → IsKeptOrUndone (state g old) (state g new))
      → (HasCleanDisk (state g new) → usable ≡ false → CannotBeUsed g old new) → Survives (state g old) (state g new) (λ _. ⊥) → EndsWith g fault.Memory old new Memory (not usable)
  ends_of_memory usable still unchanged shut survives = record {
    was_clean = was_clean (state g old) (state g new) survives;
    limit = survives.limit;
    told = refl;
    back = λ clean machine back. probed (unchanged clean) (less survives clean) back;
    is_open = λ clean not_closed. (still clean (is_usable usable not_closed)).0.is_open;
    ends = λ of_store. cc;
    closes = λ clean _ closed. shut clean (is_unusable usable closed);
    same = λ other. absurd (other refl);
  }
    where
      is_usable : (b : Bool) → not b ≡ false → IsTrue b
      is_usable true is = refl
      is_usable false is = cc

      is_unusable : (b : Bool) → not b ≡ true → b ≡ false
      is_unusable true is = cc
      is_unusable false is = refl

-- after any other fault the office is closed
pub ends_of_fault : {S : Type 0} (g : Ghosts S) (held : Held S) (f : StoreFault) → refusal_for f ≡ Store f → EndsWith g f held held (Store f) true
ends_of_fault g held f told = record {
  was_clean = λ clean. clean;
  limit = refl;
  told = sym told;
  back = λ clean machine back. back;
  is_open = λ clean not_closed. cc;
  ends = λ of_store. refl;
  closes = λ clean is _. absurd (store_is_no_memory is);
  same = λ other. refl;
}
  where
    store_is_no_memory : {f : StoreFault} → Store f ≢ Memory
    store_is_no_memory is = cc

-- ---- after a failure

pub either_of : {machine : Machine} (after : Machine) (s : State) → IsBackAt machine s → LeavesEither machine after s
either_of after s back db may = inl (back.left db may)

refusals_for : (f : StoreFault) → (refusal_for f ≡ Memory) ⊎ ((refusal_for f ≡ Store f) × (f ≢ fault.Memory))
refusals_for fault.Memory = inl refl
refusals_for fault.NotOffice = inr (refl, λ is. cc)
refusals_for fault.NewerSchema = inr (refl, λ is. cc)
refusals_for (fault.Damaged table row) = inr (refl, λ is. cc)
refusals_for fault.Device = inr (refl, λ is. cc)

-- a refusal for a fault is no refusal of the state
pub of_fault : (f : StoreFault) → refusal_for f ≢ Memory → is_of_store (refusal_for f) ≡ true
of_fault f other = elim (refusals_for f) [ inl is ↦ absurd (other is) | inr is ↦ ap is_of_store is.0 ]

pub not_closed_for : (f : StoreFault) → refusal_for f ≢ Closed
not_closed_for fault.Memory is = cc
not_closed_for fault.NotOffice is = cc
not_closed_for fault.NewerSchema is = cc
not_closed_for (fault.Damaged table row) is = cc
not_closed_for fault.Device is = cc

-- a refusal for a fault is out of memory, or it comes of the store
pub none_opens : {refusal : Refusal} (f : StoreFault) → refusal ≡ refusal_for f → is_of_store refusal ≡ false → refusal ≢ Memory → ⊥
none_opens {refusal} f told no_store other = both_ways (is_of_store refusal) no_store (ap is_of_store told ∙ of_fault f (λ is. other (told ∙ is)))

-- a failure is never answered as that the office is closed
pub not_closed_by : (failure : Failure) → IsOfStep failure → refusal_of failure ≢ Closed
not_closed_by (Refused refusal) of_step is = both_ways (is_of_store refusal) of_step (ap is_of_store is)
not_closed_by (Unread f) of_step is = not_closed_for f is
not_closed_by (Uncommitted (TakenBack f)) of_step is = not_closed_for f is
not_closed_by (Uncommitted (RollBackFailed f)) of_step is = not_closed_for f is
not_closed_by (Uncommitted (InDoubt f)) of_step is = no_store_closed is
  where
    no_store_closed : {d : StoreFault} → Store d ≢ Closed
    no_store_closed is = cc

module _ {S : Type 0} (g : Ghosts S) (machine : Machine) (command : Command) where
  -- a call failed that left the office as it was
  refused_back : (new : Held S) (f : StoreFault) (refusal : Refusal) (is_closed : Bool) → refusal ≡ refusal_for f → IsBackAt machine (state g new) → (is_closed ≡ false → IsTrue (state g new).is_open)
      → (is_of_store refusal ≡ true → is_closed ≡ true) → IsRefusedIn g machine command is_closed new refusal
  refused_back new f refusal is_closed told back is_open ends = record {
    machines = λ other no_store. absurd (both_ways (is_of_store refusal) no_store (ap is_of_store told ∙ of_fault f (λ is. other (told ∙ is))));
    back = λ no_store. back;
    is_open = is_open;
    ends = ends;
    left = either_of (step machine command).1 (state g new) back;
    shut = λ is. back;
  }

  -- a commit in doubt closes the office
  refused_in_doubt : (new : Held S) (f : StoreFault) (refusal : Refusal) → refusal ≡ Store f
      → LeavesEither machine (step machine command).1 (state g new) → IsRefusedIn g machine command true new refusal
  refused_in_doubt new f refusal is left =
      record {
        machines = λ other no_store. absurd (both_ways (is_of_store refusal) no_store (ap is_of_store is));
        back = λ no_store. absurd (both_ways (is_of_store refusal) no_store (ap is_of_store is));
        is_open = λ not_closed. cc;
        ends = λ of_store. refl;
        left = left;
        shut = λ closed. absurd (no_store_closed (sym is ∙ closed));
      }
    where
      no_store_closed : {f : StoreFault} → Store f ≢ Closed
      no_store_closed is = cc

-- a refusal of the state changes nothing
pub ends_refused : {S : Type 0} (g : Ghosts S) (held : Held S) (refusal : Refusal) (is_closed : Bool) → is_closed ≡ is_of_store refusal → Ends g (Refused refusal) held held refusal is_closed
ends_refused g held refusal is_closed closes = record {
  was_clean = λ clean. clean;
  limit = refl;
  refused = λ clean machine command before left. record {
    machines = λ other no_store. (left.0 other, closes ∙ no_store);
    back = λ no_store. settled_back (state g held) left.1.1;
    is_open = λ not_closed. left.1.1.is_open;
    ends = λ of_store. closes ∙ of_store;
    left = either_of (step machine command).1 (state g held) (settled_back (state g held) left.1.1);
    shut = λ is. settled_back (state g held) left.1.1;
  };
  back = λ clean machine back. back;
  is_open = λ clean. refl;
  told = refl;
  ends = λ of_store. closes ∙ of_store;
  opens = λ no_store _. closes ∙ no_store;
  closes = λ clean is closed. absurd (both_ways is_closed (closes ∙ ap is_of_store is) closed);
  must = λ failed. absurd (cc (failed.1));
  same = λ other. refl;
}

module _ {S : Type 0} (g : Ghosts S) (old new : Held S) (refusal : Refusal) (is_closed : Bool) where
  -- a look-up failed
  pub ends_unread : (e : StoreFault) → EndsWith g e old new refusal is_closed → Ends g (Unread e) old new refusal is_closed
  ends_unread e h = record {
    was_clean = h.was_clean;
    limit = h.limit;
    refused = λ clean machine command before left. refused_back g machine command new e refusal is_closed h.told (h.back clean machine left.1) (h.is_open clean) h.ends;
    back = h.back;
    is_open = h.is_open;
    told = h.told;
    ends = h.ends;
    opens = λ no_store other. absurd (none_opens e h.told no_store other);
    closes = λ clean is closed. inl (h.closes clean is closed);
    must = λ failed. absurd (cc (failed.1));
    same = h.same;
  }

  -- a transaction was taken back
  pub ends_taken_back : (e : StoreFault) → EndsWith g e old new refusal is_closed → Ends g (Uncommitted (TakenBack e)) old new refusal is_closed
  ends_taken_back e h = record {
    was_clean = h.was_clean;
    limit = h.limit;
    refused = λ clean machine command before left. refused_back g machine command new e refusal is_closed h.told (h.back clean machine left.0) (h.is_open clean) h.ends;
    back = h.back;
    is_open = h.is_open;
    told = h.told;
    ends = h.ends;
    opens = λ no_store other. absurd (none_opens e h.told no_store other);
    closes = λ clean is closed. inl (h.closes clean is closed);
    must = λ failed. absurd (cc (failed.1));
    same = h.same;
  }

-- a transaction could not be taken back
pub ends_not_taken_back : {S : Type 0} (g : Ghosts S) (held : Held S) (e : StoreFault) (refusal : Refusal) → refusal ≡ refusal_for e → Ends g (Uncommitted (RollBackFailed e)) held held refusal true
ends_not_taken_back g held e refusal told = record {
  was_clean = λ clean. clean;
  limit = refl;
  refused = λ clean machine command before left. refused_back g machine command held e refusal true told left.0 (λ not_closed. cc) (λ of_store. refl);
  back = λ clean machine back. back;
  is_open = λ clean not_closed. cc;
  told = told;
  ends = λ of_store. refl;
  opens = λ no_store other. absurd (none_opens e told no_store other);
  closes = λ clean is closed. inr (e, refl);
  must = λ failed. (refl, refl);
  same = λ other. refl;
}

-- a commit is in doubt
pub ends_in_doubt : {S : Type 0} (g : Ghosts S) (held : Held S) (e : StoreFault) (refusal : Refusal) → refusal ≡ Store e
    → Ends g (Uncommitted (InDoubt e)) held held refusal true
ends_in_doubt g held e refusal told = record {
  was_clean = λ clean. clean;
  limit = refl;
  refused = λ clean machine command before left. refused_in_doubt g machine command held e refusal told left.0;
  back = λ clean machine back. back;
  is_open = λ clean not_closed. cc;
  told = told;
  ends = λ of_store. refl;
  opens = λ no_store other. absurd (both_ways (is_of_store refusal) no_store (ap is_of_store told));
  closes = λ clean is closed. absurd (no_memory (sym told ∙ is));
  must = λ failed. (refl, refl);
  same = λ other. refl;
}
  where
    no_memory : Store e ≢ Memory
    no_memory is = cc

-- ---- a command

-- an office that is open is settled at its state
pub settled_at : {machine : Machine} {was_closed : Bool} {known : Known} {s : State} → StandsAt machine was_closed known s → was_closed ≡ false → IsSettled machine s
settled_at stands opened = stands.back.settled (stands.is_open opened)

-- the texts of a command are refused, and nothing is done
pub texts_refused : {S X : Type 0} (g : Ghosts S) (command : Command) (was_closed : Bool) (known : Known) (held : Held S) (opened : was_closed ≡ false) (refusal : Refusal)
    → ChecksTexts {X = X} command (Err refusal) → (r : Result Reply Refusal) → r ≡ Err refusal → Applies g command was_closed known held was_closed known held r
texts_refused {S} g command was_closed known held opened refusal checks r given = subst (Applies g command was_closed known held was_closed known held) (sym given) (record {
  was_clean = λ clean. clean;
  limit = refl;
  shut = λ closed. absurd (both_ways was_closed opened closed);
  stands = λ _. record {
    ok = tt;
    never = λ is. both_ways (is_of_store refusal) of_state (ap is_of_store (same_err is));
    ends = λ of_store. absurd (both_ways (is_of_store refusal) of_state of_store);
    opens = λ _ _ closed. both_ways was_closed opened closed;
  };
  texts = λ _ other is. (either other is, opened, refl, refl);
  memory = λ is. checks.memory (same_err is);
  reply = λ clean machine stands. tt;
  others = λ clean machine stands. tt;
  refused = λ clean machine stands _. (
    record {
      machines = λ other no_store. (stepped machine other, opened);
      back = λ no_store. stands.back;
      is_open = λ _. stands.is_open opened;
      ends = λ of_store. absurd (both_ways (is_of_store refusal) of_state of_store);
      left = either_of (step machine command).1 (state g held) stands.back;
      shut = λ is. stands.back;
    },
    stands.knows,
  );
  cause = λ clean machine stands _. (
    Refused refusal,
    held,
    (stepped machine, (checks.memory, settled_at stands opened)),
    refl,
    λ none closed. absurd (both_ways was_closed opened closed),
    λ failed. absurd (cc (failed.1)),
    λ other. refl,
  );
})
  where
    some_is : (a b : Refusal) → ◌≡◌ {A = Option Refusal} (Some a) (Some b) → a ≡ b
    some_is a b is = cc

    stepped : (machine : Machine) → IsOfMachine refusal → (step machine command).0 ≡ Err refusal
    stepped machine other = ap (λ (o : Outcome). o.0) (step-text machine command refusal (checks.refused other))

    of_state : is_of_store refusal ≡ false
    of_state = elim (refusal-cases refusal) [
      | inl none ↦ ap is_of_store none
      | inr other ↦ (subst (λ (result : Result Reply Refusal). IfErr result IsOfState) (stepped empty_office other) (step-of-state empty_office command)).0
    ]

    either : (other : Refusal) → text_refusal command ≡ Some other → (◌≡◌ {A = Result Reply Refusal} (Err refusal) (Err other)) ⊎ (◌≡◌ {A = Result Reply Refusal} (Err refusal) (Err Memory))
    either other is = elim (refusal-cases refusal) [
      | inl none ↦ inr (ap Err none)
      | inr of_machine ↦ inl (ap Err (some_is refusal other (sym (checks.refused of_machine) ∙ is)))
    ]

-- an office that stands at a state and is open
pub office_over : {S : Type 0} (g : Ghosts S) {machine : Machine} {is_closed : Bool} {known : Known} {held : Held S} → StandsAt machine is_closed known (state g held) → is_closed ≡ false → IsOfficeOver g machine held
office_over g stands opened = record { consistent = stands.consistent; settled = stands.back.settled (stands.is_open opened) }

module _ {S : Type 0} (g : Ghosts S) (command : Command) (was_closed : Bool) (was_known : Known) (old : Held S) (opened : was_closed ≡ false) (good : text_refusal command ≡ None) (wants : MayWantMemory command) where
  no_texts : (refusal : Refusal) → text_refusal command ≡ Some refusal → ⊥
  no_texts refusal is = none_is_no_some refusal (sym good ∙ is)
    where
      none_is_no_some : (refusal : Refusal) → ¬ ◌≡◌ {A = Option Refusal} None (Some refusal)
      none_is_no_some refusal is = cc

  -- a reply leaves the office open at the state of the step
  pub applied : (new : Held S) (known : Known) (reply : Reply) → Responds g command was_known old known new (Ok reply) → Applies g command was_closed was_known old was_closed known new (Ok reply)
  applied new known reply responds = record {
    was_clean = responds.was_clean;
    limit = responds.limit;
    shut = λ closed. absurd (both_ways was_closed opened closed);
    stands = λ _. record { ok = λ closed. both_ways was_closed opened closed; never = λ is. cc; ends = tt; opens = tt };
    texts = λ _ other is. absurd (no_texts other is);
    memory = λ is. wants;
    reply = λ clean machine stands.
        let done = responds.ok clean machine stands.consistent (settled_at stands opened) stands.knows in (
          done.0,
          record {
            consistent = step-keeps machine command responds.utf8 stands.consistent;
            knows = done.2;
            back = settled_back (state g new) done.1;
            is_open = λ _. done.1.is_open;
          },
          opened,
        );
    others = λ clean machine stands. responds.others clean machine stands.consistent (settled_at stands opened) stands.knows;
    refused = λ clean machine stands _. tt;
    cause = λ clean machine stands _. tt;
  }

  -- after a failure the office is left as the end of it says
  pub not_applied : (at new : Held S) (is_closed : Bool) (known : Known) (failure : Failure) (refusal : Refusal) → Responds g command was_known old known at (Err failure)
      → Ends g failure at new refusal is_closed → Applies g command was_closed was_known old is_closed known new (Err refusal)
  not_applied at new is_closed known failure refusal responds ends = record {
    was_clean = λ clean. responds.was_clean (ends.was_clean clean);
    limit = ends.limit ∙ responds.limit;
    shut = λ closed. absurd (both_ways was_closed opened closed);
    stands = λ _. record {
      ok = tt;
      never = λ is. not_closed_by failure responds.of_step (sym ends.told ∙ same_err is);
      ends = ends.ends;
      opens = λ no_store other closed. both_ways is_closed (ends.opens no_store other) closed;
    };
    texts = λ _ other is. absurd (no_texts other is);
    memory = λ is. wants;
    reply = λ clean machine stands. tt;
    others = λ clean machine stands. tt;
    refused = λ clean machine stands _.
        let left = responds.err (ends.was_clean clean) machine stands.consistent (settled_at stands opened) stands.knows in
        (ends.refused clean machine command old left.0, left.1);
    cause = λ clean machine stands _.
        (failure, at, (responds.err (ends.was_clean clean) machine stands.consistent (settled_at stands opened) stands.knows).0, ends.told, ends.closes clean, ends.must, ends.same);
  }

-- ---- a connection that cannot be used on

-- the transaction of a merge could not be taken back
pub merge_not_taken_back : {S : Type 0} (g : Ghosts S) (Done : Machine → List PartReply → Records → Type 0) (counts : Counts) (machine : Machine) (old new : Held S) (e : StoreFault)
    → MergeEndsFor g Done counts machine old new (RollBackFailed e) → CannotGoOn g new
merge_not_taken_back g Done counts machine old new e (inl ended) = inr ended.1
merge_not_taken_back g Done counts machine old new e (inr (refusal, (refused, inl (at, failed)))) = inr (at, (e, failed))
merge_not_taken_back g Done counts machine old new e (inr (refusal, (refused, inr (is, (at, runs))))) = inl (at, runs)

-- nor could that of a command
not_taken_back : {S : Type 0} (g : Ghosts S) (machine : Machine) (command : Command) (old new : Held S) (e : StoreFault)
    → IsLeft g machine command old new (Uncommitted (RollBackFailed e)) → CannotGoOn g new
not_taken_back g machine command old new e (back, inl kept) = inr kept.5.1
not_taken_back g machine command old new e (back, inr (inl merged)) =
    merge_not_taken_back g (AreTextsDone merged.1.sources merged.1.parts) merged.2 machine merged.0 new e merged.6
not_taken_back g machine command old new e (back, inr (inr batch)) = inr batch.5.1

-- an office that must be closed is over such a connection
pub must_not_go_on : {S : Type 0} (g : Ghosts S) (at new : Held S) (is_closed : Bool) (failure : Failure)
    → ((e : StoreFault) → failure ≡ Uncommitted (RollBackFailed e) → CannotGoOn g at) → (IsNotTakenBack failure → (is_closed ≡ true) × (new ≡ at)) → MustClose g failure at new → CannotGoOn g new
must_not_go_on g at new is_closed failure fails same (inl unusable) = inl (at, unusable)
must_not_go_on g at new is_closed failure fails same (inr failed) = subst (CannotGoOn g) (sym (same failed).1) (fails failed.0 failed.1)

-- ---- the office that carries out commands

-- an office was closed or was not
pub open_or_shut : {P : Type 0} (was_closed : Bool) → (was_closed ≡ true → P) → (was_closed ≡ false → P) → P
open_or_shut {P = P} was_closed shut opened = (elim was_closed as (λ b. was_closed ≡ b → P) [ true ↦ shut | false ↦ opened ]) refl

-- a closed office that was left as it was stands as before
pub stays_shut : {S : Type 0} (g : Ghosts S) {machine : Machine} {was_closed is_closed : Bool} {was_known known : Known} {old new : Held S}
    → StandsAt machine was_closed was_known (state g old) → is_closed ≡ true → known ≡ was_known → new ≡ old → StandsAt machine is_closed known (state g new)
stays_shut {S} g {machine} {is_closed = is_closed} stands closed same held_same = record {
  consistent = stands.consistent;
  knows = subst (Knows machine) (sym same) stands.knows;
  back = subst (λ (held : Held S). IsBackAt machine (state g held)) (sym held_same) stands.back;
  is_open = λ not_closed. absurd (both_ways is_closed not_closed closed);
}

-- what is so of the error of a result
pub at_err : {A E : Type 0} (P : E → Type 0) (r : Result A E) (e : E) → r ≡ Err e → IfErr r P → P e
at_err P r e is h = subst (λ x. IfErr x P) is h

pub if_err : {A E : Type 0} {P : E → Type 0} (r : Result A E) → ((e : E) → r ≡ Err e → P e) → IfErr r P
if_err (Ok x) h = tt
if_err (Err e) h = h e refl

module _ {S : Type 0} (g : Ghosts S) (command : Command) (was_closed : Bool) (was_known : Known) (old : Held S) (is_closed : Bool) (known : Known) (new : Held S) (r : Result Reply Refusal)
    (h : Applies g command was_closed was_known old is_closed known new r) (machine : Machine) (clean : HasCleanDisk (state g new)) (stands : StandsAt machine was_closed was_known (state g old)) where
  still : was_closed ≡ true → StandsAt machine is_closed known (state g new)
  still closed = let s = h.shut closed in stays_shut g stands s.1 s.2 s.3

  refused_with : (refusal : Refusal) → r ≡ Err refusal → was_closed ≡ false → IsRefusedIn g machine command is_closed new refusal × Knows machine known
  refused_with refusal is opened = at_err (λ refusal. IsRefusedIn g machine command is_closed new refusal × Knows machine known) r refusal is (h.refused clean machine stands opened)

  stands_on : (refusal : Refusal) → IsRefusedIn g machine command is_closed new refusal × Knows machine known → IsBackAt machine (state g new) → StandsAt machine is_closed known (state g new)
  stands_on refusal left back = record { consistent = stands.consistent; knows = left.1; back = back; is_open = left.0.is_open }

  pub carried_refused : IfErr r (λ refusal. IsOfMachine refusal → is_of_store refusal ≡ false → ((step machine command).0 ≡ Err refusal) × StandsAt machine is_closed known (state g new))
  carried_refused = if_err r (λ refusal is of_machine no_store. open_or_shut was_closed
      (λ closed. absurd (both_ways (is_of_store refusal) no_store (ap is_of_store (same_err (sym is ∙ (h.shut closed).0)))))
      (λ opened. let left = refused_with refusal is opened in ((left.0.machines of_machine no_store).0, stands_on refusal left (left.0.back no_store))))

  pub carried_memory : r ≡ Err Memory → MayWantMemory command × StandsAt machine is_closed known (state g new)
  carried_memory is = (h.memory is, open_or_shut was_closed still (λ opened. let left = refused_with Memory is opened in stands_on Memory left (left.0.back refl)))

  pub carried_closed : r ≡ Err Closed → (is_closed ≡ true) × StandsAt machine is_closed known (state g new)
  carried_closed is = open_or_shut was_closed (λ closed. ((h.shut closed).1, still closed))
      (λ opened. let left = refused_with Closed is opened in (left.0.ends refl, stands_on Closed left (left.0.shut refl)))

  -- it is closed out of memory only if its connection cannot be used on
  pub carried_cause : was_closed ≡ false → r ≡ Err Memory → is_closed ≡ true → CannotGoOn g new
  carried_cause opened is closed =
      let why = at_err _ r Memory is (h.cause clean machine stands opened) in
      must_not_go_on g why.1 new is_closed why.0 (λ e failed. not_taken_back g machine command old why.1 e (subst (IsLeft g machine command old why.1) failed why.2)) why.5 (why.4 refl closed)

  -- the store failed with the fault that is told
  failed_with : (f : StoreFault) → r ≡ Err (Store f) → was_closed ≡ false → HasFailed g machine f new
  failed_with f is opened =
      let why = at_err _ r (Store f) is (h.cause clean machine stands opened) in
      let same : new ≡ why.1 = why.6 (λ none. cc) in
      inl (command, old, office_over g stands opened, why.0, subst (λ held. IsLeft g machine command old held why.0) (sym same) why.2, why.3)

  pub carried_store : (f : StoreFault) → r ≡ Err (Store f) → LeavesOne machine (step machine command).1 is_closed (state g new) × HasFailed g machine f new
  carried_store f is = open_or_shut was_closed
      (λ closed. absurd (store_is_not_closed (sym is ∙ (h.shut closed).0)))
      (λ opened. let left = refused_with (Store f) is opened in (record { closed = left.0.ends refl; left = left.0.left }, failed_with f is opened))
    where
      store_is_not_closed : {f : StoreFault} → ¬ ◌≡◌ {A = Result Reply Refusal} (Err (Store f)) (Err Closed)
      store_is_not_closed is = cc

-- ---- whatever the disk does

-- what is so of an office that is closed, and of one that is not
pub is_open : (b : Bool) → ¬ (b ≡ true) → b ≡ false
is_open true other = absurd (other refl)
is_open false other = refl

-- an office says that it is closed only if it was
pub told_closed : {X : Type 0} {r : Result X Refusal} (was_closed : Bool) → (was_closed ≡ false → ¬ (r ≡ Err Closed)) → r ≡ Err Closed → was_closed ≡ true
told_closed true never is = refl
told_closed false never is = absurd (never refl is)
