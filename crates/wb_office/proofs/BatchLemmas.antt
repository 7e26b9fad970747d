-- How many changes of a command are kept, or not, and what is then answered.
use Rattle.std.proofs.Common.{◌≡◌, refl, ap, subst, inl, inr, false, Option, Some, None, Result, Ok, Err}
use Rattle.sqlite_trees.specs.declared.store.Store.{Ghosts}
use Rattle.sqlite.specs.Held.{Held, state}
use Rattle.wb_states.specs.declared.command.Command.{Command}
use Rattle.wb_states.specs.declared.command.Command.TheVariants as of
use Rattle.wb_states.specs.declared.counts.Counts.{Counts}
use Rattle.wb_states.specs.declared.refusal.Refusal.{Refusal}
use Rattle.wb_states.specs.declared.reply.Reply.{Reply}
use Rattle.wb_states.specs.Machine.{Machine}
use Rattle.wb_states.specs.Refusals.{IsOfMachine, is_of_store}
use Rattle.wb_step.specs.Checks.{first_refusal}
use Rattle.wb_step.specs.Step.{outcome, step}
use Rattle.wb_step.specs.Targets.{again_of}
use Rattle.wb_step.specs.Utf8.{HasUtf8Texts}
use Rattle.wb_store.specs.Settled.{IsSettled}
use Rattle.wb_store.proofs.StaysLemmas.{was_clean}
use Rattle.wb_office.specs.declared.answer.Answered.{Answered}
use Rattle.wb_office.specs.declared.answer.Failure.{Failure}
use Rattle.wb_office.specs.declared.answer.Failure.TheVariants.{Refused, Unread, Uncommitted}
use Rattle.wb_office.specs.declared.carry.CarryError.{CarryError}
use Rattle.wb_office.specs.Answers.{Answers, IsLeft, IsUncommitted, KeepsBatch}
use Rattle.wb_office.specs.Batches.{Batch, Puts, Removes, CarriesBatch, IsBatchIn, batch_written}
use Rattle.wb_office.specs.Carried.{LeavesAs}
use Rattle.wb_office.proofs.RemovalLemmas.{removal_whole}
use Rattle.wb_office.proofs.ReportLemmas.{report_whole}

-- ---- the changes make the whole

-- the changes of a command make its step
pub batch_whole : (machine : Machine) (command : Command) (batch : Batch) (counts : Counts)
    → IsBatchIn machine command batch counts
    → batch_written batch counts machine ≡ (step machine command).1
batch_whole machine (of.Report report) (Puts rows) counts is = report_whole is
batch_whole machine (of.RemoveArch removal) (Removes arch names pairs) counts is = removal_whole is
batch_whole machine command batch counts is = absurd is.batch_is

-- ---- they are kept, or not

module _ {S : Type 0} {g : Ghosts S} {batch : Batch} {counts : Counts} {old new : Held S} where
  -- what changed is committed
  pub batch_kept : {A B : Type 0} {x : A} {y : B} → CarriesBatch {A = A} g batch counts old new (Ok x)
      → (command : Command) → KeepsBatch {A = B} g command batch counts old new (Ok y)
  batch_kept carries command = record {
    was_clean = was_clean (state g old) (state g new) carries.survives;
    limit = carries.survives.limit;
    ok = λ clean machine settled is. subst (λ (m : Machine). IsSettled m (state g new))
        (batch_whole machine command batch counts is) (carries.ok clean machine settled);
    err = λ clean machine settled is. tt;
    others = λ clean machine settled is. carries.others clean machine settled;
    of_step = tt;
  }

  -- its transaction was not committed
  pub batch_not_committed : {A B : Type 0} {e : CarryError} → CarriesBatch {A = A} g batch counts old new (Err e)
      → (command : Command)
      → KeepsBatch {A = B} g command batch counts old new (Err (Uncommitted e))
  batch_not_committed {e = e} carries command = record {
    was_clean = was_clean (state g old) (state g new) carries.survives;
    limit = carries.survives.limit;
    ok = λ clean machine settled is. tt;
    err = λ clean machine settled is. (
      subst (λ (m : Machine). LeavesAs machine m (state g new) e) (batch_whole machine command batch counts is)
          (carries.err clean machine settled),
      inr (inr (old, batch, counts, inl refl, is, carries.cause clean machine settled)),
    );
    others = λ clean machine settled is. tt;
    of_step = tt;
  }

-- ---- the answer

-- a command that is refused changes nothing
pub refused_here : {S : Type 0} (g : Ghosts S) (command : Command) (held : Held S) (Given : Machine → Type 0)
    (refusal : Refusal)
    → ((machine : Machine) → Given machine → first_refusal machine command ≡ Some refusal)
    → IsOfMachine refusal → is_of_store refusal ≡ false → Answers g Given command held held (Err (Refused refusal))
unfolding step
refused_here g command held Given refusal refused other kind = record {
  was_clean = λ clean. clean;
  limit = refl;
  ok = λ clean machine consistent settled given. tt;
  err = λ clean machine consistent settled given. (
    λ _.
        step_refused machine (refused machine given),
    (λ none. absurd (other none), settled),
  );
  others = λ clean machine consistent settled given. tt;
  of_step = kind;
  utf8 = tt;
}
  where
    step_refused : (machine : Machine) → first_refusal machine command ≡ Some refusal
        → (step machine command).0 ≡ Err refusal
    step_refused machine is = ap (λ (first : Option Refusal).
        (outcome first (again_of machine command) machine command).0) is

-- what was found was kept
pub batch_done : {S A : Type 0} {g : Ghosts S} {x : A} {Given : Machine → Type 0} {batch : Batch} (counts : Counts)
    (command : Command) (reply : Reply) (mid new : Held S)
    → ((machine : Machine) → Given machine → IsBatchIn machine command batch counts)
    → ((machine : Machine) → IsBatchIn machine command batch counts → (step machine command).0 ≡ Ok reply)
    → HasUtf8Texts command
    → KeepsBatch {A = A} g command batch counts mid new (Ok x)
    → Answers g Given command mid new (Ok (record { reply = reply; counts = counts }))
batch_done {batch = batch} counts command reply mid new within replies utf8 keeps = record {
  was_clean = keeps.was_clean;
  limit = keeps.limit;
  ok = λ clean machine consistent settled given.
      let is = within machine given in
      let whole = batch_whole machine command batch counts is in (
        replies machine is,
        keeps.ok clean machine settled is,
        (ap (λ (m : Machine). m.handed) whole, ap (λ (m : Machine). m.accepted) whole),
      );
  err = λ clean machine consistent settled given. tt;
  others = λ clean machine consistent settled given. keeps.others clean machine settled (within machine given);
  of_step = tt;
  utf8 = utf8;
}

-- what was found was not kept
pub batch_not_kept : {S A : Type 0} {g : Ghosts S} {Given : Machine → Type 0} {batch : Batch} (counts : Counts)
    (command : Command) (mid new : Held S) (failure : Failure)
    → ((machine : Machine) → Given machine → IsBatchIn machine command batch counts)
    → KeepsBatch {A = A} g command batch counts mid new (Err failure) → Answers g Given command mid new (Err failure)
batch_not_kept {g = g} counts command mid new failure within keeps = record {
  was_clean = keeps.was_clean;
  limit = keeps.limit;
  ok = λ clean machine consistent settled given. tt;
  err = λ clean machine consistent settled given. left_by machine failure
      (keeps.err clean machine settled (within machine given));
  others = λ clean machine consistent settled given. tt;
  of_step = keeps.of_step;
  utf8 = tt;
}
  where
    left_by : (machine : Machine) (failure : Failure) → IsUncommitted g machine command mid new failure
        → IsLeft g machine command mid new failure
    left_by machine (Refused refusal) none = absurd none
    left_by machine (Unread e) none = absurd none
    left_by machine (Uncommitted e) left = left

-- what holds of a wider choice of offices
pub answers_given : {S : Type 0} {g : Ghosts S} {First Given : Machine → Type 0} {command : Command} {old new : Held S} {r : Result Answered Failure}
    → ((machine : Machine) → First machine → Given machine) → Answers g Given command old new r → Answers g First command old new r
answers_given gives answers = record {
  was_clean = answers.was_clean;
  limit = answers.limit;
  ok = λ clean machine consistent settled first. answers.ok clean machine consistent settled (gives machine first);
  err = λ clean machine consistent settled first. answers.err clean machine consistent settled (gives machine first);
  others = λ clean machine consistent settled first. answers.others clean machine consistent settled (gives machine first);
  of_step = answers.of_step;
  utf8 = answers.utf8;
}
