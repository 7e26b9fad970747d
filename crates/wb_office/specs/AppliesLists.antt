-- What an office over tables answers to a merge of lists that readers give, and how it stands then.
use Rattle.std.specs.Prelude.{◌≡◌, ◌≢◌, Bool, true, false, ℕ, List, [], Option, None, Some, Result, Ok, Err, Vec, IfOk}
use Rattle.std.specs.Prelude.{IfErr, IfSome, IsTrue, OnOk}
use Rattle.sqlite_trees.specs.declared.store.Store.{Ghosts}
use Rattle.sqlite.specs.Held.{Held, state}
use Rattle.sqlite.specs.State.{HasCleanDisk}
use Rattle.wb_states.specs.declared.reply.Reply.{Reply}
use Rattle.wb_states.specs.declared.refusal.Refusal.{Refusal}
use Rattle.wb_states.specs.declared.refusal.Refusal.TheVariants.{Closed, Memory}
use Rattle.wb_states.specs.Machine.{Machine}
use Rattle.wb_states.specs.Refusals.{is_of_store}
use Rattle.wb_merge.specs.declared.changes.ArchChanges.{ArchChanges}
use Rattle.wb_merge.specs.Changes.{AreChanges}
use Rattle.wb_step.specs.Offices.{StandsOn}
use Rattle.wb_archive.specs.declared.merge_from.ArchList.{ArchList}
use Rattle.wb_archive.specs.Readers.{IsMergeOf, MayLeave, archs_refusal}
use Rattle.wb_store.specs.Others.{KeepsOthers}
use Rattle.wb_store.specs.Settled.{IsBackAt, LeavesEither}
use Rattle.wb_office.specs.declared.answer.Failure.{Failure}
use Rattle.wb_office.specs.declared.known.Known.{Known}
use Rattle.wb_office.specs.Applies.{IsNotTakenBack, MustClose, refusal_of}
use Rattle.wb_office.specs.ListAnswers.{AreListsLeft}
use Rattle.wb_office.specs.Standing.{Knows, StandsAt}

-- a merge of lists that was made, with this reply: the office stands open at the state after it
pub record AreListsApplied {S R : Type 0} (g : Ghosts S) (remaining : R → Option (List ℕ)) (sources : R) (lists : List (ArchList R)) (machine : Machine) (is_closed : Bool) (known : Known)
    (new : Held S) (reply : Reply) : Type 0 where
  pub after : Machine
  pub is : IsMergeOf remaining sources lists machine (Ok reply, after)
  pub stands : StandsAt after is_closed known (state g new)
  pub opened : is_closed ≡ false

-- what an office tells of changes: nothing if they are not known
abbrev pub changes_told : {X : Type 0} → Option (Vec ArchChanges X) → List ArchChanges
changes_told None = []
changes_told (Some changes) = changes.items

-- a merge of lists that was made, with this reply, of which what it changed is known, part by part, if something is
pub record HasListsNoted {S R X : Type 0} (g : Ghosts S) (remaining : R → Option (List ℕ)) (sources : R)
    (lists : List (ArchList R)) (machine : Machine) (is_closed : Bool) (known : Known)
    (changes : Option (Vec ArchChanges X)) (new : Held S) (reply : Reply) : Type 0 where
  pub applied : AreListsApplied g remaining sources lists machine is_closed known new reply
  pub are : IfSome changes (λ noted. AreChanges noted.items machine.records applied.after.records)

-- a merge of lists that was not made is refused, and the office stands as before, or is closed
pub record AreListsRefused {S R : Type 0} (g : Ghosts S) (remaining : R → Option (List ℕ)) (sources : R) (lists : List (ArchList R)) (machine : Machine) (is_closed : Bool) (new : Held S)
    (refusal : Refusal) : Type 0 where
  pub machines : refusal ≢ Memory → is_of_store refusal ≡ false → IsMergeOf remaining sources lists machine (Err refusal, machine) × (is_closed ≡ false)
  pub back : is_of_store refusal ≡ false → IsBackAt machine (state g new)
  pub is_open : is_closed ≡ false → IsTrue (state g new).is_open
  pub ends : is_of_store refusal ≡ true → is_closed ≡ true
  pub left : (after : Machine) × (MayLeave remaining sources lists machine after × LeavesEither machine after (state g new))

-- an office over tables merges lists that readers give: the reply is one of a merge of what they give, the office
-- stands at the state after it, and the tables of others keep their rows; a refusal of the state changes nothing; out
-- of memory, it stands as before, and is closed only if its connection cannot be used on, or the transaction could not
-- be taken back; after a fault of the store it is closed, and the merge stands whole or not at all; a closed office,
-- and no other, answers that it is closed; and a merge whose names are refused is refused for them, and nothing is done
pub record AppliesLists {S R : Type 0} (g : Ghosts S) (remaining : R → Option (List ℕ)) (sources : R) (lists : List (ArchList R)) (was_closed : Bool) (was_known : Known) (old : Held S)
    (is_closed : Bool) (known : Known) (new : Held S) (result : Result Reply Refusal) : Type 0 where
  pub was_clean : HasCleanDisk (state g new) → HasCleanDisk (state g old)
  pub limit : new.step_limit ≡ old.step_limit
  pub shut : was_closed ≡ true → (result ≡ Err Closed) × (is_closed ≡ true) × (known ≡ was_known) × (new ≡ old)
  pub stands : was_closed ≡ false → StandsOn (is_closed ≡ true) result
  pub names : was_closed ≡ false → (refusal : Refusal) → archs_refusal lists ≡ Some refusal
      → (result ≡ Err refusal) × (is_closed ≡ false) × (known ≡ was_known) × (new ≡ old)
  pub reply : HasCleanDisk (state g new) → (machine : Machine) → StandsAt machine was_closed was_known (state g old)
      → IfOk result (AreListsApplied g remaining sources lists machine is_closed known new)
  pub others : HasCleanDisk (state g new) → (machine : Machine) → StandsAt machine was_closed was_known (state g old)
      → OnOk result (KeepsOthers (state g old).now (state g new).now)
  pub refused : HasCleanDisk (state g new) → (machine : Machine) → StandsAt machine was_closed was_known (state g old) → was_closed ≡ false
      → IfErr result (λ refusal. AreListsRefused g remaining sources lists machine is_closed new refusal × Knows machine known)
  pub cause : HasCleanDisk (state g new) → (machine : Machine) → StandsAt machine was_closed was_known (state g old) → was_closed ≡ false
      → IfErr result (λ refusal. (failure : Failure) × (at : Held S) × AreListsLeft g remaining sources lists machine old at failure × (refusal ≡ refusal_of failure)
      × (refusal ≡ Memory → is_closed ≡ true → MustClose g failure at new) × (IsNotTakenBack failure → (is_closed ≡ true) × (new ≡ at))
      × (refusal ≢ Memory → new ≡ at))
