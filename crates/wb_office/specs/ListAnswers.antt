-- What the office answers to a merge of lists that readers give, over its tables, and where it then stands.
use Rattle.std.specs.Prelude.{◌≡◌, ℕ, List, Option, Result, Ok, Err, Vec, IfOk, IfErr, OnOk}
use Rattle.std.specs.List.{AllZip}
use Rattle.sqlite_trees.specs.declared.store.Store.{Ghosts}
use Rattle.sqlite.specs.Held.{Held, state}
use Rattle.sqlite.specs.State.{State, HasCleanDisk}
use Rattle.deb_control.specs.Feed.{MayStandAt}
use Rattle.deb_control.specs.FeedState.{FeedState, fresh}
use Rattle.wb_states.specs.declared.counts.Counts.{Counts}
use Rattle.wb_states.specs.declared.reply.Reply.{Reply}
use Rattle.wb_states.specs.Machine.{Machine, IsConsistent}
use Rattle.wb_states.specs.Refusals.{IsOfMachine}
use Rattle.wb_merge.specs.declared.changes.ArchChanges.{ArchChanges}
use Rattle.wb_merge.specs.Changes.{NotesChanges}
use Rattle.wb_archive.specs.declared.merge.PartList.{PartList}
use Rattle.wb_archive.specs.declared.merge_from.ArchList.{ArchList}
use Rattle.wb_archive.specs.Feeds.{IsFeedBreak}
use Rattle.wb_archive.specs.Readers.{IsFeedOf, IsMergeOf}
use Rattle.wb_store.specs.Finds.{FailsToFind, StaysAs}
use Rattle.wb_store.specs.Opening.{AreCountsOf}
use Rattle.wb_store.specs.Others.{KeepsOthers}
use Rattle.wb_store.specs.Settled.{IsBackAt, IsSettled, LeavesEither}
use Rattle.wb_office.specs.declared.answer.Failure.{Failure}
use Rattle.wb_office.specs.declared.answer.Failure.TheVariants.{Refused, Unread, Uncommitted}
use Rattle.wb_office.specs.declared.carry.CarryError.{CarryError}
use Rattle.wb_office.specs.declared.carry.CarryError.TheVariants.{TakenBack, RollBackFailed, InDoubt}
use Rattle.wb_office.specs.declared.known.Known.{Known}
use Rattle.wb_office.specs.Kinds.{IsOfStep}
use Rattle.wb_office.specs.MergeCarried.{MergeEndsFor}
use Rattle.wb_office.specs.MergeLists.{AreListsDone}
use Rattle.wb_office.specs.Standing.{Knows}

-- what was committed before stands, unless the commit is in doubt: then that or the office after a merge of the lists
-- that is accepted
abbrev pub ListsLeaveAs : {R : Type 0} → (R → Option (List ℕ)) → R → List (ArchList R) → Machine → State → CarryError → Type 0
ListsLeaveAs remaining sources lists machine s (TakenBack fault) = IsBackAt machine s
ListsLeaveAs remaining sources lists machine s (RollBackFailed fault) = IsBackAt machine s
ListsLeaveAs remaining sources lists machine s (InDoubt fault) =
    (reply : Reply) × ((after : Machine) × (IsMergeOf remaining sources lists machine (Ok reply, after) × LeavesEither machine after s))

-- the lists were merged in a transaction, as feeds of the bytes of their readers: it began after look-ups that changed
-- nothing, and ended with this failure
abbrev pub FailsToKeepLists : {S R : Type 0} → Ghosts S → (R → Option (List ℕ)) → R → List (ArchList R) → Machine → Held S → Held S → CarryError → Type 0
FailsToKeepLists {S} g remaining sources lists machine old new failure =
    (at : Held S) × (feeds : List (PartList FeedState)) × (counts : Counts) × StaysAs g old at × AllZip (IsFeedOf remaining machine) lists feeds × AreCountsOf machine counts
    × MergeEndsFor g (AreListsDone MayStandAt IsFeedBreak (fresh (remaining sources)) feeds) counts machine at new failure

-- why a merge of lists is not made, and where the office is left: it is refused, or a look-up failed, and nothing is
-- changed; or it was not committed, and the office is as it was, or, if the commit is in doubt, as it was or as the
-- merge makes it
abbrev pub AreListsLeft : {S R : Type 0} → Ghosts S → (R → Option (List ℕ)) → R → List (ArchList R) → Machine → Held S → Held S → Failure → Type 0
AreListsLeft g remaining sources lists machine old new (Refused refusal) =
    (IsOfMachine refusal → IsMergeOf remaining sources lists machine (Err refusal, machine)) × IsSettled machine (state g new)
AreListsLeft g remaining sources lists machine old new (Unread fault) = FailsToFind g old new fault × IsBackAt machine (state g new)
AreListsLeft g remaining sources lists machine old new (Uncommitted failure) =
    ListsLeaveAs remaining sources lists machine (state g new) failure × FailsToKeepLists g remaining sources lists machine old new failure

-- lists were merged with this reply: the tables are settled at the office after the merge, of which this is known
pub record AreListsMerged {S R : Type 0} (g : Ghosts S) (remaining : R → Option (List ℕ)) (sources : R) (lists : List (ArchList R)) (machine : Machine) (known : Known) (new : Held S)
    (reply : Reply) : Type 0 where
  pub after : Machine
  pub is : IsMergeOf remaining sources lists machine (Ok reply, after)
  pub settled : IsSettled after (state g new)
  pub knows : Knows after known

-- lists were merged with this reply, and what leads from the office before to the one after it is noted, unless nothing
-- is noted any longer
pub record NotesLists {S R X : Type 0} (g : Ghosts S) (remaining : R → Option (List ℕ)) (sources : R)
    (lists : List (ArchList R)) (machine : Machine) (known : Known) (was_noted noted : Option (Vec ArchChanges X))
    (new : Held S) (reply : Reply) : Type 0 where
  pub merged : AreListsMerged g remaining sources lists machine known new reply
  pub notes : NotesChanges was_noted noted machine.records merged.after.records

-- a merge of lists that readers give, carried out over the tables of a consistent office by what is known of them: the
-- reply is one of a merge of what they give, after which the tables are settled at the office after it, what is known
-- then is so there, and the tables of others keep their rows; or a failure leaves the office as above, and what is
-- known is so as before
pub record RespondsLists {S R : Type 0} (g : Ghosts S) (remaining : R → Option (List ℕ)) (sources : R) (lists : List (ArchList R)) (was_known : Known) (old : Held S) (known : Known) (new : Held S)
    (result : Result Reply Failure) : Type 0 where
  pub was_clean : HasCleanDisk (state g new) → HasCleanDisk (state g old)
  pub limit : new.step_limit ≡ old.step_limit
  pub ok : HasCleanDisk (state g new) → (machine : Machine) → IsConsistent machine → IsSettled machine (state g old) → Knows machine was_known
      → IfOk result (AreListsMerged g remaining sources lists machine known new)
  pub err : HasCleanDisk (state g new) → (machine : Machine) → IsConsistent machine → IsSettled machine (state g old) → Knows machine was_known
      → IfErr result (λ failure. AreListsLeft g remaining sources lists machine old new failure × Knows machine known)
  pub others : HasCleanDisk (state g new) → (machine : Machine) → IsConsistent machine → IsSettled machine (state g old) → Knows machine was_known
      → OnOk result (KeepsOthers (state g old).now (state g new).now)
  pub of_step : IfErr result IsOfStep
