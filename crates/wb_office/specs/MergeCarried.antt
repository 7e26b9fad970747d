-- The transaction of a merge of lists: how it ends, and why it was not committed.
use Rattle.std.specs.Prelude.{◌≡◌, ◌⊎◌, false, nat_le, List, [], Result, Ok, Err, Vec, IfOk, IfErr, OnOk}
use Rattle.sqlite_trees.specs.declared.store.Store.{Ghosts}
use Rattle.sqlite.specs.Held.{Held, state}
use Rattle.sqlite.specs.State.{State, HasCleanDisk, IsUnchanged}
use Rattle.wb_sql.specs.Transactions.{FailsToRun, IsKeptOrUndone}
use Rattle.wb_states.specs.declared.counts.Counts.{Counts}
use Rattle.wb_states.specs.declared.refusal.Refusal.{Refusal}
use Rattle.wb_states.specs.declared.reply.PartReply.{PartReply}
use Rattle.wb_states.specs.declared.store_fault.StoreFault.{StoreFault}
use Rattle.wb_states.specs.declared.store_fault.StoreFault.TheVariants.{Device}
use Rattle.wb_states.specs.Limits.{count_limit}
use Rattle.wb_states.specs.Machine.{Machine}
use Rattle.wb_merge.specs.Merged.{Records}
use Rattle.wb_store.specs.Ending.{IsFaultOfCommit, IsFaultOfRollBack}
use Rattle.wb_store.specs.Others.{KeepsOthers}
use Rattle.wb_store.specs.Settled.{IsBackAt, IsSettled, LeavesEither, begun}
use Rattle.wb_office.specs.declared.answer.Failure.{Failure}
use Rattle.wb_office.specs.declared.answer.Failure.TheVariants.{Refused, Unread, Uncommitted}
use Rattle.wb_office.specs.declared.carry.CarryError.{CarryError}
use Rattle.wb_office.specs.declared.carry.CarryError.TheVariants.{TakenBack, RollBackFailed, InDoubt}
use Rattle.wb_office.specs.declared.merge_lists.Stop.{Stop}
use Rattle.wb_office.specs.declared.merge_lists.Stop.TheVariants as stop
use Rattle.wb_office.specs.Carried.{FailsToRollBack, IsEnded, failure_of}
use Rattle.wb_office.specs.Kinds.{IsOfStep}
use Rattle.wb_office.specs.MergeLists.{FailsToMerge, IsAcceptedMerge, IsMergedIn, IsRefusedMerge, merged_office}

-- the whole merge was made in its transaction, and then the commit failed with this fault
abbrev pub FailsAtMergeCommit : {S : Type 0} → Ghosts S → (Machine → List PartReply → Records → Type 0) → Counts → Machine → Held S → StoreFault → Type 0
FailsAtMergeCommit {S} g Done counts machine old fault =
    (at : Held S) × ((replies : List PartReply) × (IsMergedIn g Done counts machine replies (begun old) at × IsFaultOfCommit g at fault))

-- a merge was not made in its transaction for this fault, or the commit failed with it
abbrev pub FailsAsMerge : {S : Type 0} → Ghosts S → (Machine → List PartReply → Records → Type 0) → Counts → Machine → Held S → StoreFault → Type 0
FailsAsMerge {S} g Done counts machine old fault =
    ((at : Held S) × FailsToMerge g counts (begun old) at fault) ⊎ FailsAtMergeCommit g Done counts machine old fault

-- a merge was refused, and its transaction could not be taken back: ROLLBACK failed with this fault, or the connection
-- cannot be used on after it
abbrev pub IsRefusedAndLeft : {S : Type 0} → Ghosts S → (Machine → List PartReply → Records → Type 0) → Counts → Machine → Held S → StoreFault → Type 0
IsRefusedAndLeft {S} g Done counts machine new fault =
    (refusal : Refusal) × (IsRefusedMerge Done counts machine refusal
    × (((at : Held S) × IsFaultOfRollBack (state g at) (state g new) fault)
    ⊎ ((fault ≡ Device) × ((at : Held S) × FailsToRun [] (state g at) (state g new)))))

-- why the transaction of a merge was not committed, and how ROLLBACK answered, if it was run
abbrev pub MergeEndsFor : {S : Type 0} → Ghosts S → (Machine → List PartReply → Records → Type 0) → Counts → Machine → Held S → Held S → CarryError → Type 0
MergeEndsFor g Done counts machine old new (TakenBack fault) = FailsAsMerge g Done counts machine old fault × IsEnded g new
MergeEndsFor g Done counts machine old new (RollBackFailed fault) =
    (FailsAsMerge g Done counts machine old fault × FailsToRollBack g new) ⊎ IsRefusedAndLeft g Done counts machine new fault
MergeEndsFor g Done counts machine old new (InDoubt fault) = FailsAtMergeCommit g Done counts machine old fault

-- what was committed before stands, unless the commit is in doubt: then that or the office after the merge
abbrev pub MergeLeavesAs : (Machine → List PartReply → Records → Type 0) → Counts → Machine → State → CarryError → Type 0
MergeLeavesAs Done counts machine s (TakenBack fault) = IsBackAt machine s
MergeLeavesAs Done counts machine s (RollBackFailed fault) = IsBackAt machine s
MergeLeavesAs Done counts machine s (InDoubt fault) =
    (replies : List PartReply) × ((last : Records) × (IsAcceptedMerge Done counts machine replies last × LeavesEither machine (merged_office counts last machine) s))

-- why a merge is not carried out, and where the office is left: it is refused, and nothing is changed; or its
-- transaction was not committed
abbrev pub IsNotMerged : {S : Type 0} → Ghosts S → (Machine → List PartReply → Records → Type 0) → Counts → Machine → Held S → Held S → Failure → Type 0
IsNotMerged g Done counts machine old new (Refused refusal) = IsRefusedMerge Done counts machine refusal × IsSettled machine (state g new)
IsNotMerged g Done counts machine old new (Unread fault) = ⊥
IsNotMerged g Done counts machine old new (Uncommitted failure) =
    MergeLeavesAs Done counts machine (state g new) failure × MergeEndsFor g Done counts machine old new failure

-- a merge was carried out, with these replies
pub record IsCarriedMerge {S : Type 0} (g : Ghosts S) (Done : Machine → List PartReply → Records → Type 0) (counts : Counts) (machine : Machine) (replies : List PartReply) (new : Held S) : Type 0 where
  pub last : Records
  pub accepted : IsAcceptedMerge Done counts machine replies last
  pub settled : IsSettled (merged_office counts last machine) (state g new)

-- a merge of lists of which an office may read the one and of which the other comes, in a transaction of its own, over
-- a connection that is settled at the office: if it succeeds, the connection is settled at the office after it, and the
-- tables of others keep their rows; if it fails, the office is as before, but if the commit is in doubt a crash leaves
-- the one or the other
pub record CarriesLists {S X : Type 0} (g : Ghosts S) (Ready : Machine → Type 0) (Done : Machine → List PartReply → Records → Type 0) (counts : Counts) (old new : Held S)
    (result : Result (Vec PartReply X) Failure) : Type 0 where
  pub was_clean : HasCleanDisk (state g new) → HasCleanDisk (state g old)
  pub limit : new.step_limit ≡ old.step_limit
  pub room : OnOk result (nat_le count_limit counts.accepted ≡ false)
  pub ok : HasCleanDisk (state g new) → (machine : Machine) → IsSettled machine (state g old) → Ready machine
      → IfOk result (λ replies. IsCarriedMerge g Done counts machine replies.items new)
  pub err : HasCleanDisk (state g new) → (machine : Machine) → IsSettled machine (state g old) → Ready machine
      → IfErr result (IsNotMerged g Done counts machine old new)
  pub others : HasCleanDisk (state g new) → (machine : Machine) → IsSettled machine (state g old) → Ready machine
      → OnOk result (KeepsOthers (state g old).now (state g new).now)
  pub of_step : IfErr result IsOfStep

-- ---- a merge that stopped

-- the failure of a merge that stopped, by the answer to the call that was to take its transaction back: a refused merge
-- is refused only if it was and the connection can be used on
abbrev pub EndsStopped : {S : Type 0} → Ghosts S → Stop → Result (Unit {0}) StoreFault → Held S → Held S → Failure → Type 0
EndsStopped g (stop.Failed fault) ended old new failure = (failure ≡ Uncommitted (failure_of fault ended)) × (new ≡ old)
EndsStopped g (stop.Refused refusal) (Ok x) old new failure =
    ((failure ≡ Refused refusal) × (HasCleanDisk (state g new) → IsUnchanged (state g old) (state g new)))
    ⊎ ((failure ≡ Uncommitted (RollBackFailed Device))
    × (HasCleanDisk (state g new) → FailsToRun [] (state g old) (state g new) × IsKeptOrUndone (state g old) (state g new)))
EndsStopped g (stop.Refused refusal) (Err fault) old new failure = (failure ≡ Uncommitted (RollBackFailed fault)) × (new ≡ old)
