-- What the office answers to a command that is carried out over its tables, and where it then stands.
use Rattle.std.specs.Prelude.{◌≡◌, ◌⊎◌, ℕ, ◌+◌, Bool, true, false, List, Option, Result, Ok, Err, IfOk, IfErr, OnOk}
use Rattle.std.specs.FinMap as map
use Rattle.sqlite_trees.specs.declared.store.Store.{Ghosts}
use Rattle.sqlite.specs.Held.{Held, state}
use Rattle.sqlite.specs.State.{HasCleanDisk}
use Rattle.wb_states.specs.declared.arch.OsCpu.{OsCpu}
use Rattle.wb_states.specs.declared.command.Command.{Command}
use Rattle.wb_states.specs.declared.command.Command.TheVariants as of
use Rattle.wb_states.specs.declared.command.Merge.{Merge}
use Rattle.wb_states.specs.declared.counts.Counts.{Counts}
use Rattle.wb_states.specs.declared.reply.PartReply.{PartReply}
use Rattle.wb_states.specs.declared.reply.Reply.{Reply}
use Rattle.wb_states.specs.declared.reply.Reply.TheVariants as is
use Rattle.wb_states.specs.declared.refusal.Refusal.TheVariants.{Memory}
use Rattle.wb_states.specs.Machine.{Machine, Key, IsConsistent}
use Rattle.wb_states.specs.Queue.{Entry}
use Rattle.wb_states.specs.Refusals.{IsOfMachine}
use Rattle.wb_step.specs.Checks.{MayWantMemory}
use Rattle.wb_step.specs.Named.{part_named}
use Rattle.wb_step.specs.Step.{step}
use Rattle.wb_step.specs.Utf8.{HasUtf8Texts}
use Rattle.wb_store.specs.Others.{KeepsOthers}
use Rattle.wb_store.specs.Settled.{IsSettled, IsBackAt}
use Rattle.wb_office.specs.declared.answer.Answered.{Answered}
use Rattle.wb_office.specs.declared.answer.Failure.{Failure}
use Rattle.wb_office.specs.declared.answer.Failure.TheVariants.{Refused, Unread, Uncommitted}
use Rattle.wb_office.specs.declared.known.Known.{Known}
use Rattle.wb_office.specs.declared.carry.CarryError.{CarryError}
use Rattle.wb_office.specs.Carried.{LeavesAs, EndsFor}
use Rattle.wb_office.specs.Changed.{IsStepOf}
use Rattle.wb_store.specs.Finds.{FailsToFind, StaysAs}
use Rattle.wb_office.specs.Keys.{key_put}
use Rattle.wb_office.specs.Kinds.{IsOfStep}
use Rattle.wb_office.specs.MergeCarried.{MergeEndsFor}
use Rattle.wb_office.specs.MergeLists.{AreTextsDone, counted}
use Rattle.wb_office.specs.Batches.{Batch, BatchEndsFor, IsBatchIn}
use Rattle.wb_store.specs.Opening.{AreCountsOf}
use Rattle.wb_office.specs.Standing.{Knows}

-- whether a reply repeats an assignment, so that nothing is accepted
abbrev pub is_again : Reply → Bool
is_again (is.Done accepted) = false
is_again (is.Job accepted given) = false
is_again (is.Again accepted given) = true
is_again (is.Merged accepted parts) = false
is_again (is.Reported accepted changed) = false

-- the answer to a merge that was carried out, with these counts before it and these replies
abbrev pub merged_answer : Counts → List PartReply → Answered
merged_answer counts replies = record { reply = is.Merged (counts.accepted + 1) replies; counts = counted counts }

-- the state has these counts and these architectures
abbrev pub AreOf : Counts → List (List ℕ × OsCpu) → Machine → Type 0
AreOf counts archs machine = AreCountsOf machine counts × (archs ≡ map.entries machine.archs)

-- this is the part of the office that the command names, and the key of the record that it puts
abbrev pub IsNamed : Command → Machine → Option Key → Machine → Type 0
IsNamed command part key machine = (part ≡ part_named machine command) × (key ≡ key_put machine command)

-- a step of the command in a part of the office was written in a transaction, which began after look-ups that changed
-- nothing, and ended with this failure
abbrev pub FailsToKeepStep : {S : Type 0} → Ghosts S → Machine → Command → Held S → Held S → CarryError → Type 0
FailsToKeepStep {S} g machine command old new failure =
    (at : Held S) × (key : Option Key) × (after : Machine) × StaysAs g old at × IsStepOf machine command key after × EndsFor g command key after machine at new failure

-- the command is a merge, and its lists were merged in such a transaction
abbrev pub FailsToKeepMerge : {S : Type 0} → Ghosts S → Machine → Command → Held S → Held S → CarryError → Type 0
FailsToKeepMerge {S} g machine command old new failure =
    (at : Held S) × (merge : Merge) × (counts : Counts) × StaysAs g old at × (command ≡ of.Merge merge) × AreCountsOf machine counts
    × MergeEndsFor g (AreTextsDone merge.sources merge.parts) counts machine at new failure

-- the command changes many rows, which were written in such a transaction
abbrev pub FailsToKeepBatch : {S : Type 0} → Ghosts S → Machine → Command → Held S → Held S → CarryError → Type 0
FailsToKeepBatch {S} g machine command old new failure =
    (at : Held S) × (batch : Batch) × (counts : Counts) × StaysAs g old at × IsBatchIn machine command batch counts ×
    BatchEndsFor g batch counts machine at new failure

-- what a command changed was not committed, for this reason
abbrev pub IsUncommitted : {S : Type 0} → Ghosts S → Machine → Command → Held S → Held S → Failure → Type 0
IsUncommitted g machine command old new (Refused refusal) = ⊥
IsUncommitted g machine command old new (Unread fault) = ⊥
IsUncommitted g machine command old new (Uncommitted failure) =
    LeavesAs machine (step machine command).1 (state g new) failure
    × (FailsToKeepStep g machine command old new failure
    ⊎ (FailsToKeepMerge g machine command old new failure ⊎ FailsToKeepBatch g machine command old new failure))

-- why a command is not carried out, and where the office is left: it is refused, or a look-up failed, and nothing is
-- changed; or what it changed was not committed, and the office is as it was, or, if the commit is in doubt, as it was
-- or as the command makes it
abbrev pub IsLeft : {S : Type 0} → Ghosts S → Machine → Command → Held S → Held S → Failure → Type 0
IsLeft g machine command old new (Refused refusal) =
    (IsOfMachine refusal → (step machine command).0 ≡ Err refusal) × ((refusal ≡ Memory → MayWantMemory command) × IsSettled machine (state g new))
IsLeft g machine command old new (Unread fault) = FailsToFind g old new fault × IsBackAt machine (state g new)
IsLeft g machine command old new (Uncommitted failure) = IsUncommitted g machine command old new (Uncommitted failure)

-- what a step in a part of the office changed, written to the tables of the whole office; if it succeeds, the tables of
-- others keep their rows
pub record KeepsStep {S A : Type 0} (g : Ghosts S) (command : Command) (key : Option Key) (after : Machine) (old new : Held S) (result : Result A Failure) : Type 0 where
  pub was_clean : HasCleanDisk (state g new) → HasCleanDisk (state g old)
  pub limit : new.step_limit ≡ old.step_limit
  pub ok : HasCleanDisk (state g new) → (machine : Machine) → IsSettled machine (state g old) → IsStepOf machine command key after
      → OnOk result (IsSettled (step machine command).1 (state g new))
  pub err : HasCleanDisk (state g new) → (machine : Machine) → IsSettled machine (state g old) → IsStepOf machine command key after
      → IfErr result (IsUncommitted g machine command old new)
  pub others : HasCleanDisk (state g new) → (machine : Machine) → IsSettled machine (state g old) → IsStepOf machine command key after
      → OnOk result (KeepsOthers (state g old).now (state g new).now)
  pub of_step : IfErr result IsOfStep

-- many changes of a command, written to the tables of the whole office; if it succeeds, the tables of others keep their
-- rows
pub record KeepsBatch {S A : Type 0} (g : Ghosts S) (command : Command) (batch : Batch) (counts : Counts)
    (old new : Held S) (result : Result A Failure) : Type 0 where
  pub was_clean : HasCleanDisk (state g new) → HasCleanDisk (state g old)
  pub limit : new.step_limit ≡ old.step_limit
  pub ok : HasCleanDisk (state g new) → (machine : Machine) → IsSettled machine (state g old)
      → IsBatchIn machine command batch counts
      → OnOk result (IsSettled (step machine command).1 (state g new))
  pub err : HasCleanDisk (state g new) → (machine : Machine) → IsSettled machine (state g old)
      → IsBatchIn machine command batch counts
      → IfErr result (IsUncommitted g machine command old new)
  pub others : HasCleanDisk (state g new) → (machine : Machine) → IsSettled machine (state g old)
      → IsBatchIn machine command batch counts
      → OnOk result (KeepsOthers (state g old).now (state g new).now)
  pub of_step : IfErr result IsOfStep

-- a command carried out over the tables of a consistent office of which this is true: the reply is that of the step,
-- after which the tables are settled at its state, with these counts, and the tables of others keep their rows; or a
-- failure leaves the office as above
pub record Answers {S : Type 0} (g : Ghosts S) (Given : Machine → Type 0) (command : Command) (old new : Held S) (result : Result Answered Failure) : Type 0 where
  pub was_clean : HasCleanDisk (state g new) → HasCleanDisk (state g old)
  pub limit : new.step_limit ≡ old.step_limit
  pub ok : HasCleanDisk (state g new) → (machine : Machine) → IsConsistent machine → IsSettled machine (state g old) → Given machine
      → IfOk result (λ answered. ((step machine command).0 ≡ Ok answered.reply) × IsSettled (step machine command).1 (state g new)
      × AreCountsOf (step machine command).1 answered.counts)
  pub err : HasCleanDisk (state g new) → (machine : Machine) → IsConsistent machine → IsSettled machine (state g old) → Given machine
      → IfErr result (IsLeft g machine command old new)
  pub others : HasCleanDisk (state g new) → (machine : Machine) → IsConsistent machine → IsSettled machine (state g old) → Given machine
      → OnOk result (KeepsOthers (state g old).now (state g new).now)
  pub of_step : IfErr result IsOfStep
  pub utf8 : OnOk result (HasUtf8Texts command)

-- a command carried out over the tables of a consistent office by what is known of them: the reply is that of the step,
-- after which they are settled at its state, what is known then is so there, and the tables of others keep their rows;
-- or a failure leaves the office as above, and what is known is so as before
pub record Responds {S : Type 0} (g : Ghosts S) (command : Command) (was_known : Known) (old : Held S) (known : Known) (new : Held S)
    (result : Result Reply Failure) : Type 0 where
  pub was_clean : HasCleanDisk (state g new) → HasCleanDisk (state g old)
  pub limit : new.step_limit ≡ old.step_limit
  pub ok : HasCleanDisk (state g new) → (machine : Machine) → IsConsistent machine → IsSettled machine (state g old) → Knows machine was_known
      → IfOk result (λ reply. ((step machine command).0 ≡ Ok reply) × IsSettled (step machine command).1 (state g new) × Knows (step machine command).1 known)
  pub err : HasCleanDisk (state g new) → (machine : Machine) → IsConsistent machine → IsSettled machine (state g old) → Knows machine was_known
      → IfErr result (λ failure. IsLeft g machine command old new failure × Knows machine known)
  pub others : HasCleanDisk (state g new) → (machine : Machine) → IsConsistent machine → IsSettled machine (state g old) → Knows machine was_known
      → OnOk result (KeepsOthers (state g old).now (state g new).now)
  pub of_step : IfErr result IsOfStep
  pub utf8 : OnOk result (HasUtf8Texts command)
