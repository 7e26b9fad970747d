-- Many changes that are written in one transaction with the counts, and how it ends: those of a report, or of an
-- architecture that is taken away.
use Rattle.std.specs.Prelude.{◌≡◌, ◌⊎◌, ℕ, ◌≤◌, ◌+◌, List, None, Result, IsTrue, IfErr, OnOk, OnErr, map as each}
use Rattle.sqlite_trees.specs.declared.store.Store.{Ghosts}
use Rattle.sqlite.specs.Tree.{Trees}
use Rattle.sqlite.specs.Held.{Held, state}
use Rattle.sqlite.specs.State.{HasCleanDisk, Survives}
use Rattle.wb_states.specs.declared.command.Command.{Command}
use Rattle.wb_states.specs.declared.command.Command.TheVariants as of
use Rattle.wb_states.specs.declared.counts.Counts.{Counts}
use Rattle.wb_states.specs.declared.store_fault.StoreFault.{StoreFault}
use Rattle.wb_states.specs.declared.store_fault.Table.TheVariants.{Office}
use Rattle.wb_states.specs.Limits.{count_limit}
use Rattle.wb_states.specs.Lookups.{entry_of}
use Rattle.wb_states.specs.Machine.{Key, Machine, builder_pairs}
use Rattle.wb_states.specs.Queue.{Entry}
use Rattle.wb_merge.specs.Merged.{recorded_names}
use Rattle.wb_merge.specs.Reported.{rows_reported, with_rows}
use Rattle.wb_step.specs.Checks.{first_refusal}
use Rattle.wb_step.specs.Step.{lines_said}
use Rattle.wb_store.specs.Stands.{StandsFor}
use Rattle.wb_store.specs.Calls.{Becomes}
use Rattle.wb_store.specs.Faults.{IsUnfit}
use Rattle.wb_store.specs.Others.{KeepsOthers}
use Rattle.wb_store.specs.Settled.{IsSettled, IsUnderWay, begun}
use Rattle.wb_store.specs.Writes as write
use Rattle.wb_store.specs.Writes.{OfficeWrite}
use Rattle.wb_office.specs.declared.batch.Batch.{Batch as Referred}
use Rattle.wb_office.specs.declared.batch.Batch.TheVariants as referred
use Rattle.wb_office.specs.declared.carry.CarryError.{CarryError}
use Rattle.wb_office.specs.declared.carry.CarryError.TheVariants.{TakenBack, RollBackFailed, InDoubt}
use Rattle.wb_office.specs.Carried.{FailsAtCommit, FailsToRollBack, IsEnded, LeavesAs}
use Rattle.wb_office.specs.Changed.{IsLeftOrBack}
use Rattle.wb_office.specs.RowWrites.{HasTakeOverLimit, PutsOne, TakesOut, without_arch}
use Rattle.wb_office.specs.Turns.{IsNoOffice, StopsWith}

-- ---- what is written

-- what is changed beside the counts
pub data Batch : Type 0 where
  -- these records are put at their keys
  Puts : List Entry → Batch
  -- an architecture goes, with its records of these source packages, and with those of these pairs of a builder and an
  -- architecture that are of it
  Removes : List ℕ → List (List ℕ) → List Key → Batch

-- in a program, by what it refers to
abbrev pub batch_of : Referred → Batch
batch_of (referred.Puts rows) = Puts (each entry_of rows.now)
batch_of (referred.Removes arch names pairs) = Removes arch.now names.now pairs.now

-- an office after these changes, with the counts before them
abbrev pub batch_changed : Batch → Machine → Machine
batch_changed (Puts rows) machine = record machine { records = with_rows machine.records rows }
batch_changed (Removes arch names pairs) machine = without_arch arch names pairs machine

-- and with these counts
abbrev pub batch_written : Batch → Counts → Machine → Machine
batch_written batch counts machine = record (batch_changed batch machine)
    { handed = counts.handed; accepted = counts.accepted }

-- the write is one of these changes
abbrev pub IsChangeOf : Batch → OfficeWrite → Type 0
IsChangeOf (Puts rows) it = PutsOne rows it
IsChangeOf (Removes arch names pairs) it = TakesOut arch names pairs it

-- the write is one of these changes, or sets these counts
abbrev pub IsWriteOfBatch : Batch → Counts → OfficeWrite → Type 0
IsWriteOfBatch batch counts (write.SetsCounts handed accepted) = (handed ≡ counts.handed) × (accepted ≡ counts.accepted)
IsWriteOfBatch batch counts it = IsChangeOf batch it

-- both counts are at most the limit
abbrev pub HaveFit : Counts → Type 0
HaveFit counts = (counts.handed ≤ count_limit) × (counts.accepted ≤ count_limit)

-- why these changes are not made: a take number of the records that are put is above the limit
abbrev pub CannotChange : Batch → StoreFault → Type 0
CannotChange (Puts rows) fault = HasTakeOverLimit rows fault
CannotChange (Removes arch names pairs) fault = ⊥

-- why these are not written: memory ran out, or a count or a take number is above the limit
abbrev pub CannotWriteBatch : Batch → Counts → StoreFault → Type 0
CannotWriteBatch batch counts fault = IsUnfit Office (HaveFit counts) fault ⊎ CannotChange batch fault

-- these changes and counts, written in a transaction: if it succeeds, a database that stood for an office stands for it
-- after them; if it fails, one of its writes failed or cannot be made, and the transaction is under way or taken back;
-- and a crash leaves no more than before
pub record WritesBatch {S A : Type 0} (g : Ghosts S) (batch : Batch) (counts : Counts) (old new : Held S)
    (result : Result A StoreFault) : Type 0 where
  pub ok : HasCleanDisk (state g new)
      → OnOk result ((whole : Machine) → StandsFor whole (state g old).now
      → Becomes (batch_written batch counts whole) (state g old) (state g new))
  pub cause : HasCleanDisk (state g new) → IsTrue old.in_transaction → (machine : Machine) → StandsFor machine (state g old).now
      → IfErr result (StopsWith g (IsWriteOfBatch batch counts) (CannotWriteBatch batch counts) old new)
  pub err : HasCleanDisk (state g new) → (first now : Machine) → IsUnderWay first now (state g old) → OnErr result (IsLeftOrBack g first new)
  pub survives : Survives (state g old) (state g new) (λ _. IsNoOffice g old)

-- ---- their transaction

-- one of these writes failed with this fault, or was not made, or all were written and the commit failed with it
abbrev pub FailsToWriteBatch : {S : Type 0} → Ghosts S → Batch → Counts → Machine → Held S → StoreFault → Type 0
FailsToWriteBatch {S} g batch counts whole old fault =
    ((at : Held S) × StopsWith g (IsWriteOfBatch batch counts) (CannotWriteBatch batch counts) (begun old) at fault)
    ⊎ FailsAtCommit g (batch_written batch counts whole) old fault

-- why their transaction was not committed, and how ROLLBACK answered, if it was run
abbrev pub BatchEndsFor : {S : Type 0} → Ghosts S → Batch → Counts → Machine → Held S → Held S → CarryError → Type 0
BatchEndsFor g batch counts whole old new (TakenBack fault) = FailsToWriteBatch g batch counts whole old fault × IsEnded
    g new
BatchEndsFor g batch counts whole old new (RollBackFailed fault) = FailsToWriteBatch g batch counts whole old fault ×
    FailsToRollBack g new
BatchEndsFor g batch counts whole old new (InDoubt fault) = FailsAtCommit g (batch_written batch counts whole) old fault

-- these trees hold the tables of the office for which the database stands, after these changes, with these counts
abbrev pub HoldsBatch : {S : Type 0} → Ghosts S → Batch → Counts → Held S → Trees → Type 0
HoldsBatch g batch counts old db =
    (whole : Machine) → StandsFor whole (state g old).now
    → StandsFor (batch_written batch counts whole) (record { schema = old.schema; trees = db })

-- these changes and counts, in a transaction of their own, over a connection that is settled at an office: if it
-- succeeds, the connection is settled at the office after them, and the tables of others keep their rows; if it fails,
-- the office is as before, but if the commit is in doubt a crash leaves the one or the other; and a crash after it
-- leaves no third
pub record CarriesBatch {S A : Type 0} (g : Ghosts S) (batch : Batch) (counts : Counts) (old new : Held S)
    (result : Result A CarryError) : Type 0 where
  pub ok : HasCleanDisk (state g new) → (whole : Machine) → IsSettled whole (state g old)
      → OnOk result (IsSettled (batch_written batch counts whole) (state g new))
  pub err : HasCleanDisk (state g new) → (whole : Machine) → IsSettled whole (state g old)
      → IfErr result (LeavesAs whole (batch_written batch counts whole) (state g new))
  pub cause : HasCleanDisk (state g new) → (whole : Machine) → IsSettled whole (state g old)
      → IfErr result (BatchEndsFor g batch counts whole old new)
  pub others : HasCleanDisk (state g new) → (whole : Machine) → IsSettled whole (state g old) → OnOk result (KeepsOthers (state g old).now (state g new).now)
  pub survives : Survives (state g old) (state g new) (HoldsBatch g batch counts old)

-- ---- the commands

-- the changes that a command makes of an office: those of a report, or of an architecture that is taken away; no other
-- command makes any so
abbrev pub IsBatchOf : Machine → Command → Batch → Type 0
IsBatchOf machine (of.Report report) (Puts rows) = rows ≡ rows_reported machine.records report.arch
    (lines_said report.text)
IsBatchOf machine (of.RemoveArch removal) (Removes arch names pairs) =
    (arch ≡ removal.name) × ((names ≡ recorded_names machine.records removal.name) × (pairs ≡ builder_pairs machine))
IsBatchOf machine command batch = ⊥

-- an office accepts a command: these are its changes, and these the counts after it
pub record IsBatchIn (machine : Machine) (command : Command) (batch : Batch) (counts : Counts) : Type 0 where
  pub good : first_refusal machine command ≡ None
  pub batch_is : IsBatchOf machine command batch
  pub counts_are : (counts.handed ≡ machine.handed) × (counts.accepted ≡ machine.accepted + 1)
