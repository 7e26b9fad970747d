-- What an accepted command changed in a part of the office, written to the tables of the whole office.
use Rattle.std.specs.Prelude.{◌≡◌, ◌≢◌, ◌⊎◌, ◌↔◌, ℕ, ◌≤◌, Bool, true, false, List, Option, Some, Result, Ok, IsTrue}
use Rattle.std.specs.Prelude.{IfErr}
use Rattle.std.specs.Prelude.{IfSome, OnOk, OnErr, IsSome, option_and_then}
use Rattle.std.specs.FinMap as map
use Rattle.std.specs.Option.{option_map}
use Rattle.sqlite_trees.specs.declared.store.Store.{Ghosts}
use Rattle.sqlite.specs.Held.{Held, state}
use Rattle.sqlite.specs.State.{State, HasCleanDisk, Survives}
use Rattle.wb_sql.specs.Among.{HasOffice}
use Rattle.wb_states.specs.declared.command.Command.{Command}
use Rattle.wb_states.specs.declared.command.Command.TheVariants as of
use Rattle.wb_states.specs.declared.command.Enter.{Enter}
use Rattle.wb_states.specs.declared.reply.Assignment.{Assignment}
use Rattle.wb_states.specs.declared.reply.Reply.{Reply}
use Rattle.wb_states.specs.declared.reply.Reply.TheVariants.{Again}
use Rattle.wb_states.specs.declared.store_fault.StoreFault.{StoreFault}
use Rattle.wb_states.specs.declared.store_fault.Table.TheVariants.{Office, SourceRecord}
use Rattle.wb_states.specs.Forms as form
use Rattle.wb_states.specs.Limits.{count_limit}
use Rattle.wb_states.specs.Machine.{Machine, Key}
use Rattle.wb_states.specs.Queue.{Entry}
use Rattle.wb_archive.specs.Tables.{HasFittingTake}
use Rattle.wb_step.specs.Locality.{LooksAlike}
use Rattle.wb_step.specs.Step.{step}
use Rattle.wb_store.specs.Stands.{StandsFor}
use Rattle.wb_store.specs.Calls.{Becomes, FailsToWrite}
use Rattle.wb_store.specs.Faults.{IsUnfit}
use Rattle.wb_store.specs.Settled.{IsUnderWay, IsBackAt}
use Rattle.wb_store.specs.Writes as write
use Rattle.wb_store.specs.Writes.{OfficeWrite}
use Rattle.wb_office.specs.Keys.{key_put}

-- ---- a step

-- the reply does not repeat to a builder what it builds
abbrev pub IsFresh : Reply → Type 0
IsFresh reply = (accepted : ℕ) (given : Assignment) → reply ≢ Again accepted given

-- a command was accepted in a part of the office, which is `after` then: for the command the part is like the whole
-- office, and in the whole one the command puts the record at this key
pub record IsStepOf (whole : Machine) (command : Command) (key : Option Key) (after : Machine) : Type 0 where
  pub part : Machine
  pub reply : Reply
  pub alike : LooksAlike command part whole
  pub key_is : key ≡ key_put whole command
  pub stepped : step part command ≡ (Ok reply, after)
  pub fresh : IsFresh reply

-- the office after a command, with the counts before it
abbrev pub before_counts : Command → Machine → Machine
before_counts command whole = record (step whole command).1 { handed = whole.handed; accepted = whole.accepted }

-- the record that a state has at the key, with the key
abbrev pub found_at : Machine → Option Key → Option Entry
found_at machine = option_and_then (λ key. option_map (λ current. (key, current)) (map.get machine.records key))

-- a state has a record already at the key of this one, if there is one
abbrev pub IsThere : Machine → Option Entry → Type 0
IsThere machine found = IfSome found (λ entry. IsSome (map.get machine.records entry.0))

-- ---- the numbers that are written

-- the two counts are at most the limit
abbrev pub HasFittingCounts : Machine → Type 0
HasFittingCounts machine = (machine.handed ≤ count_limit) × (machine.accepted ≤ count_limit)

-- the take number of the record at the key, if there is one, is at most the limit
abbrev pub HasFittingTakeAt : Machine → Option Key → Type 0
HasFittingTakeAt after key = IfSome (found_at after key) (λ entry. HasFittingTake entry.1)

-- why the numbers of a change are not written: memory ran out; or a count is above the limit, which is a fault of the
-- office's table; or the take number of the record at the key is, which is one of the table of records
abbrev pub LacksFittingNumbers : Machine → Option Key → StoreFault → Type 0
LacksFittingNumbers after key fault = IsUnfit Office (HasFittingCounts after) fault ⊎ IsUnfit SourceRecord (HasFittingTakeAt after key) fault

-- ---- the writes of a change

-- the command enters a source package
abbrev pub IsEntering : Command → Type 0
IsEntering command = (fields : Enter) × (command ≡ of.Enter fields)

-- the write puts this record, if it is new, and otherwise puts it in place of the one that is there
abbrev pub IsWriteOfRecord : Bool → Option Entry → OfficeWrite → Type 0
IsWriteOfRecord true found (write.PutsRecord entry) = found ≡ Some entry
IsWriteOfRecord false found (write.ReplacesRecord entry) = found ≡ Some entry
IsWriteOfRecord is_new found _ = ⊥

-- the write is that of what an accepted command changed but for the counts: it adds the architecture or the builder of
-- the command, takes its builder from an architecture, takes out the record that it forgets, or writes the record that
-- the part of the office has at the key, which is new if the command entered it
abbrev pub IsWriteOf : Command → Option Key → Machine → OfficeWrite → Type 0
IsWriteOf command key after (write.AddsArch arch) = command ≡ form.AddArch arch.0 arch.1.os arch.1.cpu
IsWriteOf command key after (write.AddsBuilder pair) = command ≡ form.AddBuilder pair.0 pair.1
IsWriteOf command key after (write.RemovesBuilder pair) = command ≡ form.RemoveBuilder pair.0 pair.1
IsWriteOf command key after (write.RemovesRecord gone) = (version : List ℕ) ×
    (command ≡ form.Forget gone.0 gone.1 version)
IsWriteOf command key after it = (is_new : Bool) × (IsTrue is_new ↔ IsEntering command) × IsWriteOfRecord is_new (found_at after key) it

-- ---- a part of a change

-- the database stands for this state: a statement made it so in a transaction, or nothing was written
abbrev pub ComesToStandFor : {S : Type 0} → Ghosts S → Machine → Held S → Held S → Type 0
ComesToStandFor g machine old new = ((old ≡ new) × StandsFor machine (state g new).now) ⊎ Becomes machine (state g old) (state g new)

-- one of these writes failed with this fault, and nothing was written or the whole transaction is taken back
abbrev pub FailsToWriteOne : (OfficeWrite → Type 0) → State → State → StoreFault → Type 0
FailsToWriteOne Is old new fault = (write : OfficeWrite) × Is write × FailsToWrite write old new fault

-- one of these writes failed with this fault; or for this reason none was made
abbrev pub FailsAtOnce : {S : Type 0} → Ghosts S → (OfficeWrite → Type 0) → (StoreFault → Type 0) → Held S → Held S → StoreFault → Type 0
FailsAtOnce g Is Why old new fault = FailsToWriteOne Is (state g old) (state g new) fault ⊎ (Why fault × (old ≡ new))

-- one of these writes in a transaction, or none: if it succeeds, a database that stood for a state that allows it
-- stands for the state after it; if it fails, the write failed, or was not made for one of these reasons; and a crash
-- leaves no more than before
pub record Writes {S A : Type 0} (g : Ghosts S) (Is : OfficeWrite → Type 0) (Why : StoreFault → Type 0) (Allows : Machine → Type 0) (after : Machine → Machine) (old new : Held S) (result : Result A StoreFault) : Type 0 where
  pub ok : HasCleanDisk (state g new) → OnOk result ((machine : Machine) → StandsFor machine (state g old).now → Allows machine → ComesToStandFor g (after machine) old new)
  pub err : HasCleanDisk (state g new) → IsTrue old.in_transaction → IfErr result (FailsAtOnce g Is Why old new)
  pub survives : Survives (state g old) (state g new) (λ _. ¬ HasOffice old.schema)

-- ---- the whole change

-- the database stands for an office of which this is a step
abbrev pub StandsForStep : {S : Type 0} → Ghosts S → Command → Option Key → Machine → Held S → Type 0
StandsForStep g command key after held = (whole : Machine) × StandsFor whole (state g held).now × IsStepOf whole command key after

-- the change of an accepted command in this office failed with this fault: its first write did, or was not made, since
-- a number does not fit; or the write of the counts did, after the first had made the database stand for the office
-- after the command with the counts before it
abbrev pub FailsToChange : {S : Type 0} → Ghosts S → Command → Option Key → Machine → Machine → Held S → Held S → StoreFault → Type 0
FailsToChange {S} g command key after whole old new fault =
    FailsAtOnce g (IsWriteOf command key after) (LacksFittingNumbers after key) old new fault
    ⊎ ((mid : Held S) × ComesToStandFor g (before_counts command whole) old mid × FailsToWrite (write.SetsCounts after.handed after.accepted) (state g mid) (state g new) fault)

-- after a failure the transaction from the state `before` is under way, with some of what it was to write, or it is
-- taken back
abbrev pub IsLeftOrBack : {S : Type 0} → Ghosts S → Machine → Held S → Type 0
IsLeftOrBack g before new = ((now : Machine) × IsUnderWay before now (state g new)) ⊎ IsBackAt before (state g new)

-- the change of an accepted command, written in a transaction: if it succeeds, a database that stood for the whole
-- office stands for it after the command; if it fails, one of its writes failed, and the transaction is under way, or
-- taken back; and a crash leaves no more than before
pub record ChangesBy {S A : Type 0} (g : Ghosts S) (command : Command) (key : Option Key) (after : Machine) (old new : Held S) (result : Result A StoreFault) : Type 0 where
  pub ok : HasCleanDisk (state g new)
      → OnOk result ((whole : Machine) → StandsFor whole (state g old).now → IsStepOf whole command key after → Becomes (step whole command).1 (state g old) (state g new))
  pub cause : HasCleanDisk (state g new) → IsTrue old.in_transaction → (whole : Machine) → StandsFor whole (state g old).now → IsStepOf whole command key after
      → IfErr result (FailsToChange g command key after whole old new)
  pub err : HasCleanDisk (state g new) → (before whole : Machine) → IsUnderWay before whole (state g old) → IsStepOf whole command key after
      → OnErr result (IsLeftOrBack g before new)
  pub survives : Survives (state g old) (state g new) (λ _. ¬ StandsForStep g command key after old)
