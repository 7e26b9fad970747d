-- What an office over tables answers to a command, and how it stands then.
use Rattle.std.specs.Prelude.{◌≡◌, ◌≢◌, ◌⊎◌, Bool, true, false, [], Some, Result, Ok, Err, IfOk, IfErr, IsTrue, OnOk}
use Rattle.sqlite_trees.specs.declared.store.Store.{Ghosts}
use Rattle.sqlite.specs.Held.{Held, state}
use Rattle.sqlite.specs.State.{HasCleanDisk}
use Rattle.wb_sql.specs.Transactions.{FailsToRun}
use Rattle.wb_states.specs.declared.command.Command.{Command}
use Rattle.wb_states.specs.declared.reply.Reply.{Reply}
use Rattle.wb_states.specs.declared.refusal.Refusal.{Refusal}
use Rattle.wb_states.specs.declared.refusal.Refusal.TheVariants.{Closed, Memory, Store}
use Rattle.wb_states.specs.declared.store_fault.StoreFault.{StoreFault}
use Rattle.wb_states.specs.declared.store_fault.StoreFault.TheVariants as fault
use Rattle.wb_states.specs.Machine.{Machine}
use Rattle.wb_states.specs.Refusals.{is_of_store}
use Rattle.wb_step.specs.Checks.{MayWantMemory, text_refusal}
use Rattle.wb_step.specs.Offices.{StandsOn}
use Rattle.wb_step.specs.Step.{step}
use Rattle.wb_store.specs.Others.{KeepsOthers}
use Rattle.wb_store.specs.Settled.{IsBackAt, LeavesEither}
use Rattle.wb_office.specs.declared.answer.Failure.{Failure}
use Rattle.wb_office.specs.declared.answer.Failure.TheVariants.{Refused, Unread, Uncommitted}
use Rattle.wb_office.specs.declared.carry.CarryError.TheVariants.{TakenBack, RollBackFailed, InDoubt}
use Rattle.wb_office.specs.declared.known.Known.{Known}
use Rattle.wb_office.specs.Answers.{IsLeft}
use Rattle.wb_office.specs.Carried.{FailsToRollBack}
use Rattle.wb_office.specs.Standing.{Knows, StandsAt}

-- the refusal for a fault of the store: out of memory is a refusal of its own
abbrev pub refusal_for : StoreFault → Refusal
refusal_for fault.Memory = Memory
refusal_for fault = Store fault

-- what is answered to a command that is not carried out
abbrev pub refusal_of : Failure → Refusal
refusal_of (Refused refusal) = refusal
refusal_of (Unread fault) = refusal_for fault
refusal_of (Uncommitted (TakenBack fault)) = refusal_for fault
refusal_of (Uncommitted (RollBackFailed fault)) = refusal_for fault
refusal_of (Uncommitted (InDoubt fault)) = Store fault

-- a command that was not carried out is refused, and the office stands as before, or is closed
pub record IsRefusedIn {S : Type 0} (g : Ghosts S) (machine : Machine) (command : Command) (is_closed : Bool) (new : Held S) (refusal : Refusal) : Type 0 where
  pub machines : refusal ≢ Memory → is_of_store refusal ≡ false → ((step machine command).0 ≡ Err refusal) × (is_closed ≡ false)
  pub back : is_of_store refusal ≡ false → IsBackAt machine (state g new)
  pub is_open : is_closed ≡ false → IsTrue (state g new).is_open
  pub ends : is_of_store refusal ≡ true → is_closed ≡ true
  pub left : LeavesEither machine (step machine command).1 (state g new)
  pub shut : refusal ≡ Closed → IsBackAt machine (state g new)

-- the connection cannot be used on, since the empty text fails on it
abbrev pub CannotBeUsed : {S : Type 0} → Ghosts S → Held S → Held S → Type 0
CannotBeUsed g old new = FailsToRun [] (state g old) (state g new)

-- the transaction could not be taken back
abbrev pub IsNotTakenBack : Failure → Type 0
IsNotTakenBack failure = (fault : StoreFault) × (failure ≡ Uncommitted (RollBackFailed fault))

-- why an office is closed that is out of memory: its connection cannot be used on, or the transaction could not be
-- taken back
abbrev pub MustClose : {S : Type 0} → Ghosts S → Failure → Held S → Held S → Type 0
MustClose g failure old new = CannotBeUsed g old new ⊎ IsNotTakenBack failure

-- the connection of an office that is closed out of memory: the empty text failed on it, or ROLLBACK did
abbrev pub CannotGoOn : {S : Type 0} → Ghosts S → Held S → Type 0
CannotGoOn {S} g new = ((at : Held S) × CannotBeUsed g at new) ⊎ FailsToRollBack g new

-- a refusal leaves the connection as it was, and after any other failure it is open if the office is not closed
abbrev pub IsOpenAfter : {S : Type 0} → Ghosts S → Failure → Held S → Held S → Bool → Type 0
IsOpenAfter g (Refused refusal) old new is_closed = new ≡ old
IsOpenAfter g (Unread fault) old new is_closed = is_closed ≡ false → IsTrue (state g new).is_open
IsOpenAfter g (Uncommitted failure) old new is_closed = is_closed ≡ false → IsTrue (state g new).is_open

-- what is answered after a failure, and whether the office is closed then
pub record Ends {S : Type 0} (g : Ghosts S) (failure : Failure) (old new : Held S) (refusal : Refusal) (is_closed : Bool) : Type 0 where
  pub was_clean : HasCleanDisk (state g new) → HasCleanDisk (state g old)
  pub limit : new.step_limit ≡ old.step_limit
  pub refused : HasCleanDisk (state g new) → (machine : Machine) (command : Command) (before : Held S) → IsLeft g machine command before old failure
      → IsRefusedIn g machine command is_closed new refusal
  pub back : HasCleanDisk (state g new) → (machine : Machine) → IsBackAt machine (state g old) → IsBackAt machine (state g new)
  pub is_open : HasCleanDisk (state g new) → IsOpenAfter g failure old new is_closed
  pub told : refusal ≡ refusal_of failure
  pub ends : is_of_store refusal ≡ true → is_closed ≡ true
  pub opens : is_of_store refusal ≡ false → refusal ≢ Memory → is_closed ≡ false
  pub closes : HasCleanDisk (state g new) → refusal ≡ Memory → is_closed ≡ true → MustClose g failure old new
  pub must : IsNotTakenBack failure → (is_closed ≡ true) × (new ≡ old)
  pub same : refusal ≢ Memory → new ≡ old

-- an office over tables carries out a command: the reply is that of the step, the office stands at the state after it,
-- and the tables of others keep their rows; a refusal of the state changes nothing; out of memory, it stands as before,
-- and is closed only if its connection cannot be used on, or the transaction could not be taken back; after a fault of
-- the store it is closed, and the command stands whole or not at all; a closed office, and no other, answers that it is
-- closed; and a command whose texts are refused is refused for them, or memory ran out, and nothing is done
pub record Applies {S : Type 0} (g : Ghosts S) (command : Command) (was_closed : Bool) (was_known : Known) (old : Held S) (is_closed : Bool) (known : Known) (new : Held S)
    (result : Result Reply Refusal) : Type 0 where
  pub was_clean : HasCleanDisk (state g new) → HasCleanDisk (state g old)
  pub limit : new.step_limit ≡ old.step_limit
  pub shut : was_closed ≡ true → (result ≡ Err Closed) × (is_closed ≡ true) × (known ≡ was_known) × (new ≡ old)
  pub stands : was_closed ≡ false → StandsOn (is_closed ≡ true) result
  pub texts : was_closed ≡ false → (refusal : Refusal) → text_refusal command ≡ Some refusal
      → ((result ≡ Err refusal) ⊎ (result ≡ Err Memory)) × (is_closed ≡ false) × (known ≡ was_known) × (new ≡ old)
  pub memory : result ≡ Err Memory → MayWantMemory command
  pub reply : HasCleanDisk (state g new) → (machine : Machine) → StandsAt machine was_closed was_known (state g old)
      → IfOk result (λ reply. ((step machine command).0 ≡ Ok reply) × StandsAt (step machine command).1 is_closed known (state g new) × (is_closed ≡ false))
  pub others : HasCleanDisk (state g new) → (machine : Machine) → StandsAt machine was_closed was_known (state g old)
      → OnOk result (KeepsOthers (state g old).now (state g new).now)
  pub refused : HasCleanDisk (state g new) → (machine : Machine) → StandsAt machine was_closed was_known (state g old) → was_closed ≡ false
      → IfErr result (λ refusal. IsRefusedIn g machine command is_closed new refusal × Knows machine known)
  pub cause : HasCleanDisk (state g new) → (machine : Machine) → StandsAt machine was_closed was_known (state g old) → was_closed ≡ false
      → IfErr result (λ refusal. (failure : Failure) × (at : Held S) × IsLeft g machine command old at failure × (refusal ≡ refusal_of failure)
      × (refusal ≡ Memory → is_closed ≡ true → MustClose g failure at new) × (IsNotTakenBack failure → (is_closed ≡ true) × (new ≡ at))
      × (refusal ≢ Memory → new ≡ at))

-- what is answered after this fault of a call that changed nothing, and whether the office is closed then: out of
-- memory, it is closed only if its connection cannot be used on, and otherwise the connection is open
pub record EndsWith {S : Type 0} (g : Ghosts S) (fault : StoreFault) (old new : Held S) (refusal : Refusal) (is_closed : Bool) : Type 0 where
  pub was_clean : HasCleanDisk (state g new) → HasCleanDisk (state g old)
  pub limit : new.step_limit ≡ old.step_limit
  pub told : refusal ≡ refusal_for fault
  pub back : HasCleanDisk (state g new) → (machine : Machine) → IsBackAt machine (state g old) → IsBackAt machine (state g new)
  pub is_open : HasCleanDisk (state g new) → is_closed ≡ false → IsTrue (state g new).is_open
  pub ends : is_of_store refusal ≡ true → is_closed ≡ true
  pub closes : HasCleanDisk (state g new) → refusal ≡ Memory → is_closed ≡ true → CannotBeUsed g old new
  pub same : refusal ≢ Memory → new ≡ old
