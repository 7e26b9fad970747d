-- What an office over tables answers to a query, and how it stands then.
use Rattle.std.specs.Prelude.{◌≡◌, ◌≢◌, ◌⊎◌, Bool, true, false, Result, Err, IsTrue}
use Rattle.sqlite_trees.specs.declared.store.Store.{Ghosts}
use Rattle.sqlite.specs.Held.{Held, state}
use Rattle.sqlite.specs.State.{HasCleanDisk}
use Rattle.wb_states.specs.declared.refusal.Refusal.{Refusal}
use Rattle.wb_states.specs.declared.refusal.Refusal.TheVariants.{BadName, Closed, Memory}
use Rattle.wb_states.specs.declared.store_fault.StoreFault.{StoreFault}
use Rattle.wb_states.specs.Machine.{Machine}
use Rattle.wb_states.specs.Refusals.{is_of_store}
use Rattle.wb_step.specs.Offices.{StandsOn}
use Rattle.wb_store.specs.Others.{KeepsOthers}
use Rattle.wb_store.specs.Settled.{IsSettled, IsBackAt}
use Rattle.wb_office.specs.declared.known.Known.{Known}
use Rattle.wb_office.specs.Applies.{CannotBeUsed, refusal_for}
use Rattle.wb_store.specs.Finds.{FailsToFind}
use Rattle.wb_office.specs.Standing.{Knows, StandsAt}

-- a query was looked up, or had to be refused: it has this answer of the state, the office stands open as before, and
-- the tables of others keep their rows
abbrev pub IsAnswered : {S A : Type 0} → Ghosts S → (Machine → Result A Refusal) → Machine → Held S → Held S → Bool → Result A Refusal → Type 0
IsAnswered g answer_of machine old new is_closed result =
    (answer_of machine ≡ result) × IsSettled machine (state g new) × (is_closed ≡ false) × KeepsOthers (state g old).now (state g new).now

-- a look-up of a query failed: this is the refusal for its fault, the office has its state as before, and it is open
-- only if its connection is; after a fault of the store it is closed, and out of memory only if its connection cannot
-- be used on
pub record IsUnread {S : Type 0} (g : Ghosts S) (machine : Machine) (old new : Held S) (is_closed : Bool) (refusal : Refusal) : Type 0 where
  pub fault : StoreFault
  pub at : Held S
  pub failed : FailsToFind g old at fault
  pub told : refusal ≡ refusal_for fault
  pub back : IsBackAt machine (state g new)
  pub is_open : is_closed ≡ false → IsTrue (state g new).is_open
  pub ends : is_of_store refusal ≡ true → is_closed ≡ true
  pub closes : refusal ≡ Memory → is_closed ≡ true → CannotBeUsed g at new
  pub same : refusal ≢ Memory → new ≡ at

-- a query of an office that stands open at this state: it is answered; or a look-up failed
abbrev pub IsAskedAt : {S A : Type 0} → Ghosts S → (Machine → Result A Refusal) → Machine → Held S → Bool → Held S → Result A Refusal → Type 0
IsAskedAt g answer_of machine old is_closed new result =
    IsAnswered g answer_of machine old new is_closed result
    ⊎ ((refusal : Refusal) × (result ≡ Err refusal) × IsUnread g machine old new is_closed refusal)

-- an office over tables is asked a query, or who holds a take number, with this answer of its state, by names of which
-- one may be malformed: a closed office, and no other, answers that it is closed; for a malformed name it is refused,
-- and nothing is done; and what is known then is so as what was known before
pub record Asks {S A : Type 0} (g : Ghosts S) (answer_of : Machine → Result A Refusal) (is_bad : Bool) (was_closed : Bool) (was_known : Known) (old : Held S)
    (is_closed : Bool) (known : Known) (new : Held S) (result : Result A Refusal) : Type 0 where
  pub was_clean : HasCleanDisk (state g new) → HasCleanDisk (state g old)
  pub limit : new.step_limit ≡ old.step_limit
  pub shut : was_closed ≡ true → (result ≡ Err Closed) × (is_closed ≡ true) × (known ≡ was_known) × (new ≡ old)
  pub stands : was_closed ≡ false → StandsOn (is_closed ≡ true) result
  pub named : was_closed ≡ false → is_bad ≡ true → (result ≡ Err BadName) × (is_closed ≡ false) × (new ≡ old)
  pub knows : HasCleanDisk (state g new) → (machine : Machine)
      → StandsAt machine was_closed was_known (state g old) → Knows machine known
  pub asked : HasCleanDisk (state g new) → (machine : Machine) → StandsAt machine was_closed was_known (state g old) → was_closed ≡ false
      → IsAskedAt g answer_of machine old is_closed new result
