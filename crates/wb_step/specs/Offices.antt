-- What is known of an office before and after it was used, by the states at which it stands.
use Rattle.std.specs.Prelude.{◌≡◌, ◌≢◌, ◌<◌, true, false, IsOk, Result, Err, IfErr, OnOk}
use Rattle.wb_states.specs.Machine.{Machine}
use Rattle.wb_states.specs.declared.command.Command.{Command}
use Rattle.wb_states.specs.declared.refusal.Refusal.{Refusal}
use Rattle.wb_states.specs.declared.refusal.Refusal.TheVariants.{Closed, Memory}
use Rattle.wb_states.specs.declared.store_fault.StoreFault.{StoreFault}
use Rattle.wb_states.specs.Refusals.{is_of_store}
use Rattle.wb_step.specs.Step.{step}

-- how an office stands at a state: it answers commands, or it is closed; or its store failed with a fault, and so it is
-- closed, with a command in doubt, which comes after the state, or with none
pub data Standing : Type 0 where
  Open : Standing
  Shut : Standing
  InDoubt : Command → StoreFault → Standing
  Failed : StoreFault → Standing

-- an office stands so at this state; with a command in doubt it is found there, or as the command leaves it
abbrev pub Stands : {X : Type 0} → (X → Type 0) → (X → Machine → Type 0) → (X → Machine → Machine → StoreFault → Type 0) → X → Machine → Standing → Type 0
Stands is_closed stands_at leaves office machine Open = stands_at office machine
Stands is_closed stands_at leaves office machine Shut = is_closed office × stands_at office machine
Stands is_closed stands_at leaves office machine (InDoubt command fault) = leaves office machine (step machine command).1 fault
Stands is_closed stands_at leaves office machine (Failed fault) = leaves office machine machine fault

-- how an office that is not closed stands after an answer, whatever its store gives back: it never says that it is
-- closed; after a fault of its store it is closed, and after each other answer, but out of memory, it is not
pub record StandsOn {X : Type 0} (closed : Type 0) (result : Result X Refusal) : Type 0 where
  pub ok : OnOk result (¬ closed)
  pub never : ¬ (result ≡ Err Closed)
  pub ends : IfErr result (λ refusal. is_of_store refusal ≡ true → closed)
  pub opens : IfErr result (λ refusal. is_of_store refusal ≡ false → refusal ≢ Memory → ¬ closed)

-- from each state at which an office stood before, it came to a state at which it stands and of which this is so, if
-- what it read of its store was what it wrote
abbrev pub Reaches : {X : Type 0} → (X → Type 0) → (X → Machine → Type 0) → X → X → (Machine → Machine → Type 0) → Type 0
Reaches is_clean stands_at old new IsSo =
    (before : Machine) → is_clean new → stands_at old before → (after : Machine) × stands_at new after × IsSo before after

-- the same, but the office may be closed after it, also with a command in doubt
abbrev pub Leads : {X : Type 0} → (X → Type 0) → (X → Type 0) → (X → Machine → Type 0) → (X → Machine → Machine → StoreFault → Type 0) → X → X
    → (Machine → Machine → Standing → Type 0) → Type 0
Leads is_clean is_closed stands_at leaves old new IsSo =
    (before : Machine) → is_clean new → stands_at old before
    → (after : Machine) × (standing : Standing) × Stands is_closed stands_at leaves new after standing × IsSo before after standing

-- this is so of each state at which an office that stands so may be found
abbrev pub IsSoOfEach : (Machine → Type 0) → Machine → Standing → Type 0
IsSoOfEach IsSo machine Open = IsSo machine
IsSoOfEach IsSo machine Shut = IsSo machine
IsSoOfEach IsSo machine (InDoubt command fault) = IsSo machine × IsSo (step machine command).1
IsSoOfEach IsSo machine (Failed fault) = IsSo machine

-- a command is accepted, and the office is then in this state: it counts one more, which a repeated reply does not
abbrev pub Accepts : Machine → Command → Machine → Type 0
Accepts before command after =
    IsOk (step before command).0 × (after ≡ (step before command).1) × (before.accepted < after.accepted)
