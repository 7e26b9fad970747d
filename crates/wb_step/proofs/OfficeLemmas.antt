-- Lemmas on what an office answers to a command.
use Rattle.std.proofs.Common.{◌≡◌, true, Result, Ok, IsOk, ◌⊎◌, inl, inr, refl, sym, subst, arith}
use Rattle.wb_states.specs.Machine.{Machine}
use Rattle.wb_states.specs.Refusals.{IsOfMachine}
use Rattle.wb_states.specs.declared.command.Command.{Command}
use Rattle.wb_states.specs.declared.refusal.Refusal.{Refusal}
use Rattle.wb_states.specs.declared.refusal.Refusal.TheVariants.{Closed, Memory, Store}
use Rattle.wb_states.specs.declared.reply.Reply.{Reply}
use Rattle.wb_states.specs.declared.store_fault.StoreFault.{StoreFault}
use Rattle.wb_states.specs.Refusals.{is_of_store}
use Rattle.wb_step.specs.Offices.{Accepts}
use Rattle.wb_step.specs.Step.{step}
use Rattle.wb_step.proofs.CountedLemmas.{step-accepted}
use Rattle.wb_step.proofs.PassLemmas.{step-either}

-- a command that the office replies to is accepted, where the office counts one more after it
pub reply-accepted : (machine : Machine) (command : Command) (reply : Reply) → (step machine command).0 ≡ Ok reply
    → ¬ ((step machine command).1.accepted ≡ machine.accepted) → Accepts machine command (step machine command).1
reply-accepted machine command reply e more =
    let rises = step-accepted machine command in
    (subst (λ (result : Result Reply Refusal). IsOk result) (sym e) refl, refl, omega (arith, rises, more))

-- a command after which the office counts no more changed nothing
pub step-repeats : (machine : Machine) (command : Command) → (step machine command).1.accepted ≡ machine.accepted → (step machine command).1 ≡ machine
step-repeats machine command =
    step-either (λ after. after.accepted ≡ machine.accepted → after ≡ machine) machine command (λ _. refl) (λ _ _ e. absurd (omega (arith, e)))

-- a refusal that comes of the store is that the office is closed, or that its store failed
pub is_of_store-cases : (refusal : Refusal) → is_of_store refusal ≡ true → (refusal ≡ Closed) ⊎ ((fault : StoreFault) × (refusal ≡ Store fault))
is_of_store-cases Closed h = inl refl
is_of_store-cases (Store fault) h = inr (fault, refl)
is_of_store-cases refusal h = cc

-- a refusal is that there is no memory, or another
pub refusal-cases : (refusal : Refusal) → (refusal ≡ Memory) ⊎ IsOfMachine refusal
refusal-cases Memory = inl refl
refusal-cases refusal = inr (λ e. cc)
