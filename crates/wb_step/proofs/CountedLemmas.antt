-- The counts never fall, and what is refused changes nothing.
use Rattle.std.proofs.Common.{◌≡◌, ◌≤◌, Some, None, Ok, Err, refl, arith}
use Rattle.wb_states.specs.declared.command.Command.{Command}
use Rattle.wb_states.specs.declared.reply.Reply.{Reply}
use Rattle.wb_states.specs.declared.refusal.Refusal.{Refusal}
use Rattle.wb_states.specs.Machine.{Machine}
use Rattle.wb_step.specs.Checks.{first_refusal}
use Rattle.wb_step.specs.Targets.{again_of}
use Rattle.wb_step.specs.Step.{outcome, step}
use Rattle.wb_step.proofs.PassLemmas.{step-either}

pub step-accepted : (machine : Machine) (command : Command) → machine.accepted ≤ (step machine command).1.accepted
step-accepted machine command = step-either (λ after. machine.accepted ≤ after.accepted) machine command (omega arith) (λ _ _. omega arith)

pub step-unchanged : (machine : Machine) (command : Command) (refusal : Refusal) → (step machine command).0 ≡ Err refusal → (step machine command).1 ≡ machine
unfolding step
step-unchanged machine command refusal is =
    (elim (first_refusal machine command) as (λ r. (outcome r (again_of machine command) machine command).0 ≡ Err refusal
    → (outcome r (again_of machine command) machine command).1 ≡ machine) [
      | Some other ↦ λ _. refl
      | None ↦ (elim (again_of machine command) as (λ again. (outcome None again machine command).0 ≡ Err refusal → (outcome None again machine command).1 ≡ machine) [
        | Some entry ↦ λ _. refl
        | None ↦ λ is. absurd (clash _ is)
      ])
    ]) is
  where
    clash : (reply : Reply) → Ok reply ≡ Err refusal → ⊥
    clash reply e = cc
