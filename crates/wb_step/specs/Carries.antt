-- What the functions promise that carry out a command.
use Rattle.std.specs.Prelude.{◌≡◌, Result, Ok, Err, IfOk, IfErr, OnErr}
use Rattle.wb_states.specs.declared.command.Command.{Command}
use Rattle.wb_states.specs.declared.refusal.Refusal.{Refusal}
use Rattle.wb_states.specs.declared.refusal.Refusal.TheVariants.{Memory}
use Rattle.wb_states.specs.declared.reply.Reply.{Reply}
use Rattle.wb_states.specs.Machine.{Machine}
use Rattle.wb_states.specs.Refusals.{IsOfMachine}
use Rattle.wb_step.specs.Checks.{MayWantMemory}
use Rattle.wb_step.specs.Step.{Outcome, step}

-- What a command's function promises is one record, `Carries`, and what a part of a step promises is `HasOutcome`,
-- without memory. `built`, `uploaded` and `put-back` are one function and a move each. `fail` and `not-for-us` are two
-- functions: one with a value that says which it is would need a definition that makes the command from that value.

-- a part of a command comes to an outcome, or memory runs out and nothing changes
pub record HasOutcome (old new : Machine) (outcome : Outcome) (result : Result Reply Refusal) : Type 0 where
  -- what is accepted has the reply of the outcome, and leaves its state
  pub reply : IfOk result (λ reply. outcome ≡ (Ok reply, new))
  -- a refusal other than out of memory is that of the outcome, whose state is the old one
  pub refused : IfErr result (λ refusal. IsOfMachine refusal → outcome ≡ (Err refusal, old))
  -- after each refusal the state is as it was
  pub unchanged : OnErr result (new ≡ old)

-- a command is carried out whole, or it is refused and nothing changes
pub record Carries (old new : Machine) (command : Command) (result : Result Reply Refusal) : Type 0 where
  -- an accepted command is one step: its reply, and the state after it
  pub reply : IfOk result (λ reply. step old command ≡ (Ok reply, new))
  -- a refusal other than out of memory is that of the step, which leaves the state as it was
  pub refused : IfErr result (λ refusal. IsOfMachine refusal → step old command ≡ (Err refusal, old))
  -- memory runs out only for a command whose texts no check without memory refuses
  pub memory : IfErr result (λ refusal. refusal ≡ Memory → MayWantMemory command)
  -- after each refusal the state is as it was
  pub unchanged : OnErr result (new ≡ old)
