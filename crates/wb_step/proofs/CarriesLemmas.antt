-- What a command's function promises where it returns, from what is known there.
use Rattle.std.proofs.Common.{◌≡◌, ◌∙◌, Result, Ok, Err, IfOk, IfErr, OnErr, IsErrAnd, ap, refl, sym}
use Rattle.std.proofs.lemmas.Result.{IfErr-weaker, IfOk-weaker}
use Rattle.wb_states.specs.declared.command.Command.{Command}
use Rattle.wb_states.specs.declared.refusal.Refusal.{Refusal}
use Rattle.wb_states.specs.declared.refusal.Refusal.TheVariants.{Memory}
use Rattle.wb_states.specs.declared.reply.Reply.{Reply}
use Rattle.wb_states.specs.Machine.{Machine}
use Rattle.wb_states.specs.Refusals.{IsOfMachine}
use Rattle.wb_step.specs.Carries.{Carries, HasOutcome}
use Rattle.wb_step.specs.Checks.{MayWantMemory}
use Rattle.wb_step.specs.Step.{Outcome, step}
use Rattle.wb_step.proofs.WantLemmas.{wanted}

-- ---- a part of a command

-- a check refuses
pub reaches-refused : {machine : Machine} {outcome : Outcome} {refusal : Refusal} → outcome ≡ (Err refusal, machine)
    → HasOutcome machine machine outcome (Err refusal)
reaches-refused is = record { reply = tt; refused = λ _. is; unchanged = refl }

-- a callee refuses, and `?` gives its refusal back
pub reaches-returned : {machine : Machine} {outcome : Outcome} {refusal : Refusal} (result : Result Reply Refusal)
    → IsErrAnd result (λ returned. returned ≡ refusal) → (IsOfMachine refusal → outcome ≡ (Err refusal, machine))
    → HasOutcome machine machine outcome result
reaches-returned (Ok reply) same is = absurd same
reaches-returned {machine = machine} (Err returned) same is = record {
  reply = tt;
  refused = λ differs. is (λ none. differs (same ∙ none)) ∙ ap (λ (one : Refusal). (Err one, machine)) (sym same);
  unchanged = refl;
}

-- a text or a record cannot be copied, and `?` gives that back
pub reaches-memory : {machine : Machine} {outcome : Outcome} (result : Result Reply Refusal)
    → IsErrAnd result (λ returned. returned ≡ Memory) → HasOutcome machine machine outcome result
reaches-memory (Ok reply) none = absurd none
reaches-memory (Err returned) none = record { reply = tt; refused = λ differs. absurd (differs none); unchanged = refl }

-- there is no memory for a change, and `?` gives that back
pub reaches-failed : {old new : Machine} {outcome : Outcome} (result : Result Reply Refusal)
    → IsErrAnd result (λ returned. returned ≡ Memory) → new ≡ old → HasOutcome old new outcome result
reaches-failed (Ok reply) none unchanged = absurd none
reaches-failed (Err returned) none unchanged =
    record { reply = tt; refused = λ differs. absurd (differs none); unchanged = unchanged }

-- the last call writes the outcome, or memory runs out and it writes nothing
pub reaches-kept : {old new : Machine} {outcome : Outcome} {result : Result Reply Refusal}
    → IfOk result (λ reply. outcome ≡ (Ok reply, new)) → IfErr result (λ refusal. refusal ≡ Memory) → OnErr result (new ≡ old)
    → HasOutcome old new outcome result
reaches-kept {result = result} reply none unchanged = record {
  reply = reply;
  refused = IfErr-weaker result _ _ (λ _ is differs. absurd (differs is)) none;
  unchanged = unchanged;
}

-- ---- a command

-- a check refuses
pub carries-refused : {machine : Machine} {command : Command} {refusal : Refusal} → (IsOfMachine refusal → step machine command ≡ (Err refusal, machine))
    → (refusal ≡ Memory → MayWantMemory command) → Carries machine machine command (Err refusal)
carries-refused is memory = record { reply = tt; refused = is; memory = memory; unchanged = refl }

-- a callee refuses, and `?` gives its refusal back
pub carries-returned : {machine : Machine} {command : Command} {refusal : Refusal} (result : Result Reply Refusal)
    → IsErrAnd result (λ returned. returned ≡ refusal) → (IsOfMachine refusal → step machine command ≡ (Err refusal, machine))
    → (refusal ≡ Memory → MayWantMemory command) → Carries machine machine command result
carries-returned (Ok reply) same is memory = absurd same
carries-returned {machine = machine} (Err returned) same is memory = record {
  reply = tt;
  refused = λ differs. is (λ none. differs (same ∙ none)) ∙ ap (λ (one : Refusal). (Err one, machine)) (sym same);
  memory = λ none. memory (sym same ∙ none);
  unchanged = refl;
}

-- a text cannot be copied, and `?` gives that back
pub carries-memory : {machine : Machine} {command : Command} (result : Result Reply Refusal)
    → IsErrAnd result (λ returned. returned ≡ Memory) → MayWantMemory command → Carries machine machine command result
carries-memory (Ok reply) none known = absurd none
carries-memory (Err returned) none known =
    record { reply = tt; refused = λ differs. absurd (differs none); memory = λ _. known; unchanged = refl }

-- there is no memory for a change, and `?` gives that back
pub carries-failed : {old new : Machine} {command : Command} (result : Result Reply Refusal)
    → IsErrAnd result (λ returned. returned ≡ Memory) → new ≡ old → MayWantMemory command
    → Carries old new command result
carries-failed (Ok reply) none unchanged known = absurd none
carries-failed (Err returned) none unchanged known =
    record { reply = tt; refused = λ differs. absurd (differs none); memory = λ _. known; unchanged = unchanged }

-- the last call reaches the command's step
pub carries-reached : {old new : Machine} {command : Command} {outcome : Outcome} {result : Result Reply Refusal}
    → HasOutcome old new outcome result → step old command ≡ outcome → MayWantMemory command → Carries old new command result
carries-reached {result = result} reached is known = record {
  reply = IfOk-weaker result _ _ (λ _ done. is ∙ done) reached.reply;
  refused = IfErr-weaker result _ _ (λ _ refused of_machine. is ∙ refused of_machine) reached.refused;
  memory = wanted result known;
  unchanged = reached.unchanged;
}
