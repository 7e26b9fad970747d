-- The step of a command, by what its texts and what the office has refuse.
use Rattle.std.specs.Option.{option_or}
use Rattle.std.proofs.Common.{◌≡◌, [], ◌∷◌, Option, Some, None, Result, Ok, Err, IfOk, OnOk, refl, ap, ◌∙◌}
use Rattle.wb_states.specs.declared.command.Command.{Command}
use Rattle.wb_states.specs.declared.refusal.Refusal.{Refusal}
use Rattle.wb_states.specs.Machine.{Machine}
use Rattle.deb_text.specs.Options.{first_some}
use Rattle.wb_step.specs.Checks.{text_refusal, state_refusal, first_refusal}
use Rattle.wb_step.specs.Outcomes.{outcome_unless}
use Rattle.wb_step.specs.Targets.{again_of}
use Rattle.wb_step.specs.Step.{Outcome, outcome, step, reply_to, state_after, counted}

-- what is known of an answer, and what is known where there is one
pub with-known : {X E : Type 0} (answer : Result X E) (P : X → Type 0) (Q : Type 0) → IfOk answer P → OnOk answer Q → IfOk answer (λ x. P x × Q)
with-known (Ok x) P Q is known = (is, known)
with-known (Err e) P Q is known = tt

pub step-refused : (machine : Machine) (command : Command) (refusal : Refusal) → first_refusal machine command ≡ Some refusal
    → step machine command ≡ (Err refusal, machine)
unfolding step
step-refused machine command refusal is = ap (λ first. outcome first (again_of machine command) machine command) is

pub step-text : (machine : Machine) (command : Command) (refusal : Refusal) → text_refusal command ≡ Some refusal
    → step machine command ≡ (Err refusal, machine)
unfolding step first_refusal
step-text machine command refusal is = ap (λ text. outcome (option_or text (state_refusal machine command)) (again_of machine command) machine command) is

-- where nothing is told again, a command is refused, or it is accepted
pub outcome-None : (first : Option Refusal) (machine : Machine) (command : Command)
    → outcome first None machine command ≡ outcome_unless first machine (Ok (reply_to machine command), counted machine (state_after machine command))
outcome-None None machine command = refl
outcome-None (Some refusal) machine command = refl

-- a command whose texts are good, and which is told nothing again
pub step-state : (machine : Machine) (command : Command) → text_refusal command ≡ None → again_of machine command ≡ None
    → step machine command ≡ outcome_unless (state_refusal machine command) machine (Ok (reply_to machine command), counted machine (state_after machine command))
unfolding step first_refusal
step-state machine command text again =
    (λ i. outcome (option_or (text i) (state_refusal machine command)) (again i) machine command)
    ∙ outcome-None (state_refusal machine command) machine command

pub outcome_unless-option_or : (one rest : Option Refusal) (machine : Machine) (accepted : Outcome)
    → outcome_unless (option_or one rest) machine accepted ≡ outcome_unless one machine (outcome_unless rest machine accepted)
outcome_unless-option_or None rest machine accepted = refl
outcome_unless-option_or (Some refusal) rest machine accepted = refl

pub outcome_unless-last : (one : Option Refusal) (machine : Machine) (accepted : Outcome) (refusal : Refusal)
    → option_or one None ≡ Some refusal → outcome_unless one machine accepted ≡ (Err refusal, machine)
outcome_unless-last None machine accepted refusal is = cc
outcome_unless-last (Some other) machine accepted refusal is =
    let same : Some other ≡ Some refusal = is in ap (λ first. outcome_unless first machine accepted) same

pub two-None : (a b rest : Option Refusal) → first_some (a ∷ b ∷ []) ≡ None → option_or a (option_or b rest) ≡ rest
two-None None None rest is = refl
two-None None (Some b) rest is = cc
two-None (Some a) b rest is = cc

pub two-Some : (a b rest : Option Refusal) (refusal : Refusal) → first_some (a ∷ b ∷ []) ≡ Some refusal
    → option_or a (option_or b rest) ≡ Some refusal
two-Some None None rest refusal is = cc
two-Some None (Some b) rest refusal is = is
two-Some (Some a) b rest refusal is = is

-- two checks before a third that refuses
pub two-later : (a b rest : Option Refusal) (later refusal : Refusal) → option_or (first_some (a ∷ b ∷ [])) (Some later) ≡ Some refusal → rest ≡ Some later
    → option_or a (option_or b rest) ≡ Some refusal
two-later None None rest later refusal is same = same ∙ is
two-later None (Some b) rest later refusal is same = is
two-later (Some a) b rest later refusal is same = is

pub three-None : (a b c rest : Option Refusal) → first_some (a ∷ b ∷ c ∷ []) ≡ None → option_or a (option_or b (option_or c rest)) ≡ rest
three-None None None None rest is = refl
three-None None None (Some c) rest is = cc
three-None None (Some b) c rest is = cc
three-None (Some a) b c rest is = cc

pub three-Some : (a b c rest : Option Refusal) (refusal : Refusal) → first_some (a ∷ b ∷ c ∷ []) ≡ Some refusal
    → option_or a (option_or b (option_or c rest)) ≡ Some refusal
three-Some None None None rest refusal is = cc
three-Some None None (Some c) rest refusal is = is
three-Some None (Some b) c rest refusal is = is
three-Some (Some a) b c rest refusal is = is
