-- What a builder's command for a source package answers.
use Rattle.std.proofs.Common.{◌≡◌, ℕ, ◌||◌, true, false, not, List, [], ◌∷◌, Option, Some, None, Ok, Err, refl, ap, ◌∙◌, nat_le, is_some, option_and_then, option_map}
use Rattle.std.specs.FinMap as map
use Rattle.std.specs.Option.{option_or}
use Rattle.deb_version.specs.Syntax.{fault_of}
use Rattle.wb_states.specs.Forms.{Take}
use Rattle.wb_states.specs.declared.moves.Move.{Move}
use Rattle.wb_states.specs.declared.record.Record.{Record}
use Rattle.wb_states.specs.declared.refusal.Refusal.{Refusal}
use Rattle.wb_states.specs.declared.refusal.Refusal.TheVariants.{BadName, BadVersion, UnknownArch, UnknownBuilder, UnknownSource, WrongArch, Spent}
use Rattle.wb_states.specs.Limits.{count_limit}
use Rattle.wb_states.specs.Machine.{Machine}
use Rattle.wb_states.specs.Moves.{move_refusal}
use Rattle.wb_states.specs.Queue.{Entry}
use Rattle.deb_text.specs.Options.{first_some}
use Rattle.wb_step.specs.Checks.{when, differing, has_bad_name, lacks_arch, lacks_builder, is_for_other_archs, text_refusal, state_refusal, builder_refusal}
use Rattle.wb_step.specs.Outcomes.{outcome_unless, assignment_step, named_at, sought_step, take_move, take_step}
use Rattle.wb_step.specs.Targets.{transition_of, record_named}
use Rattle.wb_step.specs.Step.{Outcome, step, counted, after_take, assignment_reply}
use Rattle.wb_step.proofs.StepLemmas.{step-state, step-text, outcome_unless-option_or}

outcome_unless-three : (a b c rest : Option Refusal) (machine : Machine) (accepted : Outcome)
    → outcome_unless (option_or a (option_or b (option_or c rest))) machine accepted
    ≡ outcome_unless (first_some (a ∷ b ∷ c ∷ [])) machine (outcome_unless rest machine accepted)
outcome_unless-three None None None rest machine accepted = refl
outcome_unless-three None None (Some c) rest machine accepted = refl
outcome_unless-three None (Some b) c rest machine accepted = refl
outcome_unless-three (Some a) b c rest machine accepted = refl

take-answer : (machine : Machine) (arch builder source version : List ℕ) (found : Option Record)
    → outcome_unless (first_some (
    when (not (is_some found)) UnknownSource
    ∷ option_and_then (differing version) found
    ∷ option_and_then (λ (asked : Entry × Move). move_refusal asked.1 asked.0.1)
    (option_and_then (λ (entry : Entry). Some (entry, take_move machine builder)) (option_map (λ (current : Record). ((arch, source), current)) found))
    ∷ when (nat_le count_limit machine.accepted || nat_le count_limit machine.handed) Spent
    ∷ [])) machine (
      Ok (assignment_reply machine (option_map (λ (current : Record). ((arch, source), current)) found)),
      counted machine (after_take machine
          (option_and_then (λ (entry : Entry). Some (entry, take_move machine builder)) (option_map (λ (current : Record). ((arch, source), current)) found))),
    )
    ≡ named_at machine version (λ current. assignment_step machine builder ((arch, source), current)) found
unfolding assignment_step
take-answer machine arch builder source version None = refl
take-answer machine arch builder source version (Some current) = outcome_unless-option_or (differing version current) _ machine _

step-Take : (machine : Machine) (arch builder source version : List ℕ) → text_refusal (Take arch builder source version) ≡ None
    → step machine (Take arch builder source version) ≡ take_step machine arch builder source version
unfolding state_refusal transition_of record_named sought_step builder_refusal
step-Take machine arch builder source version text =
    step-state machine (Take arch builder source version) text refl
    ∙ outcome_unless-three
    (when (lacks_arch machine (Take arch builder source version)) UnknownArch)
    (when (lacks_builder machine (Take arch builder source version)) UnknownBuilder)
    (when (is_for_other_archs machine (Take arch builder source version)) WrongArch) _ machine _
    ∙ ap (outcome_unless (builder_refusal machine arch builder) machine)
    (take-answer machine arch builder source version (map.get machine.records (arch, source)))

take-text : (arch builder source version : List ℕ) → has_bad_name (Take arch builder source version) ≡ false → fault_of version ≡ None
    → text_refusal (Take arch builder source version) ≡ None
unfolding text_refusal
take-text arch builder source version bad faulty =
    λ i. first_some (when (bad i) BadName ∷ option_map BadVersion (faulty i) ∷ [])

pub take-BadName : (machine : Machine) (arch builder source version : List ℕ) → has_bad_name (Take arch builder source version) ≡ true
    → step machine (Take arch builder source version) ≡ (Err BadName, machine)
unfolding text_refusal
take-BadName machine arch builder source version bad =
    step-text machine (Take arch builder source version) BadName
    (λ i. first_some (when (bad i) BadName ∷ option_map BadVersion (fault_of version) ∷ []))

pub take-BadVersion : (machine : Machine) (arch builder source version : List ℕ) (refusal : Refusal) → has_bad_name (Take arch builder source version) ≡ false
    → option_map BadVersion (fault_of version) ≡ Some refusal
    → step machine (Take arch builder source version) ≡ (Err refusal, machine)
unfolding text_refusal
take-BadVersion machine arch builder source version refusal bad faulty =
    step-text machine (Take arch builder source version) refusal
    (λ i. first_some (when (bad i) BadName ∷ faulty i ∷ []))

pub take-is : (machine : Machine) (arch builder source version : List ℕ) → has_bad_name (Take arch builder source version) ≡ false → fault_of version ≡ None
    → step machine (Take arch builder source version) ≡ take_step machine arch builder source version
take-is machine arch builder source version bad faulty =
    step-Take machine arch builder source version (take-text arch builder source version bad faulty)
