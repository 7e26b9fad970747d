-- What is known of a command that no check refuses, and what a step then does.
use Rattle.std.proofs.Common.{◌≡◌, Bool, true, false, Option, Some, None, refl, option_map}
use Rattle.wb_states.specs.declared.command.Command.{Command}
use Rattle.wb_states.specs.declared.refusal.Refusal.{Refusal}
use Rattle.wb_states.specs.declared.refusal.Refusal.TheVariants.{BadVersion, BadRelations}
use Rattle.wb_states.specs.Machine.{Machine}
use Rattle.deb_text.proofs.OptionLemmas.{option_or-None, first_some-None}
use Rattle.wb_step.specs.Checks.{when, text_refusal, state_refusal, first_refusal, has_bad_name, version_fault}
use Rattle.wb_step.specs.Checks.{relation_fault, has_bad_number, has_long_text, repeats_arch, lacks_arch, lacks_builder}
use Rattle.wb_step.specs.Checks.{is_for_other_archs, is_ahead, is_not_held, lacks_source, refused_move, refused_report}
use Rattle.wb_step.specs.Checks.{is_there_already, is_still_held, is_spent, text_checks, state_checks}
use Rattle.wb_step.specs.Targets.{again_of}
use Rattle.wb_step.specs.Step.{outcome, step, state_after, counted}

pub when-None : (test : Bool) (refusal : Refusal) → when test refusal ≡ None → test ≡ false
when-None true refusal is = cc
when-None false refusal is = refl

pub option_map-None : {X Y : Type 0} (f : X → Y) (found : Option X) → option_map f found ≡ None → found ≡ None
option_map-None f None is = refl
option_map-None f (Some x) is = cc

-- what is known of a command that no check refuses
pub record Passes (machine : Machine) (command : Command) : Type 0 where
  pub names : has_bad_name command ≡ false
  pub version : version_fault command ≡ None
  pub relations : relation_fault command ≡ None
  pub number : has_bad_number command ≡ false
  pub short : has_long_text command ≡ false
  pub report : refused_report command ≡ None
  pub parts : repeats_arch command ≡ false
  pub arch : lacks_arch machine command ≡ false
  pub builder : lacks_builder machine command ≡ false
  pub others : is_for_other_archs machine command ≡ false
  pub ahead : is_ahead machine command ≡ false
  pub held : is_not_held machine command ≡ false
  pub source : lacks_source machine command ≡ false
  pub move : refused_move machine command ≡ None
  pub there : is_there_already machine command ≡ false
  pub unheld : is_still_held machine command ≡ false
  pub room : is_spent machine command ≡ false

pub passes : (machine : Machine) (command : Command) → first_refusal machine command ≡ None → Passes machine command
unfolding first_refusal text_refusal state_refusal
passes machine command is =
    let both = option_or-None (text_refusal command) (state_refusal machine command) is in
    let texts = first_some-None (text_checks command) both.0 in
    let states = first_some-None (state_checks machine command) both.1 in
    let later = states.1.1.1.1.1 in
    record {
      names = when-None _ _ texts.0;
      version = option_map-None BadVersion _ texts.1.0;
      relations = option_map-None (λ fault. BadRelations (Some fault)) _ texts.1.1.0;
      number = when-None _ _ texts.1.1.1.0;
      short = when-None _ _ texts.1.1.1.1.0;
      report = texts.1.1.1.1.1.0;
      parts = when-None _ _ texts.1.1.1.1.1.1.0;
      arch = when-None _ _ states.0;
      builder = when-None _ _ states.1.1.0;
      others = when-None _ _ states.1.1.1.0;
      ahead = when-None _ _ states.1.1.1.1.0;
      held = when-None _ _ later.0;
      source = when-None _ _ later.1.0;
      move = later.1.1.1.0;
      there = when-None _ _ later.1.1.1.1.1.0;
      unheld = when-None _ _ later.1.1.1.1.1.1.0;
      room = when-None _ _ later.1.1.1.1.1.1.1.0;
    }

-- what holds of the state, and of the state after a command that is accepted and done, holds of the state after a step
pub step-either : (P : Machine → Type 0) (machine : Machine) (command : Command) → P machine
    → (Passes machine command → again_of machine command ≡ None → P (counted machine (state_after machine command))) → P (step machine command).1
unfolding step
step-either P machine command old new =
    (elim (first_refusal machine command) as (λ r. first_refusal machine command ≡ r → P (outcome r (again_of machine command) machine command).1) [
      | Some refusal ↦ λ _. old
      | None ↦ λ is. (elim (again_of machine command) as (λ again. again_of machine command ≡ again → P (outcome None again machine command).1) [
        | Some entry ↦ λ _. old
        | None ↦ λ none. new (passes machine command is) none
      ]) refl
    ]) refl
