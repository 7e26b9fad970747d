-- What the command answers that takes the record of a source package away.
use Rattle.std.specs.Option.{option_or}
use Rattle.std.proofs.Common.{◌≡◌, ℕ, ◌+◌, Bool, true, false, not, List, [], ◌∷◌, Option, Some, None, Ok, Err, refl}
use Rattle.std.proofs.Common.{sym, ap, ◌∙◌, nat_le, is_some, option_and_then, option_map}
use Rattle.std.specs.FinMap as map
use Rattle.deb_text.specs.Options.{has_value, first_some}
use Rattle.deb_version.specs.Syntax.{fault_of}
use Rattle.wb_states.specs.Forms.{Forget}
use Rattle.wb_states.specs.declared.record.Record.{Record}
use Rattle.wb_states.specs.declared.refusal.Refusal.{Refusal}
use Rattle.wb_states.specs.declared.refusal.Refusal.TheVariants.{BadName, BadVersion, UnknownArch, UnknownSource}
use Rattle.wb_states.specs.declared.refusal.Refusal.TheVariants.{StillHeld, Spent}
use Rattle.wb_states.specs.declared.reply.Reply.{Reply}
use Rattle.wb_states.specs.declared.reply.Reply.TheVariants.{Done}
use Rattle.wb_states.specs.Limits.{count_limit}
use Rattle.wb_states.specs.Machine.{Machine}
use Rattle.wb_states.specs.Names.{has_bad_key}
use Rattle.wb_states.specs.Queue.{Entry}
use Rattle.wb_step.specs.Checks.{differing, has_holder, key_refusal, state_refusal, text_refusal, when}
use Rattle.wb_step.specs.Outcomes.{forget_step, forgotten_step, named_at, outcome_unless, sought_step}
use Rattle.wb_step.specs.Step.{step, counted}
use Rattle.wb_step.specs.Targets.{transition_of}
use Rattle.wb_step.proofs.StepLemmas.{step-state, step-text, outcome_unless-option_or, two-None, two-Some}

-- ---- the step

forget-answer : (machine : Machine) (arch source version : List ℕ) (is_unknown : Bool) (found : Option Record)
    → outcome_unless (first_some (
    when is_unknown UnknownArch
    ∷ when (not (is_some found)) UnknownSource
    ∷ option_and_then (differing version) found
    ∷ when (has_value has_holder found) StillHeld
    ∷ when (nat_le count_limit machine.accepted) Spent
    ∷ [])) machine (
      Ok (Done (machine.accepted + 1)),
      counted machine (record machine
          { records = map.remove machine.records (arch, source) }),
    )
    ≡ outcome_unless (when is_unknown UnknownArch) machine
    (named_at machine version (λ current. forget_step machine ((arch, source), current)) found)
unfolding forget_step
forget-answer machine arch source version is_unknown None = outcome_unless-option_or (when is_unknown UnknownArch) _
    machine _
forget-answer machine arch source version is_unknown (Some current) =
    outcome_unless-option_or (when is_unknown UnknownArch) _ machine _
    ∙ ap (outcome_unless (when is_unknown UnknownArch) machine) (outcome_unless-option_or (differing version current) _ machine _)

step-Forget : (machine : Machine) (arch source version : List ℕ) → text_refusal (Forget arch source version) ≡ None
    → step machine (Forget arch source version) ≡ forgotten_step machine arch source version
unfolding state_refusal transition_of sought_step
step-Forget machine arch source version text =
    step-state machine (Forget arch source version) text refl
    ∙ forget-answer machine arch source version (not (map.contains_key machine.archs arch))
    (map.get machine.records (arch, source))

-- ---- its texts

pub forget-refused : (machine : Machine) (arch source version : List ℕ) (refusal : Refusal)
    → key_refusal arch source version ≡ Some refusal
    → step machine (Forget arch source version) ≡ (Err refusal, machine)
unfolding text_refusal
forget-refused machine arch source version refusal is = step-text machine (Forget arch source version) refusal is

pub forget-is : (machine : Machine) (arch source version : List ℕ) → key_refusal arch source version ≡ None
    → step machine (Forget arch source version) ≡ forgotten_step machine arch source version
unfolding text_refusal
forget-is machine arch source version is = step-Forget machine arch source version is

-- ---- the record

pub forget_step-StillHeld : (machine : Machine) (entry : Entry) → has_holder entry.1 ≡ true
    → forget_step machine entry ≡ (Err StillHeld, machine)
unfolding forget_step
forget_step-StillHeld machine entry held =
    λ i. outcome_unless (first_some (when (held i) StillHeld ∷ when (nat_le count_limit machine.accepted) Spent ∷ []))
    machine (
      Ok (Done (machine.accepted + 1)),
      counted machine (record machine
          { records = map.remove machine.records entry.0 }),
    )

pub forget_step-Spent : (machine : Machine) (entry : Entry) → has_holder entry.1 ≡ false
    → nat_le count_limit machine.accepted ≡ true
    → forget_step machine entry ≡ (Err Spent, machine)
unfolding forget_step
forget_step-Spent machine entry free full =
    λ i. outcome_unless (first_some (when (free i) StillHeld ∷ when (full i) Spent ∷ [])) machine (
      Ok (Done (machine.accepted + 1)),
      counted machine (record machine
          { records = map.remove machine.records entry.0 }),
    )

pub forget_step-made : (machine new : Machine) (entry : Entry) (reply : Reply) → has_holder entry.1 ≡ false
    → nat_le count_limit machine.accepted ≡ false
    → reply ≡ Done (machine.accepted + 1) → new ≡ counted machine
    (record machine { records = map.remove machine.records entry.0 })
    → forget_step machine entry ≡ (Ok reply, new)
unfolding forget_step
forget_step-made machine new entry reply free room replied left =
    (λ i. outcome_unless (first_some (when (free i) StillHeld ∷ when (room i) Spent ∷ [])) machine (
      Ok (Done (machine.accepted + 1)),
      counted machine (record machine
          { records = map.remove machine.records entry.0 }),
    ))
    ∙ (λ i. (Ok (sym replied i), sym left i))
