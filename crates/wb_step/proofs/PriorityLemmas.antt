-- What the command answers that gives a source package another build priority.
use Rattle.std.specs.Option.{option_or}
use Rattle.std.proofs.Common.{◌≡◌, ℕ, ℤ, ◌+◌, ◌||◌, Bool, true, false, not, List, [], ◌∷◌, Option, Some, None, Ok, Err, refl, sym, ap, ◌∙◌, nat_le, is_some, option_and_then, option_map, if◌then◌else◌}
use Rattle.std.specs.FinMap as map
use Rattle.deb_version.specs.Syntax.{fault_of}
use Rattle.wb_states.specs.Forms.{BuildPriority}
use Rattle.wb_states.specs.declared.record.Record.{Record}
use Rattle.wb_states.specs.declared.refusal.Refusal.{Refusal}
use Rattle.wb_states.specs.declared.refusal.Refusal.TheVariants.{BadName, BadNumber, BadVersion, UnknownArch, UnknownSource, Spent}
use Rattle.wb_states.specs.declared.reply.Reply.{Reply}
use Rattle.wb_states.specs.declared.reply.Reply.TheVariants.{Done}
use Rattle.wb_states.specs.Limits.{count_limit}
use Rattle.wb_states.specs.Machine.{Machine}
use Rattle.wb_states.specs.Queue.{Entry}
use Rattle.wb_states.specs.declared.keyed.KeyedRecord.{KeyedRecord}
use Rattle.wb_states.specs.Lookups.{entry_of}
use Rattle.deb_text.specs.Options.{first_some}
use Rattle.wb_step.specs.Checks.{MayWantMemory, when, differing, is_bad_priority, key_refusal, text_refusal, state_refusal}
use Rattle.wb_states.specs.Names.{has_bad_key}
use Rattle.wb_step.specs.Outcomes.{outcome_unless, named_at, priority_step, prioritized_step, sought_step}
use Rattle.wb_step.specs.Targets.{transition_of}
use Rattle.wb_step.specs.Step.{step, counted, after_priority}
use Rattle.wb_step.proofs.StepLemmas.{step-state, step-text, outcome_unless-option_or, two-None, two-Some, two-later}
use Rattle.wb_step.proofs.WantLemmas.{key-good}

-- ---- the step

priority-answer : (machine : Machine) (arch source version : List ℕ) (value : ℤ) (is_unknown : Bool) (found : Option Record)
    → outcome_unless (first_some (
    when is_unknown UnknownArch
    ∷ when (not (is_some found)) UnknownSource
    ∷ option_and_then (differing version) found
    ∷ when (nat_le count_limit machine.accepted) Spent
    ∷ [])) machine
    (Ok (Done (machine.accepted + 1)), counted machine (after_priority machine (arch, source) value found))
    ≡ outcome_unless (when is_unknown UnknownArch) machine
    (named_at machine version (λ current. priority_step machine ((arch, source), current) value) found)
unfolding priority_step
priority-answer machine arch source version value is_unknown None = outcome_unless-option_or (when is_unknown UnknownArch) _ machine _
priority-answer machine arch source version value is_unknown (Some current) =
    outcome_unless-option_or (when is_unknown UnknownArch) _ machine _
    ∙ ap (outcome_unless (when is_unknown UnknownArch) machine) (outcome_unless-option_or (differing version current) _ machine _ ∙ ap (outcome_unless (differing version current) machine) (last (nat_le count_limit machine.accepted)))
  where
    last : (is_full : Bool)
        → outcome_unless (option_or (when is_full Spent) None) machine (Ok (Done (machine.accepted + 1)), counted machine (after_priority machine (arch, source) value (Some current)))
        ≡ outcome_unless (when is_full Spent) machine (Ok (Done (machine.accepted + 1)), counted machine (after_priority machine (arch, source) value (Some current)))
    last true = refl
    last false = refl

step-BuildPriority : (machine : Machine) (arch source version : List ℕ) (value : ℤ) → text_refusal (BuildPriority arch source version value) ≡ None
    → step machine (BuildPriority arch source version value) ≡ prioritized_step machine arch source version value
unfolding state_refusal transition_of sought_step
step-BuildPriority machine arch source version value text =
    step-state machine (BuildPriority arch source version value) text refl
    ∙ priority-answer machine arch source version value (not (map.contains_key machine.archs arch)) (map.get machine.records (arch, source))

-- ---- its texts

-- the check of the number, after those of the key
abbrev number_check : ℤ → Option Refusal
number_check value = option_or (when (is_bad_priority value || false) BadNumber) None

number-good : (value : ℤ) → is_bad_priority value ≡ false → number_check value ≡ None
number-good value good = ap (λ b. option_or (when (b || false) BadNumber) None) good

pub priority-refused : (machine : Machine) (arch source version : List ℕ) (value : ℤ) (refusal : Refusal) → key_refusal arch source version ≡ Some refusal
    → step machine (BuildPriority arch source version value) ≡ (Err refusal, machine)
unfolding text_refusal
priority-refused machine arch source version value refusal is =
    step-text machine (BuildPriority arch source version value) refusal (two-Some (when (has_bad_key arch source) BadName) (option_map BadVersion (fault_of version)) (number_check value) refusal is)

pub priority-BadNumber : (machine : Machine) (arch source version : List ℕ) (value : ℤ) (refusal : Refusal)
    → option_or (key_refusal arch source version) (Some BadNumber) ≡ Some refusal
    → None ≡ (if is_bad_priority value then None else Some value)
    → step machine (BuildPriority arch source version value) ≡ (Err refusal, machine)
unfolding text_refusal
priority-BadNumber machine arch source version value refusal is none =
    step-text machine (BuildPriority arch source version value) refusal
    (two-later (when (has_bad_key arch source) BadName) (option_map BadVersion (fault_of version)) (number_check value) BadNumber refusal is
    (ap (λ b. option_or (when (b || false) BadNumber) None) (bad (is_bad_priority value) none)))
  where
    bad : (b : Bool) → None ≡ (if b then None else Some value) → b ≡ true
    bad true e = refl
    bad false e = cc

pub kept-value : (value kept : ℤ) (b : Bool) → Some kept ≡ (if b then None else Some value) → (b ≡ false) × (kept ≡ value)
kept-value value kept true e = cc
kept-value value kept false e = (refl, only kept value e) where
  only : (x y : ℤ) → Some x ≡ Some y → x ≡ y
  only x y e = cc

pub priority-is : (machine : Machine) (arch source version : List ℕ) (value kept : ℤ) → key_refusal arch source version ≡ None
    → is_bad_priority value ≡ false → kept ≡ value
    → step machine (BuildPriority arch source version value) ≡ prioritized_step machine arch source version kept
unfolding text_refusal
priority-is machine arch source version value kept is good same =
    step-BuildPriority machine arch source version value
    (two-None (when (has_bad_key arch source) BadName) (option_map BadVersion (fault_of version)) (number_check value) is ∙ number-good value good)
    ∙ ap (prioritized_step machine arch source version) (sym same)

pub want-BuildPriority : (arch source version : List ℕ) (value : ℤ) → key_refusal arch source version ≡ None → is_bad_priority value ≡ false
    → MayWantMemory (BuildPriority arch source version value)
want-BuildPriority arch source version value key good =
    let names = key-good arch source version key in
    record { names = names.0; version = names.1; relations = refl; number = ap (λ b. b || false) good; short = refl; parts = refl; report = refl }

-- ---- the record

pub priority_step-Spent : (machine : Machine) (entry : Entry) (value : ℤ) → nat_le count_limit machine.accepted ≡ true
    → priority_step machine entry value ≡ (Err Spent, machine)
unfolding priority_step
priority_step-Spent machine entry value full =
    λ i. outcome_unless (when (full i) Spent) machine (Ok (Done (machine.accepted + 1)), counted machine (after_priority machine entry.0 value (Some entry.1)))

-- a record with another build priority is written, and the command is counted
pub priority_step-made : (machine new : Machine) (entry : Entry) (value : ℤ) (made : KeyedRecord) (reply : Reply)
    → nat_le count_limit machine.accepted ≡ false
    → entry_of made ≡ (entry.0, record entry.1 { build_priority = value })
    → reply ≡ Done (machine.accepted + 1)
    → new ≡ counted machine (record machine { records = map.insert machine.records (made.arch, made.source) made.current })
    → priority_step machine entry value ≡ (Ok reply, new)
unfolding priority_step
priority_step-made machine new entry value made reply room is replied left =
    (λ i. outcome_unless (when (room i) Spent) machine (Ok (Done (machine.accepted + 1)), counted machine (after_priority machine entry.0 value (Some entry.1))))
    ∙ (λ i. (Ok (sym replied i), counted machine (record machine { records = map.insert machine.records (sym is i).0 (sym is i).1 })))
    ∙ (λ i. (Ok reply, sym left i))
