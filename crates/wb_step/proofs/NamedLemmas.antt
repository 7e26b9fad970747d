-- What the commands answer that move the record of a source package by its name.
use Rattle.std.proofs.Common.{◌≡◌, ℕ, ◌+◌, Bool, not, List, [], ◌∷◌, Option, Some, None, Ok, refl, ap, ◌∙◌, nat_le, is_some, option_and_then, option_map}
use Rattle.std.specs.Result.{result_unwrap_or}
use Rattle.std.specs.FinMap as map
use Rattle.wb_states.specs.Forms.{GiveBack, DepWait, Fail, NotForUs, Rebuild}
use Rattle.wb_states.specs.declared.moves.Move.{Move}
use Rattle.wb_states.specs.declared.moves.Move.TheVariants as to
use Rattle.wb_states.specs.declared.record.Record.{Record}
use Rattle.wb_states.specs.declared.refusal.Refusal.TheVariants.{UnknownArch, UnknownSource, Spent}
use Rattle.wb_states.specs.declared.reply.Reply.TheVariants.{Done}
use Rattle.wb_states.specs.Limits.{count_limit}
use Rattle.wb_states.specs.Machine.{Machine, arch_words}
use Rattle.wb_states.specs.Moves.{move_refusal}
use Rattle.wb_states.specs.Queue.{Entry}
use Rattle.deb_relations.specs.Reading.{reading_of}
use Rattle.deb_text.specs.Options.{first_some}
use Rattle.wb_step.specs.Checks.{when, differing, text_refusal, state_refusal}
use Rattle.wb_step.specs.Outcomes.{outcome_unless, move_step, named_at, named_step, sought_step}
use Rattle.wb_step.specs.Targets.{transition_of, record_named, with_move}
use Rattle.wb_step.specs.Step.{step, counted, after_move}
use Rattle.wb_step.proofs.StepLemmas.{step-state, outcome_unless-option_or}

named-answer : (machine : Machine) (arch source version : List ℕ) (move : Move) (is_unknown : Bool) (found : Option Record)
    → outcome_unless (first_some (
    when is_unknown UnknownArch
    ∷ when (not (is_some found)) UnknownSource
    ∷ option_and_then (differing version) found
    ∷ option_and_then (λ (asked : Entry × Move). move_refusal asked.1 asked.0.1)
    (option_and_then (λ (entry : Entry). Some (entry, move)) (option_map (λ (current : Record). ((arch, source), current)) found))
    ∷ when (nat_le count_limit machine.accepted) Spent
    ∷ [])) machine (
      Ok (Done (machine.accepted + 1)),
      counted machine (after_move machine
          (option_and_then (λ (entry : Entry). Some (entry, move)) (option_map (λ (current : Record). ((arch, source), current)) found))),
    )
    ≡ outcome_unless (when is_unknown UnknownArch) machine
    (named_at machine version (λ current. move_step machine ((arch, source), current) move) found)
unfolding move_step
named-answer machine arch source version move is_unknown None = outcome_unless-option_or (when is_unknown UnknownArch) _ machine _
named-answer machine arch source version move is_unknown (Some current) =
    outcome_unless-option_or (when is_unknown UnknownArch) _ machine _
    ∙ ap (outcome_unless (when is_unknown UnknownArch) machine) (outcome_unless-option_or (differing version current) _ machine _)

pub step-GiveBack : (machine : Machine) (arch source version : List ℕ) → text_refusal (GiveBack arch source version) ≡ None
    → step machine (GiveBack arch source version) ≡ named_step machine arch source version to.GiveBack
unfolding state_refusal transition_of record_named sought_step
step-GiveBack machine arch source version text =
    step-state machine (GiveBack arch source version) text refl
    ∙ named-answer machine arch source version to.GiveBack (not (map.contains_key machine.archs arch)) (map.get machine.records (arch, source))

pub step-Fail : (machine : Machine) (arch source version note : List ℕ) → text_refusal (Fail arch source version note) ≡ None
    → step machine (Fail arch source version note) ≡ named_step machine arch source version (to.Fail note)
unfolding state_refusal transition_of record_named sought_step
step-Fail machine arch source version note text =
    step-state machine (Fail arch source version note) text refl
    ∙ named-answer machine arch source version (to.Fail note) (not (map.contains_key machine.archs arch)) (map.get machine.records (arch, source))

pub step-NotForUs : (machine : Machine) (arch source version note : List ℕ) → text_refusal (NotForUs arch source version note) ≡ None
    → step machine (NotForUs arch source version note) ≡ named_step machine arch source version (to.NotForUs note)
unfolding state_refusal transition_of record_named sought_step
step-NotForUs machine arch source version note text =
    step-state machine (NotForUs arch source version note) text refl
    ∙ named-answer machine arch source version (to.NotForUs note) (not (map.contains_key machine.archs arch)) (map.get machine.records (arch, source))

pub step-Rebuild : (machine : Machine) (arch source version : List ℕ) (number : ℕ) (message : List ℕ)
    → text_refusal (Rebuild arch source version number message) ≡ None
    → step machine (Rebuild arch source version number message) ≡ named_step machine arch source version (to.Rebuild number message)
unfolding state_refusal transition_of record_named sought_step
step-Rebuild machine arch source version number message text =
    step-state machine (Rebuild arch source version number message) text refl
    ∙ named-answer machine arch source version (to.Rebuild number message) (not (map.contains_key machine.archs arch)) (map.get machine.records (arch, source))

-- the move of DepWait is of the entry's own architecture
depwait-answer : (machine : Machine) (arch source version relations : List ℕ) (found : Option Record)
    → outcome_unless (first_some (
    when (not (map.contains_key machine.archs arch)) UnknownArch
    ∷ when (not (is_some found)) UnknownSource
    ∷ option_and_then (differing version) found
    ∷ option_and_then (λ (asked : Entry × Move). move_refusal asked.1 asked.0.1)
    (option_and_then (with_move machine (DepWait arch source version relations)) (option_map (λ (current : Record). ((arch, source), current)) found))
    ∷ when (nat_le count_limit machine.accepted) Spent
    ∷ [])) machine (
      Ok (Done (machine.accepted + 1)),
      counted machine (after_move machine
          (option_and_then (with_move machine (DepWait arch source version relations)) (option_map (λ (current : Record). ((arch, source), current)) found))),
    )
    ≡ outcome_unless (when (not (map.contains_key machine.archs arch)) UnknownArch) machine
    (named_at machine version (λ current. move_step machine ((arch, source), current) (to.DepWait (result_unwrap_or (reading_of relations) []) (arch_words machine arch))) found)
depwait-answer machine arch source version relations None =
    named-answer machine arch source version (to.DepWait (result_unwrap_or (reading_of relations) []) (arch_words machine arch)) (not (map.contains_key machine.archs arch)) None
depwait-answer machine arch source version relations (Some current) =
    named-answer machine arch source version (to.DepWait (result_unwrap_or (reading_of relations) []) (arch_words machine arch)) (not (map.contains_key machine.archs arch)) (Some current)

pub step-DepWait : (machine : Machine) (arch source version relations : List ℕ) → text_refusal (DepWait arch source version relations) ≡ None
    → step machine (DepWait arch source version relations)
    ≡ named_step machine arch source version (to.DepWait (result_unwrap_or (reading_of relations) []) (arch_words machine arch))
unfolding state_refusal transition_of record_named sought_step
step-DepWait machine arch source version relations text =
    step-state machine (DepWait arch source version relations) text refl
    ∙ depwait-answer machine arch source version relations (map.get machine.records (arch, source))
