-- What the commands answer that move a record by its take number.
use Rattle.std.specs.Option.{option_or}
use Rattle.std.proofs.Common.{◌≡◌, ℕ, ◌+◌, nat_lt, length, true, false, List, [], ◌∷◌, Option, Some, None, Ok, Err, refl, sym, ap, ◌∙◌, nat_le, is_none, option_and_then, option_map}
use Rattle.std.specs.Result.{result_err, result_unwrap_or}
use Rattle.deb_relations.specs.declared.relations.Alternative.{Alternative}
use Rattle.deb_relations.specs.Reading.{reading_of}
use Rattle.wb_states.specs.Forms.{Attempted, Built, Uploaded, Waits, PutBack}
use Rattle.wb_states.specs.declared.moves.Move.{Move}
use Rattle.wb_states.specs.declared.moves.Move.TheVariants as to
use Rattle.wb_states.specs.declared.refusal.Refusal.{Refusal}
use Rattle.wb_states.specs.declared.refusal.Refusal.TheVariants.{BadRelations, NotHeld, Spent, TextTooLong}
use Rattle.wb_states.specs.declared.reply.Reply.TheVariants.{Done}
use Rattle.wb_states.specs.Holds.{taken_as}
use Rattle.wb_states.specs.Limits.{count_limit, note_limit}
use Rattle.wb_states.specs.Machine.{Machine, arch_words}
use Rattle.wb_states.specs.Moves.{move_refusal}
use Rattle.wb_states.specs.Queue.{Entry}
use Rattle.deb_text.specs.Options.{first_some}
use Rattle.wb_step.specs.Checks.{when, relations_refusal, text_refusal, state_refusal}
use Rattle.wb_step.specs.Outcomes.{outcome_unless, move_step, taken_at, taken_step}
use Rattle.wb_step.specs.Targets.{transition_of}
use Rattle.wb_step.specs.Step.{step, counted, after_move}
use Rattle.wb_step.proofs.StepLemmas.{step-state, step-text}

taken-answer : (machine : Machine) (moves : Entry → Move) (found : Option Entry)
    → outcome_unless (first_some (
    when (is_none found) NotHeld
    ∷ option_and_then (λ (asked : Entry × Move). move_refusal asked.1 asked.0.1) (option_and_then (λ (entry : Entry). Some (entry, moves entry)) found)
    ∷ when (nat_le count_limit machine.accepted) Spent
    ∷ [])) machine
    (Ok (Done (machine.accepted + 1)), counted machine (after_move machine (option_and_then (λ (entry : Entry). Some (entry, moves entry)) found)))
    ≡ taken_at machine moves found
unfolding move_step
taken-answer machine moves None = refl
taken-answer machine moves (Some entry) = refl

pub step-Built : (machine : Machine) (take_number : ℕ) → step machine (Built take_number) ≡ taken_step machine take_number (λ _. to.Built)
unfolding text_refusal state_refusal transition_of taken_step
step-Built machine take_number =
    step-state machine (Built take_number) refl refl ∙ taken-answer machine (λ _. to.Built) (taken_as machine take_number)

pub step-Uploaded : (machine : Machine) (take_number : ℕ) → step machine (Uploaded take_number) ≡ taken_step machine take_number (λ _. to.Uploaded)
unfolding text_refusal state_refusal transition_of taken_step
step-Uploaded machine take_number =
    step-state machine (Uploaded take_number) refl refl ∙ taken-answer machine (λ _. to.Uploaded) (taken_as machine take_number)

pub step-PutBack : (machine : Machine) (take_number : ℕ) → step machine (PutBack take_number) ≡ taken_step machine take_number (λ _. to.PutBack)
unfolding text_refusal state_refusal transition_of taken_step
step-PutBack machine take_number =
    step-state machine (PutBack take_number) refl refl ∙ taken-answer machine (λ _. to.PutBack) (taken_as machine take_number)

attempted-text : (take_number : ℕ) (reason : List ℕ) → nat_lt note_limit (length reason) ≡ false → text_refusal (Attempted take_number reason) ≡ None
unfolding text_refusal
attempted-text take_number reason short = ap (λ long. option_or (when long TextTooLong) None) short

pub attempted-long : (machine : Machine) (take_number : ℕ) (reason : List ℕ) → nat_lt note_limit (length reason) ≡ true
    → step machine (Attempted take_number reason) ≡ (Err TextTooLong, machine)
unfolding text_refusal
attempted-long machine take_number reason long =
    step-text machine (Attempted take_number reason) TextTooLong (ap (λ is_long. option_or (when is_long TextTooLong) None) long)

pub attempted-is : (machine : Machine) (take_number : ℕ) (reason own : List ℕ) → nat_lt note_limit (length reason) ≡ false → own ≡ reason
    → step machine (Attempted take_number reason) ≡ taken_step machine take_number (λ _. to.Attempted own)
unfolding state_refusal transition_of taken_step
attempted-is machine take_number reason own short same =
    step-state machine (Attempted take_number reason) (attempted-text take_number reason short) refl
    ∙ taken-answer machine (λ _. to.Attempted reason) (taken_as machine take_number)
    ∙ (λ i. taken_at machine (λ _. to.Attempted (sym same i)) (taken_as machine take_number))

waits_move : Machine → List ℕ → Entry → Move
waits_move machine relations entry = to.Waits (result_unwrap_or (reading_of relations) []) (arch_words machine entry.0.0)

waits-text : (take_number : ℕ) (relations : List ℕ) (groups : List (List Alternative)) → reading_of relations ≡ Ok groups
    → text_refusal (Waits take_number relations) ≡ None
unfolding text_refusal
waits-text take_number relations groups reads =
    ap (λ reading. option_or (option_map (λ fault. BadRelations (Some fault)) (result_err reading)) None) reads

step-Waits : (machine : Machine) (take_number : ℕ) (relations : List ℕ) (groups : List (List Alternative)) → reading_of relations ≡ Ok groups
    → step machine (Waits take_number relations) ≡ taken_step machine take_number (waits_move machine relations)
unfolding state_refusal transition_of taken_step waits_move
step-Waits machine take_number relations groups reads =
    step-state machine (Waits take_number relations) (waits-text take_number relations groups reads) refl
    ∙ taken-answer machine (λ entry. to.Waits (result_unwrap_or (reading_of relations) []) (arch_words machine entry.0.0)) (taken_as machine take_number)

pub waits-BadRelations : (machine : Machine) (take_number : ℕ) (relations : List ℕ) (refusal : Refusal) → relations_refusal relations ≡ Some refusal
    → step machine (Waits take_number relations) ≡ (Err refusal, machine)
unfolding text_refusal
waits-BadRelations machine take_number relations refusal is =
    step-text machine (Waits take_number relations) refusal (ap (λ first. option_or first None) is)

-- relations that are read
pub waits-is : (machine : Machine) (take_number : ℕ) (relations : List ℕ) (groups : List (List Alternative))
    → reading_of relations ≡ Ok groups
    → step machine (Waits take_number relations)
    ≡ taken_step machine take_number (λ entry. to.Waits groups (arch_words machine entry.0.0))
unfolding waits_move
waits-is machine take_number relations groups reads =
    step-Waits machine take_number relations groups reads
    ∙ (λ i. taken_step machine take_number (λ entry.
    to.Waits (result_unwrap_or (reads i) []) (arch_words machine entry.0.0)))

pub taken_step-NotHeld : (machine : Machine) (take_number : ℕ) (moves : Entry → Move) → taken_as machine take_number ≡ None
    → taken_step machine take_number moves ≡ (Err NotHeld, machine)
unfolding taken_step
taken_step-NotHeld machine take_number moves none = ap (taken_at machine moves) none

pub taken_step-moves : (machine : Machine) (take_number : ℕ) (moves : Entry → Move) (entry : Entry) → taken_as machine take_number ≡ Some entry
    → taken_step machine take_number moves ≡ move_step machine entry (moves entry)
unfolding taken_step
taken_step-moves machine take_number moves entry found = ap (taken_at machine moves) found
