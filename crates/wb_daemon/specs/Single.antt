-- What a single command, already cut into words, is answered with, and what it leaves of the office.
use Rattle.std.specs.Prelude.{◌≡◌, ◌⊎◌, ℕ, Bool, false, true, not, ◌&&◌, if◌then◌else◌, List, [], ◌∷◌, Err}
use Rattle.wb_states.specs.Machine.{Machine}
use Rattle.wb_states.specs.declared.command.Command.{Command}
use Rattle.wb_step.specs.Offices.{Standing}
use Rattle.wb_step.specs.Step.{step}
use Rattle.wb_words.specs.Arguments.{joined}
use Rattle.wb_words.specs.Words.{invocation_in}
use Rattle.wb_streams.specs.Line.{is_long}
use Rattle.wb_streams.specs.Streams.{Flags, Stream}
use Rattle.wb_lists.specs.Lists.{MayRead}
use Rattle.wb_daemon.specs.Run.{Asked, Fault, Invokes, LineKind, kind_of_invocation}
use Rattle.wb_daemon.specs.Turn.{Answers, StopsAt, fails_to_write}
use Rattle.wb_daemon.specs.declared.message.Cause.{Cause}

-- there is a word
abbrev pub has_word : List (List ℕ) → Bool
has_word [] = false
has_word (word ∷ words) = true

-- words that are read: there is one, and with a space between each two they are no longer than a line may be
abbrev pub are_read : List (List ℕ) → Bool
are_read words = has_word words && not (is_long (joined words))

-- the kind of a single command, by its words: each is taken as it is, whatever its bytes are
unfoldable pub kind_of_words : List (List ℕ) → LineKind
kind_of_words words = if are_read words then kind_of_invocation (invocation_in words) else Fault

-- what the words of a single command ask
abbrev pub asked_in : List (List ℕ) → Asked
asked_in words = record { kind = kind_of_words words; needs_memory = are_read words }

-- the words were answered: what is said to them was written, and no write failed
abbrev pub AnswersWords : MayRead → List (List ℕ) → Stream → Stream → Machine → Machine → ℕ → Type 0
AnswersWords may_read words old new before after status =
    Answers may_read (asked_in words) before after old.bytes new.bytes status × (new.failed ≡ old.failed)

-- the words were not answered to the end, or the store refused them: what was written, why, and that a write did fail if that is why
abbrev pub StopsAtWords : MayRead → List (List ℕ) → Stream → Stream → Machine → Machine → Standing → Type 0
StopsAtWords may_read words old new before after standing =
    (cause : Cause) × StopsAt may_read (asked_in words) before after standing old.bytes new.bytes cause
    × Flags (fails_to_write (Err cause)) old new

-- the office is as it was, or as the command that the words ask for leaves it
abbrev pub LeavesStep : MayRead → List (List ℕ) → Machine → Machine → Type 0
LeavesStep may_read words before after =
    (after ≡ before) ⊎ ((command : Command) × Invokes may_read (asked_in words) command × (after ≡ (step before command).1))
