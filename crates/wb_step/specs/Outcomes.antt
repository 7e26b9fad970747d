-- What is answered and done once it is known which record a command moves.
use Rattle.std.specs.Prelude.{ℕ, ℤ, ◌+◌, ◌||◌, nat_le, List, [], ◌∷◌, Option, Some, None, Ok, Err}
use Rattle.std.specs.FinMap as map
use Rattle.wb_states.specs.declared.moves.Move.{Move}
use Rattle.wb_states.specs.declared.moves.Move.TheVariants as to
use Rattle.wb_states.specs.declared.record.Record.{Record}
use Rattle.wb_states.specs.declared.refusal.Refusal.{Refusal}
use Rattle.wb_states.specs.declared.refusal.Refusal.TheVariants.{UnknownArch, UnknownSource, NotHeld, QueueEmpty}
use Rattle.wb_states.specs.declared.refusal.Refusal.TheVariants.{StillHeld, Spent}
use Rattle.wb_states.specs.declared.reply.Reply.TheVariants.{Done}
use Rattle.wb_states.specs.declared.reply.Assignment.{Assignment}
use Rattle.wb_states.specs.Holds.{taken_as, take_of}
use Rattle.wb_states.specs.Limits.{count_limit}
use Rattle.wb_states.specs.Machine.{Machine}
use Rattle.wb_states.specs.Moves.{move_refusal}
use Rattle.wb_states.specs.Queue.{Entry, head_of}
use Rattle.deb_text.specs.Options.{first_some}
use Rattle.wb_step.specs.Checks.{builder_refusal, differing, has_holder, when}
use Rattle.wb_states.specs.Machine.{is_unknown_arch}
use Rattle.wb_step.specs.Step.{Outcome, assignment_of, counted, after_move, after_priority, after_take, assignment_reply}

-- the refusal of a check, which leaves the state as it was, or else this outcome
abbrev pub outcome_unless : Option Refusal → Machine → Outcome → Outcome
outcome_unless (Some refusal) machine accepted = (Err refusal, machine)
outcome_unless None machine accepted = accepted

-- ---- a record that was found

-- the assignment of a record that a builder holds, under the record's own take number
abbrev pub held_assignment : Entry → Assignment
held_assignment entry = assignment_of entry (take_of entry)

-- a record is moved and the command is counted, if neither the move nor the count is refused
unfoldable pub move_step : Machine → Entry → Move → Outcome
move_step machine entry move =
    outcome_unless (first_some (
    move_refusal move entry.1
    ∷ when (nat_le count_limit machine.accepted) Spent
    ∷ [])) machine
    (Ok (Done (machine.accepted + 1)), counted machine (after_move machine (Some (entry, move))))

-- a record gets a build priority and the command is counted, if the count is not refused
unfoldable pub priority_step : Machine → Entry → ℤ → Outcome
priority_step machine entry value =
    outcome_unless (when (nat_le count_limit machine.accepted) Spent) machine
    (Ok (Done (machine.accepted + 1)), counted machine (after_priority machine entry.0 value (Some entry.1)))

-- a record goes that nobody holds, and the command is counted, if the count is not refused
unfoldable pub forget_step : Machine → Entry → Outcome
forget_step machine entry =
    outcome_unless (first_some (
    when (has_holder entry.1) StillHeld
    ∷ when (nat_le count_limit machine.accepted) Spent
    ∷ [])) machine (
      Ok (Done (machine.accepted + 1)),
      counted machine (record machine
          { records = map.remove machine.records entry.0 }),
    )

-- the move by which a builder takes a record, under the take number after the last
abbrev pub take_move : Machine → List ℕ → Move
take_move machine builder = to.Take builder (machine.handed + 1)

-- a record is handed to a builder and the command is counted, if neither the move nor a count is refused
unfoldable pub assignment_step : Machine → List ℕ → Entry → Outcome
assignment_step machine builder entry =
    outcome_unless (first_some (
    move_refusal (take_move machine builder) entry.1
    ∷ when (nat_le count_limit machine.accepted || nat_le count_limit machine.handed) Spent
    ∷ [])) machine
    (Ok (assignment_reply machine (Some entry)), counted machine (after_take machine (Some (entry, take_move machine builder))))

-- ---- a record that is sought

-- what was found under a take number is moved, by the move that is made of it, or no record is held under it
abbrev pub taken_at : Machine → (Entry → Move) → Option Entry → Outcome
taken_at machine moves None = (Err NotHeld, machine)
taken_at machine moves (Some entry) = move_step machine entry (moves entry)

-- the record that is held under a take number is moved, by the move that is made of it
unfoldable pub taken_step : Machine → ℕ → (Entry → Move) → Outcome
taken_step machine take_number moves = taken_at machine moves (taken_as machine take_number)

-- what was found at the head of a queue is handed to a builder, or the queue is empty
abbrev pub head_at : Machine → List ℕ → Option Entry → Outcome
head_at machine builder None = (Err QueueEmpty, machine)
head_at machine builder (Some entry) = assignment_step machine builder entry

-- the head of a queue is handed to a builder
unfoldable pub head_step : Machine → List ℕ → List ℕ → Outcome
head_step machine arch builder = head_at machine builder (head_of machine arch)

-- what is done with the record that was found of a source package, if it is of the version, or there is no record
abbrev pub named_at : Machine → List ℕ → (Record → Outcome) → Option Record → Outcome
named_at machine version done None = (Err UnknownSource, machine)
named_at machine version done (Some current) = outcome_unless (differing version current) machine (done current)

-- what is done with the record of a source package, if the checks before refuse nothing and it is of the version
unfoldable pub sought_step : Option Refusal → Machine → List ℕ → List ℕ → List ℕ → (Entry → Outcome) → Outcome
sought_step refusal machine arch source version done =
    outcome_unless refusal machine
    (named_at machine version (λ current. done ((arch, source), current)) (map.get machine.records (arch, source)))

-- the record of a source package is moved, if it is of the version
abbrev pub named_step : Machine → List ℕ → List ℕ → List ℕ → Move → Outcome
named_step machine arch source version move =
    sought_step (when (is_unknown_arch machine arch) UnknownArch) machine arch source version (λ entry. move_step machine entry move)

-- the record of a source package is handed to a builder, if it is of the version
abbrev pub take_step : Machine → List ℕ → List ℕ → List ℕ → List ℕ → Outcome
take_step machine arch builder source version =
    sought_step (builder_refusal machine arch builder) machine arch source version (assignment_step machine builder)

-- the record of a source package gets a build priority, if it is of the version
abbrev pub prioritized_step : Machine → List ℕ → List ℕ → List ℕ → ℤ → Outcome
prioritized_step machine arch source version value =
    sought_step (when (is_unknown_arch machine arch) UnknownArch) machine arch source version (λ entry. priority_step machine entry value)

-- the record of a source package goes, if it is of the version and nobody holds it
abbrev pub forgotten_step : Machine → List ℕ → List ℕ → List ℕ → Outcome
forgotten_step machine arch source version =
    sought_step (when (is_unknown_arch machine arch) UnknownArch) machine arch source version (forget_step machine)
