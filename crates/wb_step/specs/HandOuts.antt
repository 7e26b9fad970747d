-- What is handed out, and when a hold ends.
use Rattle.std.specs.Prelude.{◌≡◌, ℕ, ◌<◌, Bool, true, false, nat_eq, List, [], ◌∷◌, ◌⊎◌, Option, Some, None, option_and_then, Result, Ok, is_ok, is_some, IfSome, ⊤}
use Rattle.std.specs.List.{cons_option}
use Rattle.std.specs.FinMap as map
use Rattle.wb_states.specs.declared.command.Command.{Command}
use Rattle.wb_states.specs.declared.record.Record.{Record}
use Rattle.wb_states.specs.declared.reply.Reply.{Reply}
use Rattle.wb_states.specs.declared.reply.Reply.TheVariants.{Job}
use Rattle.wb_states.specs.declared.refusal.Refusal.{Refusal}
use Rattle.wb_states.specs.declared.state.State.TheVariants.{Building}
use Rattle.deb_text.specs.Options.{has_value}
use Rattle.wb_states.specs.Machine.{Machine}
use Rattle.wb_states.specs.State.{is_held}
use Rattle.wb_step.specs.Arguments.{arguments_of}
use Rattle.wb_step.specs.Step.{step}

-- a source package on an architecture that was handed to a builder under a take number
pub record HandOut : Type 0 where
  pub builder : List ℕ
  pub key : List ℕ × List ℕ
  pub take : ℕ

-- what a builder was handed by an answer
abbrev pub given_by : List ℕ → Result Reply Refusal → Option HandOut
given_by builder (Ok (Job accepted assignment)) =
    Some (record { builder = builder; key = (assignment.arch, assignment.source); take = assignment.take })
given_by builder _ = None

-- what a command hands out by its answer: something to its builder, if it has one (this project's own)
abbrev pub handed_by : Command → Result Reply Refusal → Option HandOut
handed_by command answer = option_and_then (λ builder. given_by builder answer) (arguments_of command).builder

-- what a command hands out
abbrev pub hand_out : Machine → Command → Option HandOut
hand_out machine command = handed_by command (step machine command).0

-- a record is being built, by the builder of a hand-out and under its take number
pub record IsBeingBuilt (given : HandOut) (current : Record) : Type 0 where
  pub state : current.state ≡ Building
  pub holder : current.holder ≡ Some given.builder
  pub take : current.take ≡ Some given.take

-- what commands hand out, in their order
abbrev pub hand_outs : Machine → List Command → List HandOut
hand_outs machine [] = []
hand_outs machine (command ∷ commands) =
    cons_option (hand_out machine command) (hand_outs (step machine command).1 commands)

-- the take numbers of hand-outs rise strictly, from above a number
abbrev pub Rise : ℕ → List HandOut → Type 0
Rise number [] = ⊤
Rise number (given ∷ later) = (number < given.take) × Rise given.take later

-- whether a record is there and is held under a take number
abbrev pub is_held_as : ℕ → Option Record → Bool
is_held_as take_number current = has_value (λ one. has_value (nat_eq take_number) one.take) current

-- whether the record of a hand-out is still there and has its take number
unfoldable pub holds : Machine → HandOut → Bool
holds machine given = is_held_as given.take (map.get machine.records given.key)

-- one of the commands was accepted and ended the hold: before it the record had the take number, and after it the
-- record does not have it, or is gone
abbrev pub Ends : Machine → List Command → HandOut → Type 0
Ends machine [] given = ⊥
Ends machine (command ∷ commands) given =
    ((is_ok (step machine command).0 ≡ true) × ((holds machine given ≡ true) × (holds (step machine command).1 given ≡ false)))
    ⊎ Ends (step machine command).1 commands given

-- whether a record has a take number exactly in the states in which a builder holds it
abbrev pub HasTakeByState : Record → Type 0
HasTakeByState current = is_some current.take ≡ is_held current.state

-- each record has a take number exactly in the states in which a builder holds it
abbrev pub HasTakesByState : Machine → Type 0
HasTakesByState machine = (key : List ℕ × List ℕ) → IfSome (map.get machine.records key) HasTakeByState
