-- A life of an office over files: an opening, commands with their outcomes, and a stop; and which commands stand after
-- it.
use Rattle.std.specs.Prelude.{◌≡◌, ◌≢◌, ◌⊎◌, ⊤, false, List, [], ◌∷◌, ◌++◌, Result, Ok, Err, if◌then◌else◌}
use Rattle.wb_states.specs.declared.command.Command.{Command}
use Rattle.wb_states.specs.declared.reply.Reply.{Reply}
use Rattle.wb_states.specs.declared.refusal.Refusal.{Refusal}
use Rattle.wb_states.specs.declared.refusal.Refusal.TheVariants.{Closed, Memory, Store}
use Rattle.wb_states.specs.declared.store_fault.StoreFault.{StoreFault}
use Rattle.wb_states.specs.Machine.{Machine}
use Rattle.wb_step.specs.Checks.{MayWantMemory}
use Rattle.wb_step.specs.Replay.{replay}
use Rattle.wb_step.specs.Step.{step}
use Rattle.wb_office.specs.Answers.{is_again}

-- what a command was answered
abbrev pub Outcome : Type 0
Outcome = Result Reply Refusal

-- the command, if it was acknowledged as accepted: a reply that repeats an assignment accepts nothing
abbrev pub acknowledged : Command → Reply → List Command
acknowledged command reply = if is_again reply then [] else command ∷ []

-- the step accepts the command: it is neither refused nor does its reply repeat an assignment
abbrev pub IsAccepted : Machine → Command → Type 0
IsAccepted machine command = (reply : Reply) × ((step machine command).0 ≡ Ok reply) × (is_again reply ≡ false)

-- the step accepts each of these commands, one after another from this state on
abbrev pub AreAccepted : Machine → List Command → Type 0
AreAccepted machine [] = ⊤
AreAccepted machine (command ∷ commands) = IsAccepted machine command × AreAccepted (step machine command).1 commands

-- each of these commands was answered that the office is closed
abbrev pub AreClosed : List Command → List Outcome → Type 0
AreClosed [] [] = ⊤
AreClosed [] (outcome ∷ outcomes) = ⊥
AreClosed (command ∷ commands) [] = ⊥
AreClosed (command ∷ commands) (outcome ∷ outcomes) = (outcome ≡ Err Closed) × AreClosed commands outcomes

-- these commands stand after a life that began at this state, in their order, and each command has one outcome: each
-- that was acknowledged stands, and no other, except that the one at which the store failed may stand or not, if the
-- step accepts it there. Each reply, and each refusal of the state, is that of the step after the commands before it.
-- Each fault that is told is one of those with which the store failed. Each command after such a fault is answered that
-- the office is closed; so may be all after a lack of memory, and no other. There may be no memory only for a command
-- that no check without memory refuses
abbrev pub LeavesStanding : (StoreFault → Type 0) → Machine → List Command → List Outcome → List Command → Type 0
LeavesStanding Failed machine [] [] standing = standing ≡ []
LeavesStanding Failed machine [] (outcome ∷ outcomes) standing = ⊥
LeavesStanding Failed machine (command ∷ commands) [] standing = ⊥
LeavesStanding Failed machine (command ∷ commands) (Ok reply ∷ outcomes) standing =
    (later : List Command) × (standing ≡ acknowledged command reply ++ later) × ((step machine command).0 ≡ Ok reply)
    × LeavesStanding Failed (step machine command).1 commands outcomes later
LeavesStanding Failed machine (command ∷ commands) (Err (Store fault) ∷ outcomes) standing =
    Failed fault × AreClosed commands outcomes × ((standing ≡ []) ⊎ ((standing ≡ command ∷ []) × IsAccepted machine command))
LeavesStanding Failed machine (command ∷ commands) (Err Closed ∷ outcomes) standing = ⊥
LeavesStanding Failed machine (command ∷ commands) (Err Memory ∷ outcomes) standing =
    MayWantMemory command
    × (LeavesStanding Failed machine commands outcomes standing ⊎ (AreClosed commands outcomes × (standing ≡ [])))
LeavesStanding Failed machine (command ∷ commands) (Err refusal ∷ outcomes) standing =
    ((step machine command).0 ≡ Err refusal) × LeavesStanding Failed machine commands outcomes standing

-- the outcome is not that the store failed, so that the command is not in doubt
abbrev pub IsSure : Outcome → Type 0
IsSure (Ok reply) = ⊤
IsSure (Err refusal) = (fault : StoreFault) → refusal ≢ Store fault

-- ---- an office that carries out commands

-- an office is closed, since its store failed with some fault, and a crash leaves one of these two states
abbrev pub leaves_for_some : {X : Type 0} → (X → Machine → Machine → StoreFault → Type 0) → X → Machine → Machine → Type 0
leaves_for_some leaves office before after = (fault : StoreFault) × leaves office before after fault

-- the store of some office, of which a crash leaves one of these two states, failed with this fault
abbrev pub fails_for_some : {X : Type 0} → (X → Machine → Machine → StoreFault → Type 0) → Machine → Machine → StoreFault → Type 0
fails_for_some {X} leaves before after fault = (office : X) × leaves office before after fault

-- no fault
abbrev pub never_fails : StoreFault → Type 0
never_fails fault = ⊥

-- an office that stood at this state stands at the one after the commands that a life left standing, and no fault was
-- told; or it is closed, a crash leaves the one or the other of two such states, and each fault that was told is one
-- with which the store of this office failed
abbrev pub EndsLife : {X : Type 0} → (X → Machine → Type 0) → (X → Machine → Machine → StoreFault → Type 0) → Machine → List Command → List Outcome → X → Type 0
EndsLife stands_at leaves machine commands outcomes new =
    ((standing : List Command) × LeavesStanding never_fails machine commands outcomes standing × stands_at new (replay machine standing))
    ⊎ ((one other : List Command)
    × LeavesStanding (leaves new (replay machine one) (replay machine other)) machine commands outcomes one
    × LeavesStanding (leaves new (replay machine one) (replay machine other)) machine commands outcomes other
    × leaves_for_some leaves new (replay machine one) (replay machine other))
