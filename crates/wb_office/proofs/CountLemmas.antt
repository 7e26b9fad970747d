-- Commands that stand were accepted, and each is counted.
use Rattle.std.proofs.Common.{◌≡◌, ℕ, ◌+◌, inl, inr, Bool, true, false, List, [], ◌∷◌, ◌++◌, length, Option, Some}
use Rattle.std.proofs.Common.{None, Result, Ok, Err, if◌then◌else◌, refl, sym, ap, subst, ◌∙◌, arith}
use Rattle.std.proofs.lemmas.Bool.{both_ways}
use Rattle.wb_states.specs.declared.command.Command.{Command}
use Rattle.wb_states.specs.declared.refusal.Refusal.{Refusal}
use Rattle.wb_states.specs.declared.refusal.Refusal.TheVariants as refusal
use Rattle.wb_states.specs.declared.reply.Reply.{Reply}
use Rattle.wb_states.specs.declared.store_fault.StoreFault.{StoreFault}
use Rattle.wb_states.specs.Machine.{Machine}
use Rattle.wb_states.specs.Queue.{Entry}
use Rattle.wb_step.specs.Checks.{first_refusal}
use Rattle.wb_step.specs.Replay.{replay}
use Rattle.wb_step.specs.Step.{outcome, step}
use Rattle.wb_step.specs.Targets.{again_of}
use Rattle.wb_office.specs.Answers.{is_again}
use Rattle.wb_office.specs.Lives.{AreAccepted, IsAccepted, LeavesStanding, Outcome, acknowledged}
use Rattle.wb_office.proofs.AnswerLemmas.{told_again}

-- ---- one command

outcome-counted : (refused : Option Refusal) (again : Option Entry) (machine : Machine) (command : Command) (reply : Reply) → (outcome refused again machine command).0 ≡ Ok reply
    → is_again reply ≡ false → (outcome refused again machine command).1.accepted ≡ machine.accepted + 1
outcome-counted (Some other) again machine command reply told new = absurd (clash told)
  where
    clash : Err other ≡ Ok reply → ⊥
    clash is = cc
outcome-counted None (Some entry) machine command reply told new = absurd (by reply told new)
  where
    is_again_of : Result Reply Refusal → Bool
    is_again_of (Ok reply) = is_again reply
    is_again_of (Err refusal) = false

    by : (reply : Reply) → (outcome None (Some entry) machine command).0 ≡ Ok reply → is_again reply ≡ false → ⊥
    by reply told new = both_ways (is_again reply) new (ap (λ (o : Result Reply Refusal). is_again_of o) (sym told))
outcome-counted None None machine command reply told new = refl

-- an accepted command is counted
step-counted : (machine : Machine) (command : Command) → IsAccepted machine command → (step machine command).1.accepted ≡ machine.accepted + 1
unfolding step
step-counted machine command (reply, told, new) = outcome-counted (first_refusal machine command) (again_of machine command) machine command reply told new

-- ---- commands one after another

-- each of them is counted
pub replay-counted : (machine : Machine) (commands : List Command) → AreAccepted machine commands → (replay machine commands).accepted ≡ machine.accepted + length commands
replay-counted machine [] all = omega arith
replay-counted machine (command ∷ commands) all =
    replay-counted (step machine command).1 commands all.1 ∙ ap (λ (n : ℕ). n + length commands) (step-counted machine command all.0) ∙ omega arith

pub accepted-append : (machine : Machine) (one other : List Command) → AreAccepted machine one → AreAccepted (replay machine one) other → AreAccepted machine (one ++ other)
accepted-append machine [] other all later = later
accepted-append machine (command ∷ one) other all later = (all.0, accepted-append (step machine command).1 one other all.1 later)

-- ---- the commands that a life leaves standing

acknowledged-accepted : (machine : Machine) (command : Command) (reply : Reply) (later : List Command) → (step machine command).0 ≡ Ok reply
    → AreAccepted (step machine command).1 later → (again : Bool) → is_again reply ≡ again → AreAccepted machine (acknowledged command reply ++ later)
acknowledged-accepted machine command reply later told all true again =
    subst (λ (some : List Command). AreAccepted machine (some ++ later)) (sym (ap (λ (b : Bool). if b then [] else command ∷ []) again))
    (subst (λ (m : Machine). AreAccepted m later) (told_again machine command reply told again) all)
acknowledged-accepted machine command reply later told all false again =
    subst (λ (some : List Command). AreAccepted machine (some ++ later)) (sym (ap (λ (b : Bool). if b then [] else command ∷ []) again)) ((reply, told, again), all)

pub standing-accepted : (Failed : StoreFault → Type 0) (machine : Machine) (commands : List Command) (outcomes : List Outcome) (standing : List Command)
    → LeavesStanding Failed machine commands outcomes standing → AreAccepted machine standing
standing-accepted Failed machine [] [] standing is = subst (AreAccepted machine) (sym is) tt
standing-accepted Failed machine [] (outcome ∷ outcomes) standing none = absurd none
standing-accepted Failed machine (command ∷ commands) [] standing none = absurd none
standing-accepted Failed machine (command ∷ commands) (Ok reply ∷ outcomes) standing (later, is, told, rest) =
    subst (AreAccepted machine) (sym is)
    (acknowledged-accepted machine command reply later told (standing-accepted Failed (step machine command).1 commands outcomes later rest) (is_again reply) refl)
standing-accepted Failed machine (command ∷ commands) (Err refusal.Closed ∷ outcomes) standing none = absurd none
standing-accepted Failed machine (command ∷ commands) (Err (refusal.Store fault) ∷ outcomes) standing (failed, closed, inl is) = subst (AreAccepted machine) (sym is) tt
standing-accepted Failed machine (command ∷ commands) (Err (refusal.Store fault) ∷ outcomes) standing (failed, closed, inr both) = subst (AreAccepted machine) (sym both.0) (both.1, tt)
standing-accepted Failed machine (command ∷ commands) (Err refusal.Memory ∷ outcomes) standing (may, inl rest) = standing-accepted Failed machine commands outcomes standing rest
standing-accepted Failed machine (command ∷ commands) (Err refusal.Memory ∷ outcomes) standing (may, inr none) = subst (AreAccepted machine) (sym none.1) tt
standing-accepted Failed machine (command ∷ commands) (Err r ∷ outcomes) standing rest = standing-accepted Failed machine commands outcomes standing rest.1
