-- What a builder's command for the head of a queue answers.
use Rattle.std.specs.Option.{option_or}
use Rattle.std.proofs.Common.{◌≡◌, ℕ, ◌||◌, ◌&&◌, Bool, true, false, List, [], ◌∷◌, Option, Some, None, Ok, Err, refl, sym, ap, ◌∙◌, nat_le, is_none, option_and_then, option_map}
use Rattle.wb_states.specs.Forms.{Next}
use Rattle.wb_states.specs.declared.refusal.Refusal.{Refusal}
use Rattle.wb_states.specs.declared.refusal.Refusal.TheVariants.{AfterAhead, BadName, QueueEmpty, Spent, UnknownArch, UnknownBuilder, WrongArch}
use Rattle.wb_states.specs.declared.reply.Reply.TheVariants.{Again}
use Rattle.wb_states.specs.declared.moves.Move.{Move}
use Rattle.wb_states.specs.declared.reply.Assignment.{Assignment}
use Rattle.wb_states.specs.declared.state.State.TheVariants.{NeedsBuild}
use Rattle.wb_states.specs.Limits.{count_limit}
use Rattle.wb_states.specs.Machine.{Machine}
use Rattle.wb_states.specs.Moves.{move_refusal, may_go}
use Rattle.wb_states.specs.Queue.{Entry, head_of}
use Rattle.wb_states.proofs.QueueLemmas.{head_of-waits}
use Rattle.deb_text.specs.Options.{first_some}
use Rattle.wb_step.specs.Checks.{when, has_bad_name, is_ahead, is_for_other_archs, lacks_arch, lacks_builder, text_refusal, state_refusal, first_refusal, builder_refusal}
use Rattle.wb_step.specs.Outcomes.{outcome_unless, head_at, head_step, assignment_step, take_move, held_assignment}
use Rattle.wb_step.specs.Targets.{again_of, transition_of}
use Rattle.wb_step.specs.Step.{outcome, step, reply_to, state_after, counted, after_take, assignment_reply}
use Rattle.wb_step.proofs.StepLemmas.{step-refused, outcome-None, three-None, three-Some}

-- the checks of the builder before others
builder_first : Machine → List ℕ → List ℕ → Option ℕ → Option Refusal → Option Refusal
builder_first machine arch builder after rest =
    option_or (when (lacks_arch machine (Next arch builder after)) UnknownArch)
    (option_or (when (lacks_builder machine (Next arch builder after)) UnknownBuilder)
    (option_or (when (is_for_other_archs machine (Next arch builder after)) WrongArch) rest))

builder_first-None : (machine : Machine) (arch builder : List ℕ) (after : Option ℕ) (rest : Option Refusal)
    → builder_refusal machine arch builder ≡ None → builder_first machine arch builder after rest ≡ rest
unfolding builder_first builder_refusal
builder_first-None machine arch builder after rest is = three-None
    (when (lacks_arch machine (Next arch builder after)) UnknownArch)
    (when (lacks_builder machine (Next arch builder after)) UnknownBuilder)
    (when (is_for_other_archs machine (Next arch builder after)) WrongArch) rest is

builder_first-Some : (machine : Machine) (arch builder : List ℕ) (after : Option ℕ) (rest : Option Refusal) (refusal : Refusal)
    → builder_refusal machine arch builder ≡ Some refusal → builder_first machine arch builder after rest ≡ Some refusal
unfolding builder_first builder_refusal
builder_first-Some machine arch builder after rest refusal is = three-Some
    (when (lacks_arch machine (Next arch builder after)) UnknownArch)
    (when (lacks_builder machine (Next arch builder after)) UnknownBuilder)
    (when (is_for_other_archs machine (Next arch builder after)) WrongArch) rest refusal is

-- the checks of the queue: none where the builder is told again
queue_checks : Machine → List ℕ → Bool → Option Entry → Option Refusal
queue_checks machine builder is_new head =
    option_or (option_and_then (λ (asked : Entry × Move). move_refusal asked.1 asked.0.1)
    (option_and_then (λ (entry : Entry). Some (entry, take_move machine builder)) head))
    (option_or (when (is_new && is_none head) QueueEmpty)
    (option_or (when (is_new && (nat_le count_limit machine.accepted || nat_le count_limit machine.handed)) Spent) None))

next-checks : (machine : Machine) (arch builder : List ℕ) (after : Option ℕ) (is_bad is_later : Bool) (again : Option Entry)
    → has_bad_name (Next arch builder after) ≡ is_bad → is_ahead machine (Next arch builder after) ≡ is_later
    → again_of machine (Next arch builder after) ≡ again
    → first_refusal machine (Next arch builder after) ≡ option_or (first_some (when is_bad BadName ∷ [])) (builder_first machine arch builder after
    (option_or (when is_later (AfterAhead machine.handed)) (queue_checks machine builder (is_none again) (head_of machine arch))))
unfolding first_refusal text_refusal state_refusal transition_of builder_first queue_checks
next-checks machine arch builder after is_bad is_later again bad later again_is =
    λ i. option_or (first_some (when (bad i) BadName ∷ [])) (builder_first machine arch builder after
    (option_or (when (later i) (AfterAhead machine.handed)) (queue_checks machine builder (is_none (again_is i)) (head_of machine arch))))

pub next-BadName : (machine : Machine) (arch builder : List ℕ) (after : Option ℕ) → has_bad_name (Next arch builder after) ≡ true
    → step machine (Next arch builder after) ≡ (Err BadName, machine)
next-BadName machine arch builder after bad =
    step-refused machine (Next arch builder after) BadName (next-checks machine arch builder after true _ _ bad refl refl)

pub next-builder : (machine : Machine) (arch builder : List ℕ) (after : Option ℕ) (refusal : Refusal) → has_bad_name (Next arch builder after) ≡ false
    → builder_refusal machine arch builder ≡ Some refusal
    → step machine (Next arch builder after) ≡ (Err refusal, machine)
next-builder machine arch builder after refusal bad is =
    step-refused machine (Next arch builder after) refusal
    (next-checks machine arch builder after false _ _ bad refl refl ∙ builder_first-Some machine arch builder after _ refusal is)

pub next-AfterAhead : (machine : Machine) (arch builder : List ℕ) (after : Option ℕ) → has_bad_name (Next arch builder after) ≡ false
    → builder_refusal machine arch builder ≡ None → is_ahead machine (Next arch builder after) ≡ true
    → step machine (Next arch builder after) ≡ (Err (AfterAhead machine.handed), machine)
next-AfterAhead machine arch builder after bad is later =
    step-refused machine (Next arch builder after) (AfterAhead machine.handed)
    (next-checks machine arch builder after false true _ bad later refl ∙ builder_first-None machine arch builder after _ is)

-- the head of a queue can be taken
head-taken : (machine : Machine) (arch builder : List ℕ) (entry : Entry) → head_of machine arch ≡ Some entry
    → move_refusal (take_move machine builder) entry.1 ≡ None
unfolding move_refusal may_go
head-taken machine arch builder entry is =
    let waits : entry.1.state ≡ NeedsBuild = (head_of-waits machine arch entry is).2 in
    rw waits refl

queue_checks-again : (machine : Machine) (arch builder : List ℕ) → queue_checks machine builder false (head_of machine arch) ≡ None
unfolding queue_checks
queue_checks-again machine arch builder =
    elim (head_of machine arch) as (λ head. head_of machine arch ≡ head → queue_checks machine builder false head ≡ None) [
      | None ↦ λ at. refl
      | Some entry ↦ λ at. ap (λ first. option_or first None) (head-taken machine arch builder entry at)
    ] refl

pub next-Again : (machine : Machine) (arch builder : List ℕ) (after : Option ℕ) (entry : Entry) → has_bad_name (Next arch builder after) ≡ false
    → builder_refusal machine arch builder ≡ None → is_ahead machine (Next arch builder after) ≡ false
    → again_of machine (Next arch builder after) ≡ Some entry
    → step machine (Next arch builder after) ≡ (Ok (Again machine.accepted (held_assignment entry)), machine)
unfolding step
next-Again machine arch builder after entry bad is later again_is =
    let first : first_refusal machine (Next arch builder after) ≡ None =
    next-checks machine arch builder after false false (Some entry) bad later again_is ∙ builder_first-None machine arch builder after _ is
    ∙ queue_checks-again machine arch builder in
    λ i. outcome (first i) (again_is i) machine (Next arch builder after)

-- what is answered and done with what stands at the head of a queue
head-answer : (machine : Machine) (arch builder : List ℕ) (after : Option ℕ)
    → outcome_unless (queue_checks machine builder true (head_of machine arch)) machine
    (Ok (reply_to machine (Next arch builder after)), counted machine (state_after machine (Next arch builder after)))
    ≡ head_at machine builder (head_of machine arch)
unfolding queue_checks assignment_step transition_of
head-answer machine arch builder after = found (head_of machine arch) where
  found : (head : Option Entry)
      → outcome_unless (option_or (option_and_then (λ (asked : Entry × Move). move_refusal asked.1 asked.0.1)
      (option_and_then (λ (entry : Entry). Some (entry, take_move machine builder)) head))
      (option_or (when (is_none head) QueueEmpty)
      (option_or (when (nat_le count_limit machine.accepted || nat_le count_limit machine.handed) Spent) None))) machine
      (Ok (assignment_reply machine head), counted machine (after_take machine (option_and_then (λ (entry : Entry). Some (entry, take_move machine builder)) head)))
      ≡ head_at machine builder head
  found None = refl
  found (Some entry) = refl

pub next-head : (machine : Machine) (arch builder : List ℕ) (after : Option ℕ) → has_bad_name (Next arch builder after) ≡ false
    → builder_refusal machine arch builder ≡ None → is_ahead machine (Next arch builder after) ≡ false
    → again_of machine (Next arch builder after) ≡ None
    → step machine (Next arch builder after) ≡ head_step machine arch builder
unfolding step head_step
next-head machine arch builder after bad is later again_is =
    let first : first_refusal machine (Next arch builder after) ≡ queue_checks machine builder true (head_of machine arch) =
    next-checks machine arch builder after false false None bad later again_is ∙ builder_first-None machine arch builder after _ is in
    (λ i. outcome (first i) (again_is i) machine (Next arch builder after))
    ∙ outcome-None (queue_checks machine builder true (head_of machine arch)) machine (Next arch builder after)
    ∙ head-answer machine arch builder after

pub head_step-QueueEmpty : (machine : Machine) (arch builder : List ℕ) → None ≡ head_of machine arch
    → head_step machine arch builder ≡ (Err QueueEmpty, machine)
unfolding head_step
head_step-QueueEmpty machine arch builder is = ap (head_at machine builder) (sym is)

pub head_step-assignment : (machine : Machine) (arch builder : List ℕ) (entry : Entry) → Some entry ≡ head_of machine arch
    → head_step machine arch builder ≡ assignment_step machine builder entry
unfolding head_step
head_step-assignment machine arch builder entry is = ap (head_at machine builder) (sym is)

none-held : (entry : Option Entry) → None ≡ option_map held_assignment entry → entry ≡ None
none-held None is = refl
none-held (Some entry) is = cc

pub next-new : (machine : Machine) (arch builder : List ℕ) (after : Option ℕ) → has_bad_name (Next arch builder after) ≡ false
    → builder_refusal machine arch builder ≡ None → is_ahead machine (Next arch builder after) ≡ false
    → None ≡ option_map held_assignment (again_of machine (Next arch builder after))
    → step machine (Next arch builder after) ≡ head_step machine arch builder
next-new machine arch builder after bad is later again_is =
    next-head machine arch builder after bad is later (none-held (again_of machine (Next arch builder after)) again_is)

pub next-again : (machine : Machine) (arch builder : List ℕ) (after : Option ℕ) (assignment : Assignment) → has_bad_name (Next arch builder after) ≡ false
    → builder_refusal machine arch builder ≡ None → is_ahead machine (Next arch builder after) ≡ false
    → Some assignment ≡ option_map held_assignment (again_of machine (Next arch builder after))
    → step machine (Next arch builder after) ≡ (Ok (Again machine.accepted assignment), machine)
next-again machine arch builder after assignment bad is later again_is = found (again_of machine (Next arch builder after)) refl again_is where
  found : (entry : Option Entry) → again_of machine (Next arch builder after) ≡ entry → Some assignment ≡ option_map held_assignment entry
      → step machine (Next arch builder after) ≡ (Ok (Again machine.accepted assignment), machine)
  found None at e = cc
  found (Some entry) at e =
      let same : assignment ≡ held_assignment entry = only assignment (held_assignment entry) e in
      next-Again machine arch builder after entry bad is later at ∙ (λ i. (Ok (Again machine.accepted (sym same i)), machine))
    where
      only : (x y : Assignment) → Some x ≡ Some y → x ≡ y
      only x y e = cc
