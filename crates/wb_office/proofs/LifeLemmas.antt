-- Commands that an office carries out one after another, and which of them stand then.
use Rattle.std.proofs.Common.{◌≡◌, ◌≢◌, ◌⊎◌, inl, inr, Bool, true, false, List, [], ◌∷◌, ◌++◌, Ok, Err, IfOk, IfErr}
use Rattle.std.proofs.Common.{refl, sym, ap, subst, if◌then◌else◌}
use Rattle.wb_states.specs.declared.command.Command.{Command}
use Rattle.wb_states.specs.declared.reply.Reply.{Reply}
use Rattle.wb_states.specs.declared.refusal.Refusal.{Refusal}
use Rattle.wb_states.specs.declared.refusal.Refusal.TheVariants.{UnknownArch, UnknownBuilder, WrongArch, UnknownSource}
use Rattle.wb_states.specs.declared.refusal.Refusal.TheVariants.{OtherVersion, WrongState, QueueEmpty, NotHeld}
use Rattle.wb_states.specs.declared.refusal.Refusal.TheVariants.{AfterAhead, AlreadyThere, BadName, BadVersion}
use Rattle.wb_states.specs.declared.refusal.Refusal.TheVariants.{BadRelations, BadNumber, BadListing, BadReport}
use Rattle.wb_states.specs.declared.refusal.Refusal.TheVariants.{TextTooLong, Spent, RepeatedArch, Closed, Store}
use Rattle.wb_states.specs.declared.refusal.Refusal.TheVariants.{StillHeld, Memory}
use Rattle.wb_states.specs.declared.store_fault.StoreFault.{StoreFault}
use Rattle.wb_states.specs.Machine.{Machine}
use Rattle.wb_states.specs.Refusals.{IsOfMachine}
use Rattle.wb_states.specs.Refusals.{is_of_store}
use Rattle.wb_step.specs.Checks.{MayWantMemory}
use Rattle.wb_step.specs.Offices.{StandsOn}
use Rattle.wb_step.proofs.CountedLemmas.{step-unchanged}
use Rattle.wb_step.proofs.OfficeLemmas.{is_of_store-cases, refusal-cases}
use Rattle.wb_step.specs.Replay.{replay}
use Rattle.wb_step.specs.Step.{step}
use Rattle.wb_office.specs.Answers.{is_again}
use Rattle.wb_office.proofs.AnswerLemmas.{told_again}
use Rattle.wb_office.specs.Lives.{Outcome, AreClosed, IsAccepted, acknowledged, EndsLife, LeavesStanding, never_fails}

-- what stands after an acknowledged command and later ones
replay_acknowledged : (machine : Machine) (command : Command) (reply : Reply) (later : List Command) → (step machine command).0 ≡ Ok reply
    → replay machine (acknowledged command reply ++ later) ≡ replay (step machine command).1 later
replay_acknowledged machine command reply later answers =
    by_reply (is_again reply) (told_again machine command reply answers)
  where
    by_reply : (again : Bool) → (again ≡ true → (step machine command).1 ≡ machine)
        → replay machine ((if again then [] else command ∷ []) ++ later) ≡ replay (step machine command).1 later
    by_reply true told = ap (λ m. replay m later) (sym (told refl))
    by_reply false told = refl

-- the same commands stand if more faults are allowed
pub stands_wider : (Failed Wider : StoreFault → Type 0) → ((fault : StoreFault) → Failed fault → Wider fault) → (machine : Machine) (commands : List Command) (outcomes : List Outcome) (standing : List Command)
    → LeavesStanding Failed machine commands outcomes standing → LeavesStanding Wider machine commands outcomes standing
stands_wider Failed Wider wider machine [] [] standing is = is
stands_wider Failed Wider wider machine [] (outcome ∷ outcomes) standing none = absurd none
stands_wider Failed Wider wider machine (command ∷ commands) [] standing none = absurd none
stands_wider Failed Wider wider machine (command ∷ commands) (Ok reply ∷ outcomes) standing (later, is, told, rest) =
    (later, is, told, stands_wider Failed Wider wider (step machine command).1 commands outcomes later rest)
stands_wider Failed Wider wider machine (command ∷ commands) (Err Closed ∷ outcomes) standing none = absurd none
stands_wider Failed Wider wider machine (command ∷ commands) (Err (Store fault) ∷ outcomes) standing (failed, closed, either) = (wider fault failed, closed, either)
stands_wider Failed Wider wider machine (command ∷ commands) (Err Memory ∷ outcomes) standing (may, inl rest) = (may, inl (stands_wider Failed Wider wider machine commands outcomes standing rest))
stands_wider Failed Wider wider machine (command ∷ commands) (Err Memory ∷ outcomes) standing (may, inr none) = (may, inr none)
stands_wider Failed Wider wider machine (command ∷ commands) (Err r ∷ outcomes) standing rest = (rest.0, stands_wider Failed Wider wider machine commands outcomes standing rest.1)

-- the state after a command in doubt is that after the command, if the step accepts it, and that before it, if not
pub in_doubt : (machine : Machine) (command : Command)
    → (standing : List Command) × ((standing ≡ []) ⊎ ((standing ≡ command ∷ []) × IsAccepted machine command)) × (replay machine standing ≡ (step machine command).1)
in_doubt machine command = by_answer (step machine command).0 refl
  where
    by_reply : (reply : Reply) → (step machine command).0 ≡ Ok reply → (again : Bool) → is_again reply ≡ again
        → (standing : List Command) × ((standing ≡ []) ⊎ ((standing ≡ command ∷ []) × IsAccepted machine command)) × (replay machine standing ≡ (step machine command).1)
    by_reply reply answers true again = ([], inl refl, sym (told_again machine command reply answers again))
    by_reply reply answers false again = (command ∷ [], inr (refl, (reply, answers, again)), refl)

    by_answer : (answer : Outcome) → (step machine command).0 ≡ answer
        → (standing : List Command) × ((standing ≡ []) ⊎ ((standing ≡ command ∷ []) × IsAccepted machine command)) × (replay machine standing ≡ (step machine command).1)
    by_answer (Ok reply) answers = by_reply reply answers (is_again reply) refl
    by_answer (Err refusal) answers = ([], inl refl, sym (step-unchanged machine command refusal answers))

-- a refusal of the state, after which the office is asked on, leaves what stands as it is
refused_stands : (Failed : StoreFault → Type 0) (machine : Machine) (command : Command) (commands : List Command) (refusal : Refusal) (outcomes : List Outcome) (standing : List Command)
    → is_of_store refusal ≡ false → refusal ≢ Memory → (step machine command).0 ≡ Err refusal
    → LeavesStanding Failed machine commands outcomes standing → LeavesStanding Failed machine (command ∷ commands) (Err refusal ∷ outcomes) standing
refused_stands Failed machine command commands UnknownArch outcomes standing on other is later = (is, later)
refused_stands Failed machine command commands UnknownBuilder outcomes standing on other is later = (is, later)
refused_stands Failed machine command commands WrongArch outcomes standing on other is later = (is, later)
refused_stands Failed machine command commands UnknownSource outcomes standing on other is later = (is, later)
refused_stands Failed machine command commands (OtherVersion have) outcomes standing on other is later = (is, later)
refused_stands Failed machine command commands (WrongState state) outcomes standing on other is later = (is, later)
refused_stands Failed machine command commands QueueEmpty outcomes standing on other is later = (is, later)
refused_stands Failed machine command commands NotHeld outcomes standing on other is later = (is, later)
refused_stands Failed machine command commands (AfterAhead handed) outcomes standing on other is later = (is, later)
refused_stands Failed machine command commands AlreadyThere outcomes standing on other is later = (is, later)
refused_stands Failed machine command commands BadName outcomes standing on other is later = (is, later)
refused_stands Failed machine command commands (BadVersion fault) outcomes standing on other is later = (is, later)
refused_stands Failed machine command commands (BadRelations fault) outcomes standing on other is later = (is, later)
refused_stands Failed machine command commands BadNumber outcomes standing on other is later = (is, later)
refused_stands Failed machine command commands (BadListing which paragraph fault) outcomes standing on other is later = (is, later)
refused_stands Failed machine command commands (BadReport line) outcomes standing on other is later = (is, later)
refused_stands Failed machine command commands TextTooLong outcomes standing on other is later = (is, later)
refused_stands Failed machine command commands Spent outcomes standing on other is later = (is, later)
refused_stands Failed machine command commands RepeatedArch outcomes standing on other is later = (is, later)
refused_stands Failed machine command commands StillHeld outcomes standing on other is later = (is, later)
refused_stands Failed machine command commands Memory outcomes standing on other is later = absurd (other refl)
refused_stands Failed machine command commands Closed outcomes standing on other is later = absurd (cc)
refused_stands Failed machine command commands (Store fault) outcomes standing on other is later = absurd (cc)

module _ {X : Type 0} (is_clean is_closed : X → Type 0) (stands_at : X → Machine → Type 0) (leaves : X → Machine → Machine → StoreFault → Type 0) where
  -- no command is left
  pub record LedNowhere (commands : List Command) (outcomes : List Outcome) (old new : X) : Type 0 where
    pub no_commands : commands ≡ []
    pub no_outcomes : outcomes ≡ []
    pub same : new ≡ old

  -- a closed office is asked no more
  pub record LedShut (commands : List Command) (outcomes : List Outcome) (old new : X) : Type 0 where
    pub closed : is_closed old
    pub answers : AreClosed commands outcomes
    pub same : new ≡ old

  -- an open office is led through commands with these outcomes
  pub record LedOpen (commands : List Command) (outcomes : List Outcome) (old new : X) : Type 0 where
    pub opened : ¬ is_closed old
    pub was_clean : is_clean new → is_clean old
    pub ends : (machine : Machine) → is_clean new → stands_at old machine → EndsLife stands_at leaves machine commands outcomes new

  abbrev pub Led : List Command → List Outcome → X → X → Type 0
  Led commands outcomes old new = LedNowhere commands outcomes old new ⊎ (LedShut commands outcomes old new ⊎ LedOpen commands outcomes old new)

  -- what one command leads an open office through
  pub record Carried (command : Command) (outcome : Outcome) (old new : X) : Type 0 where
    pub opened : ¬ is_closed old
    pub stands : StandsOn (is_closed new) outcome
    pub was_clean : is_clean new → is_clean old
    pub reply : (machine : Machine) → is_clean new → stands_at old machine
        → IfOk outcome (λ reply. ((step machine command).0 ≡ Ok reply) × stands_at new (step machine command).1)
    pub refused : (machine : Machine) → is_clean new → stands_at old machine
        → IfErr outcome (λ refusal. IsOfMachine refusal → is_of_store refusal ≡ false → ((step machine command).0 ≡ Err refusal) × stands_at new machine)
    pub memory : (machine : Machine) → is_clean new → stands_at old machine → outcome ≡ Err Memory → MayWantMemory command × stands_at new machine
    pub store : (machine : Machine) → is_clean new → stands_at old machine → (fault : StoreFault) → outcome ≡ Err (Store fault) → leaves new machine (step machine command).1 fault

  -- no command
  pub led_none : (x : X) → Led [] [] x x
  led_none x = inl (record { no_commands = refl; no_outcomes = refl; same = refl })

  ends_nowhere : (commands : List Command) (outcomes : List Outcome) (old new : X) → LedNowhere commands outcomes old new → (machine : Machine) → stands_at old machine
      → EndsLife stands_at leaves machine commands outcomes new
  ends_nowhere commands outcomes old new none machine stands =
      inl (
        [],
        subst (λ cs. LeavesStanding never_fails machine cs outcomes []) (sym none.no_commands) (subst (λ os. LeavesStanding never_fails machine [] os []) (sym none.no_outcomes) refl),
        subst (λ x. stands_at x machine) (sym none.same) stands,
      )

  closed_nowhere : (commands : List Command) (outcomes : List Outcome) (old new : X) → LedNowhere commands outcomes old new → AreClosed commands outcomes
  closed_nowhere commands outcomes old new none = subst (λ cs. AreClosed cs outcomes) (sym none.no_commands) (subst (λ os. AreClosed [] os) (sym none.no_outcomes) tt)

  module _ {commands : List Command} {outcomes : List Outcome} {mid new : X} (later : Led commands outcomes mid new) where
    led_clean : is_clean new → is_clean mid
    led_clean clean = elim later [
      | inl none ↦ subst is_clean none.same clean
      | inr some ↦ elim some [ inl shut ↦ subst is_clean shut.same clean | inr on ↦ on.was_clean clean ]
    ]

    -- how the commands after it lead an office that is open
    goes_on : ¬ is_closed mid → (machine : Machine) → is_clean new → stands_at mid machine → EndsLife stands_at leaves machine commands outcomes new
    goes_on opened machine clean stands = elim later [
      | inl none ↦ ends_nowhere commands outcomes mid new none machine stands
      | inr some ↦ elim some [ inl shut ↦ absurd (opened shut.closed) | inr on ↦ on.ends machine clean stands ]
    ]

    -- and how one that is closed
    goes_shut : is_closed mid → AreClosed commands outcomes × (new ≡ mid)
    goes_shut closed = elim later [
      | inl none ↦ (closed_nowhere commands outcomes mid new none, none.same)
      | inr some ↦ elim some [ inl shut ↦ (shut.answers, shut.same) | inr on ↦ absurd (on.opened closed) ]
    ]

  -- a closed office, and the commands after that
  pub led_shut : (command : Command) (commands : List Command) (outcomes : List Outcome) (old new : X) → is_closed old → Led commands outcomes old new → Led (command ∷ commands) (Err Closed ∷ outcomes) old new
  led_shut command commands outcomes old new closed later =
      let rest = goes_shut later closed in inr (inl (record { closed = closed; answers = (refl, rest.0); same = rest.1 }))

  module _ (command : Command) (commands : List Command) (old mid : X) where
    -- one command that is answered
    led_reply : (reply : Reply) (outcomes : List Outcome) (new : X) → Carried command (Ok reply) old mid → Led commands outcomes mid new
        → (machine : Machine) → is_clean new → stands_at old machine → EndsLife stands_at leaves machine (command ∷ commands) (Ok reply ∷ outcomes) new
    led_reply reply outcomes new carried later machine clean stands =
        let (answers, at) = carried.reply machine (led_clean later clean) stands in
        let said = λ (standing : List Command). replay_acknowledged machine command reply standing answers in
        elim (goes_on later carried.stands.ok (step machine command).1 clean at) [
          | inl ended ↦ inl (acknowledged command reply ++ ended.0, (ended.0, refl, answers, ended.1), subst (stands_at new) (sym (said ended.0)) ended.2)
          | inr ended ↦
              let at_both : (P : Machine → Machine → Type 0) → P (replay (step machine command).1 ended.0) (replay (step machine command).1 ended.1)
              → P (replay machine (acknowledged command reply ++ ended.0)) (replay machine (acknowledged command reply ++ ended.1)) =
              λ P so. subst (λ m. P m (replay machine (acknowledged command reply ++ ended.1))) (sym (said ended.0))
              (subst (λ m. P (replay (step machine command).1 ended.0) m) (sym (said ended.1)) so) in
              inr (
                acknowledged command reply ++ ended.0,
                acknowledged command reply ++ ended.1,
                (ended.0, refl, answers, at_both (λ one other. LeavesStanding (leaves new one other) (step machine command).1 commands outcomes ended.0) ended.2),
                (ended.1, refl, answers, at_both (λ one other. LeavesStanding (leaves new one other) (step machine command).1 commands outcomes ended.1) ended.3),
                (ended.4.0, at_both (λ one other. leaves new one other ended.4.0) ended.4.1),
              )
        ]

    -- one that is refused
    led_refused : (refusal : Refusal) (outcomes : List Outcome) (new : X) → is_of_store refusal ≡ false → refusal ≢ Memory → Carried command (Err refusal) old mid → Led commands outcomes mid new
        → (machine : Machine) → is_clean new → stands_at old machine → EndsLife stands_at leaves machine (command ∷ commands) (Err refusal ∷ outcomes) new
    led_refused refusal outcomes new on other carried later machine clean stands =
        let (is, at) = carried.refused machine (led_clean later clean) stands other on in
        elim (goes_on later (carried.stands.opens on other) machine clean at) [
          | inl ended ↦ inl (ended.0, refused_stands never_fails machine command commands refusal outcomes ended.0 on other is ended.1, ended.2)
          | inr ended ↦ inr (
            ended.0,
            ended.1,
            refused_stands (leaves new (replay machine ended.0) (replay machine ended.1)) machine command commands refusal outcomes ended.0 on other is ended.2,
            refused_stands (leaves new (replay machine ended.0) (replay machine ended.1)) machine command commands refusal outcomes ended.1 on other is ended.3,
            ended.4,
          )
        ]

    -- one for which there is no memory
    led_memory : (outcomes : List Outcome) (new : X) → Carried command (Err Memory) old mid → Led commands outcomes mid new
        → (machine : Machine) → is_clean new → stands_at old machine → EndsLife stands_at leaves machine (command ∷ commands) (Err Memory ∷ outcomes) new
    led_memory outcomes new carried later machine clean stands =
        let (may, at) = carried.memory machine (led_clean later clean) stands refl in
        elim later [
          | inl none ↦ onward may (ends_nowhere commands outcomes mid new none machine at)
          | inr some ↦ elim some [
            | inl shut ↦ inl ([], (may, inr (shut.answers, refl)), subst (λ x. stands_at x machine) (sym shut.same) at)
            | inr on ↦ onward may (on.ends machine clean at)
          ]
        ]
      where
        onward : MayWantMemory command → EndsLife stands_at leaves machine commands outcomes new → EndsLife stands_at leaves machine (command ∷ commands) (Err Memory ∷ outcomes) new
        onward may (inl ended) = inl (ended.0, (may, inl ended.1), ended.2)
        onward may (inr ended) = inr (ended.0, ended.1, (may, inl ended.2), (may, inl ended.3), ended.4)

    -- one at which the store failed
    led_failed : (fault : StoreFault) (outcomes : List Outcome) (new : X) → Carried command (Err (Store fault)) old mid → Led commands outcomes mid new
        → (machine : Machine) → is_clean new → stands_at old machine → EndsLife stands_at leaves machine (command ∷ commands) (Err (Store fault) ∷ outcomes) new
    led_failed fault outcomes new carried later machine clean stands =
        let left = carried.store machine (led_clean later clean) stands fault refl in
        let rest = goes_shut later (carried.stands.ends refl) in
        let doubt = in_doubt machine command in
        let failed : leaves new machine (replay machine doubt.0) fault =
        subst (λ x. leaves x machine (replay machine doubt.0) fault) (sym rest.1) (subst (λ m. leaves mid machine m fault) (sym doubt.2) left) in
        inr (
          [],
          doubt.0,
          (failed, rest.0, inl refl),
          (failed, rest.0, doubt.1),
          (fault, failed),
        )

    led_err : (refusal : Refusal) (outcomes : List Outcome) (new : X) → Carried command (Err refusal) old mid → Led commands outcomes mid new
        → (machine : Machine) → is_clean new → stands_at old machine → EndsLife stands_at leaves machine (command ∷ commands) (Err refusal ∷ outcomes) new
    led_err refusal outcomes new carried later machine clean stands = by_kind (is_of_store refusal) refl
      where
        Ends : Refusal → Type 0
        Ends r = EndsLife stands_at leaves machine (command ∷ commands) (Err r ∷ outcomes) new

        by_kind : (of_store : Bool) → is_of_store refusal ≡ of_store → Ends refusal
        by_kind true is = elim (is_of_store-cases refusal is) [
          | inl closed ↦ absurd (carried.stands.never (ap Err closed))
          | inr failed ↦ subst Ends (sym failed.1) (led_failed failed.0 outcomes new (subst (λ r. Carried command (Err r) old mid) failed.1 carried) later machine clean stands)
        ]
        by_kind false is = elim (refusal-cases refusal) [
          | inl none ↦ subst Ends (sym none) (led_memory outcomes new (subst (λ r. Carried command (Err r) old mid) none carried) later machine clean stands)
          | inr other ↦ led_refused refusal outcomes new is other carried later machine clean stands
        ]

    -- one command, and then the others
    pub led_on : (outcome : Outcome) (outcomes : List Outcome) (new : X) → Carried command outcome old mid → Led commands outcomes mid new → Led (command ∷ commands) (outcome ∷ outcomes) old new
    led_on (Ok reply) outcomes new carried later =
        inr (inr (record { opened = carried.opened; was_clean = λ clean. carried.was_clean (led_clean later clean); ends = led_reply reply outcomes new carried later }))
    led_on (Err refusal) outcomes new carried later =
        inr (inr (record { opened = carried.opened; was_clean = λ clean. carried.was_clean (led_clean later clean); ends = led_err refusal outcomes new carried later }))

  -- what is known of an office that was open
  pub led_whole : (commands : List Command) (outcomes : List Outcome) (old new : X) → ¬ is_closed old → Led commands outcomes old new
      → (is_clean new → is_clean old) × ((machine : Machine) → is_clean new → stands_at old machine → EndsLife stands_at leaves machine commands outcomes new)
  led_whole commands outcomes old new opened led = (led_clean led, goes_on led opened)
