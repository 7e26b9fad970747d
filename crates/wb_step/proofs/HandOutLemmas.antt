-- Take numbers rise, and a source package is handed out again only where the hold was ended.
use Rattle.std.proofs.Common.{◌≡◌, ℕ, ℤ, ◌+◌, ◌≤◌, true, false, cond, List, [], ◌∷◌, ◌++◌, inl, inr, Option, Some, None, Ok, IfSome, is_ok, is_some, eq-eqb, nat_eq, option_and_then, refl, sym, ap, subst, ◌∙◌, arith}
use Rattle.std.specs.List.{cons_option}
use Rattle.std.specs.Ordering.{is_eq}
use Rattle.std.proofs.lemmas.Cmp.{tied_itself}
use Rattle.std.specs.FinMap as map
use Rattle.std.proofs.lemmas.Option.{same_Some}
use Rattle.wb_states.specs.declared.command.Command.{Command}
use Rattle.wb_states.specs.declared.command.Command.TheVariants as of
use Rattle.wb_states.specs.declared.moves.Move.{Move}
use Rattle.wb_states.specs.declared.moves.Move.TheVariants as to
use Rattle.wb_states.specs.declared.record.Record.{Record}
use Rattle.wb_states.specs.declared.state.State.{State}
use Rattle.wb_states.specs.declared.state.State.TheVariants.{NeedsBuild}
use Rattle.deb_text.specs.Options.{has_value}
use Rattle.wb_states.specs.Machine.{Machine}
use Rattle.wb_states.specs.Moves.{record_after_move, may_go}
use Rattle.wb_states.specs.Queue.{Entry}
use Rattle.wb_states.specs.State.{is_held}
use Rattle.deb_text.proofs.KeyLemmas.{pair_cmp_total}
use Rattle.wb_step.specs.Checks.{first_refusal}
use Rattle.wb_step.specs.HandOuts.{HandOut, IsBeingBuilt, HasTakeByState, HasTakesByState, Ends, Rise, given_by, hand_out, hand_outs, holds, is_held_as}
use Rattle.wb_step.specs.Targets.{target_of, transition_of, with_move, again_of}
use Rattle.wb_step.specs.Replay.{replay}
use Rattle.wb_step.specs.Step.{outcome, step, state_after, counted, after_move, after_priority, after_take, reply_to, assignment_reply}
use Rattle.wb_step.proofs.TransitionLemmas.{MayMove, transition_of-may}
use Rattle.wb_step.proofs.PassLemmas.{Passes, passes, step-either}
use Rattle.wb_step.proofs.TakeStateLemmas.{allowed-from, replay-takes, step-takes}

-- what is known of a hand-out
record IsHandedOut (machine : Machine) (after : Machine) (given : HandOut) : Type 0 where
  entry : Entry
  builder : List ℕ
  asker : given.builder ≡ builder
  key : given.key ≡ entry.0
  number : given.take ≡ machine.handed + 1
  stands : map.get machine.records entry.0 ≡ Some entry.1
  waits : is_held entry.1.state ≡ false
  handed : after.handed ≡ machine.handed + 1
  records : after.records ≡ map.insert machine.records entry.0 (record_after_move (to.Take builder (machine.handed + 1)) entry.1)

-- what is taken is not held
taken-free : (holder : List ℕ) (take_number : ℕ) (state : State) → may_go (to.Take holder take_number) state ≡ true → is_held state ≡ false
unfolding may_go
taken-free holder take_number NeedsBuild is = refl
taken-free holder take_number _ is = cc

-- a command of a builder that asks for a record: its reply tells of the record that it moves
abbrev AsksFor : Machine → Command → List ℕ → Type 0
AsksFor machine command builder =
    ((entry : Entry) → with_move machine command entry ≡ Some (entry, to.Take builder (machine.handed + 1)))
    × (reply_to machine command ≡ assignment_reply machine (target_of machine command))
    × (state_after machine command ≡ after_take machine (transition_of machine command))

assigned-given : (machine : Machine) (builder : List ℕ) (found : Option Entry) (given : HandOut) → given_by builder (Ok (assignment_reply machine found)) ≡ Some given
    → (entry : Entry) × ((found ≡ Some entry) × ((given.key ≡ entry.0) × ((given.take ≡ machine.handed + 1) × (given.builder ≡ builder))))
assigned-given machine builder None given is = cc
assigned-given machine builder (Some entry) given is =
    let same : record { builder = builder; key = entry.0; take = machine.handed + 1 } ≡ given = same_Some _ _ is in
    (entry, (refl, (sym (ap (λ (g : HandOut). g.key) same), (sym (ap (λ (g : HandOut). g.take) same), sym (ap (λ (g : HandOut). g.builder) same)))))

accepted-given : (machine : Machine) (command : Command) (builder : List ℕ) (given : HandOut) → AsksFor machine command builder → Passes machine command
    → given_by builder (Ok (reply_to machine command)) ≡ Some given → IsHandedOut machine (counted machine (state_after machine command)) given
unfolding transition_of
accepted-given machine command builder given asks pass is =
    let assigned = assigned-given machine builder (target_of machine command) given (sym (ap (λ reply. given_by builder (Ok reply)) asks.1) ∙ is) in
    let entry : Entry = assigned.0 in
    let move : Move = to.Take builder (machine.handed + 1) in
    let found : transition_of machine command ≡ Some (entry, move) = ap (option_and_then (with_move machine command)) assigned.1.0 ∙ asks.0 entry in
    let may : MayMove machine command (entry, move) = transition_of-may machine command (entry, move) pass.move found in
    let done : state_after machine command ≡ after_take machine (Some (entry, move)) = asks.2 ∙ ap (after_take machine) found in
    record {
      entry = entry;
      builder = builder;
      asker = assigned.1.1.1.1;
      key = assigned.1.1.0;
      number = assigned.1.1.1.0;
      stands = may.stands;
      waits = taken-free builder (machine.handed + 1) entry.1.state (allowed-from move entry.1 may.allowed);
      handed = ap (λ (m : Machine). m.handed) done;
      records = ap (λ (m : Machine). m.records) done;
    }

step-given : (machine : Machine) (command : Command) (builder : List ℕ) (given : HandOut) → AsksFor machine command builder
    → given_by builder (step machine command).0 ≡ Some given → IsHandedOut machine (step machine command).1 given
unfolding step
step-given machine command builder given asks is =
    (elim (first_refusal machine command) as (λ r. first_refusal machine command ≡ r → given_by builder (outcome r (again_of machine command) machine command).0 ≡ Some given
    → IsHandedOut machine (outcome r (again_of machine command) machine command).1 given) [
      | Some refusal ↦ λ _ none. absurd (nothing none)
      | None ↦ λ accepted. (elim (again_of machine command) as (λ again. given_by builder (outcome None again machine command).0 ≡ Some given
          → IsHandedOut machine (outcome None again machine command).1 given) [
            | Some entry ↦ λ none. absurd (nothing none)
            | None ↦ λ some. accepted-given machine command builder given asks (passes machine command accepted) some
          ])
    ]) refl is
  where
    nothing : None ≡ Some given → ⊥
    nothing e = cc

hand_out-is : (machine : Machine) (command : Command) (given : HandOut) → hand_out machine command ≡ Some given → IsHandedOut machine (step machine command).1 given
hand_out-is machine (of.Next fields) given is = step-given machine (of.Next fields) fields.builder given ((λ entry. refl), refl, refl) is
hand_out-is machine (of.Take fields) given is =
    step-given machine (of.Take fields) fields.builder given ((λ entry. refl), refl, refl) is
hand_out-is machine _ given is = cc

-- ---- take numbers rise

move-handed : (machine : Machine) (asked : Option (Entry × Move)) → machine.handed ≤ (after_move machine asked).handed
move-handed machine None = omega arith
move-handed machine (Some asked) = omega arith

priority-handed : (machine : Machine) (key : List ℕ × List ℕ) (value : ℤ) (found : Option Record) → machine.handed ≤ (after_priority machine key value found).handed
priority-handed machine key value None = omega arith
priority-handed machine key value (Some current) = omega arith

-- no command takes a take number back
state_after-handed : (machine : Machine) (command : Command) → machine.handed ≤ (state_after machine command).handed
state_after-handed machine (of.AddArch fields) = omega arith
state_after-handed machine (of.AddBuilder fields) = omega arith
state_after-handed machine (of.RemoveArch fields) = omega arith
state_after-handed machine (of.RemoveBuilder fields) = omega arith
state_after-handed machine (of.Forget fields) = omega arith
state_after-handed machine (of.Enter fields) = omega arith
state_after-handed machine (of.Next fields) = omega arith
state_after-handed machine (of.Take fields) = omega arith
state_after-handed machine (of.Merge fields) = omega arith
state_after-handed machine (of.Report fields) = omega arith
state_after-handed machine (of.BuildPriority fields) =
    priority-handed machine (fields.arch, fields.source) fields.value (map.get machine.records (fields.arch, fields.source))
state_after-handed machine command = move-handed machine (transition_of machine command)

pub step-handed : (machine : Machine) (command : Command) → machine.handed ≤ (step machine command).1.handed
step-handed machine command = step-either (λ after. machine.handed ≤ after.handed) machine command (omega arith) (λ _ _. state_after-handed machine command)

-- what rises from above a number rises from above each lesser one
rise-from : (number other : ℕ) (given : List HandOut) → number ≤ other → Rise other given → Rise number given
rise-from number other [] below rises = tt
rise-from number other (one ∷ later) below rises = let above = rises.0 in (omega arith, rises.1)

pub rise : (machine : Machine) (commands : List Command) → Rise machine.handed (hand_outs machine commands)
rise machine [] = tt
rise machine (command ∷ commands) =
    let later = rise (step machine command).1 commands in
    (elim (hand_out machine command) as (λ found. hand_out machine command ≡ found → Rise machine.handed (cons_option found (hand_outs (step machine command).1 commands))) [
      | None ↦ λ _. rise-from machine.handed (step machine command).1.handed (hand_outs (step machine command).1 commands) (step-handed machine command) later
      | Some given ↦ λ is.
          let known = hand_out-is machine command given is in
          let number = known.number in
          let handed = known.handed in
          (omega arith, rise-from given.take (step machine command).1.handed (hand_outs (step machine command).1 commands) (omega arith) later)
    ]) refl

-- ---- a hold is ended before the next

-- the record of a hand-out is the one that was moved
given-record : (machine after : Machine) (given : HandOut) (known : IsHandedOut machine after given)
    → map.get after.records given.key ≡ Some (record_after_move (to.Take known.builder (machine.handed + 1)) known.entry.1)
given-record machine after given known =
    let put : Record = record_after_move (to.Take known.builder (machine.handed + 1)) known.entry.1 in
    ap (λ records. map.get records given.key) known.records
    ∙ ap (map.get (map.insert machine.records known.entry.0 put)) known.key
    ∙ map.get-insert pair_cmp_total machine.records known.entry.0 put known.entry.0
    ∙ ap (λ r. cond (is_eq r) (Some put) (map.get machine.records known.entry.0)) (tied_itself pair_cmp_total known.entry.0)

-- after a hand-out its record is held under its take number
given-holds : (machine after : Machine) (given : HandOut) → IsHandedOut machine after given → holds after given ≡ true
unfolding holds record_after_move
given-holds machine after given known =
    ap (is_held_as given.take) (given-record machine after given known) ∙ ap (λ n. nat_eq n (machine.handed + 1)) known.number
    ∙ eq-eqb (machine.handed + 1) (machine.handed + 1) refl

-- after a hand-out its record is being built by the builder that it was handed to
pub hand_out-built : (machine : Machine) (command : Command) (given : HandOut) → hand_out machine command ≡ Some given
    → (current : Record) × ((map.get (step machine command).1.records given.key ≡ Some current) × IsBeingBuilt given current)
unfolding record_after_move
hand_out-built machine command given is =
    let known = hand_out-is machine command given is in
    let put : Record = record_after_move (to.Take known.builder (machine.handed + 1)) known.entry.1 in (
      put,
      (
        given-record machine (step machine command).1 given known,
        record {
          state = refl;
          holder = ap Some (sym known.asker);
          take = ap Some (sym known.number);
        },
      ),
    )

-- a record that is handed out was held under no take number
waiting-free : (machine after : Machine) (given later : HandOut) → HasTakesByState machine → IsHandedOut machine after later → given.key ≡ later.key
    → holds machine given ≡ false
unfolding holds
waiting-free machine after given later by_state known same =
    let had : IfSome (Some known.entry.1) HasTakeByState = subst (λ r. IfSome r HasTakeByState) known.stands (by_state known.entry.0) in
    let at : map.get machine.records given.key ≡ Some known.entry.1 = ap (map.get machine.records) (same ∙ known.key) ∙ known.stands in
    ap (is_held_as given.take) at ∙ free known.entry.1.take (had ∙ known.waits)
  where
    free : (taken : Option ℕ) → is_some taken ≡ false → has_value (nat_eq given.take) taken ≡ false
    free None none = refl
    free (Some take_number) none = cc

-- a command after which a hold is ended was accepted
ended-accepted : (machine : Machine) (command : Command) (given : HandOut) → holds machine given ≡ true → holds (step machine command).1 given ≡ false
    → is_ok (step machine command).0 ≡ true
unfolding step
ended-accepted machine command given had has =
    (elim (first_refusal machine command) as (λ r. holds (outcome r (again_of machine command) machine command).1 given ≡ false
    → is_ok (outcome r (again_of machine command) machine command).0 ≡ true) [
      | Some refusal ↦ λ has. absurd (clash (sym had ∙ has))
      | None ↦ λ has. (elim (again_of machine command) as (λ again. is_ok (outcome None again machine command).0 ≡ true) [
        | Some entry ↦ refl
        | None ↦ refl
      ])
    ]) has
  where
    clash : true ≡ false → ⊥
    clash e = cc

-- what was held and is no more was ended on the way
given-up : (machine : Machine) (commands : List Command) (given : HandOut) → holds machine given ≡ true → holds (replay machine commands) given ≡ false
    → Ends machine commands given
given-up machine [] given had has = cc
given-up machine (command ∷ commands) given had has =
    elim (holds (step machine command).1 given) as (λ b. holds (step machine command).1 given ≡ b → Ends machine (command ∷ commands) given) [
      | false ↦ λ is. inl (ended-accepted machine command given had is, (had, is))
      | true ↦ λ is. inr (given-up (step machine command).1 commands given is has)
    ] refl

replay-append : (machine : Machine) (before : List Command) (first : Command) (between : List Command)
    → replay machine (before ++ first ∷ between) ≡ replay (step (replay machine before) first).1 between
replay-append machine [] first between = refl
replay-append machine (command ∷ before) first between = replay-append (step machine command).1 before first between

pub ends : (machine : Machine) (before : List Command) (first : Command) (between : List Command) (second : Command) (given later : HandOut)
    → HasTakesByState machine → hand_out (replay machine before) first ≡ Some given
    → hand_out (replay machine (before ++ first ∷ between)) second ≡ Some later → given.key ≡ later.key
    → Ends (step (replay machine before) first).1 between given
ends machine before first between second given later by_state one other same =
    let start : Machine = replay machine before in
    let from : Machine = (step start first).1 in
    let to : Machine = replay from between in
    let again : hand_out to second ≡ Some later = ap (λ m. hand_out m second) (sym (replay-append machine before first between)) ∙ other in
    let kept : HasTakesByState to = replay-takes from between (step-takes start first (replay-takes machine before by_state)) in
    given-up from between given (given-holds start from given (hand_out-is start first given one))
    (waiting-free to (step to second).1 given later kept (hand_out-is to second later again) same)
