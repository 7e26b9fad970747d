-- A take number whose hold ended is never held again.
use Rattle.std.proofs.Common.{◌≡◌, ◌≢◌, ℕ, ℤ, ◌+◌, ◌≤◌, Bool, true, false, List, [], ◌∷◌, filter, Option, Some, None, IfSome, inl, Err, is_none, is_ok, eq-eqb, nat_eq, refl, sym, ap, subst, ◌∙◌, arith}
use Rattle.std.proofs.lemmas.Bool.{eqb-true}
use Rattle.std.specs.FinMap as map
use Rattle.deb_relations.specs.declared.arch.ArchWords.{ArchWords}
use Rattle.deb_relations.specs.Satisfaction.{Pairs}
use Rattle.wb_states.specs.declared.command.Command.{Command}
use Rattle.wb_states.specs.declared.command.Command.TheVariants as of
use Rattle.wb_states.specs.Forms.{Built}
use Rattle.wb_states.specs.declared.moves.Move.{Move}
use Rattle.wb_states.specs.declared.moves.Move.TheVariants as to
use Rattle.wb_states.specs.declared.record.Record.{Record}
use Rattle.wb_states.specs.declared.refusal.Refusal.TheVariants.{NotHeld}
use Rattle.wb_states.specs.Holds.{is_taken_as, taken_as}
use Rattle.deb_text.specs.Options.{has_value}
use Rattle.wb_states.specs.Machine.{Machine}
use Rattle.wb_states.specs.Moves.{record_after_move}
use Rattle.wb_states.specs.Queue.{Entry}
use Rattle.deb_text.specs.Lists.{first_of, IsIn}
use Rattle.deb_text.proofs.KeyLemmas.{pair_cmp_total, pair_cmp-same, insert_all}
use Rattle.deb_text.proofs.SortedLemmas.{IsIn-filter, IsIn-find}
use Rattle.wb_merge.specs.declared.listing.Listed.{Listed}
use Rattle.wb_merge.specs.declared.listing.Built.{Built as WasBuilt}
use Rattle.wb_merge.specs.Merge.{record_after}
use Rattle.wb_step.specs.Arguments.{OfArch, OfPackage}
use Rattle.wb_step.specs.Checks.{first_refusal, is_not_held, refused_move, take_named}
use Rattle.wb_step.specs.Targets.{again_of, move_of_command, transition_of}
use Rattle.wb_step.specs.Replay.{replay}
use Rattle.wb_step.specs.Step.{after_move, after_priority, lines_said, state_after, entered, outcome, step}
use Rattle.wb_step.proofs.HandOutLemmas.{step-handed}
use Rattle.wb_step.proofs.HeldLemmas.{step-Built, taken_step-NotHeld}
use Rattle.wb_step.proofs.MergedLemmas.{records_after-keeps}
use Rattle.wb_step.proofs.ReportingLemmas.{line-free, reported-keeps}
use Rattle.wb_step.proofs.TransitionLemmas.{transition_of-may, taken_as-stands}
use Rattle.wb_step.proofs.PassLemmas.{passes, step-either}
use Rattle.wb_step.proofs.RemovalLemmas.{removing_all}
use Rattle.wb_merge.proofs.RelistedLemmas.{listed-left, new-left}

-- a record is not held under a take number
abbrev IsNotTaken : ℕ → Record → Type 0
IsNotTaken take_number current = IfSome current.take (λ taken. taken ≢ take_number)

-- no record is held under a take number
abbrev IsFree : ℕ → Machine → Type 0
IsFree take_number machine = (key : List ℕ × List ℕ) → IfSome (map.get machine.records key) (IsNotTaken take_number)

-- a move gives no record a take number
abbrev IsOther : ℕ → Move → Type 0
IsOther take_number (to.Take holder given) = given ≢ take_number
IsOther take_number _ = Unit {0}

record_after_move-free : (take_number : ℕ) (move : Move) (current : Record) → IsOther take_number move → IsNotTaken take_number current → IsNotTaken take_number (record_after_move move current)
unfolding record_after_move
record_after_move-free take_number (to.Take holder given) current other old = other
record_after_move-free take_number to.Built current other old = old
record_after_move-free take_number to.Uploaded current other old = old
record_after_move-free take_number (to.Waits relations arch) current other old = tt
record_after_move-free take_number to.PutBack current other old = tt
record_after_move-free take_number (to.Attempted reason) current other old = tt
record_after_move-free take_number to.GiveBack current other old = tt
record_after_move-free take_number (to.DepWait relations arch) current other old = tt
record_after_move-free take_number (to.Fail note) current other old = tt
record_after_move-free take_number (to.NotForUs note) current other old = tt
record_after_move-free take_number (to.Rebuild number message) current other old = tt

-- the move of a command gives a take number above those that were given
asked-other : (take_number : ℕ) (machine : Machine) (command : Command) (words : ArchWords) (move : Move) → take_number ≤ machine.handed
    → move_of_command machine command words ≡ Some move → IsOther take_number move
asked-other take_number machine command words move below is = at command is where
  made : (one : Move) → IsOther take_number one → Some one ≡ Some move → IsOther take_number move
  made one other e = let same : one ≡ move = cc in subst (IsOther take_number) same other

  next : machine.handed + 1 ≢ take_number
  next e = absurd (omega arith)

  at : (asks : Command) → move_of_command machine asks words ≡ Some move → IsOther take_number move
  at (of.AddArch fields) e = cc
  at (of.AddBuilder fields) e = cc
  at (of.RemoveArch fields) e = cc
  at (of.RemoveBuilder fields) e = cc
  at (of.Enter fields) e = cc
  at (of.BuildPriority fields) e = cc
  at (of.Forget fields) e = cc
  at (of.Merge fields) e = cc
  at (of.Report fields) e = cc
  at (of.Next fields) e = made (to.Take fields.builder (machine.handed + 1)) next e
  at (of.Take fields) e = made (to.Take fields.builder (machine.handed + 1)) next e
  at _ e = made _ tt e

after-free : (take_number : ℕ) (found : Option Record) (listed : Option Listed) (built : Option WasBuilt) (available : Pairs)
    → IfSome found (IsNotTaken take_number) → IfSome (record_after found listed built available) (IsNotTaken take_number)
after-free take_number found None built available old = tt
after-free take_number None (Some listed) built available old = let left = new-left listed built in left.take (λ taken. taken ≢ take_number) tt
after-free take_number (Some current) (Some listed) built available old =
    let left = listed-left listed built available current in left.take (λ taken. taken ≢ take_number) old

transition_of-free : (take_number : ℕ) (machine : Machine) (command : Command) → take_number ≤ machine.handed → IsFree take_number machine → refused_move machine command ≡ None
    → IsFree take_number (after_move machine (transition_of machine command))
transition_of-free take_number machine command below old allowed =
    (elim (transition_of machine command) as (λ asked. transition_of machine command ≡ asked → IsFree take_number (after_move machine asked)) [
      | None ↦ λ _. old
      | Some asked ↦ λ is.
          let may = transition_of-may machine command asked allowed is in
          let had : IfSome (Some asked.0.1) (IsNotTaken take_number) = subst (λ r. IfSome r (IsNotTaken take_number)) may.stands (old asked.0.0) in
          insert_all pair_cmp_total pair_cmp-same (λ key. IsNotTaken take_number) machine.records asked.0.0 (record_after_move asked.1 asked.0.1)
          (record_after_move-free take_number asked.1 asked.0.1 (asked-other take_number machine command _ asked.1 below may.asks) had) old
    ]) refl

after_priority-free : (take_number : ℕ) (machine : Machine) (key : List ℕ × List ℕ) (value : ℤ) → IsFree take_number machine
    → IsFree take_number (after_priority machine key value (map.get machine.records key))
after_priority-free take_number machine key value old = at (map.get machine.records key) (old key) where
  at : (found : Option Record) → IfSome found (IsNotTaken take_number) → IsFree take_number (after_priority machine key value found)
  at None had = old
  at (Some current) had =
      insert_all pair_cmp_total pair_cmp-same (λ one. IsNotTaken take_number) machine.records key (record current { build_priority = value }) had old

state_after-free : (take_number : ℕ) (machine : Machine) (command : Command) → take_number ≤ machine.handed → IsFree take_number machine → refused_move machine command ≡ None
    → IsFree take_number (state_after machine command)
state_after-free take_number machine (of.AddArch fields) below old allowed = old
state_after-free take_number machine (of.AddBuilder fields) below old allowed = old
state_after-free take_number machine (of.RemoveArch fields) below old allowed = removing_all
    (λ key. IsNotTaken take_number) machine (OfArch fields) old
state_after-free take_number machine (of.RemoveBuilder fields) below old allowed = old
state_after-free take_number machine (of.Forget fields) below old allowed = removing_all (λ key. IsNotTaken take_number)
    machine (OfPackage fields) old
state_after-free take_number machine (of.Enter fields) below old allowed =
    insert_all pair_cmp_total pair_cmp-same (λ key. IsNotTaken take_number) machine.records (fields.arch, fields.source) (entered fields.version fields.priority fields.section) tt old
state_after-free take_number machine (of.Merge fields) below old allowed =
    records_after-keeps (λ key. IsNotTaken take_number) machine fields.sources fields.parts
    (λ part listing is source found had. after-free take_number found (map.get listing.listed source) (map.get listing.built source) listing.available had) machine.records old
state_after-free take_number machine (of.Report fields) below old allowed =
    reported-keeps (λ key. IsNotTaken take_number) machine.records fields.arch (lines_said fields.text)
    (λ source line is current had. line-free take_number line current had) old
state_after-free take_number machine (of.BuildPriority fields) below old allowed =
    after_priority-free take_number machine (fields.arch, fields.source) fields.value old
state_after-free take_number machine command below old allowed = transition_of-free take_number machine command below old allowed

step-free : (take_number : ℕ) (machine : Machine) (command : Command) → take_number ≤ machine.handed → IsFree take_number machine → IsFree take_number (step machine command).1
step-free take_number machine command below old =
    step-either (IsFree take_number) machine command old (λ pass _. state_after-free take_number machine command below old pass.move)

replay-free : (take_number : ℕ) (machine : Machine) (commands : List Command) → take_number ≤ machine.handed → IsFree take_number machine
    → IsFree take_number (replay machine commands)
replay-free take_number machine [] below old = old
replay-free take_number machine (command ∷ commands) below old =
    let up = step-handed machine command in
    replay-free take_number (step machine command).1 commands (omega arith) (step-free take_number machine command below old)

-- ---- the record that is found by a take number

nothing-in : {X : Type 0} (items : List X) (item : X) → first_of items ≡ None → IsIn item items → ⊥
nothing-in [] item is within = within
nothing-in (x ∷ items) item is within = cc

taken_as-free : (machine : Machine) (take_number : ℕ) → taken_as machine take_number ≡ None → IsFree take_number machine
unfolding taken_as
taken_as-free machine take_number none key =
    (elim (map.get machine.records key) as (λ found. map.get machine.records key ≡ found → IfSome found (IsNotTaken take_number)) [
      | None ↦ λ _. tt
      | Some current ↦ λ at. apart current at current.take refl
    ]) refl
  where
    apart : (current : Record) → map.get machine.records key ≡ Some current → (taking : Option ℕ) → current.take ≡ taking → IfSome taking (λ taken. taken ≢ take_number)
    apart current at None known = tt
    apart current at (Some taken) known = λ same.
        let entry : Entry = (key, current) in
        let kept = (IsIn-find pair_cmp_total pair_cmp-same entry (map.entries machine.records) (map.entries_sorted machine.records)).1
        (sym (map.get-entries machine.records key) ∙ at) in
        let passes : is_taken_as take_number entry ≡ true = ap (has_value (nat_eq take_number)) known ∙ eq-eqb take_number taken (sym same) in
        nothing-in (filter (is_taken_as take_number) (map.entries machine.records)) entry none
        ((IsIn-filter (is_taken_as take_number) entry (map.entries machine.records)).1 (kept, passes))

-- what is first of a filtered list passes the test
first-passes : {X : Type 0} (p : X → Bool) (items : List X) (item : X) → first_of (filter p items) ≡ Some item → p item ≡ true
first-passes {X} p items item is = let both = (IsIn-filter p item items).0 (first (filter p items) is) in both.1 where
  first : (list : List X) → first_of list ≡ Some item → IsIn item list
  first [] e = cc
  first (x ∷ list) e = let same : item ≡ x = cc in inl same

taken_as-passes : (machine : Machine) (take_number : ℕ) (entry : Entry) → taken_as machine take_number ≡ Some entry → is_taken_as take_number entry ≡ true
unfolding taken_as
taken_as-passes machine take_number entry is = first-passes (is_taken_as take_number) (map.entries machine.records) entry is

free-taken_as : (machine : Machine) (take_number : ℕ) → IsFree take_number machine → taken_as machine take_number ≡ None
free-taken_as machine take_number free =
    (elim (taken_as machine take_number) as (λ found. taken_as machine take_number ≡ found → found ≡ None) [
      | None ↦ λ _. refl
      | Some entry ↦ λ is. absurd (clash entry is)
    ]) refl
  where
    apart : (taking : Option ℕ) → IfSome taking (λ taken. taken ≢ take_number) → has_value (nat_eq take_number) taking ≡ true → ⊥
    apart None other is = cc
    apart (Some taken) other is = other (sym (eqb-true take_number taken is))

    clash : (entry : Entry) → taken_as machine take_number ≡ Some entry → ⊥
    clash entry is =
        let stands = taken_as-stands machine take_number entry is in
        let known : IfSome (Some entry.1) (IsNotTaken take_number) = subst (λ r. IfSome r (IsNotTaken take_number)) stands (free entry.0) in
        apart entry.1.take known (taken_as-passes machine take_number entry is)

-- ---- the laws

pub ended : (machine : Machine) (commands : List Command) (take_number : ℕ) → take_number ≤ machine.handed → taken_as machine take_number ≡ None
    → taken_as (replay machine commands) take_number ≡ None
ended machine commands take_number below none =
    free-taken_as (replay machine commands) take_number (replay-free take_number machine commands below (taken_as-free machine take_number none))

pub ended-Built : (machine : Machine) (commands : List Command) (take_number : ℕ) → take_number ≤ machine.handed → taken_as machine take_number ≡ None
    → (step (replay machine commands) (Built take_number)).0 ≡ Err NotHeld
ended-Built machine commands take_number below none =
    let last : Machine = replay machine commands in
    ap (λ outcome. outcome.0) (step-Built last take_number ∙ taken_step-NotHeld last take_number (λ _. to.Built) (ended machine commands take_number below none))

-- no command under that number is accepted
pub ended-refused : (machine : Machine) (commands : List Command) (take_number : ℕ) (command : Command) → take_number ≤ machine.handed → taken_as machine take_number ≡ None
    → take_named command ≡ Some take_number → is_ok (step (replay machine commands) command).0 ≡ false
unfolding step
ended-refused machine commands take_number command below none named =
    (elim (first_refusal last command) as (λ r. first_refusal last command ≡ r → is_ok (outcome r (again_of last command) last command).0 ≡ false) [
      | Some refusal ↦ λ _. refl
      | None ↦ λ is. let pass = passes last command is in absurd (clash (sym not_held ∙ pass.held))
    ]) refl
  where
    last : Machine
    last = replay machine commands

    not_held : is_not_held last command ≡ true
    not_held = ap (has_value (λ number. is_none (taken_as last number))) named ∙ ap is_none (ended machine commands take_number below none)

    clash : true ≡ false → ⊥
    clash e = cc
