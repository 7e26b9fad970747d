-- What a command of a builder alone changes: what the builder holds, or is handed by it.
use Rattle.std.proofs.Common.{◌≡◌, ◌⊎◌, ◌∙◌, ℕ, ◌+◌, true, false, cond, ◌||◌, List, [], ◌∷◌, Option, None, Some}
use Rattle.std.proofs.Common.{is_some, IfSome, inl, inr, refl, sym, ap, subst, option_map}
use Rattle.std.specs.Prelude.{bytes_eq}
use Rattle.std.specs.Option.{option_and_then}
use Rattle.std.specs.FinMap as map
use Rattle.std.specs.Ordering.{eq_by_cmp}
use Rattle.std.proofs.lemmas.Bool.{false≢true}
use Rattle.deb_relations.specs.declared.arch.ArchWords.{ArchWords}
use Rattle.deb_text.specs.Text.{pair_cmp}
use Rattle.deb_text.proofs.KeyLemmas.{eq_by_cmp-same, pair_cmp-same, pair_cmp_total}
use Rattle.wb_states.specs.declared.command.Command.{Command}
use Rattle.wb_states.specs.declared.command.Command.TheVariants as of
use Rattle.wb_states.specs.declared.moves.Move.{Move}
use Rattle.wb_states.specs.declared.moves.Move.TheVariants as to
use Rattle.wb_states.specs.declared.record.Record.{Record}
use Rattle.wb_states.specs.Holds.{holder_of, taken_as}
use Rattle.wb_states.specs.Machine.{arch_words, IsConsistent, IsRecord, Key, Machine}
use Rattle.wb_states.specs.Moves.{record_after_move}
use Rattle.wb_states.specs.Queue.{Entry}
use Rattle.wb_states.proofs.HoldLemmas.{taken_as-is}
use Rattle.wb_merge.specs.Merged.{Records}
use Rattle.wb_step.specs.Step.{after_move, counted, state_after, step}
use Rattle.wb_step.specs.Targets.{move_of, on_each, target_of, transition_of}
use Rattle.wb_step.proofs.PassLemmas.{Passes, step-either}
use Rattle.wb_step.proofs.TransitionLemmas.{MayMove, Stands, transition_of-may}
use Rattle.wb_keys.specs.Rights.{is_own, may_command}
use Rattle.wb_keys.specs.declared.right.Right.TheVariants.{Build}
use Rattle.wb_keys.proofs.RightLemmas.{own-holder, same-text}
use Rattle.wb_api.specs.Own.{ChangesOwn}

-- an insertion leaves a record as it was, or is at its key
insert-either : (records : Records) (key other : Key) (current : Record)
    → (map.get (map.insert records key current) other ≡ map.get records other)
    ⊎ ((other ≡ key) × (map.get (map.insert records key current) other ≡ Some current))
insert-either records key other current =
    let at = map.get-insert pair_cmp_total records key current other in
    (elim (eq_by_cmp pair_cmp other key) as (λ b. eq_by_cmp pair_cmp other key ≡ b
    → (map.get (map.insert records key current) other ≡ map.get records other)
    ⊎ ((other ≡ key) × (map.get (map.insert records key current) other ≡ Some current))) [
      | true ↦ λ is. inr (
        eq_by_cmp-same pair_cmp-same other key is,
        at ∙ ap (λ b. cond b (Some current) (map.get records other)) is,
      )
      | false ↦ λ is. inl (at ∙ ap (λ b. cond b (Some current) (map.get records other)) is)
    ]) refl

-- ---- who has a holder

-- a record has a holder if it has a take number, and only then
abbrev FitsHolder : Record → Type 0
FitsHolder current = is_some current.holder ≡ is_some current.take

-- each record of an office does so; of the invariant of the office the rights of a builder rest on this alone, and each
-- command of a builder keeps it, whatever its texts are
abbrev pub FitHolders : Machine → Type 0
FitHolders machine = (key : Key) → IfSome (map.get machine.records key) FitsHolder

pub consistent-fits : (machine : Machine) → IsConsistent machine → FitHolders machine
consistent-fits machine consistent key =
    (elim (map.get machine.records key) as (λ found. IfSome found (IsRecord machine key.0 key.1)
    → IfSome found FitsHolder) [
      | None ↦ λ _. tt
      | Some current ↦ λ fits. fits.fields.state.held ∙ sym fits.fields.state.taken
    ]) (consistent.records key.0 key.1)

-- a move sets both, keeps both or takes both away
moved-fits : (move : Move) (current : Record) → FitsHolder current → FitsHolder (record_after_move move current)
unfolding record_after_move
moved-fits (to.Take holder take_number) current fits = refl
moved-fits to.Built current fits = fits
moved-fits to.Uploaded current fits = fits
moved-fits (to.Waits relations arch) current fits = refl
moved-fits to.PutBack current fits = refl
moved-fits (to.Attempted reason) current fits = refl
moved-fits to.GiveBack current fits = refl
moved-fits (to.DepWait relations arch) current fits = refl
moved-fits (to.Fail note) current fits = refl
moved-fits (to.NotForUs note) current fits = refl
moved-fits (to.Rebuild number message) current fits = refl

-- a record that is held under a take number has a holder
held-holder : (machine : Machine) (take_number : ℕ) (entry : Entry) → FitHolders machine
    → taken_as machine take_number ≡ Some entry → ¬ (entry.1.holder ≡ None)
held-holder machine take_number entry fit is none =
    let taken = taken_as-is machine take_number entry is in
    let fits : FitsHolder entry.1 = subst (λ found. IfSome found FitsHolder) taken.0 (fit entry.0) in
    false≢true (ap is_some (sym none) ∙ fits ∙ ap is_some taken.1)

-- ---- what a move of a builder leaves

-- a move of a record that the builder held before, or holds after it
abbrev IsOwn : List ℕ → Machine → Entry × Move → Type 0
IsOwn builder machine asked = Stands machine asked.0 × ((asked.0.1.holder ≡ Some builder)
    ⊎ ((record_after_move asked.1 asked.0.1).holder ≡ Some builder))

-- from one state to another no record changes but one by such a move
abbrev pub MovesOwn : List ℕ → Machine → Machine → Type 0
MovesOwn builder before after = (asked : Option (Entry × Move)) × IfSome asked (IsOwn builder before)
    × (after.records ≡ (after_move before asked).records)

pub unmoved : (builder : List ℕ) (before after : Machine) → after ≡ before → MovesOwn builder before after
unmoved builder before after same = (None, tt, ap (λ (machine : Machine). machine.records) same)

moved-own : (builder : List ℕ) (machine : Machine) (asked : Option (Entry × Move)) (key : Key)
    → IfSome asked (IsOwn builder machine) → ChangesOwn builder machine (after_move machine asked) key
moved-own builder machine None key is = inl refl
moved-own builder machine (Some asked) key (stands, either) =
    let put : Record = record_after_move asked.1 asked.0.1 in
    elim (insert-either machine.records asked.0.0 key put) [
      | inl other ↦ inl other
      | inr here ↦ elim either [
        | inl held ↦ inr (inl (asked.0.1, ap (map.get machine.records) here.0 ∙ stands, held))
        | inr given ↦ inr (inr (put, here.1, given))
      ]
    ]

pub moves-own : (builder : List ℕ) (before after : Machine) (key : Key) → MovesOwn builder before after
    → ChangesOwn builder before after key
moves-own builder before after key (asked, own, same) =
    subst (λ (records : Records). ChangesOwn builder before (record before { records = records }) key) (sym same)
    (moved-own builder before asked key own)

fits-moved : (builder : List ℕ) (machine : Machine) (asked : Option (Entry × Move))
    → IfSome asked (IsOwn builder machine) → FitHolders machine → FitHolders (after_move machine asked)
fits-moved builder machine None own fit key = fit key
fits-moved builder machine (Some asked) own fit key =
    let old : FitsHolder asked.0.1 = subst (λ found. IfSome found FitsHolder) own.0 (fit asked.0.0) in
    elim (insert-either machine.records asked.0.0 key (record_after_move asked.1 asked.0.1)) [
      | inl other ↦ subst (λ found. IfSome found FitsHolder) (sym other) (fit key)
      | inr here ↦ subst (λ found. IfSome found FitsHolder) (sym here.1) (moved-fits asked.1 asked.0.1 old)
    ]

pub moves-fit : (builder : List ℕ) (before after : Machine) → MovesOwn builder before after → FitHolders before
    → FitHolders after
moves-fit builder before after (asked, own, same) fit =
    subst (λ (records : Records). (key : Key) → IfSome (map.get records key) FitsHolder) (sym same)
    (fits-moved builder before asked own fit)

-- ---- what is taken

-- the record that is moved, if it may be, by what is known of it and of its move
moves : (P : Entry × Move → Type 0) (machine : Machine) (command : Command) → Passes machine command
    → ((asked : Entry × Move) → MayMove machine command asked → P asked)
    → IfSome (transition_of machine command) P
moves P machine command pass all =
    (elim (transition_of machine command) as (λ asked. transition_of machine command ≡ asked → IfSome asked P) [
      | None ↦ λ _. tt
      | Some asked ↦ λ is. all asked (transition_of-may machine command asked pass.move is)
    ]) refl

-- the records after a command are those after the move that it asks for
abbrev IsTransition : Machine → Command → Type 0
IsTransition machine command =
    (state_after machine command).records ≡ (after_move machine (transition_of machine command)).records

-- after a take the builder holds the record
taken-holder : (builder : List ℕ) (take_number : ℕ) (move : Move) (current : Record)
    → Some (to.Take builder take_number) ≡ Some move → (record_after_move move current).holder ≡ Some builder
unfolding record_after_move
taken-holder builder take_number move current is = subst (λ found. IfSome found (λ one.
    (record_after_move one current).holder ≡ Some builder)) is refl

-- a take in the name of the builder moves a record that the builder holds after it
handed-own : (builder name : List ℕ) (machine : Machine) (command : Command)
    → (bytes_eq name builder || false) ≡ true → Passes machine command
    → move_of machine command ≡ on_each (to.Take name (machine.handed + 1)) → IsTransition machine command
    → MovesOwn builder machine (counted machine (state_after machine command))
handed-own builder name machine command may pass takes same =
    let own = moves (IsOwn builder machine) machine command pass (λ asked moved.
    let words = arch_words machine asked.0.0.0 in
    let taken : Some (to.Take name (machine.handed + 1)) ≡ Some asked.1 =
    ap (option_map (λ (move : ArchWords → Move). move words)) (sym takes) ∙ moved.asks in (
      moved.stands,
      inr (taken-holder name (machine.handed + 1) asked.1 asked.0.1 taken ∙ ap Some (same-text name builder may)),
    )) in
    (transition_of machine command, own, same)

-- ---- what is reported

-- the holder of a take number is that of its record
holder-at : (machine : Machine) (take_number : ℕ) (entry : Entry) → taken_as machine take_number ≡ Some entry
    → holder_of machine take_number ≡ entry.1.holder
unfolding holder_of
holder-at machine take_number entry is = ap (option_and_then (λ (found : Entry). found.1.holder)) is

-- a report under a take number that the builder holds, or nobody, moves a record that the builder held before
reported-own : (builder : List ℕ) (take_number : ℕ) (machine : Machine) (command : Command) → FitHolders machine
    → (is_own builder (holder_of machine take_number) || false) ≡ true → Passes machine command
    → target_of machine command ≡ taken_as machine take_number → IsTransition machine command
    → MovesOwn builder machine (counted machine (state_after machine command))
reported-own builder take_number machine command fit may pass target same =
    let own = moves (IsOwn builder machine) machine command pass (λ asked moved.
    let taken = sym target ∙ moved.target in
    let at = holder-at machine take_number asked.0 taken in (
      moved.stands,
      elim (own-holder builder (holder_of machine take_number) may) [
        | inl none ↦ absurd (held-holder machine take_number asked.0 fit taken (sym at ∙ none))
        | inr held ↦ inl (sym at ∙ held)
      ],
    )) in
    (transition_of machine command, own, same)

-- ---- a command of a builder

accepted-own : (builder : List ℕ) (machine : Machine) (command : Command) → FitHolders machine
    → may_command (Build builder ∷ []) machine command ≡ true → Passes machine command
    → MovesOwn builder machine (counted machine (state_after machine command))
accepted-own builder machine (of.Next fields) fit may pass =
    handed-own builder fields.builder machine (of.Next fields) may pass refl refl
accepted-own builder machine (of.Take fields) fit may pass =
    handed-own builder fields.builder machine (of.Take fields) may pass refl refl
accepted-own builder machine (of.Built fields) fit may pass =
    reported-own builder fields.take_number machine (of.Built fields) fit may pass refl refl
accepted-own builder machine (of.Uploaded fields) fit may pass =
    reported-own builder fields.take_number machine (of.Uploaded fields) fit may pass refl refl
accepted-own builder machine (of.Waits fields) fit may pass =
    reported-own builder fields.take_number machine (of.Waits fields) fit may pass refl refl
accepted-own builder machine (of.PutBack fields) fit may pass =
    reported-own builder fields.take_number machine (of.PutBack fields) fit may pass refl refl
accepted-own builder machine (of.Attempted fields) fit may pass =
    reported-own builder fields.take_number machine (of.Attempted fields) fit may pass refl refl
accepted-own builder machine (of.AddArch fields) fit may pass = cc
accepted-own builder machine (of.AddBuilder fields) fit may pass = cc
accepted-own builder machine (of.RemoveArch fields) fit may pass = cc
accepted-own builder machine (of.RemoveBuilder fields) fit may pass = cc
accepted-own builder machine (of.Enter fields) fit may pass = cc
accepted-own builder machine (of.GiveBack fields) fit may pass = cc
accepted-own builder machine (of.DepWait fields) fit may pass = cc
accepted-own builder machine (of.Fail fields) fit may pass = cc
accepted-own builder machine (of.NotForUs fields) fit may pass = cc
accepted-own builder machine (of.Rebuild fields) fit may pass = cc
accepted-own builder machine (of.BuildPriority fields) fit may pass = cc
accepted-own builder machine (of.Forget fields) fit may pass = cc
accepted-own builder machine (of.Merge fields) fit may pass = cc
accepted-own builder machine (of.Report fields) fit may pass = cc

pub step-moves : (builder : List ℕ) (machine : Machine) (command : Command) → FitHolders machine
    → may_command (Build builder ∷ []) machine command ≡ true → MovesOwn builder machine (step machine command).1
step-moves builder machine command fit may =
    step-either (MovesOwn builder machine) machine command (unmoved builder machine machine refl)
    (λ pass again. accepted-own builder machine command fit may pass)

pub step-own : (builder : List ℕ) (machine : Machine) (command : Command) (key : Key) → IsConsistent machine
    → may_command (Build builder ∷ []) machine command ≡ true
    → ChangesOwn builder machine (step machine command).1 key
step-own builder machine command key consistent may = moves-own builder machine (step machine command).1 key
    (step-moves builder machine command (consistent-fits machine consistent) may)
