-- Every step keeps that exactly the held records have a take number.
use Rattle.std.proofs.Common.{◌≡◌, ℕ, ℤ, true, false, cond, List, [], ◌∷◌, Option, Some, None, IfSome, is_some, refl, sym, subst, ◌∙◌}
use Rattle.std.specs.declared.cmp.Ordering.{Ordering}
use Rattle.std.specs.declared.cmp.Ordering.TheVariants.{Less, Equal, Greater}
use Rattle.std.specs.Ordering.{match_ordering}
use Rattle.std.specs.FinMap as map
use Rattle.deb_version.specs.Order.{version_cmp}
use Rattle.deb_relations.specs.Satisfaction.{Pairs}
use Rattle.wb_states.specs.declared.command.Command.{Command}
use Rattle.wb_states.specs.declared.command.Command.TheVariants as of
use Rattle.wb_states.specs.declared.moves.Move.{Move}
use Rattle.wb_states.specs.declared.moves.Move.TheVariants as to
use Rattle.wb_states.specs.declared.record.Record.{Record}
use Rattle.wb_states.specs.declared.refusal.Refusal.TheVariants.{WrongState}
use Rattle.wb_states.specs.declared.state.State.{State}
use Rattle.wb_states.specs.declared.state.State.TheVariants.{NeedsBuild, Installed, NotForUs}
use Rattle.wb_states.specs.Machine.{IsConsistent, IsRecord, Machine, empty_office}
use Rattle.deb_text.specs.Text.{pair_cmp}
use Rattle.wb_states.specs.Moves.{record_after_move, in_state, may_go, move_refusal, value_refusal}
use Rattle.wb_states.specs.State.{is_held}
use Rattle.deb_text.proofs.KeyLemmas.{pair_cmp_total, pair_cmp-same, insert_all}
use Rattle.wb_states.proofs.MoveFormLemmas.{held-before-built, held-before-uploaded}
use Rattle.wb_merge.specs.declared.listing.Listed.{Listed}
use Rattle.wb_merge.specs.declared.listing.Built.{Built as WasBuilt}
use Rattle.wb_merge.specs.Merge.{relisted, blank_record, new_state, new_record, newer_state, newer_record, same_state, same_record, listed_record, record_after}
use Rattle.wb_step.specs.Checks.{refused_move}
use Rattle.wb_step.specs.HandOuts.{HasTakeByState, HasTakesByState}
use Rattle.wb_step.specs.Targets.{transition_of}
use Rattle.wb_step.specs.Replay.{replay}
use Rattle.wb_step.specs.Step.{step, state_after, entered, after_move, after_priority, lines_said}
use Rattle.wb_merge.proofs.ChosenLemmas.{new-chosen, newer-chosen, same-chosen}
use Rattle.wb_step.proofs.MergedLemmas.{records_after-keeps}
use Rattle.wb_step.proofs.ReportingLemmas.{line-takes, reported-keeps}
use Rattle.wb_step.proofs.TransitionLemmas.{transition_of-may}
use Rattle.wb_step.proofs.PassLemmas.{step-either}
use Rattle.wb_step.proofs.RemovalLemmas.{removing_all}
use Rattle.wb_step.specs.Arguments.{OfArch, OfPackage}

-- a move that is allowed may go from the record's state
pub allowed-from : (move : Move) (current : Record) → move_refusal move current ≡ None → may_go move current.state ≡ true
unfolding move_refusal
allowed-from move current is =
    (elim (may_go move current.state) as (λ b. cond b (value_refusal move current) (Some (WrongState current.state)) ≡ None → b ≡ true) [
      | true ↦ λ _. refl
      | false ↦ λ some. absurd (clash some)
    ]) is
  where
    clash : Some (WrongState current.state) ≡ None → ⊥
    clash e = cc

pub record_after_move-take : (move : Move) (current : Record) → may_go move current.state ≡ true → HasTakeByState current → HasTakeByState (record_after_move move current)
unfolding record_after_move
record_after_move-take (to.Take holder take_number) current from old = refl
record_after_move-take to.Built current from old = old ∙ held-before-built current.state from
record_after_move-take to.Uploaded current from old = old ∙ held-before-uploaded current.state from
record_after_move-take (to.Waits relations arch) current from old = refl
record_after_move-take to.PutBack current from old = refl
record_after_move-take (to.Attempted reason) current from old = refl
record_after_move-take to.GiveBack current from old = refl
record_after_move-take (to.DepWait relations arch) current from old = refl
record_after_move-take (to.Fail note) current from old = refl
record_after_move-take (to.NotForUs note) current from old = refl
record_after_move-take (to.Rebuild number message) current from old = refl

-- a record without a hold, or with the one that it had
settled-take : (state : State) (current : Record) → (is_held state ≡ true → is_some current.take ≡ is_held state) → HasTakeByState (in_state state current)
settled-take state current held =
    (elim (is_held state) as (λ b. (b ≡ true → is_some current.take ≡ b) → is_some (cond b current.take None) ≡ b) [
      | true ↦ λ held. held refl
      | false ↦ λ _. refl
    ]) held

-- where a state is held, the record has a take number
abbrev KeepsTake : Record → State → Type 0
KeepsTake current state = is_held state ≡ true → is_some current.take ≡ is_held state

-- a state in which nothing is held
free : (current : Record) (state : State) → is_held state ≡ false → KeepsTake current state
free current state not_held held = absurd (clash (sym held ∙ not_held)) where
  clash : true ≡ false → ⊥
  clash e = cc

new-take : (listed : Listed) (built : Option WasBuilt) → HasTakeByState (new_record listed built)
unfolding new_record relisted
new-take listed built =
    let blank : Record = blank_record listed.version in
    settled-take (new_state listed built) blank (new-chosen (KeepsTake blank) listed built (free blank Installed refl) (free blank NeedsBuild refl))

newer-take : (listed : Listed) (built : Option WasBuilt) (current : Record) → HasTakeByState (newer_record listed built current)
unfolding newer_record relisted
newer-take listed built current =
    let bare : Record = record current { version = listed.version; message = []; holder = None; take = None } in
    settled-take (newer_state listed built current) bare
    (newer-chosen (KeepsTake bare) listed built current (free bare NotForUs refl) (free bare Installed refl) (free bare NeedsBuild refl))

same-take : (listed : Listed) (built : Option WasBuilt) (available : Pairs) (current : Record) → HasTakeByState current
    → HasTakeByState (same_record listed built available current)
unfolding same_record relisted
same-take listed built available current old =
    settled-take (same_state listed built available current) current
    (same-chosen (KeepsTake current) listed built available current (free current NotForUs refl) (free current Installed refl) (free current NeedsBuild refl) (λ _. old))

listed-take : (listed : Listed) (built : Option WasBuilt) (available : Pairs) (current : Record) → HasTakeByState current
    → HasTakeByState (listed_record listed built available current)
unfolding listed_record
listed-take listed built available current old =
    by (version_cmp current.version listed.version) where
      by : (order : Ordering) → HasTakeByState (match_ordering order (newer_record listed built current) (same_record listed built available current) current)
      by Less = newer-take listed built current
      by Equal = same-take listed built available current old
      by Greater = old

after-take : (found : Option Record) (listed : Option Listed) (built : Option WasBuilt) (available : Pairs) → IfSome found HasTakeByState
    → IfSome (record_after found listed built available) HasTakeByState
after-take found None built available old = tt
after-take None (Some listed) built available old = new-take listed built
after-take (Some current) (Some listed) built available old = listed-take listed built available current old

-- a command keeps it that moves a record
transition_of-takes : (machine : Machine) (command : Command) → HasTakesByState machine → refused_move machine command ≡ None
    → HasTakesByState (after_move machine (transition_of machine command))
transition_of-takes machine command old allowed =
    (elim (transition_of machine command) as (λ asked. transition_of machine command ≡ asked → HasTakesByState (after_move machine asked)) [
      | None ↦ λ _. old
      | Some asked ↦ λ is.
          let may = transition_of-may machine command asked allowed is in
          let had : IfSome (Some asked.0.1) HasTakeByState = subst (λ r. IfSome r HasTakeByState) may.stands (old asked.0.0) in
          insert_all pair_cmp_total pair_cmp-same (λ key. HasTakeByState) machine.records asked.0.0 (record_after_move asked.1 asked.0.1)
          (record_after_move-take asked.1 asked.0.1 (allowed-from asked.1 asked.0.1 may.allowed) had) old
    ]) refl

-- a build priority changes no take number and no state
after_priority-takes : (machine : Machine) (key : List ℕ × List ℕ) (value : ℤ) → HasTakesByState machine
    → HasTakesByState (after_priority machine key value (map.get machine.records key))
after_priority-takes machine key value old = at (map.get machine.records key) (old key) where
  at : (found : Option Record) → IfSome found HasTakeByState → HasTakesByState (after_priority machine key value found)
  at None had = old
  at (Some current) had =
      insert_all pair_cmp_total pair_cmp-same (λ one. HasTakeByState) machine.records key (record current { build_priority = value }) had old

state_after-takes : (machine : Machine) (command : Command) → HasTakesByState machine → refused_move machine command ≡ None → HasTakesByState (state_after machine command)
state_after-takes machine (of.AddArch fields) old allowed = old
state_after-takes machine (of.AddBuilder fields) old allowed = old
state_after-takes machine (of.RemoveArch fields) old allowed = removing_all (λ key. HasTakeByState) machine
    (OfArch fields) old
state_after-takes machine (of.RemoveBuilder fields) old allowed = old
state_after-takes machine (of.Forget fields) old allowed = removing_all (λ key. HasTakeByState) machine
    (OfPackage fields) old
state_after-takes machine (of.Enter fields) old allowed =
    insert_all pair_cmp_total pair_cmp-same (λ key. HasTakeByState) machine.records (fields.arch, fields.source) (entered fields.version fields.priority fields.section) refl old
state_after-takes machine (of.Merge fields) old allowed =
    records_after-keeps (λ key. HasTakeByState) machine fields.sources fields.parts
    (λ part listing is source found had. after-take found (map.get listing.listed source) (map.get listing.built source) listing.available had) machine.records old
state_after-takes machine (of.Report fields) old allowed =
    reported-keeps (λ key. HasTakeByState) machine.records fields.arch (lines_said fields.text) (λ source line is current had. line-takes line current had) old
state_after-takes machine (of.BuildPriority fields) old allowed =
    after_priority-takes machine (fields.arch, fields.source) fields.value old
state_after-takes machine command old allowed = transition_of-takes machine command old allowed

pub empty-takes : HasTakesByState empty_office
unfolding empty_office
empty-takes key = rw (map.get-empty pair_cmp key) tt

pub consistent-takes : (machine : Machine) → IsConsistent machine → HasTakesByState machine
consistent-takes machine is key = at (map.get machine.records key) (is.records key.0 key.1) where
  at : (found : Option Record) → IfSome found (IsRecord machine key.0 key.1) → IfSome found HasTakeByState
  at None is = tt
  at (Some current) is = is.fields.state.taken

pub step-takes : (machine : Machine) (command : Command) → HasTakesByState machine → HasTakesByState (step machine command).1
step-takes machine command old = step-either HasTakesByState machine command old (λ pass _. state_after-takes machine command old pass.move)

pub replay-takes : (machine : Machine) (commands : List Command) → HasTakesByState machine → HasTakesByState (replay machine commands)
replay-takes machine [] old = old
replay-takes machine (command ∷ commands) old = replay-takes (step machine command).1 commands (step-takes machine command old)
