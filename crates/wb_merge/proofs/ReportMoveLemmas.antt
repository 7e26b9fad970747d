-- What a line of a report makes of a record of the version that it names, and of another.
use Rattle.std.proofs.Common.{◌≡◌, ◌≢◌, ◌⊎◌, inl, inr, ℕ, true, false, cond, not, List, [], ◌∷◌, Option, Some, None, IfSome, is_some, refl, sym, ap, subst, ◌∙◌}
use Rattle.std.specs.declared.cmp.Ordering.{Ordering}
use Rattle.std.specs.declared.cmp.Ordering.TheVariants.{Less, Equal, Greater}
use Rattle.std.specs.Ordering.{match_ordering}
use Rattle.deb_text.specs.Text.{is_empty_text, IsTextWithin}
use Rattle.deb_version.specs.Order.{version_cmp}
use Rattle.wb_states.specs.declared.record.Record.{Record}
use Rattle.wb_states.specs.declared.state.State.{State}
use Rattle.wb_states.specs.declared.state.State.TheVariants.{NeedsBuild, BdUninstallable}
use Rattle.wb_states.specs.Limits.{note_limit}
use Rattle.wb_states.specs.Moves.{one_of, in_state}
use Rattle.wb_states.specs.Record.{FitsState, IsWellFormed}
use Rattle.wb_states.specs.State.{is_held, is_dep_wait}
use Rattle.wb_states.proofs.InStateLemmas.{fields-of, stands-free, settled-well, empty_within}
use Rattle.wb_merge.specs.declared.report.ReportLine.{ReportLine}
use Rattle.wb_merge.specs.Report.{is_reported, reported, record_after_report}

module _ (line : ReportLine) (current : Record) where
  pub at-equal : version_cmp current.version line.version ≡ Equal → record_after_report line current ≡ reported line.reason current
  unfolding record_after_report
  at-equal e = ap (λ o. match_ordering o current (reported line.reason current) current) e

  kept-at : (o : Ordering) → o ≢ Equal → match_ordering o current (reported line.reason current) current ≡ current
  kept-at Less h = refl
  kept-at Equal h = absurd (h refl)
  kept-at Greater h = refl

  pub at-other : version_cmp current.version line.version ≢ Equal → record_after_report line current ≡ current
  unfolding record_after_report
  at-other h = kept-at (version_cmp current.version line.version) h

  -- what holds of a record and of what a line of its version makes of it, holds of what the line makes of it
  pub after-report : (P : Record → Type 0) → P current → P (reported line.reason current) → P (record_after_report line current)
  unfolding record_after_report
  after-report P as_is moved =
      (elim (version_cmp current.version line.version) as (λ o. P (match_ordering o current (reported line.reason current) current)) [
        | Less ↦ as_is
        | Equal ↦ moved
        | Greater ↦ as_is
      ])

-- ---- the states of reports

uninstallable-reported : (state : State) → one_of (BdUninstallable ∷ []) state ≡ true → is_reported state ≡ true
uninstallable-reported BdUninstallable is = refl
uninstallable-reported _ is = absurd cc

waiting-or-not : (state : State) → is_reported state ≡ true → one_of (BdUninstallable ∷ []) state ≡ false → state ≡ NeedsBuild
waiting-or-not NeedsBuild is other = refl
waiting-or-not BdUninstallable is other = absurd cc
waiting-or-not _ is other = absurd cc

pub not-held : (state : State) → is_reported state ≡ true → is_held state ≡ false
not-held NeedsBuild is = refl
not-held BdUninstallable is = refl
not-held _ is = absurd cc

not-dep_wait : (state : State) → is_reported state ≡ true → is_dep_wait state ≡ false
not-dep_wait NeedsBuild is = refl
not-dep_wait BdUninstallable is = refl
not-dep_wait _ is = absurd cc

-- ---- a record of the version that a line names

-- what holds of a record in another state, and of each that a line makes, holds of what a line makes of a record
pub reported-cases : (P : Record → Type 0) (reason : Option (List ℕ)) (current : Record) → P current
    → ((note : List ℕ) → reason ≡ Some note → is_reported current.state ≡ true → P (record (in_state BdUninstallable current) { note = note }))
    → (reason ≡ None → is_reported current.state ≡ true → P (record (in_state NeedsBuild current) { note = [] }))
    → P (reported reason current)
reported-cases P (Some note) current as_is bad good =
    (elim (is_reported current.state) as (λ b. is_reported current.state ≡ b → P (cond b (record (in_state BdUninstallable current) { note = note }) current)) [
      | true ↦ λ is. bad note refl is
      | false ↦ λ _. as_is
    ]) refl
reported-cases P None current as_is bad good =
    (elim (one_of (BdUninstallable ∷ []) current.state) as (λ b. one_of (BdUninstallable ∷ []) current.state ≡ b
    → P (cond b (record (in_state NeedsBuild current) { note = [] }) current)) [
      | true ↦ λ is. good refl (uninstallable-reported current.state is)
      | false ↦ λ _. as_is
    ]) refl

-- ---- the laws

pub two-states : (line : ReportLine) (current : Record)
    → (record_after_report line current ≡ current) ⊎ ((is_reported current.state ≡ true) × (is_reported (record_after_report line current).state ≡ true))
two-states line current =
    let P = λ (new : Record). (new ≡ current) ⊎ ((is_reported current.state ≡ true) × (is_reported new.state ≡ true)) in
    after-report line current P (inl refl) (reported-cases P line.reason current (inl refl) (λ _ _ is. inr (is, refl)) (λ _ is. inr (is, refl)))

pub unreported-kept : (line : ReportLine) (current : Record) → is_reported current.state ≡ false → record_after_report line current ≡ current
unreported-kept line current other =
    let P = λ (new : Record). new ≡ current in
    after-report line current P refl (reported-cases P line.reason current refl (λ _ _ is. absurd cc) (λ _ is. absurd cc))

held-unreported : (state : State) → is_held state ≡ true → is_reported state ≡ false
held-unreported NeedsBuild is = absurd cc
held-unreported BdUninstallable is = absurd cc
held-unreported _ is = refl

pub held-kept : (line : ReportLine) (current : Record) → is_held current.state ≡ true → record_after_report line current ≡ current
held-kept line current held = unreported-kept line current (held-unreported current.state held)

pub made-uninstallable : (line : ReportLine) (current : Record) (reason : List ℕ) → version_cmp current.version line.version ≡ Equal
    → is_reported current.state ≡ true → line.reason ≡ Some reason
    → ((record_after_report line current).state ≡ BdUninstallable) × ((record_after_report line current).note ≡ reason)
made-uninstallable line current reason same is said =
    let made : record_after_report line current ≡ record (in_state BdUninstallable current) { note = reason } =
    at-equal line current same ∙ ap (λ o. reported o current) said
    ∙ ap (λ b. cond b (record (in_state BdUninstallable current) { note = reason }) current) is in
    (ap (λ (new : Record). new.state) made, ap (λ (new : Record). new.note) made)

pub made-installable : (line : ReportLine) (current : Record) → version_cmp current.version line.version ≡ Equal
    → is_reported current.state ≡ true → line.reason ≡ None → (record_after_report line current).state ≡ NeedsBuild
made-installable line current same is said =
    ap (λ (new : Record). new.state) (at-equal line current same ∙ ap (λ o. reported o current) said)
    ∙ (elim (one_of (BdUninstallable ∷ []) current.state) as (λ b. one_of (BdUninstallable ∷ []) current.state ≡ b
    → (cond b (record (in_state NeedsBuild current) { note = [] }) current).state ≡ NeedsBuild) [
      | true ↦ λ _. refl
      | false ↦ λ other. waiting-or-not current.state is other
    ]) refl

differ-less : Less ≡ Equal → ⊥
differ-less e = cc

differ-greater : Greater ≡ Equal → ⊥
differ-greater e = cc

-- a line leaves the version of a record
reported-version : (reason : Option (List ℕ)) (current : Record) → (reported reason current).version ≡ current.version
reported-version reason current = reported-cases (λ (new : Record). new.version ≡ current.version) reason current refl (λ _ _ _. refl) (λ _ _. refl)

reported-twice : (reason : Option (List ℕ)) (current : Record) → reported reason (reported reason current) ≡ reported reason current
reported-twice (Some note) current =
    (elim (is_reported current.state) as (λ b. is_reported current.state ≡ b
    → reported (Some note) (cond b (record (in_state BdUninstallable current) { note = note }) current) ≡ cond b (record (in_state BdUninstallable current) { note = note }) current) [
      | true ↦ λ _. refl
      | false ↦ λ other. ap (λ b. cond b (record (in_state BdUninstallable current) { note = note }) current) other
    ]) refl
reported-twice None current =
    (elim (one_of (BdUninstallable ∷ []) current.state) as (λ b. one_of (BdUninstallable ∷ []) current.state ≡ b
    → reported None (cond b (record (in_state NeedsBuild current) { note = [] }) current) ≡ cond b (record (in_state NeedsBuild current) { note = [] }) current) [
      | true ↦ λ _. refl
      | false ↦ λ other. ap (λ b. cond b (record (in_state NeedsBuild current) { note = [] }) current) other
    ]) refl

pub twice : (line : ReportLine) (current : Record) → record_after_report line (record_after_report line current) ≡ record_after_report line current
twice line current =
    (elim (version_cmp current.version line.version) as (λ o. version_cmp current.version line.version ≡ o
    → record_after_report line (record_after_report line current) ≡ record_after_report line current) [
      | Less ↦ λ is. ap (record_after_report line) (at-other line current (λ e. differ-less (sym is ∙ e)))
      | Equal ↦ λ is.
          ap (record_after_report line) (at-equal line current is)
          ∙ at-equal line (reported line.reason current) (ap (λ version. version_cmp version line.version) (reported-version line.reason current) ∙ is)
          ∙ reported-twice line.reason current ∙ sym (at-equal line current is)
      | Greater ↦ λ is. ap (record_after_report line) (at-other line current (λ e. differ-greater (sym is ∙ e)))
    ]) refl

-- what a state without a holder and without waits has none of
no-some : {X : Type 0} (o : Option X) → is_some o ≡ false → None ≡ o
no-some None none = refl
no-some (Some x) none = absurd cc

no-text : (text : List ℕ) → not (is_empty_text text) ≡ false → [] ≡ text
no-text [] none = refl
no-text (c ∷ cs) none = absurd cc

pub others-kept : (line : ReportLine) (current : Record) → FitsState current
    → record_after_report line current ≡ record current { state = (record_after_report line current).state; note = (record_after_report line current).note }
others-kept line current fits =
    let P = λ (new : Record). new ≡ record current { state = new.state; note = new.note } in
    let bare : (state : State) (note : List ℕ) → is_reported current.state ≡ true
    → record current { state = state; note = note; holder = None; take = None; waits = [] } ≡ record current { state = state; note = note } =
    λ state note is i. record current {
      state = state;
      note = note;
      holder = no-some current.holder (fits.held ∙ not-held current.state is) i;
      take = no-some current.take (fits.taken ∙ not-held current.state is) i;
      waits = no-text current.waits (fits.waiting ∙ not-dep_wait current.state is) i;
    } in
    after-report line current P refl (reported-cases P line.reason current refl (λ note _ is. bare BdUninstallable note is) (λ _ is. bare NeedsBuild [] is))

pub kept-well : (line : ReportLine) (current : Record) → IfSome line.reason (IsTextWithin note_limit) → IsWellFormed current
    → IsWellFormed (record_after_report line current)
kept-well line current short well =
    after-report line current IsWellFormed well (reported-cases IsWellFormed line.reason current well
    (λ note is _. settled-well BdUninstallable current note (fields-of current well) (subst (λ o. IfSome o (IsTextWithin note_limit)) is short) (stands-free current BdUninstallable refl refl))
    (λ _ _. settled-well NeedsBuild current [] (fields-of current well) (empty_within note_limit) (stands-free current NeedsBuild refl refl)))
