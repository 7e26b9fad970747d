-- What is answered where the record of a source package is sought, and what is done with it.
use Rattle.std.proofs.Common.{◌≡◌, ℕ, true, false, not, List, [], ◌∷◌, Option, Some, None, Err, ap, ◌∙◌, is_some, option_and_then}
use Rattle.std.specs.FinMap as map
use Rattle.wb_states.specs.declared.record.Record.{Record}
use Rattle.wb_states.specs.declared.refusal.Refusal.{Refusal}
use Rattle.wb_states.specs.declared.refusal.Refusal.TheVariants.{UnknownArch, UnknownSource}
use Rattle.wb_states.specs.Machine.{Machine}
use Rattle.wb_states.specs.Queue.{Entry}
use Rattle.deb_text.specs.Options.{first_some}
use Rattle.wb_step.specs.Checks.{when, differing, found_refusal}
use Rattle.wb_states.specs.Machine.{is_unknown_arch}
use Rattle.wb_step.specs.Outcomes.{outcome_unless, named_at, sought_step}
use Rattle.wb_step.specs.Step.{Outcome}
use Rattle.wb_step.proofs.StepLemmas.{outcome_unless-last}

-- an architecture that was never added, and one that was
pub unknown-arch : (machine : Machine) (arch : List ℕ) → is_unknown_arch machine arch ≡ true → when (is_unknown_arch machine arch) UnknownArch ≡ Some UnknownArch
unknown-arch machine arch = ap (λ unknown. when unknown UnknownArch)

pub known-arch : (machine : Machine) (arch : List ℕ) → is_unknown_arch machine arch ≡ false → when (is_unknown_arch machine arch) UnknownArch ≡ None
known-arch machine arch = ap (λ unknown. when unknown UnknownArch)

named_at-refused : (machine : Machine) (version : List ℕ) (done : Record → Outcome) (found : Option Record) (refusal : Refusal)
    → first_some (when (not (is_some found)) UnknownSource ∷ option_and_then (differing version) found ∷ []) ≡ Some refusal
    → named_at machine version done found ≡ (Err refusal, machine)
named_at-refused machine version done None refusal is = ap (λ first. outcome_unless first machine (Err UnknownSource, machine)) is
named_at-refused machine version done (Some current) refusal is = outcome_unless-last (differing version current) machine (done current) refusal is

module _ (machine : Machine) (arch source version : List ℕ) (done : Entry → Outcome) (first : Option Refusal) where
  -- a check before it refuses
  pub sought-first : (refusal : Refusal) → first ≡ Some refusal → sought_step first machine arch source version done ≡ (Err refusal, machine)
  unfolding sought_step
  sought-first refusal is =
      λ i. outcome_unless (is i) machine (named_at machine version (λ current. done ((arch, source), current)) (map.get machine.records (arch, source)))

  -- there is no record, or it is of another version
  pub sought-found : (refusal : Refusal) → first ≡ None → found_refusal machine arch source version ≡ Some refusal
      → sought_step first machine arch source version done ≡ (Err refusal, machine)
  unfolding sought_step
  sought-found refusal may is =
      (λ i. outcome_unless (may i) machine (named_at machine version (λ current. done ((arch, source), current)) (map.get machine.records (arch, source))))
      ∙ named_at-refused machine version (λ current. done ((arch, source), current)) (map.get machine.records (arch, source)) refusal is

  -- the record is of the version
  pub sought-is : (current : Record) → first ≡ None → map.get machine.records (arch, source) ≡ Some current → differing version current ≡ None
      → sought_step first machine arch source version done ≡ done ((arch, source), current)
  unfolding sought_step
  sought-is current may found same =
      (λ i. outcome_unless (may i) machine (named_at machine version (λ one. done ((arch, source), one)) (found i)))
      ∙ (λ i. outcome_unless (same i) machine (done ((arch, source), current)))
