use Rattle.std.specs.Option.{option_or}
use Rattle.std.proofs.Common.{◌∙◌, ap, sym, inl, inr, [], ◌∷◌, None, not, refl, SFits, rules}
use Rattle.std.proofs.lemmas.Int.{to_z-of_z}
use mir.Syntax.{w64}
use Rattle.deb_text.specs.Options.{first_some}
use Rattle.wb_states.specs.declared.refusal.Refusal.TheVariants.{BadName, BadNumber, RepeatedArch, TextTooLong}
use Rattle.wb_states.specs.Names.{is_arch_name}
use Rattle.wb_step.specs.Checks.{is_bad_priority, key_refusal, version_refusal, when, has_bad_part, has_repeated_arch}
use Rattle.wb_step.proofs.KeyLemmas.{aside-Fail, aside-NotForUs}
use Rattle.wb_step.proofs.TextCheckLemmas.{tells_nothing, text-AddArch, text-AddBuilder, text-aside, text-Attempted}
use Rattle.wb_step.proofs.TextCheckLemmas.{text-BuildPriority, text-Built, text-Enter, text-Forget, text-GiveBack}
use Rattle.wb_step.proofs.TextCheckLemmas.{text-Merge, text-Next, text-PutBack, text-Rebuild, text-RemoveArch}
use Rattle.wb_step.proofs.TextCheckLemmas.{text-RemoveBuilder, text-Take, text-Uploaded, told_as}
use Rattle.wb_step.proofs.text_check.check_other.Goals as goal

pub returns-in-AddArch-clause-checks : goal.returns-in-AddArch-clause-checks
returns-in-AddArch-clause-checks c =
    told_as _ c.in-AddArch.is (c.unless.ensures.tells None tells_nothing) (ap (λ b. when b BadName) c.has_bad_arch-is_bad.ensures.value ∙ text-AddArch c.in-AddArch.adds) refl

pub returns-in-AddBuilder-clause-checks : goal.returns-in-AddBuilder-clause-checks
returns-in-AddBuilder-clause-checks c =
    told_as _ c.in-AddBuilder.is (c.unless-in-AddBuilder.ensures.tells None tells_nothing)
    (ap (λ b. when b BadName) c.has_bad_builder-is_bad.ensures.value ∙ text-AddBuilder c.in-AddBuilder.adds) refl

pub returns-in-RemoveArch-clause-checks : goal.returns-in-RemoveArch-clause-checks
returns-in-RemoveArch-clause-checks c =
    told_as _ c.in-RemoveArch.is (c.unless-in-RemoveArch.ensures.tells None tells_nothing)
    (ap (λ b. when (not b) BadName) (c.is_arch-is_bad.ensures.value ∙ ap is_arch_name c.as_str.ensures)
    ∙ text-RemoveArch c.in-RemoveArch.removes) refl

pub returns-in-RemoveBuilder-clause-checks : goal.returns-in-RemoveBuilder-clause-checks
returns-in-RemoveBuilder-clause-checks c =
    told_as _ c.in-RemoveBuilder.is (c.unless-in-RemoveBuilder.ensures.tells None tells_nothing)
    (ap (λ b. when b BadName) c.has_bad_builder-is_bad-in-RemoveBuilder.ensures.value
    ∙ text-RemoveBuilder c.in-RemoveBuilder.removes) refl

pub returns-in-Forget-clause-checks : goal.returns-in-Forget-clause-checks
returns-in-Forget-clause-checks c = told_as _ c.in-Forget.is c.check_key-in-Forget.ensures.tells
    (text-Forget c.in-Forget.forget) refl

pub returns-in-Enter-clause-checks : goal.returns-in-Enter-clause-checks
returns-in-Enter-clause-checks c =
    told_as _ c.in-Enter.is c.check_version.ensures.tells (ap (λ b. first_some (when b BadName ∷ version_refusal c.in-Enter.enter.version ∷ [])) c.has_bad_entry-is_bad.ensures.value ∙ text-Enter c.in-Enter.enter) refl

pub returns-in-Next-clause-checks : goal.returns-in-Next-clause-checks
returns-in-Next-clause-checks c =
    told_as _ c.in-Next.is (c.unless-in-Next.ensures.tells None tells_nothing) (ap (λ b. when b BadName) c.has_bad_request-is_bad.ensures.value ∙ text-Next c.in-Next.next) refl

pub returns-in-Take-clause-checks : goal.returns-in-Take-clause-checks
returns-in-Take-clause-checks c =
    told_as _ c.in-Take.is c.check_version-in-Take.ensures.tells (ap (λ b. first_some (when b BadName ∷ version_refusal c.in-Take.take.version ∷ [])) c.has_bad_take-is_bad.ensures.value ∙ text-Take c.in-Take.take) refl

pub returns-in-Attempted-clause-checks : goal.returns-in-Attempted-clause-checks
returns-in-Attempted-clause-checks c =
    told_as _ c.in-Attempted.is (c.unless-in-Attempted.ensures.tells None tells_nothing) (ap (λ b. when b TextTooLong) c.is_long.ensures.value ∙ text-Attempted c.in-Attempted.attempted) refl

pub returns-in-GiveBack-clause-checks : goal.returns-in-GiveBack-clause-checks
returns-in-GiveBack-clause-checks c = told_as _ c.in-GiveBack.is c.check_key.ensures.tells (text-GiveBack c.in-GiveBack.back) refl

pub returns-in-Rebuild-clause-checks : goal.returns-in-Rebuild-clause-checks
returns-in-Rebuild-clause-checks c =
    told_as _ c.in-Rebuild.is (c.unless-in-Rebuild.ensures.tells _ (c.unless-numbered.ensures.tells _ c.check_key-key.ensures.tells))
    ((λ i. option_or (option_or (key_refusal c.in-Rebuild.rebuild.arch c.in-Rebuild.rebuild.source c.in-Rebuild.rebuild.version) (when (c.is_bad_number.ensures.value i) BadNumber)) (when (c.is_long-in-Rebuild.ensures.value i) TextTooLong))
    ∙ text-Rebuild c.in-Rebuild.rebuild) refl

pub returns-in-BuildPriority-clause-checks : goal.returns-in-BuildPriority-clause-checks
returns-in-BuildPriority-clause-checks c =
    let fits : SFits w64 c.in-BuildPriority.priority.value = search rules in
    told_as _ c.in-BuildPriority.is (c.unless-in-BuildPriority.ensures.tells _ c.check_key-key-in-BuildPriority.ensures.tells)
    (ap (λ bad. option_or (key_refusal c.in-BuildPriority.priority.arch c.in-BuildPriority.priority.source c.in-BuildPriority.priority.version) (when bad BadNumber))
    (c.is_bad_priority.ensures.value ∙ ap is_bad_priority (to_z-of_z w64 c.in-BuildPriority.priority.value fits)) ∙ text-BuildPriority c.in-BuildPriority.priority) refl

pub returns-in-Merge-clause-checks : goal.returns-in-Merge-clause-checks
returns-in-Merge-clause-checks c =
    told_as _ c.in-Merge.is (c.unless-in-Merge.ensures.tells _ (c.unless-named.ensures.tells None tells_nothing))
    ((λ i. option_or (when ((c.has_bad_part.ensures ∙ ap has_bad_part c.as_slice-parts.ensures) i) BadName) (when ((c.repeats_arch.ensures ∙ ap has_repeated_arch c.as_slice-parts.ensures) i) RepeatedArch))
    ∙ text-Merge c.in-Merge.merge) refl

pub returns-in-Built-clause-checks : goal.returns-in-Built-clause-checks
returns-in-Built-clause-checks c =
    elim c.in-Built.is [
      | inl (held, is) ↦ told_as _ is tells_nothing (text-Built held) refl
      | inr (inl (held, is)) ↦ told_as _ is tells_nothing (text-Uploaded held) refl
      | inr (inr (held, is)) ↦ told_as _ is tells_nothing (text-PutBack held) refl
    ]

pub returns-in-Fail-clause-checks : goal.returns-in-Fail-clause-checks
returns-in-Fail-clause-checks c =
    let same = ap (λ long. option_or (key_refusal c.in-Fail.aside.arch c.in-Fail.aside.source c.in-Fail.aside.version) (when long TextTooLong)) c.is_long-in-Fail.ensures.value ∙ text-aside c.in-Fail.aside in
    elim c.in-Fail.is [
      | inl is ↦ told_as _ is (c.unless-in-Fail.ensures.tells _ c.check_key-key-in-Fail.ensures.tells) (same ∙ sym (aside-Fail c.in-Fail.aside)) refl
      | inr is ↦ told_as _ is (c.unless-in-Fail.ensures.tells _ c.check_key-key-in-Fail.ensures.tells) (same ∙ sym (aside-NotForUs c.in-Fail.aside)) refl
    ]
