use Rattle.std.proofs.Common.{◌∙◌, ap, not, refl, sym, true, false, nat_le}
use Rattle.wb_states.specs.Limits.{count_limit}
use Rattle.wb_office.proofs.RemovalLemmas.{removal_refusal}
use Rattle.wb_office.proofs.ReportLemmas.{arch_known}
use Rattle.wb_office.proofs.removing.check_removal.Goals as goal

pub returns-then-not-has_arch-clause-refused : goal.returns-then-not-has_arch-clause-refused
returns-then-not-has_arch-clause-refused c = λ machine own held.
    removal_refusal machine c.args.removal.now true _ _ c.requires.texts
    (sym (arch_known machine c.args.archs.now c.args.removal.now.name own.1)
    ∙ ap not (sym c.has_arch.ensures.value ∙ c.if-not-has_arch.true)) refl refl

pub returns-then-is_one_held-clause-refused : goal.returns-then-is_one_held-clause-refused
returns-then-is_one_held-clause-refused c = λ machine own held.
    removal_refusal machine c.args.removal.now false true _ c.requires.texts
    (sym (arch_known machine c.args.archs.now c.args.removal.now.name own.1)
    ∙ ap not (sym c.has_arch.ensures.value ∙ c.if-not-has_arch.false))
    (sym held ∙ c.if-is_one_held.true) refl

pub returns-then-is_spent-clause-refused : goal.returns-then-is_spent-clause-refused
returns-then-is_spent-clause-refused c = λ machine own held.
    removal_refusal machine c.args.removal.now false false true c.requires.texts
    (sym (arch_known machine c.args.archs.now c.args.removal.now.name own.1)
    ∙ ap not (sym c.has_arch.ensures.value ∙ c.if-not-has_arch.false))
    (sym held ∙ c.if-is_one_held.false)
    (ap (nat_le count_limit) (sym own.0.1) ∙ sym c.is_spent.ensures.value ∙ c.if-is_spent.true)

pub returns-clause-good : goal.returns-clause-good
returns-clause-good c = λ machine own held.
    removal_refusal machine c.args.removal.now false false false c.requires.texts
    (sym (arch_known machine c.args.archs.now c.args.removal.now.name own.1)
    ∙ ap not (sym c.has_arch.ensures.value ∙ c.if-not-has_arch.false))
    (sym held ∙ c.if-is_one_held.false)
    (ap (nat_le count_limit) (sym own.0.1) ∙ sym c.is_spent.ensures.value ∙ c.if-is_spent.false)
