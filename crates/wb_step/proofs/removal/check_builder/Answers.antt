use Rattle.std.proofs.Common.{◌∙◌, ap, sym, not, refl, true, false}
use Rattle.wb_step.proofs.RefusalLemmas.{first_refusal-RemoveBuilder}
use Rattle.wb_step.proofs.removal.check_builder.Goals as goal

pub returns-then-has_bad_builder-clause-refused : goal.returns-then-has_bad_builder-clause-refused
returns-then-has_bad_builder-clause-refused c = λ _.
    first_refusal-RemoveBuilder c.args.office.now c.args.command.now.name c.args.command.now.arch true _ _ _ _ _
    (sym c.has_bad_builder.ensures.value ∙ c.if-has_bad_builder.true) refl refl refl refl refl

pub returns-then-lacks_arch-clause-refused : goal.returns-then-lacks_arch-clause-refused
returns-then-lacks_arch-clause-refused c = λ _.
    first_refusal-RemoveBuilder c.args.office.now c.args.command.now.name c.args.command.now.arch false true _ _ _ _
    (sym c.has_bad_builder.ensures.value ∙ c.if-has_bad_builder.false)
    (sym c.lacks_arch.ensures.value ∙ c.if-lacks_arch.true) refl refl refl refl

pub returns-then-has_none-clause-refused : goal.returns-then-has_none-clause-refused
returns-then-has_none-clause-refused c = λ _.
    first_refusal-RemoveBuilder c.args.office.now c.args.command.now.name c.args.command.now.arch false false true _ _ _
    (sym c.has_bad_builder.ensures.value ∙ c.if-has_bad_builder.false) (sym c.lacks_arch.ensures.value ∙ c.if-lacks_arch.false)
    (sym c.in_ok-has_none.ensures.value ∙ c.if-has_none.true) refl refl refl

pub returns-then-is_other-clause-refused : goal.returns-then-is_other-clause-refused
returns-then-is_other-clause-refused c = λ _.
    first_refusal-RemoveBuilder c.args.office.now c.args.command.now.name c.args.command.now.arch false false false true
    _ _
    (sym c.has_bad_builder.ensures.value ∙ c.if-has_bad_builder.false) (sym c.lacks_arch.ensures.value ∙ c.if-lacks_arch.false)
    (sym c.in_ok-has_none.ensures.value ∙ c.if-has_none.false) (sym c.in_ok-is_other.ensures.value ∙ c.if-is_other.true)
    refl refl

pub returns-then-holds_on-clause-refused : goal.returns-then-holds_on-clause-refused
returns-then-holds_on-clause-refused c = λ _.
    first_refusal-RemoveBuilder c.args.office.now c.args.command.now.name c.args.command.now.arch false false false
    false true _
    (sym c.has_bad_builder.ensures.value ∙ c.if-has_bad_builder.false) (sym c.lacks_arch.ensures.value ∙ c.if-lacks_arch.false)
    (sym c.in_ok-has_none.ensures.value ∙ c.if-has_none.false)
    (sym c.in_ok-is_other.ensures.value ∙ c.if-is_other.false)
    (sym c.holds_on.ensures.value ∙ c.if-holds_on.true) refl

pub returns-then-is_spent-clause-refused : goal.returns-then-is_spent-clause-refused
returns-then-is_spent-clause-refused c = λ _.
    first_refusal-RemoveBuilder c.args.office.now c.args.command.now.name c.args.command.now.arch false false false
    false false true
    (sym c.has_bad_builder.ensures.value ∙ c.if-has_bad_builder.false) (sym c.lacks_arch.ensures.value ∙ c.if-lacks_arch.false)
    (sym c.in_ok-has_none.ensures.value ∙ c.if-has_none.false)
    (sym c.in_ok-is_other.ensures.value ∙ c.if-is_other.false)
    (sym c.holds_on.ensures.value ∙ c.if-holds_on.false) (sym c.is_spent.ensures.value ∙ c.if-is_spent.true)

pub returns-clause-ok : goal.returns-clause-ok
returns-clause-ok c =
    first_refusal-RemoveBuilder c.args.office.now c.args.command.now.name c.args.command.now.arch false false false
    false false false
    (sym c.has_bad_builder.ensures.value ∙ c.if-has_bad_builder.false) (sym c.lacks_arch.ensures.value ∙ c.if-lacks_arch.false)
    (sym c.in_ok-has_none.ensures.value ∙ c.if-has_none.false)
    (sym c.in_ok-is_other.ensures.value ∙ c.if-is_other.false)
    (sym c.holds_on.ensures.value ∙ c.if-holds_on.false) (sym c.is_spent.ensures.value ∙ c.if-is_spent.false)
