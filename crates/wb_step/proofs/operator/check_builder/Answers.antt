use Rattle.std.proofs.Common.{◌∙◌, sym, refl, true, false}
use Rattle.wb_step.proofs.RefusalLemmas.{first_refusal-AddBuilder}
use Rattle.wb_step.proofs.operator.check_builder.Goals as goal

pub returns-then-has_bad_builder-clause-refused : goal.returns-then-has_bad_builder-clause-refused
returns-then-has_bad_builder-clause-refused c = λ _.
    first_refusal-AddBuilder c.args.office.now c.args.command.now.name c.args.command.now.arch true _ _ _
    (sym c.has_bad_builder.ensures.value ∙ c.if-has_bad_builder.true) refl refl refl

pub returns-then-lacks_arch-clause-refused : goal.returns-then-lacks_arch-clause-refused
returns-then-lacks_arch-clause-refused c = λ _.
    first_refusal-AddBuilder c.args.office.now c.args.command.now.name c.args.command.now.arch false true _ _
    (sym c.has_bad_builder.ensures.value ∙ c.if-has_bad_builder.false) (sym c.lacks_arch.ensures.value ∙ c.if-lacks_arch.true) refl refl

pub returns-then-is_there-clause-refused : goal.returns-then-is_there-clause-refused
returns-then-is_there-clause-refused c = λ _.
    first_refusal-AddBuilder c.args.office.now c.args.command.now.name c.args.command.now.arch false false true _
    (sym c.has_bad_builder.ensures.value ∙ c.if-has_bad_builder.false) (sym c.lacks_arch.ensures.value ∙ c.if-lacks_arch.false)
    (sym c.in_ok-is_there.ensures.value ∙ c.if-is_there.true) refl

pub returns-then-is_spent-clause-refused : goal.returns-then-is_spent-clause-refused
returns-then-is_spent-clause-refused c = λ _.
    first_refusal-AddBuilder c.args.office.now c.args.command.now.name c.args.command.now.arch false false false true
    (sym c.has_bad_builder.ensures.value ∙ c.if-has_bad_builder.false) (sym c.lacks_arch.ensures.value ∙ c.if-lacks_arch.false)
    (sym c.in_ok-is_there.ensures.value ∙ c.if-is_there.false) (sym c.is_spent.ensures.value ∙ c.if-is_spent.true)

pub returns-clause-ok : goal.returns-clause-ok
returns-clause-ok c =
    first_refusal-AddBuilder c.args.office.now c.args.command.now.name c.args.command.now.arch false false false false
    (sym c.has_bad_builder.ensures.value ∙ c.if-has_bad_builder.false) (sym c.lacks_arch.ensures.value ∙ c.if-lacks_arch.false)
    (sym c.in_ok-is_there.ensures.value ∙ c.if-is_there.false) (sym c.is_spent.ensures.value ∙ c.if-is_spent.false)
