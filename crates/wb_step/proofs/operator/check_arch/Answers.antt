use Rattle.std.proofs.Common.{◌∙◌, sym, refl, true, false}
use Rattle.wb_step.proofs.RefusalLemmas.{first_refusal-AddArch}
use Rattle.wb_step.proofs.operator.check_arch.Goals as goal

pub returns-then-has_bad_arch-clause-refused : goal.returns-then-has_bad_arch-clause-refused
returns-then-has_bad_arch-clause-refused c = λ _.
    first_refusal-AddArch c.args.office.now c.args.command.now.name c.args.command.now.os c.args.command.now.cpu true _ _
    (sym c.has_bad_arch.ensures.value ∙ c.if-has_bad_arch.true) refl refl

pub returns-then-has_arch-clause-refused : goal.returns-then-has_arch-clause-refused
returns-then-has_arch-clause-refused c = λ _.
    first_refusal-AddArch c.args.office.now c.args.command.now.name c.args.command.now.os c.args.command.now.cpu false true _
    (sym c.has_bad_arch.ensures.value ∙ c.if-has_bad_arch.false) (sym c.has_arch.ensures.value ∙ c.if-has_arch.true) refl

pub returns-then-is_spent-clause-refused : goal.returns-then-is_spent-clause-refused
returns-then-is_spent-clause-refused c = λ _.
    first_refusal-AddArch c.args.office.now c.args.command.now.name c.args.command.now.os c.args.command.now.cpu false false true
    (sym c.has_bad_arch.ensures.value ∙ c.if-has_bad_arch.false) (sym c.has_arch.ensures.value ∙ c.if-has_arch.false)
    (sym c.is_spent.ensures.value ∙ c.if-is_spent.true)

pub returns-clause-ok : goal.returns-clause-ok
returns-clause-ok c =
    first_refusal-AddArch c.args.office.now c.args.command.now.name c.args.command.now.os c.args.command.now.cpu false false false
    (sym c.has_bad_arch.ensures.value ∙ c.if-has_bad_arch.false) (sym c.has_arch.ensures.value ∙ c.if-has_arch.false)
    (sym c.is_spent.ensures.value ∙ c.if-is_spent.false)
