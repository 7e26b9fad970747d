use Rattle.std.proofs.Common.{◌∙◌, sym, refl, true, false}
use Rattle.wb_step.proofs.RefusalLemmas.{builder_refusal-is}
use Rattle.wb_step.proofs.builder.check_builds.Goals as goal

pub returns-then-lacks_arch-clause-refused : goal.returns-then-lacks_arch-clause-refused
returns-then-lacks_arch-clause-refused c = λ _.
    builder_refusal-is c.args.office.now c.args.arch.now c.args.builder.now true _ _
    (sym c.lacks_arch.ensures.value ∙ c.if-lacks_arch.true) refl refl

pub returns-then-is_unknown-clause-refused : goal.returns-then-is_unknown-clause-refused
returns-then-is_unknown-clause-refused c = λ _.
    builder_refusal-is c.args.office.now c.args.arch.now c.args.builder.now false true _
    (sym c.lacks_arch.ensures.value ∙ c.if-lacks_arch.false) (sym c.in_ok-is_unknown.ensures.value ∙ c.if-is_unknown.true) refl

pub returns-then-is_other-clause-refused : goal.returns-then-is_other-clause-refused
returns-then-is_other-clause-refused c = λ _.
    builder_refusal-is c.args.office.now c.args.arch.now c.args.builder.now false false true
    (sym c.lacks_arch.ensures.value ∙ c.if-lacks_arch.false) (sym c.in_ok-is_unknown.ensures.value ∙ c.if-is_unknown.false)
    (sym c.in_ok-is_other.ensures.value ∙ c.if-is_other.true)

pub returns-clause-ok : goal.returns-clause-ok
returns-clause-ok c =
    builder_refusal-is c.args.office.now c.args.arch.now c.args.builder.now false false false
    (sym c.lacks_arch.ensures.value ∙ c.if-lacks_arch.false) (sym c.in_ok-is_unknown.ensures.value ∙ c.if-is_unknown.false)
    (sym c.in_ok-is_other.ensures.value ∙ c.if-is_other.false)
