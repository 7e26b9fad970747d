use Rattle.std.proofs.Common.{◌∙◌, sym, refl, true, false, None}
use Rattle.std.proofs.lemmas.Result.{err_from_is_err_and}
use Rattle.wb_step.proofs.RefusalLemmas.{first_refusal-Enter, entry-BadVersion}
use Rattle.wb_step.proofs.operator.check_entry.Goals as goal

pub returns-then-has_bad_entry-clause-refused : goal.returns-then-has_bad_entry-clause-refused
returns-then-has_bad_entry-clause-refused c = λ _.
    first_refusal-Enter c.args.office.now c.args.command.now.arch c.args.command.now.source c.args.command.now.version c.args.command.now.priority c.args.command.now.section true _ _ _ _
    (sym c.has_bad_entry.ensures.value ∙ c.if-has_bad_entry.true) refl refl refl refl

pub returns-in_err-read-clause-refused : goal.returns-in_err-read-clause-refused
returns-in_err-read-clause-refused c =
    let p = err_from_is_err_and c.from_residual.result c.from_residual.ensures.1 in
    rw (p.1, p.2) (λ differs. entry-BadVersion c.args.office.now c.args.command.now.arch c.args.command.now.source c.args.command.now.version c.args.command.now.priority c.args.command.now.section _
    (sym c.has_bad_entry.ensures.value ∙ c.if-has_bad_entry.false) (c.in_err-read.ensures.refused differs))

pub returns-then-lacks_arch-clause-refused : goal.returns-then-lacks_arch-clause-refused
returns-then-lacks_arch-clause-refused c = λ _.
    first_refusal-Enter c.args.office.now c.args.command.now.arch c.args.command.now.source c.args.command.now.version c.args.command.now.priority c.args.command.now.section false None true _ _
    (sym c.has_bad_entry.ensures.value ∙ c.if-has_bad_entry.false) c.in_ok-read.ensures.ok (sym c.lacks_arch.ensures.value ∙ c.if-lacks_arch.true) refl refl

pub returns-then-is_there-clause-refused : goal.returns-then-is_there-clause-refused
returns-then-is_there-clause-refused c = λ _.
    first_refusal-Enter c.args.office.now c.args.command.now.arch c.args.command.now.source c.args.command.now.version c.args.command.now.priority c.args.command.now.section false None false true _
    (sym c.has_bad_entry.ensures.value ∙ c.if-has_bad_entry.false) c.in_ok-read.ensures.ok (sym c.lacks_arch.ensures.value ∙ c.if-lacks_arch.false)
    (sym c.in_ok-is_there.ensures.value ∙ c.if-is_there.true) refl

pub returns-then-is_spent-clause-refused : goal.returns-then-is_spent-clause-refused
returns-then-is_spent-clause-refused c = λ _.
    first_refusal-Enter c.args.office.now c.args.command.now.arch c.args.command.now.source c.args.command.now.version c.args.command.now.priority c.args.command.now.section false None false false true
    (sym c.has_bad_entry.ensures.value ∙ c.if-has_bad_entry.false) c.in_ok-read.ensures.ok (sym c.lacks_arch.ensures.value ∙ c.if-lacks_arch.false)
    (sym c.in_ok-is_there.ensures.value ∙ c.if-is_there.false) (sym c.is_spent.ensures.value ∙ c.if-is_spent.true)

pub returns-clause-ok : goal.returns-clause-ok
returns-clause-ok c =
    first_refusal-Enter c.args.office.now c.args.command.now.arch c.args.command.now.source c.args.command.now.version c.args.command.now.priority c.args.command.now.section false None false false false
    (sym c.has_bad_entry.ensures.value ∙ c.if-has_bad_entry.false) c.in_ok-read.ensures.ok (sym c.lacks_arch.ensures.value ∙ c.if-lacks_arch.false)
    (sym c.in_ok-is_there.ensures.value ∙ c.if-is_there.false) (sym c.is_spent.ensures.value ∙ c.if-is_spent.false)
