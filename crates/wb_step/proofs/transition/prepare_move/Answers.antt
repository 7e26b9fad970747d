use Rattle.std.proofs.Common.{◌∙◌, sym}
use Rattle.std.proofs.lemmas.Result.{err_from_is_err_and}
use Rattle.wb_step.proofs.MoveLemmas.{move_step-refused, move_step-Spent}
use Rattle.wb_step.proofs.transition.prepare_move.Goals as goal

pub returns-in_err-after-clause-refused : goal.returns-in_err-after-clause-refused
returns-in_err-after-clause-refused c =
    let p = err_from_is_err_and c.from_residual.result c.from_residual.ensures.1 in
    rw (p.1, p.2) (λ differs. move_step-refused c.args.office.now ((c.args.arch.now, c.args.source.now), c.args.current.now) c.args.change _
    (c.in_err-after.ensures.refused differs))

pub returns-then-is_spent-clause-refused : goal.returns-then-is_spent-clause-refused
returns-then-is_spent-clause-refused c = λ _.
    move_step-Spent c.args.office.now ((c.args.arch.now, c.args.source.now), c.args.current.now) c.args.change
    c.in_ok-after.ensures.ok (sym c.is_spent.ensures.value ∙ c.if-is_spent.true)
