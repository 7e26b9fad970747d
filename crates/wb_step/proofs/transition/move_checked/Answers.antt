use Rattle.std.proofs.lemmas.Result.{IfErr-weaker, IfOk-weaker}
use Rattle.wb_step.proofs.MoveLemmas.{move_outcome-Ok, move_outcome-Err}
use Rattle.wb_step.proofs.transition.move_checked.Goals as goal

pub returns-clause-value : goal.returns-clause-value
returns-clause-value c = IfOk-weaker c.move_record.result _ _ (λ after is. (move_outcome-Ok c.args.change c.args.current.now after is).1) c.move_record.ensures.value

pub returns-clause-ok : goal.returns-clause-ok
returns-clause-ok c = IfOk-weaker c.move_record.result _ _ (λ after is. (move_outcome-Ok c.args.change c.args.current.now after is).0) c.move_record.ensures.value

pub returns-clause-refused : goal.returns-clause-refused
returns-clause-refused c = IfErr-weaker c.move_record.result _ _ (λ refusal is differs. move_outcome-Err c.args.change c.args.current.now refusal (is differs)) c.move_record.ensures.refused
