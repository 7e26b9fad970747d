use Rattle.std.proofs.Common.{◌∙◌, sym}
use Rattle.wb_step.proofs.CarriesLemmas.{carries-refused, carries-memory, carries-reached}
use Rattle.wb_step.proofs.HeldLemmas.{attempted-long, attempted-is}
use Rattle.wb_step.proofs.WantLemmas.{want-Attempted}
use Rattle.wb_step.proofs.holder.attempted.Goals as goal

pub returns-then-is_long-clause-carries : goal.returns-then-is_long-clause-carries
returns-then-is_long-clause-carries c = carries-refused
    (λ _. attempted-long c.args.office.now c.args.command.now.take_number c.args.command.now.reason (sym c.is_long.ensures.value ∙ c.if-is_long.true))
    (λ none. cc)

pub returns-in_err-clone-clause-carries : goal.returns-in_err-clone-clause-carries
returns-in_err-clone-clause-carries c = carries-memory c.from_residual.result c.from_residual.ensures.1
    (want-Attempted c.args.command.now.take_number c.args.command.now.reason (sym c.is_long.ensures.value ∙ c.if-is_long.false))

pub returns-clause-carries : goal.returns-clause-carries
returns-clause-carries c = carries-reached c.move_taken.ensures.reaches
    (attempted-is c.args.office.now c.args.command.now.take_number c.args.command.now.reason _ (sym c.is_long.ensures.value ∙ c.if-is_long.false) c.in_ok-clone.ensures.cases)
    (want-Attempted c.args.command.now.take_number c.args.command.now.reason (sym c.is_long.ensures.value ∙ c.if-is_long.false))
