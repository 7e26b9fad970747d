use Rattle.wb_step.proofs.CarriesLemmas.{carries-returned, carries-reached}
use Rattle.wb_step.proofs.HeldLemmas.{waits-BadRelations, waits-is}
use Rattle.wb_step.proofs.WantLemmas.{want-Waits}
use Rattle.wb_step.proofs.holder.waits.Goals as goal

pub returns-in_err-read : goal.returns-in_err-read
returns-in_err-read c = record {
  carries = carries-returned c.from_residual.result c.from_residual.ensures.1
      (λ differs. waits-BadRelations c.args.office.now c.args.command.now.take_number c.args.command.now.relations _ (c.in_err-read.ensures.refused differs))
      (λ none. want-Waits c.args.command.now.take_number c.args.command.now.relations (c.in_err-read.ensures.memory none));
}

pub returns : goal.returns
returns c = record {
  carries = carries-reached c.wait_taken.ensures.reaches
      (waits-is c.args.office.now c.args.command.now.take_number c.args.command.now.relations c.in_ok-read.read c.in_ok-read.ensures.value)
      (want-Waits c.args.command.now.take_number c.args.command.now.relations c.in_ok-read.ensures.short);
}
