use Rattle.wb_step.proofs.CarriesLemmas.{carries-failed}
use Rattle.wb_step.proofs.WantLemmas.{want-RemoveBuilder}
use Rattle.wb_step.proofs.removal.remove_builder.Goals as goal

pub returns-in_err-remove_builder : goal.returns-in_err-remove_builder
returns-in_err-remove_builder c = record {
  carries = carries-failed c.from_residual-in_err-remove_builder.result c.from_residual-in_err-remove_builder.ensures.1
      c.in_err-remove_builder.ensures.err (want-RemoveBuilder c.args.office.now c.args.command.now.name
      c.args.command.now.arch c.in_ok-check_builder.ensures.ok);
}
