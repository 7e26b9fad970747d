use Rattle.wb_step.proofs.CarriesLemmas.{carries-memory, carries-failed}
use Rattle.wb_step.proofs.WantLemmas.{want-AddBuilder}
use Rattle.wb_step.proofs.operator.add_builder.Goals as goal

pub returns-in_err-clone : goal.returns-in_err-clone
returns-in_err-clone c = record {
  carries = carries-memory c.from_residual-in_err-clone.result c.from_residual-in_err-clone.ensures.1
      (want-AddBuilder c.args.office.now c.args.command.now.name c.args.command.now.arch c.in_ok-check_builder.ensures.ok);
}

pub returns-in_err-clone-2 : goal.returns-in_err-clone-2
returns-in_err-clone-2 c = record {
  carries = carries-memory c.from_residual-in_err-clone-2.result c.from_residual-in_err-clone-2.ensures.1
      (want-AddBuilder c.args.office.now c.args.command.now.name c.args.command.now.arch c.in_ok-check_builder.ensures.ok);
}

pub returns-in_err-add_builder : goal.returns-in_err-add_builder
returns-in_err-add_builder c = record {
  carries = carries-failed c.from_residual-in_err-add_builder.result c.from_residual-in_err-add_builder.ensures.1
      c.in_err-add_builder.ensures.err (want-AddBuilder c.args.office.now c.args.command.now.name c.args.command.now.arch c.in_ok-check_builder.ensures.ok);
}
