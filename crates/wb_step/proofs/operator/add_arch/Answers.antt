use Rattle.wb_step.proofs.CarriesLemmas.{carries-memory, carries-failed}
use Rattle.wb_step.proofs.WantLemmas.{want-AddArch}
use Rattle.wb_step.proofs.operator.add_arch.Goals as goal

pub returns-in_err-clone : goal.returns-in_err-clone
returns-in_err-clone c = record {
  carries = carries-memory c.from_residual-in_err-clone.result c.from_residual-in_err-clone.ensures.1
      (want-AddArch c.args.office.now c.args.command.now.name c.args.command.now.os c.args.command.now.cpu c.in_ok-check_arch.ensures.ok);
}

pub returns-in_err-clone-2 : goal.returns-in_err-clone-2
returns-in_err-clone-2 c = record {
  carries = carries-memory c.from_residual-in_err-clone-2.result c.from_residual-in_err-clone-2.ensures.1
      (want-AddArch c.args.office.now c.args.command.now.name c.args.command.now.os c.args.command.now.cpu c.in_ok-check_arch.ensures.ok);
}

pub returns-in_err-clone-3 : goal.returns-in_err-clone-3
returns-in_err-clone-3 c = record {
  carries = carries-memory c.from_residual-in_err-clone-3.result c.from_residual-in_err-clone-3.ensures.1
      (want-AddArch c.args.office.now c.args.command.now.name c.args.command.now.os c.args.command.now.cpu c.in_ok-check_arch.ensures.ok);
}

pub returns-in_err-add_arch : goal.returns-in_err-add_arch
returns-in_err-add_arch c = record {
  carries = carries-failed c.from_residual-in_err-add_arch.result c.from_residual-in_err-add_arch.ensures.1
      c.in_err-add_arch.ensures.err (want-AddArch c.args.office.now c.args.command.now.name c.args.command.now.os c.args.command.now.cpu c.in_ok-check_arch.ensures.ok);
}
