use Rattle.wb_step.proofs.CarriesLemmas.{carries-returned, carries-memory, carries-failed}
use Rattle.wb_step.proofs.WantLemmas.{want-Enter}
use Rattle.wb_step.proofs.operator.enter.Goals as goal

pub returns-in_err-waiting : goal.returns-in_err-waiting
returns-in_err-waiting c = record {
  carries = carries-returned c.from_residual-in_err-waiting.result c.from_residual-in_err-waiting.ensures.1
      (λ differs. absurd (differs c.in_err-waiting.ensures.refused)) (λ _. want-Enter c.args.office.now c.args.command.now.arch c.args.command.now.source c.args.command.now.version c.args.command.now.priority c.args.command.now.section c.in_ok-read.ensures.ok);
}

pub returns-in_err-arch : goal.returns-in_err-arch
returns-in_err-arch c = record {
  carries = carries-memory c.from_residual-in_err-arch.result c.from_residual-in_err-arch.ensures.1
      (want-Enter c.args.office.now c.args.command.now.arch c.args.command.now.source c.args.command.now.version c.args.command.now.priority c.args.command.now.section c.in_ok-read.ensures.ok);
}

pub returns-in_err-source : goal.returns-in_err-source
returns-in_err-source c = record {
  carries = carries-memory c.from_residual-in_err-source.result c.from_residual-in_err-source.ensures.1
      (want-Enter c.args.office.now c.args.command.now.arch c.args.command.now.source c.args.command.now.version c.args.command.now.priority c.args.command.now.section c.in_ok-read.ensures.ok);
}

pub returns-in_err-put : goal.returns-in_err-put
returns-in_err-put c = record {
  carries = carries-failed c.from_residual-in_err-put.result c.from_residual-in_err-put.ensures.1
      c.in_err-put.ensures.err (want-Enter c.args.office.now c.args.command.now.arch c.args.command.now.source c.args.command.now.version c.args.command.now.priority c.args.command.now.section c.in_ok-read.ensures.ok);
}
