use Rattle.std.proofs.Common.{◌∙◌, sym}
use Rattle.wb_step.specs.Outcomes.{forgotten_step}
use Rattle.wb_step.proofs.CarriesLemmas.{carries-returned, carries-reached}
use Rattle.wb_step.proofs.ForgetLemmas.{forget-refused, forget-is}
use Rattle.wb_step.proofs.WantLemmas.{want-Forget}
use Rattle.wb_step.proofs.removal.forget.Goals as goal

pub returns-in_err-read : goal.returns-in_err-read
returns-in_err-read c = record {
  carries = carries-returned c.from_residual.result c.from_residual.ensures.1
      (λ differs. forget-refused c.args.office.now c.args.command.now.arch c.args.command.now.source
      c.args.command.now.version _ (c.in_err-read.ensures.refused differs))
      (λ none. want-Forget c.args.command.now.arch c.args.command.now.source c.args.command.now.version
      (c.in_err-read.ensures.memory none));
}

pub returns : goal.returns
returns c = record {
  carries = carries-reached c.forget_named.ensures.reaches
      (forget-is c.args.office.now c.args.command.now.arch c.args.command.now.source c.args.command.now.version
      c.in_ok-read.ensures.ok
      ∙ (λ i. forgotten_step c.args.office.now c.args.command.now.arch c.args.command.now.source
      (sym c.in_ok-read.ensures.value i)))
      (want-Forget c.args.command.now.arch c.args.command.now.source c.args.command.now.version
      c.in_ok-read.ensures.ok);
}
