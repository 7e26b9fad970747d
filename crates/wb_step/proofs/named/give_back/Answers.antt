use Rattle.std.proofs.Common.{◌∙◌, sym}
use Rattle.wb_states.specs.declared.moves.Move.TheVariants as to
use Rattle.wb_step.specs.Outcomes.{named_step}
use Rattle.wb_step.proofs.CarriesLemmas.{carries-returned, carries-reached}
use Rattle.wb_step.proofs.KeyLemmas.{give_back-refused, give_back-is}
use Rattle.wb_step.proofs.WantLemmas.{want-GiveBack}
use Rattle.wb_step.proofs.named.give_back.Goals as goal

pub returns-in_err-read : goal.returns-in_err-read
returns-in_err-read c = record {
  carries = carries-returned c.from_residual.result c.from_residual.ensures.1
      (λ differs. give_back-refused c.args.office.now c.args.command.now.arch c.args.command.now.source c.args.command.now.version _ (c.in_err-read.ensures.refused differs))
      (λ none. want-GiveBack c.args.command.now.arch c.args.command.now.source c.args.command.now.version (c.in_err-read.ensures.memory none));
}

pub returns : goal.returns
returns c = record {
  carries = carries-reached c.move_named.ensures.reaches
      (give_back-is c.args.office.now c.args.command.now.arch c.args.command.now.source c.args.command.now.version c.in_ok-read.ensures.ok
      ∙ (λ i. named_step c.args.office.now c.args.command.now.arch c.args.command.now.source (sym c.in_ok-read.ensures.value i) to.GiveBack))
      (want-GiveBack c.args.command.now.arch c.args.command.now.source c.args.command.now.version c.in_ok-read.ensures.ok);
}
