use Rattle.std.proofs.Common.{◌∙◌, sym}
use Rattle.wb_step.specs.Outcomes.{take_step}
use Rattle.wb_step.proofs.CarriesLemmas.{carries-refused, carries-returned, carries-reached}
use Rattle.wb_step.proofs.TakeLemmas.{take-BadName, take-BadVersion, take-is}
use Rattle.wb_step.proofs.WantLemmas.{want-Take}
use Rattle.wb_step.proofs.builder.take.Goals as goal

pub returns-then-has_bad_take : goal.returns-then-has_bad_take
returns-then-has_bad_take c = record {
  carries = carries-refused
      (λ _. take-BadName c.args.office.now c.args.command.now.arch c.args.command.now.builder c.args.command.now.source c.args.command.now.version (sym c.has_bad_take.ensures.value ∙ c.if-has_bad_take.true))
      (λ none. cc);
}

pub returns-in_err-read : goal.returns-in_err-read
returns-in_err-read c = record {
  carries = carries-returned c.from_residual.result c.from_residual.ensures.1
      (λ differs. take-BadVersion c.args.office.now c.args.command.now.arch c.args.command.now.builder c.args.command.now.source c.args.command.now.version _ (sym c.has_bad_take.ensures.value ∙ c.if-has_bad_take.false) (c.in_err-read.ensures.refused differs))
      (λ none. want-Take c.args.command.now.arch c.args.command.now.builder c.args.command.now.source c.args.command.now.version (sym c.has_bad_take.ensures.value ∙ c.if-has_bad_take.false) (c.in_err-read.ensures.memory none));
}

pub returns : goal.returns
returns c = record {
  carries = carries-reached c.take_by_name.ensures.reaches
      (take-is c.args.office.now c.args.command.now.arch c.args.command.now.builder c.args.command.now.source c.args.command.now.version (sym c.has_bad_take.ensures.value ∙ c.if-has_bad_take.false) c.in_ok-read.ensures.ok
      ∙ (λ i. take_step c.args.office.now c.args.command.now.arch c.args.command.now.builder c.args.command.now.source (sym c.in_ok-read.ensures.value i)))
      (want-Take c.args.command.now.arch c.args.command.now.builder c.args.command.now.source c.args.command.now.version (sym c.has_bad_take.ensures.value ∙ c.if-has_bad_take.false) c.in_ok-read.ensures.ok);
}
