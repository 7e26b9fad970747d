use Rattle.std.proofs.Common.{◌∙◌, refl, sym}
use Rattle.wb_states.specs.declared.command.Command.TheVariants as of
use Rattle.wb_states.specs.declared.moves.Move.TheVariants as to
use Rattle.wb_step.specs.Outcomes.{named_step}
use Rattle.wb_step.proofs.CarriesLemmas.{carries-returned, carries-reached}
use Rattle.wb_step.proofs.KeyLemmas.{aside-Fail}
use Rattle.wb_step.proofs.NamedLemmas.{step-Fail}
use Rattle.wb_step.proofs.StepLemmas.{step-text}
use Rattle.wb_step.proofs.WantLemmas.{want-text}
use Rattle.wb_step.proofs.named.fail.Goals as goal

pub returns-in_err-read-clause-carries : goal.returns-in_err-read-clause-carries
returns-in_err-read-clause-carries c = carries-returned c.from_residual.result c.from_residual.ensures.1
    (λ differs. step-text c.args.office.now (of.Fail c.args.command.now) _ (aside-Fail c.args.command.now ∙ c.in_err-read.ensures.refused differs))
    (λ none. want-text (of.Fail c.args.command.now) (aside-Fail c.args.command.now ∙ c.in_err-read.ensures.memory none) refl)

pub returns-clause-carries : goal.returns-clause-carries
returns-clause-carries c = carries-reached c.move_named.ensures.reaches
    (step-Fail c.args.office.now c.args.command.now.arch c.args.command.now.source c.args.command.now.version c.args.command.now.note (aside-Fail c.args.command.now ∙ c.in_ok-read.ensures.ok)
    ∙ (λ i. named_step c.args.office.now c.args.command.now.arch c.args.command.now.source (sym c.in_ok-read.ensures.value.0 i) (to.Fail (sym c.in_ok-read.ensures.value.1 i))))
    (want-text (of.Fail c.args.command.now) (aside-Fail c.args.command.now ∙ c.in_ok-read.ensures.ok) refl)
