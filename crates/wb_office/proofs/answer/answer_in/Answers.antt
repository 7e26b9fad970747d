use Rattle.std.proofs.Common.{refl, sym, subst, ◌∙◌}
use Rattle.wb_step.specs.Carries.{Carries}
use Rattle.wb_office.specs.Answers.{KeepsStep}
use Rattle.wb_office.proofs.AnswerLemmas.{refused_in, repeated_in, kept_in, not_kept_in}
use Rattle.wb_office.proofs.answer.answer_in.Goals as goal

pub returns-in-Err : goal.returns-in-Err
returns-in-Err g c = record {
  answers = refused_in g.S.Store c.args.command.now c.args.store.now c.args.store.now c.args.named.part c.carry_out.new.office c.args.named.key c.requires.single c.in-Err.refusal refl
      (subst (Carries c.args.named.part c.carry_out.new.office c.args.command.now) c.in-Err.is c.carry_out.ensures.carries);
}

pub returns-then-is_again : goal.returns-then-is_again
returns-then-is_again g c = record {
  answers = repeated_in g.S.Store c.args.command.now c.args.store.now c.args.store.now c.args.named.part c.carry_out.new.office c.args.named.key c.requires.single c.in-Ok.reply c.counts-counts.result c.counts-counts.ensures.value refl
      (subst (Carries c.args.named.part c.carry_out.new.office c.args.command.now) c.in-Ok.is c.carry_out.ensures.carries) c.in-Ok.ensures.utf8 (sym c.is_again.ensures.value ∙ c.if-is_again.true);
}

pub returns-in-Ok-keep : goal.returns-in-Ok-keep
returns-in-Ok-keep g c = record {
  answers = kept_in g.S.Store c.args.command.now c.args.store.now c.keep.new.store c.args.named.part c.carry_out.new.office c.args.named.key c.requires.single c.in-Ok.reply c.counts-counts.result c.counts-counts.ensures.value
      (subst (Carries c.args.named.part c.carry_out.new.office c.args.command.now) c.in-Ok.is c.carry_out.ensures.carries) c.in-Ok.ensures.utf8 (sym c.is_again.ensures.value ∙ c.if-is_again.false)
      (subst (KeepsStep g.S.Store c.args.command.now c.args.named.key c.carry_out.new.office c.args.store.now c.keep.new.store) c.in-Ok-keep.is c.keep.ensures.keeps);
}

pub returns : goal.returns
returns g c = record {
  answers = not_kept_in g.S.Store c.args.command.now c.args.store.now c.keep.new.store c.args.named.part c.carry_out.new.office c.args.named.key c.requires.single c.in-Ok.reply c.in-Err-keep.failure
      (subst (Carries c.args.named.part c.carry_out.new.office c.args.command.now) c.in-Ok.is c.carry_out.ensures.carries) (sym c.is_again.ensures.value ∙ c.if-is_again.false)
      (subst (KeepsStep g.S.Store c.args.command.now c.args.named.key c.carry_out.new.office c.args.store.now c.keep.new.store) c.in-Err-keep.is c.keep.ensures.keeps);
}
