use Rattle.std.proofs.Common.{subst}
use Rattle.wb_office.specs.Answers.{AreOf, IsNamed}
use Rattle.wb_store.specs.Finds.{Finds}
use Rattle.wb_office.proofs.AnswerLemmas.{answered_in, unread}
use Rattle.wb_office.proofs.answer.answer_one.Goals as goal

pub returns-in-Ok : goal.returns-in-Ok
returns-in-Ok g c = record {
  answers = answered_in g.S.Store c.args.command.now c.args.store.now c.named_part.new.store c.answer_in.new.store c.answer_in.result
      (subst (Finds g.S.Store (λ machine named. AreOf c.args.counts c.args.archs.items machine → IsNamed c.args.command.now named.part named.key machine) c.args.store.now c.named_part.new.store) c.in-Ok.is c.named_part.ensures.finds)
      (λ machine own named. named own) c.answer_in.ensures.answers;
}

pub returns-in-Err : goal.returns-in-Err
returns-in-Err g c = record {
  answers = unread g.S.Store c.args.command.now c.args.store.now c.named_part.new.store c.named_part.new.store
      (subst (Finds g.S.Store (λ machine named. AreOf c.args.counts c.args.archs.items machine → IsNamed c.args.command.now named.part named.key machine) c.args.store.now c.named_part.new.store) c.in-Err.is c.named_part.ensures.finds);
}
