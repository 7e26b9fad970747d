use Rattle.std.proofs.Common.{◌≡◌, Ok, Err}
use Rattle.wb_states.specs.declared.command.Command.TheVariants as of
use Rattle.wb_states.specs.Machine.{Machine}
use Rattle.wb_step.specs.Arguments.{OfArch}
use Rattle.wb_step.specs.Checks.{is_held}
use Rattle.wb_office.specs.Answers.{AreOf}
use Rattle.wb_office.proofs.AnswerLemmas.{answered_in, unread}
use Rattle.wb_office.proofs.BatchLemmas.{refused_here}
use Rattle.wb_office.proofs.removing.answer_removal.Goals as goal

pub returns-in-Err : goal.returns-in-Err
returns-in-Err g c = record {
  answers = unread g.S.Store (of.RemoveArch c.args.removal.now) c.args.store.now c.find_held.new.store
      c.find_held.new.store c.in-Err.ensures.finds;
}

pub returns-in-Ok-check_removal : goal.returns-in-Ok-check_removal
returns-in-Ok-check_removal g c = record {
  answers = answered_in g.S.Store (of.RemoveArch c.args.removal.now) c.args.store.now c.find_held.new.store
      c.take_away.new.store c.take_away.result c.in-Ok.ensures.finds
      (λ machine own held. (own.0, c.in-Ok-check_removal.ensures.good machine own held)) c.take_away.ensures.answers;
}

pub returns-in-Err-check_removal : goal.returns-in-Err-check_removal
returns-in-Err-check_removal g c = record {
  answers = answered_in g.S.Store (of.RemoveArch c.args.removal.now) c.args.store.now c.find_held.new.store
      c.find_held.new.store _ c.in-Ok.ensures.finds (λ machine own held. (own, held))
      (refused_here g.S.Store (of.RemoveArch c.args.removal.now) c.find_held.new.store
      (λ (machine : Machine). AreOf c.args.counts c.args.archs.now machine
      × (c.in-Ok.is_one_held ≡ is_held machine (OfArch c.args.removal.now)))
      c.in-Err-check_removal.refusal (λ machine given. c.in-Err-check_removal.ensures.refused machine given.0 given.1)
      c.in-Err-check_removal.ensures.kind.0 c.in-Err-check_removal.ensures.kind.1);
}
