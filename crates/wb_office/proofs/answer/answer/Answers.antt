use Rattle.wb_office.proofs.AnswerLemmas.{archs_unread, found, not_responded, responded}
use Rattle.wb_office.proofs.answer.answer.Goals as goal

pub returns-in-Err-clause-responds : goal.returns-in-Err-clause-responds
returns-in-Err-clause-responds g c =
    archs_unread g.S.Store c.args.command.now c.args.known.now c.find_archs.new.known c.args.store.now c.find_archs.new.store c.in-Err.ensures.finds c.in-Err.ensures.err

pub returns-in-Ok-answer_of-clause-responds : goal.returns-in-Ok-answer_of-clause-responds
returns-in-Ok-answer_of-clause-responds g c =
    responded g.S.Store c.args.command.now c.args.known.now c.find_archs.new.known c.args.store.now c.find_archs.new.store c.answer_of.new.store
    c.in-Ok-answer_of.field-0 c.learn.new.known c.in-Ok.ensures.finds (λ machine own was. (own was).1)
    (λ machine own was. let told = own was in (told.1.counts, told.0)) c.in-Ok-answer_of.ensures.answers c.learn.ensures.knows

pub returns-in-Ok-answer_of-clause-noted : goal.returns-in-Ok-answer_of-clause-noted
returns-in-Ok-answer_of-clause-noted g c =
    λ clean machine consistent settled was.
    let at = found g.S.Store c.args.store.now c.find_archs.new.store c.in-Ok.ensures.finds
    (c.in-Ok-answer_of.ensures.answers.was_clean clean) consistent settled in
    let told = at.1 was in
    c.in-Ok-answer_of.ensures.noted clean machine consistent at.0 (told.1.counts, told.0)

pub returns-in-Err-answer_of-clause-responds : goal.returns-in-Err-answer_of-clause-responds
returns-in-Err-answer_of-clause-responds g c =
    not_responded g.S.Store c.args.command.now c.args.known.now c.find_archs.new.known c.args.store.now c.find_archs.new.store c.answer_of.new.store
    c.in-Err-answer_of.failure c.in-Ok.ensures.finds (λ machine own was. (own was).1)
    (λ machine own was. let told = own was in (told.1.counts, told.0)) c.in-Err-answer_of.ensures.answers
