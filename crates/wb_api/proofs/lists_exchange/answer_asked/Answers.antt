-- A request that is not allowed is refused, and else the office answers it.
use Rattle.std.proofs.Common.{inl, inr, refl}
use Rattle.wb_lists.proofs.ListLemmas.{MayReadLess-same}
use Rattle.wb_api.proofs.RespondLemmas.{found-more}
use Rattle.wb_api.proofs.lists_exchange.answer_asked.Goals as goal

-- ---- a request that is not allowed

pub returns-in-Some-clause-value : goal.returns-in-Some-clause-value
returns-in-Some-clause-value g c = λ before clean stands.
    let done = c.in-Some.ensures.value before clean stands in
    (done.0, done.1, done.2, (inr done.3.0, done.3.1))

pub returns-in-Some-clause-kept : goal.returns-in-Some-clause-kept
returns-in-Some-clause-kept g c = MayReadLess-same (g.L.Lists.may_read c.args.lists.now)

-- ---- one that is

pub returns-in-None-clause-value : goal.returns-in-None-clause-value
returns-in-None-clause-value g c = found-more _ _ c.answer_request.result (λ answer found before clean stands.
    let unasked = c.asked_by.ensures.clean.0 (c.answer_request.ensures.clean clean) in
    let allowed = c.in-None.ensures.allowed refl before unasked stands in
    let done = found before clean ((c.asked_by.ensures.stands before).1 allowed.0) in
    (done.0, done.1, done.2, (inl (allowed.1, done.3.0), done.3.1))) c.answer_request.ensures.value

pub returns-in-None-clause-memory : goal.returns-in-None-clause-memory
returns-in-None-clause-memory g c = λ none before clean stands.
    let unasked = c.asked_by.ensures.clean.0 (c.answer_request.ensures.clean clean) in
    let allowed = c.in-None.ensures.allowed refl before unasked stands in
    let done = c.answer_request.ensures.memory none before clean ((c.asked_by.ensures.stands before).1 allowed.0) in
    (done.0, done.1, (allowed.1, done.2.0, done.2.1, done.2.2))
