-- What may be answered to what was asked may be answered to the request.
use Rattle.std.proofs.Common.{IfSome, ap, refl, subst, sym, ◌∙◌}
use Rattle.std.proofs.lemmas.Bool.{false≢true}
use Rattle.wb_lists.proofs.ListLemmas.{MayReadLess-same}
use Rattle.wb_api.specs.Exchange.{AsksFor, IsAnswerWith, LeadsOn, asks_merge, response_of_answer}
use Rattle.wb_api.proofs.lists_exchange.answer_request.Goals as goal

-- ---- a command

pub returns-in-Command-clause-value : goal.returns-in-Command-clause-value
returns-in-Command-clause-value g c =
    subst (λ asked. IfSome c.answer_command.result (λ answer.
    LeadsOn g.O.CarryOut.is_clean g.O.CarryOut.is_closed g.O.CarryOut.stands_at g.O.CarryOut.leaves c.args.office.now
    c.answer_command.new.office (λ before after standing.
    IsAnswerWith (g.L.Lists.may_read c.args.lists.now) before asked (response_of_answer answer after) standing)))
    (sym c.in-Command.is) c.answer_command.ensures.value

pub returns-in-Command-clause-memory : goal.returns-in-Command-clause-memory
returns-in-Command-clause-memory g c = λ e before clean stands.
    let done = c.answer_command.ensures.memory e before clean stands in
    let asks = subst (λ asked. AsksFor (g.L.Lists.may_read c.args.lists.now) asked c.in-Command.command)
    (sym c.in-Command.is) refl in
    (done.0, done.1, (c.in-Command.command, asks, done.2))

pub returns-in-Command-clause-kept : goal.returns-in-Command-clause-kept
returns-in-Command-clause-kept g c = MayReadLess-same (g.L.Lists.may_read c.args.lists.now)

-- ---- a query

pub returns-in-Query-clause-value : goal.returns-in-Query-clause-value
returns-in-Query-clause-value g c =
    subst (λ asked.
    LeadsOn g.O.CarryOut.is_clean g.O.CarryOut.is_closed g.O.CarryOut.stands_at g.O.CarryOut.leaves c.args.office.now
    c.answer_query.new.office (λ before after standing.
    IsAnswerWith (g.L.Lists.may_read c.args.lists.now) before asked (response_of_answer c.answer_query.result after)
    standing)) (sym c.in-Query.is) c.answer_query.ensures.value

pub returns-in-Query-clause-kept : goal.returns-in-Query-clause-kept
returns-in-Query-clause-kept g c = MayReadLess-same (g.L.Lists.may_read c.args.lists.now)

-- ---- a merge

pub returns-in-Merge-clause-value : goal.returns-in-Merge-clause-value
returns-in-Merge-clause-value g c =
    subst (λ asked. IfSome c.answer_merge.result (λ answer.
    LeadsOn g.O.CarryOut.is_clean g.O.CarryOut.is_closed g.O.CarryOut.stands_at g.O.CarryOut.leaves c.args.office.now
    c.answer_merge.new.office (λ before after standing.
    IsAnswerWith (g.L.Lists.may_read c.args.lists.now) before asked (response_of_answer answer after) standing)))
    (sym c.in-Merge.is) c.answer_merge.ensures.value

pub returns-in-Merge-clause-memory : goal.returns-in-Merge-clause-memory
returns-in-Merge-clause-memory g c = λ e before clean stands.
    let done = c.answer_merge.ensures.memory e before clean stands in
    let asks = subst (λ asked. AsksFor (g.L.Lists.may_read c.args.lists.now) asked done.2.0) (sym c.in-Merge.is)
    done.2.1 in
    (done.0, done.1, (done.2.0, asks, done.2.2))

pub returns-in-Merge-clause-unopened : goal.returns-in-Merge-clause-unopened
returns-in-Merge-clause-unopened g c = λ none.
    absurd (false≢true (sym none ∙ ap asks_merge c.in-Merge.is))
