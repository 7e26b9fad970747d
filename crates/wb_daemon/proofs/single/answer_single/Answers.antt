-- What was written of what is said to the words.
use Rattle.std.proofs.Common.{map}
use Rattle.std.proofs.lemmas.Result.{IfErr-weaker, IfOk-weaker}
use Rattle.wb_daemon.specs.Single.{asked_in}
use Rattle.wb_daemon.proofs.AnswerLemmas.{Answers-more, StopsAt-more}
use Rattle.wb_daemon.proofs.single.answer_single.Goals as goal

pub returns-clause-value : goal.returns-clause-value
returns-clause-value g c =
    let old = g.L.Lists.may_read c.args.lists.now in
    let new = g.L.Lists.may_read c.report_words.new.lists in
    let asked = asked_in (map (λ word. word.now) c.args.words.now) in
    IfOk-weaker c.answer_words.result _ _ (λ status said before clean stands.
    let now = said asked c.invocation_of_words-read.ensures.value before clean stands in
    (now.0, now.1, Answers-more old new c.report_words.ensures.kept asked before now.0 _ _ status now.2))
    c.answer_words.ensures.value

pub returns-clause-err : goal.returns-clause-err
returns-clause-err g c =
    let old = g.L.Lists.may_read c.args.lists.now in
    let new = g.L.Lists.may_read c.report_words.new.lists in
    let asked = asked_in (map (λ word. word.now) c.args.words.now) in
    IfErr-weaker c.answer_words.result _ _ (λ cause said before clean stands.
    let now = said asked c.invocation_of_words-read.ensures.value before clean stands in
    (now.0, now.1, now.2, StopsAt-more old new c.report_words.ensures.kept asked before now.0 now.1 _ _ cause now.3))
    c.answer_words.ensures.err
