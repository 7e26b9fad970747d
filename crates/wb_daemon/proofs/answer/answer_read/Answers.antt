-- What may be said to what was read may be said to what was asked.
use Rattle.std.proofs.Common.{subst}
use Rattle.std.proofs.lemmas.Option.{IfSome_then}
use Rattle.wb_daemon.specs.Turn.{IsReadAs}
use Rattle.wb_daemon.proofs.AnswerLemmas.{IsResponse-read, IsResponse-unread}
use Rattle.wb_daemon.proofs.answer.answer_read.Goals as goal

pub returns-in-Ok-clause-value : goal.returns-in-Ok-clause-value
returns-in-Ok-clause-value g c =
    IfSome_then c.answer_invocation.result c.answer_invocation.ensures.value (λ answer said asked read goes before clean stands.
    let was = subst (IsReadAs asked) c.in-Ok.is read in
    let now = said goes before clean stands in
    (now.0, now.1, IsResponse-read (g.L.Lists.may_read c.args.lists.now) before asked c.in-Ok.invocation _ was now.2))

pub returns-in-Ok-clause-memory : goal.returns-in-Ok-clause-memory
returns-in-Ok-clause-memory g c = λ asked read e before clean stands.
    let was = subst (IsReadAs asked) c.in-Ok.is read in
    let now = c.answer_invocation.ensures.memory e before clean stands in
    (now.0, now.1, (now.2.0, (c.in-Ok.invocation, was.0, now.2.1), now.2.2))

pub returns-in-Ok-clause-stops : goal.returns-in-Ok-clause-stops
returns-in-Ok-clause-stops g c =
    IfSome_then c.answer_invocation.result c.answer_invocation.ensures.stops (λ answer refused asked read stops before clean stands.
    let was = subst (IsReadAs asked) c.in-Ok.is read in
    let now = refused stops before clean stands in
    (now.0, now.1, now.2, (c.in-Ok.invocation, was.0, now.3)))

pub returns-in-Err-clause-value : goal.returns-in-Err-clause-value
returns-in-Err-clause-value g c = λ asked read goes before clean stands. (
  before,
  stands,
  IsResponse-unread (g.L.Lists.may_read c.args.lists.now) before asked c.in-Err.fault _ (subst (IsReadAs asked) c.in-Err.is read)
      (λ is. c.unread_answer.ensures.fault is before) (λ is. c.unread_answer.ensures.memory is before),
)
