use Rattle.std.proofs.lemmas.Result.{IfOk-weaker}
use Rattle.wb_office.proofs.AskLemmas.{asked_answer, asked_memory, asked_cause, asked_closed, asked_store}
use Rattle.wb_office.proofs.AskLemmas.{holder-answered, holder-has-no-store}
use Rattle.wb_office.proofs.ApplyLemmas.{is_open, told_closed}
use Rattle.wb_office.proofs.office.OfficeCarryOut.holder_of.Goals as goal

pub returns-clause-holder : goal.returns-clause-holder
returns-clause-holder g c = λ machine clean stands.
    IfOk-weaker c.holder_of.result _ _ (λ holder both. (holder-answered both.0, both.1))
    (asked_answer c.holder_of.ensures.asks (holder-has-no-store c.args.take_number) machine clean stands)

pub returns-clause-memory : goal.returns-clause-memory
returns-clause-memory g c = λ machine clean stands is.
    (asked_memory c.holder_of.ensures.asks (holder-has-no-store c.args.take_number) machine clean stands is).1

pub returns-clause-cause : goal.returns-clause-cause
returns-clause-cause g c = λ machine clean stands other.
    asked_cause c.holder_of.ensures.asks (holder-has-no-store c.args.take_number) machine clean stands
    (is_open c.args.self.now.is_closed other)

pub returns-clause-closed : goal.returns-clause-closed
returns-clause-closed g c = asked_closed c.holder_of.ensures.asks (holder-has-no-store c.args.take_number)

pub returns-clause-shut : goal.returns-clause-shut
returns-clause-shut g c = λ closed. let shut = c.holder_of.ensures.asks.shut closed in (shut.0, shut.1)

pub returns-clause-told : goal.returns-clause-told
returns-clause-told g c =
    told_closed c.args.self.now.is_closed (λ opened. (c.holder_of.ensures.asks.stands opened).never)

pub returns-clause-stands : goal.returns-clause-stands
returns-clause-stands g c = λ opened. c.holder_of.ensures.asks.stands (is_open c.args.self.now.is_closed opened)

pub returns-clause-store : goal.returns-clause-store
returns-clause-store g c = asked_store c.holder_of.ensures.asks (holder-has-no-store c.args.take_number)
