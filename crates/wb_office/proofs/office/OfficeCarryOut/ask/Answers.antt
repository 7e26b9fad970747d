use Rattle.wb_states.proofs.QueryLemmas.{answer-has-no-store}
use Rattle.wb_office.proofs.AskLemmas.{asked_answer, asked_refused, asked_memory, asked_cause, asked_closed}
use Rattle.wb_office.proofs.AskLemmas.{asked_store}
use Rattle.wb_office.proofs.ApplyLemmas.{is_open, told_closed}
use Rattle.wb_office.proofs.office.OfficeCarryOut.ask.Goals as goal

pub returns-clause-answer : goal.returns-clause-answer
returns-clause-answer g c = asked_answer c.ask.ensures.asks (λ machine. answer-has-no-store machine c.args.query.now)

pub returns-clause-refused : goal.returns-clause-refused
returns-clause-refused g c = asked_refused c.ask.ensures.asks (λ machine. answer-has-no-store machine c.args.query.now)

pub returns-clause-memory : goal.returns-clause-memory
returns-clause-memory g c = asked_memory c.ask.ensures.asks (λ machine. answer-has-no-store machine c.args.query.now)

pub returns-clause-cause : goal.returns-clause-cause
returns-clause-cause g c = λ machine clean stands other. asked_cause c.ask.ensures.asks (λ machine. answer-has-no-store machine c.args.query.now) machine clean stands (is_open c.args.self.now.is_closed other)

pub returns-clause-closed : goal.returns-clause-closed
returns-clause-closed g c = asked_closed c.ask.ensures.asks (λ machine. answer-has-no-store machine c.args.query.now)

pub returns-clause-shut : goal.returns-clause-shut
returns-clause-shut g c = λ closed. let shut = c.ask.ensures.asks.shut closed in (shut.0, shut.1)

pub returns-clause-told : goal.returns-clause-told
returns-clause-told g c = told_closed c.args.self.now.is_closed (λ opened. (c.ask.ensures.asks.stands opened).never)

pub returns-clause-stands : goal.returns-clause-stands
returns-clause-stands g c = λ opened. c.ask.ensures.asks.stands (is_open c.args.self.now.is_closed opened)

pub returns-clause-store : goal.returns-clause-store
returns-clause-store g c = asked_store c.ask.ensures.asks (λ machine. answer-has-no-store machine c.args.query.now)
