use Rattle.wb_office.proofs.ApplyLemmas.{carried_refused, carried_memory, carried_cause, carried_closed, carried_store}
use Rattle.wb_office.proofs.ApplyLemmas.{is_open, told_closed}
use Rattle.wb_office.proofs.office.OfficeCarryOut.carry_out.Goals as goal

pub returns-clause-refused : goal.returns-clause-refused
returns-clause-refused g c = λ machine clean stands. carried_refused g.S.Store c.args.command.now c.args.self.now.is_closed c.args.self.now.known c.args.self.now.store c.apply.new.self.is_closed c.apply.new.self.known c.apply.new.self.store c.apply.result c.apply.ensures.applies machine clean stands

pub returns-clause-memory : goal.returns-clause-memory
returns-clause-memory g c = λ machine clean stands. carried_memory g.S.Store c.args.command.now c.args.self.now.is_closed c.args.self.now.known c.args.self.now.store c.apply.new.self.is_closed c.apply.new.self.known c.apply.new.self.store c.apply.result c.apply.ensures.applies machine clean stands

pub returns-clause-cause : goal.returns-clause-cause
returns-clause-cause g c = λ machine clean stands other. carried_cause g.S.Store c.args.command.now c.args.self.now.is_closed c.args.self.now.known c.args.self.now.store c.apply.new.self.is_closed c.apply.new.self.known c.apply.new.self.store c.apply.result c.apply.ensures.applies machine clean stands (is_open c.args.self.now.is_closed other)

pub returns-clause-closed : goal.returns-clause-closed
returns-clause-closed g c = λ machine clean stands. carried_closed g.S.Store c.args.command.now c.args.self.now.is_closed c.args.self.now.known c.args.self.now.store c.apply.new.self.is_closed c.apply.new.self.known c.apply.new.self.store c.apply.result c.apply.ensures.applies machine clean stands

pub returns-clause-store : goal.returns-clause-store
returns-clause-store g c = λ machine clean stands. carried_store g.S.Store c.args.command.now c.args.self.now.is_closed c.args.self.now.known c.args.self.now.store c.apply.new.self.is_closed c.apply.new.self.known c.apply.new.self.store c.apply.result c.apply.ensures.applies machine clean stands

pub returns-clause-shut : goal.returns-clause-shut
returns-clause-shut g c = λ closed. let shut = c.apply.ensures.applies.shut closed in (shut.0, shut.1)

pub returns-clause-told : goal.returns-clause-told
returns-clause-told g c = told_closed c.args.self.now.is_closed (λ opened. (c.apply.ensures.applies.stands opened).never)

pub returns-clause-stands : goal.returns-clause-stands
returns-clause-stands g c = λ opened. c.apply.ensures.applies.stands (is_open c.args.self.now.is_closed opened)
