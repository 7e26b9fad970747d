use Rattle.wb_office.proofs.ApplyLemmas.{is_open, told_closed}
use Rattle.wb_office.proofs.ListApplyLemmas.{lists_are_refused, lists_cause, lists_closed, lists_memory, lists_reply}
use Rattle.wb_office.proofs.ListApplyLemmas.{lists_store}
use Rattle.wb_office.proofs.office.OfficeMergeFrom.merge_from.Goals as goal

pub returns-clause-shut : goal.returns-clause-shut
returns-clause-shut g c = λ closed. let shut = c.merge_from.ensures.applies.shut closed in (shut.0, shut.1)

pub returns-clause-told : goal.returns-clause-told
returns-clause-told g c = told_closed c.args.self.now.is_closed (λ opened. (c.merge_from.ensures.applies.stands opened).never)

pub returns-clause-stands : goal.returns-clause-stands
returns-clause-stands g c = λ opened. c.merge_from.ensures.applies.stands (is_open c.args.self.now.is_closed opened)

pub returns-clause-names : goal.returns-clause-names
returns-clause-names g c = λ opened refusal is. (c.merge_from.ensures.applies.names (is_open c.args.self.now.is_closed opened) refusal is).0

pub returns-clause-reply : goal.returns-clause-reply
returns-clause-reply g c = λ machine clean stands. lists_reply c.merge_from.ensures.applies machine clean stands

pub returns-clause-refused : goal.returns-clause-refused
returns-clause-refused g c = λ machine clean stands. lists_are_refused c.merge_from.ensures.applies machine clean stands

pub returns-clause-memory : goal.returns-clause-memory
returns-clause-memory g c = λ machine clean stands. lists_memory c.merge_from.ensures.applies machine clean stands

pub returns-clause-cause : goal.returns-clause-cause
returns-clause-cause g c = λ machine clean stands other. lists_cause c.merge_from.ensures.applies machine clean stands (is_open c.args.self.now.is_closed other)

pub returns-clause-closed : goal.returns-clause-closed
returns-clause-closed g c = λ machine clean stands. lists_closed c.merge_from.ensures.applies machine clean stands

pub returns-clause-store : goal.returns-clause-store
returns-clause-store g c = λ machine clean stands. lists_store c.merge_from.ensures.applies machine clean stands
