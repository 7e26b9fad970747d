use Rattle.wb_merge.proofs.ChangeLemmas.{notes-made}
use Rattle.wb_step.specs.Step.{step}
use Rattle.wb_store.proofs.ReadLemmas.{handed_on}
use Rattle.wb_office.proofs.ApplyLemmas.{applied, not_applied, settled_at, texts_refused}
use Rattle.wb_office.proofs.office.Office.apply.Goals as goal

pub returns-in_err-lines-clause-applies : goal.returns-in_err-lines-clause-applies
returns-in_err-lines-clause-applies g c =
    texts_refused g.S.Store c.args.command.now c.args.self.now.is_closed c.args.self.now.known c.args.self.now.store c.if-self.false c.in_err-lines.field-0.0
    c.in_err-lines.ensures.checks c.from_residual.result (handed_on c.from_residual.result c.from_residual.ensures.1)

pub returns-in-Ok-clause-applies : goal.returns-in-Ok-clause-applies
returns-in-Ok-clause-applies g c =
    applied g.S.Store c.args.command.now c.args.self.now.is_closed c.args.self.now.known c.args.self.now.store c.if-self.false c.in_ok-lines.ensures.checks.ok c.in_ok-lines.ensures.checks.passed
    c.answer.new.store c.answer.new.known c.in-Ok.reply c.in-Ok.ensures.responds

pub returns-in-Ok-clause-noted : goal.returns-in-Ok-clause-noted
returns-in-Ok-clause-noted g c =
    λ clean machine stands.
    notes-made c.no_notes-notes.result c.answer.new.notes machine.records (step machine c.args.command.now).1.records
    c.no_notes-notes.ensures.value
    (c.in-Ok.ensures.noted clean machine stands.consistent (settled_at stands c.if-self.false) stands.knows)

pub returns-in-Err-clause-applies : goal.returns-in-Err-clause-applies
returns-in-Err-clause-applies g c =
    not_applied g.S.Store c.args.command.now c.args.self.now.is_closed c.args.self.now.known c.args.self.now.store c.if-self.false c.in_ok-lines.ensures.checks.ok c.in_ok-lines.ensures.checks.passed
    c.answer.new.store c.end-refusal.new.store c.end-refusal.result.1 c.answer.new.known c.in-Err.failure c.end-refusal.result.0 c.in-Err.ensures.responds c.end-refusal.ensures.ends
