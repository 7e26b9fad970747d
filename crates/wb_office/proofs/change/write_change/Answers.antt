use Rattle.wb_store.proofs.ReadLemmas.{handed_on}
use Rattle.wb_office.proofs.WriteLemmas.{changes_nothing, changes_not, changes_by}
use Rattle.wb_office.proofs.change.write_change.Goals as goal

pub returns-in_err-counts-clause-changes : goal.returns-in_err-counts-clause-changes
returns-in_err-counts-clause-changes g c =
    changes_nothing g.S.Store c.args.command.now c.args.key.now c.args.after.now c.args.writing.now.store.now c.in_err-counts.field-0.0 c.from_residual.result
    (handed_on c.from_residual.result c.from_residual.ensures.1) c.in_err-counts.ensures.err

pub returns-in_err-write_subject-clause-changes : goal.returns-in_err-write_subject-clause-changes
returns-in_err-write_subject-clause-changes g c =
    changes_not g.S.Store c.args.command.now c.args.key.now c.args.after.now c.args.writing.now.store.now c.write_subject.new.writing.store.now c.in_err-write_subject.field-0.0 c.from_residual-in_err-write_subject.result
    (handed_on c.from_residual-in_err-write_subject.result c.from_residual-in_err-write_subject.ensures.1) c.in_err-write_subject.ensures.writes

pub returns-clause-changes : goal.returns-clause-changes
returns-clause-changes g c =
    changes_by g.S.Store c.args.command.now c.args.key.now c.args.after.now c.args.writing.now.store.now c.write_subject.new.writing.store.now c.set_counts.new.self.store.now c.set_counts.result
    c.in_ok-counts.counts.handed c.in_ok-counts.counts.accepted c.in_ok-counts.ensures.value c.in_ok-write_subject.ensures.writes c.set_counts.ensures.changes
