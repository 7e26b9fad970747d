use Rattle.std.proofs.Common.{sym, subst}
use Rattle.wb_store.specs.ScratchWrites as write
use Rattle.wb_store.specs.ScratchWrites.{ChangesScratch}
use Rattle.wb_store.proofs.ReadLemmas.{handed_on}
use Rattle.wb_store.proofs.ScratchChangeLemmas.{source_change}
use Rattle.wb_store.proofs.merge_tables.WritingMergeTables.add_source.Goals as goal

pub returns-in_err-answer_on-clause-changes : goal.returns-in_err-answer_on-clause-changes
returns-in_err-answer_on-clause-changes g c =
    rw (← c.store.view_is) (subst (λ r. ChangesScratch g.S.Store (write.AddsSource c.args.row.now)
    c.store.inside.conn c.insert-answered.new.conn r)
    (sym (handed_on c.from_residual.result c.from_residual.ensures.1))
    (source_change c.args.row.now c.add_source.ensures c.source_values.ensures.value c.insert-answered.ensures.runs
    c.insert-answered.ensures.ok c.in_err-answer_on.ensures.value))

pub returns-clause-changes : goal.returns-clause-changes
returns-clause-changes g c = rw (← c.store.view_is)
    (source_change c.args.row.now c.add_source.ensures c.source_values.ensures.value c.insert-answered.ensures.runs
    c.insert-answered.ensures.ok c.in_ok-answer_on.ensures.value)
