use Rattle.wb_store.proofs.ChangeLemmas.{renewal_change}
use Rattle.wb_store.proofs.writing.Writing.replace.Goals as goal

pub returns-clause-changes : goal.returns-clause-changes
returns-clause-changes g c = rw (← c.store.view_is)
    (renewal_change c.args.arch.now c.args.source.now c.args.current.now c.replace_record.ensures
    c.record_values-values.ensures.value c.update-answered.ensures.runs c.update-answered.ensures.ok
    c.answer_on.ensures.value)
