use Rattle.wb_store.proofs.ChangeLemmas.{builder_change}
use Rattle.wb_store.proofs.writing.Writing.add_builder.Goals as goal

pub returns-clause-changes : goal.returns-clause-changes
returns-clause-changes g c = rw (← c.store.view_is)
    (builder_change c.args.builder.now c.args.arch.now c.add_builder.ensures c.builder_values-values.ensures.value
    c.insert-answered.ensures.runs c.insert-answered.ensures.ok c.answer_on.ensures.value)
