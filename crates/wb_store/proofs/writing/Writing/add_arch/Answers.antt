use Rattle.wb_store.proofs.ChangeLemmas.{arch_change}
use Rattle.wb_store.proofs.writing.Writing.add_arch.Goals as goal

pub returns-clause-changes : goal.returns-clause-changes
returns-clause-changes g c = rw (← c.store.view_is)
    (arch_change c.args.name.now c.args.words.now c.add_arch.ensures c.arch_values-values.ensures.value
    c.insert-answered.ensures.runs c.insert-answered.ensures.ok c.answer_on.ensures.value)
