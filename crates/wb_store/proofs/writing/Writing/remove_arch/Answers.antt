use Rattle.std.proofs.Common.{refl, ap₂, ◌∷◌}
use Rattle.wb_store.proofs.ChangeLemmas.{arch_removal_change, text_bound}
use Rattle.wb_store.proofs.writing.Writing.remove_arch.Goals as goal

pub returns-clause-changes : goal.returns-clause-changes
returns-clause-changes g c = rw (← c.store.view_is) (let params = ap₂ ◌∷◌
    (text_bound _ _ _ c.params-to_sql.ensures c.as_str.ensures) refl in
    arch_removal_change c.args.name.now c.remove_arch.ensures params c.delete-answered.ensures.runs
    c.delete-answered.ensures.ok c.answer_on.ensures.value)
