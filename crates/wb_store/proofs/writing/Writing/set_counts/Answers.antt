use Rattle.std.proofs.Common.{refl, ap₂, ◌∷◌, arith}
use Rattle.std.proofs.lemmas.Int.{ints}
use Rattle.wb_store.proofs.ChangeLemmas.{counts_change, number_bound}
use Rattle.wb_store.proofs.writing.Writing.set_counts.Goals as goal

pub returns-clause-changes : goal.returns-clause-changes
returns-clause-changes g c = rw (← c.store.view_is) (let params =
    ap₂ ◌∷◌ (number_bound _ _ c.args.counts.handed c.params-to_sql.ensures (omega (arith, ints)))
    (ap₂ ◌∷◌ (number_bound _ _ c.args.counts.accepted c.params-to_sql-2.ensures (omega (arith, ints))) refl) in
    counts_change c.args.counts.handed c.args.counts.accepted c.set_counts.ensures params
    c.update-answered.ensures.runs c.update-answered.ensures.ok c.answer_on.ensures.value)
