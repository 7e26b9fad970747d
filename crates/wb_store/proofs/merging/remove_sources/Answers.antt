use Rattle.std.proofs.Common.{refl, ap₂, ◌∷◌, arith}
use Rattle.std.proofs.lemmas.Int.{ints}
use Rattle.wb_store.proofs.ChangeLemmas.{number_bound}
use Rattle.wb_store.proofs.ScratchChangeLemmas.{sources_removal}
use Rattle.wb_store.proofs.merging.remove_sources.Goals as goal

pub returns : goal.returns
returns g c = record {
  changes = let params = ap₂ ◌∷◌ (number_bound _ _ c.args.place c.params-to_sql.ensures (omega (arith, ints))) refl in
      sources_removal c.args.place c.remove_sources.ensures params c.delete-answered.ensures.runs c.delete-answered.ensures.ok c.answer_on.ensures.value;
}
