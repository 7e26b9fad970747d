use Rattle.std.proofs.Common.{refl}
use Rattle.wb_store.proofs.ScratchChangeLemmas.{sources_emptied}
use Rattle.wb_store.proofs.merging.empty_sources.Goals as goal

pub returns : goal.returns
returns g c = record {
  changes = sources_emptied c.clear_sources.ensures refl c.delete-answered.ensures.runs c.delete-answered.ensures.ok c.answer_on.ensures.value;
}
