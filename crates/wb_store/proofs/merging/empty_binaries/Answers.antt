use Rattle.std.proofs.Common.{refl}
use Rattle.wb_store.proofs.ScratchChangeLemmas.{binaries_emptied}
use Rattle.wb_store.proofs.merging.empty_binaries.Goals as goal

pub returns : goal.returns
returns g c = record {
  changes = binaries_emptied c.clear_binaries.ensures refl c.delete-answered.ensures.runs c.delete-answered.ensures.ok c.answer_on.ensures.value;
}
