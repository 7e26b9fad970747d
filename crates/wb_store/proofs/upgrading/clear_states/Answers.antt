use Rattle.std.proofs.Common.{refl}
use Rattle.wb_store.specs.Stands.{office_row_in}
use Rattle.wb_store.specs.declared.format.Format.TheVariants.{One}
use Rattle.wb_store.proofs.UpgradeLemmas.{states_moved}
use Rattle.wb_store.proofs.upgrading.clear_states.Goals as goal

pub returns : goal.returns
returns g c = record {
  moves = λ machine. states_moved machine (office_row_in One machine) c.clear_states.ensures refl c.delete-answered.ensures.runs c.delete-answered.ensures.ok c.answer_on.ensures.value;
}
