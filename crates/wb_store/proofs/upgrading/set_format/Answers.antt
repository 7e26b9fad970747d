use Rattle.std.proofs.Common.{refl}
use Rattle.wb_store.proofs.UpgradeLemmas.{format_moved}
use Rattle.wb_store.proofs.upgrading.set_format.Goals as goal

pub returns : goal.returns
returns g c = record { moves = λ machine. format_moved machine c.set_second_format.ensures refl c.update-answered.ensures.runs c.update-answered.ensures.ok c.answer_on.ensures.value }
