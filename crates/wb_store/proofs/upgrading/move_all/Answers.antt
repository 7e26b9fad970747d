use Rattle.wb_store.specs.Upgrading.{without_records}
use Rattle.wb_store.proofs.ReadLemmas.{handed_on}
use Rattle.wb_store.proofs.OthersLemmas.{second_has_all}
use Rattle.wb_store.proofs.UpgradeLemmas.{moves_failed, moves_then}
use Rattle.wb_store.proofs.upgrading.move_all.Goals as goal

pub returns-in_err-move_office : goal.returns-in_err-move_office
returns-in_err-move_office g c = record { moves = λ machine. moves_failed (c.in_err-move_office.ensures.moves machine) (handed_on c.from_residual.result c.from_residual.ensures.1) }

pub returns : goal.returns
returns g c = record { moves = λ machine. moves_then second_has_all (c.in_ok-move_office.ensures.moves machine) (c.put_all.ensures.moves (without_records machine)) }
