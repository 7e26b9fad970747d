use Rattle.wb_store.specs.Others.{same_schema}
use Rattle.wb_store.proofs.OthersLemmas.{same_has_all, second_has_all}
use Rattle.wb_store.proofs.ReadLemmas.{handed_on}
use Rattle.wb_store.proofs.UpgradeLemmas.{moves_failed, moves_then}
use Rattle.wb_store.proofs.upgrading.move_office.Goals as goal

pub returns-in_err-make_tables : goal.returns-in_err-make_tables
returns-in_err-make_tables g c = record { moves = λ machine. moves_failed (c.in_err-make_tables.ensures.moves machine) (handed_on c.from_residual.result c.from_residual.ensures.1) }

pub returns-in_err-clear_states : goal.returns-in_err-clear_states
returns-in_err-clear_states g c = record {
  moves = λ machine. moves_then second_has_all (c.in_ok-make_tables.ensures.moves machine)
      (moves_failed {whole = same_schema} (c.in_err-clear_states.ensures.moves machine) (handed_on c.from_residual-in_err-clear_states.result c.from_residual-in_err-clear_states.ensures.1));
}

pub returns : goal.returns
returns g c = record {
  moves = λ machine. moves_then second_has_all (c.in_ok-make_tables.ensures.moves machine) (moves_then same_has_all (c.in_ok-clear_states.ensures.moves machine) (c.set_format.ensures.moves machine));
}
