use Rattle.wb_states.proofs.MoveFormLemmas.{move_outcome-well}
use Rattle.wb_states.proofs.MoveRowLemmas.{move_outcome-done, move_outcome-row}
use Rattle.wb_states.proofs.laws.moves_follow_the_table.Goals as goal

pub returns-clause-from : goal.returns-clause-from
returns-clause-from c move old new done = (move_outcome-done move old new done).0

pub returns-clause-row : goal.returns-clause-row
returns-clause-row c = move_outcome-row

pub returns-clause-form : goal.returns-clause-form
returns-clause-form c = move_outcome-well
