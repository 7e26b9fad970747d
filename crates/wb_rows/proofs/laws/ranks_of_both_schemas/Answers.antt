use Rattle.wb_rows.proofs.CellsLemmas.{first_cells-same}
use Rattle.wb_rows.proofs.FirstLemmas.{rank_of-first}
use Rattle.wb_rows.proofs.laws.ranks_of_both_schemas.Goals as goal

pub returns-clause-rank : goal.returns-clause-rank
returns-clause-rank c = rank_of-first

pub returns-clause-rows : goal.returns-clause-rows
returns-clause-rows c = first_cells-same
