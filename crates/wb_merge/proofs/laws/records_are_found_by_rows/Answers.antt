use Rattle.wb_merge.proofs.FoundLemmas.{found-lists, found-rows}
use Rattle.wb_merge.proofs.laws.records_are_found_by_rows.Goals as goal

pub returns-clause-rows : goal.returns-clause-rows
returns-clause-rows c = found-rows

pub returns-clause-lists : goal.returns-clause-lists
returns-clause-lists c = found-lists
