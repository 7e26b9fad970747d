use Rattle.wb_rows.proofs.CellsLemmas.{arch_cells-same, builder_cells-same, record_cells-same}
use Rattle.wb_rows.proofs.laws.rows_differ.Goals as goal

pub returns-clause-records : goal.returns-clause-records
returns-clause-records c = record_cells-same

pub returns-clause-archs : goal.returns-clause-archs
returns-clause-archs c = arch_cells-same

pub returns-clause-builders : goal.returns-clause-builders
returns-clause-builders c = builder_cells-same
