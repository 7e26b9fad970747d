use Rattle.wb_merge.proofs.RebuildLemmas.{rebuild_number-build_text_of, rebuild_number-ends}
use Rattle.wb_merge.proofs.laws.rebuild_numbers_read_back.Goals as goal

pub returns-clause-built : goal.returns-clause-built
returns-clause-built c = rebuild_number-build_text_of

pub returns-clause-ends : goal.returns-clause-ends
returns-clause-ends c = rebuild_number-ends
