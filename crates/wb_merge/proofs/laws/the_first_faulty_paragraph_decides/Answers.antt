use Rattle.wb_merge.proofs.FirstFaultLemmas.{source_rows-rows, source_rows-first, binary_rows-rows, binary_rows-first}
use Rattle.wb_merge.proofs.laws.the_first_faulty_paragraph_decides.Goals as goal

pub returns-clause-sources : goal.returns-clause-sources
returns-clause-sources c = source_rows-rows

pub returns-clause-sources_fault : goal.returns-clause-sources_fault
returns-clause-sources_fault c = source_rows-first

pub returns-clause-packages : goal.returns-clause-packages
returns-clause-packages c = binary_rows-rows

pub returns-clause-packages_fault : goal.returns-clause-packages_fault
returns-clause-packages_fault c = binary_rows-first
