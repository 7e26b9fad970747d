use Rattle.wb_archive.proofs.ReaderLemmas.{read-step}
use Rattle.wb_archive.proofs.laws.merges_of_lists_that_were_read_are_the_step.Goals as goal

pub returns : goal.returns
returns c = record { value = read-step }
