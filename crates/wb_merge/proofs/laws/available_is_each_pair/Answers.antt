use Rattle.wb_merge.proofs.AvailableLemmas.{versions_of-available_of}
use Rattle.wb_merge.proofs.laws.available_is_each_pair.Goals as goal

pub returns : goal.returns
returns c = record { versions = versions_of-available_of }
