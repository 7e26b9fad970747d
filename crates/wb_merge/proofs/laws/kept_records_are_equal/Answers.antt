use Rattle.wb_merge.proofs.RecordLemmas.{same-record-is}
use Rattle.wb_merge.proofs.laws.kept_records_are_equal.Goals as goal

pub returns : goal.returns
returns c = record { same = same-record-is }
