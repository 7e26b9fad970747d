use Rattle.wb_store.proofs.OpeningSoundLemmas.{good_rows_consistent}
use Rattle.wb_store.proofs.laws.good_rows_are_of_a_consistent_office.Goals as goal

pub returns : goal.returns
returns c = record { consistent = good_rows_consistent }
