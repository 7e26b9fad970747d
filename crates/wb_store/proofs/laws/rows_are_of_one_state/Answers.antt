use Rattle.wb_store.proofs.OneStateLemmas.{one_machine, one_scratch}
use Rattle.wb_store.proofs.laws.rows_are_of_one_state.Goals as goal

pub returns : goal.returns
returns c = record { same = λ one other some more same. (one_machine one other some more same, one_scratch one other some more same) }
