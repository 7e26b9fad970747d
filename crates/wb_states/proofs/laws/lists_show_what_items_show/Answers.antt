use Rattle.wb_states.proofs.ListedLemmas.{listed_by_holder, listed_by_state, listed_is_shown}
use Rattle.wb_states.proofs.laws.lists_show_what_items_show.Goals as goal

pub returns-clause-by_state : goal.returns-clause-by_state
returns-clause-by_state c = listed_by_state

pub returns-clause-mine : goal.returns-clause-mine
returns-clause-mine c = listed_by_holder

pub returns-clause-shown : goal.returns-clause-shown
returns-clause-shown c = listed_is_shown
