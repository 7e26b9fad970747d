use Rattle.wb_states.proofs.HoldLemmas.{taken_as-is, taken_as-only, taken_as-none}
use Rattle.wb_states.proofs.laws.a_take_number_finds_its_record.Goals as goal

pub returns-clause-found : goal.returns-clause-found
returns-clause-found c machine take_number entry distinct =
    (taken_as-is machine take_number entry, taken_as-only machine take_number entry distinct)

pub returns-clause-none : goal.returns-clause-none
returns-clause-none c = taken_as-none
