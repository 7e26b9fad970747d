use Rattle.std.proofs.Common.{refl}
use Rattle.wb_states.proofs.laws.examples_of_the_queue.Goals as goal

pub returns-clause-ranks : goal.returns-clause-ranks
returns-clause-ranks c = λ one. (refl, refl, refl, refl, refl)

pub returns-clause-by_build_priority : goal.returns-clause-by_build_priority
returns-clause-by_build_priority c = λ one. refl

pub returns-clause-by_age : goal.returns-clause-by_age
returns-clause-by_age c = λ one. refl

pub returns-clause-by_priority : goal.returns-clause-by_priority
returns-clause-by_priority c = λ one. refl

pub returns-clause-by_section : goal.returns-clause-by_section
returns-clause-by_section c = λ one. refl

pub returns-clause-by_name : goal.returns-clause-by_name
returns-clause-by_name c = λ one. refl
