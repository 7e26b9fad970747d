use Rattle.wb_states.specs.Queue.{place_cmp_total}
use Rattle.wb_states.proofs.QueueLemmas.{place_cmp-names}
use Rattle.wb_states.proofs.laws.places_differ.Goals as goal

pub returns-clause-total : goal.returns-clause-total
returns-clause-total c = place_cmp_total

pub returns-clause-names : goal.returns-clause-names
returns-clause-names c = place_cmp-names
