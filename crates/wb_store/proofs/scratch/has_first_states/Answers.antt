use Rattle.std.proofs.Common.{inr, refl}
use Rattle.wb_store.specs.Queries as ask
use Rattle.wb_store.proofs.scratch.has_first_states.Goals as goal

pub returns : goal.returns
returns g c = record { tests = c.has_row.ensures.tests ask.OneState (inr (inr refl)) refl c.first_state.ensures }
