use Rattle.wb_step.proofs.StateRefusalLemmas.{step-of-state}
use Rattle.wb_step.proofs.laws.refusals_are_of_the_state.Goals as goal

pub returns : goal.returns
returns c = record { value = step-of-state }
