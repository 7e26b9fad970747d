use Rattle.wb_states.proofs.CodeLemmas.{code_of-differ, name_of-differ, code_of_refusal-name}
use Rattle.wb_states.proofs.laws.codes_differ.Goals as goal

pub returns-clause-states : goal.returns-clause-states
returns-clause-states c = code_of-differ

pub returns-clause-names : goal.returns-clause-names
returns-clause-names c = name_of-differ

pub returns-clause-refusals : goal.returns-clause-refusals
returns-clause-refusals c = code_of_refusal-name
