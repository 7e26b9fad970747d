use Rattle.std.proofs.Common.{sym, ap, ◌∙◌}
use Rattle.wb_states.specs.Queries.{records_in}
use Rattle.wb_states.specs.State.{state_named}
use Rattle.wb_store.proofs.FindsLemmas.{finds_unasked, finds_weaker}
use Rattle.wb_office.proofs.query.find_by_state.Goals as goal

pub returns-in-Some-clause-finds : goal.returns-in-Some-clause-finds
returns-in-Some-clause-finds g c = finds_weaker c.find_in_state.result c.find_in_state.ensures.finds
    (λ machine x sound is. is ∙ ap (records_in machine c.args.arch.now)
    (sym c.in-Some.is ∙ c.of_name.ensures.found ∙ ap state_named c.as_str.ensures))

pub returns-in-None-clause-finds : goal.returns-in-None-clause-finds
returns-in-None-clause-finds g c = finds_unasked (λ machine sound. ap (records_in machine c.args.arch.now)
    (sym c.in-None.is ∙ c.of_name.ensures.found ∙ ap state_named c.as_str.ensures))
