use Rattle.std.proofs.Common.{◌∙◌, Ok, Err}
use Rattle.wb_store.proofs.ReadLemmas.{handed_on}
use Rattle.wb_office.proofs.AskLemmas.{by_state-is, by_state_with, of_known, of_unknown}
use Rattle.wb_store.proofs.FindsLemmas.{fails_to_find, finds_both, finds_from, finds_looked_up, finds_then}
use Rattle.wb_store.proofs.FindsLemmas.{lacks_memory, then_fails}
use Rattle.wb_office.proofs.query.find_in_state.Goals as goal

pub returns-in_err-is_unknown-clause-finds : goal.returns-in_err-is_unknown-clause-finds
returns-in_err-is_unknown-clause-finds g c = fails_to_find c.in_err-is_unknown.ensures.finds (handed_on c.from_residual.result c.from_residual.ensures.1)

pub returns-then-is_unknown-clause-finds : goal.returns-then-is_unknown-clause-finds
returns-then-is_unknown-clause-finds g c = finds_from c.in_ok-is_unknown.ensures.finds (λ machine sound same. of_unknown _ same c.if-is_unknown.true)

pub returns-in_err-in_state-clause-finds : goal.returns-in_err-in_state-clause-finds
returns-in_err-in_state-clause-finds g c = then_fails c.in_ok-is_unknown.ensures.finds (finds_looked_up (Err _) c.in_err-in_state.ensures.looks_up)
    (handed_on c.from_residual-in_err-in_state.result c.from_residual-in_err-in_state.ensures.1)

pub returns-in_err-arch-clause-finds : goal.returns-in_err-arch-clause-finds
returns-in_err-arch-clause-finds g c = lacks_memory (finds_both c.in_ok-is_unknown.ensures.finds (finds_looked_up (Ok _) c.in_ok-in_state.ensures.looks_up))
    (handed_on c.from_residual-in_err-arch.result c.from_residual-in_err-arch.ensures.1)

pub returns-clause-finds : goal.returns-clause-finds
returns-clause-finds g c = finds_then c.in_ok-is_unknown.ensures.finds (finds_looked_up (Ok _) c.in_ok-in_state.ensures.looks_up)
    (λ machine sound same found. of_known same c.if-is_unknown.false
    ((λ i. by_state_with c.args.state (c.in_ok-arch.ensures.cases i) (c.from-records.ensures i)) ∙ by_state-is c.args.arch.now c.args.state found))
