use Rattle.std.proofs.Common.{Ok, Err}
use Rattle.wb_store.proofs.ReadLemmas.{handed_on}
use Rattle.wb_office.proofs.AskLemmas.{of_known, of_unknown, summary_with}
use Rattle.wb_store.proofs.FindsLemmas.{fails_to_find, finds_both, finds_from, finds_looked_up, finds_then}
use Rattle.wb_store.proofs.FindsLemmas.{lacks_memory, then_fails}
use Rattle.wb_office.proofs.query.find_summary.Goals as goal

pub returns-in_err-is_unknown-clause-finds : goal.returns-in_err-is_unknown-clause-finds
returns-in_err-is_unknown-clause-finds g c = fails_to_find c.in_err-is_unknown.ensures.finds (handed_on c.from_residual.result c.from_residual.ensures.1)

pub returns-then-is_unknown-clause-finds : goal.returns-then-is_unknown-clause-finds
returns-then-is_unknown-clause-finds g c = finds_from c.in_ok-is_unknown.ensures.finds
    (λ machine sound same knows. (of_unknown _ same c.if-is_unknown.true, knows))

pub returns-in_err-of_office-clause-finds : goal.returns-in_err-of_office-clause-finds
returns-in_err-of_office-clause-finds g c = then_fails c.in_ok-is_unknown.ensures.finds (finds_looked_up (Err _) c.in_err-of_office.ensures.looks_up)
    (handed_on c.from_residual-in_err-of_office.result c.from_residual-in_err-of_office.ensures.1)

pub returns-in_err-name-clause-finds : goal.returns-in_err-name-clause-finds
returns-in_err-name-clause-finds g c = lacks_memory (finds_both c.in_ok-is_unknown.ensures.finds (finds_looked_up
    (Ok _) c.in_ok-of_office.ensures.looks_up))
    (handed_on c.from_residual-in_err-name.result c.from_residual-in_err-name.ensures.1)

pub returns-in_err-counts-clause-finds : goal.returns-in_err-counts-clause-finds
returns-in_err-counts-clause-finds g c = then_fails (finds_both c.in_ok-is_unknown.ensures.finds (finds_looked_up
    (Ok _) c.in_ok-of_office.ensures.looks_up)) c.in_err-counts.ensures.finds
    (handed_on c.from_residual-in_err-counts.result c.from_residual-in_err-counts.ensures.1)

pub returns-clause-finds : goal.returns-clause-finds
returns-clause-finds g c = finds_then (finds_both c.in_ok-is_unknown.ensures.finds (finds_looked_up
    (Ok _) c.in_ok-of_office.ensures.looks_up)) c.in_ok-counts.ensures.finds
    (λ machine sound before told knows. (
      of_known before.0 c.if-is_unknown.false (λ i. summary_with (before.1.1 i) (c.in_ok-name.ensures.cases i)
          ((told knows).0 i)),
      (told knows).1,
    ))
