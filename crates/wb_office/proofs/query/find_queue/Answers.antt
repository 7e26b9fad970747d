use Rattle.std.proofs.Common.{◌∙◌, Ok, Err}
use Rattle.wb_store.proofs.ReadLemmas.{handed_on}
use Rattle.wb_office.proofs.AskLemmas.{of_known, of_unknown, queue-is, queue_with}
use Rattle.wb_store.proofs.FindsLemmas.{fails_to_find, finds_both, finds_from, finds_looked_up, finds_then}
use Rattle.wb_store.proofs.FindsLemmas.{lacks_memory, then_fails}
use Rattle.wb_office.proofs.query.find_queue.Goals as goal

pub returns-in_err-is_unknown-clause-finds : goal.returns-in_err-is_unknown-clause-finds
returns-in_err-is_unknown-clause-finds g c = fails_to_find c.in_err-is_unknown.ensures.finds (handed_on c.from_residual.result c.from_residual.ensures.1)

pub returns-then-is_unknown-clause-finds : goal.returns-then-is_unknown-clause-finds
returns-then-is_unknown-clause-finds g c = finds_from c.in_ok-is_unknown.ensures.finds (λ machine sound same. of_unknown _ same c.if-is_unknown.true)

pub returns-in_err-queue_of-clause-finds : goal.returns-in_err-queue_of-clause-finds
returns-in_err-queue_of-clause-finds g c = then_fails c.in_ok-is_unknown.ensures.finds (finds_looked_up (Err _) c.in_err-queue_of.ensures.looks_up)
    (handed_on c.from_residual-in_err-queue_of.result c.from_residual-in_err-queue_of.ensures.1)

pub returns-in_err-arch-clause-finds : goal.returns-in_err-arch-clause-finds
returns-in_err-arch-clause-finds g c = lacks_memory (finds_both c.in_ok-is_unknown.ensures.finds (finds_looked_up (Ok _) c.in_ok-queue_of.ensures.looks_up))
    (handed_on c.from_residual-in_err-arch.result c.from_residual-in_err-arch.ensures.1)

pub returns-clause-finds : goal.returns-clause-finds
returns-clause-finds g c = finds_then c.in_ok-is_unknown.ensures.finds (finds_looked_up (Ok _) c.in_ok-queue_of.ensures.looks_up)
    (λ machine sound same queue. of_known same c.if-is_unknown.false
    ((λ i. queue_with (c.in_ok-arch.ensures.cases i) (c.from-records.ensures i)) ∙ queue-is c.args.arch.now (queue sound)))
