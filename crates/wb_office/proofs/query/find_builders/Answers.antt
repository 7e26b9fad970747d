use Rattle.std.proofs.Common.{Ok, Err, ◌∙◌}
use Rattle.wb_store.proofs.ReadLemmas.{handed_on}
use Rattle.wb_office.proofs.AskLemmas.{builders_with}
use Rattle.wb_store.proofs.FindsLemmas.{fails_to_find, finds_looked_up, finds_then, then_fails}
use Rattle.wb_office.proofs.query.find_builders.Goals as goal

pub returns-in_err-of_office-clause-finds : goal.returns-in_err-of_office-clause-finds
returns-in_err-of_office-clause-finds g c = fails_to_find (finds_looked_up (Err _) c.in_err-of_office.ensures.looks_up)
    (handed_on c.from_residual.result c.from_residual.ensures.1)

pub returns-in_err-builders-clause-finds : goal.returns-in_err-builders-clause-finds
returns-in_err-builders-clause-finds g c =
    then_fails (finds_looked_up (Ok _) c.in_ok-of_office.ensures.looks_up) (finds_looked_up
    (Err _) c.in_err-builders.ensures.looks_up)
    (handed_on c.from_residual-in_err-builders.result c.from_residual-in_err-builders.ensures.1)

pub returns-clause-finds : goal.returns-clause-finds
returns-clause-finds g c =
    finds_then (finds_looked_up (Ok _) c.in_ok-of_office.ensures.looks_up) (finds_looked_up
    (Ok _) c.in_ok-builders.ensures.looks_up)
    (λ machine sound counts found. λ i. builders_with (counts.1 i) ((c.from-pairs.ensures ∙ found) i))
