use Rattle.std.proofs.Common.{Ok, Err}
use Rattle.wb_store.proofs.ReadLemmas.{handed_on}
use Rattle.wb_store.proofs.FindsLemmas.{fails_to_find, finds_looked_up, finds_then, then_fails}
use Rattle.wb_office.proofs.removing.find_parts.Goals as goal

pub returns-in_err-names : goal.returns-in_err-names
returns-in_err-names g c = record {
  finds = fails_to_find (finds_looked_up (Err _) c.in_err-names.ensures.looks_up)
      (handed_on c.from_residual.result c.from_residual.ensures.1);
}

pub returns-in_err-pairs : goal.returns-in_err-pairs
returns-in_err-pairs g c = record {
  finds = then_fails (finds_looked_up (Ok _) c.in_ok-names.ensures.looks_up)
      (finds_looked_up (Err _) c.in_err-pairs.ensures.looks_up)
      (handed_on c.from_residual-in_err-pairs.result c.from_residual-in_err-pairs.ensures.1);
}

pub returns : goal.returns
returns g c = record {
  finds = finds_then (finds_looked_up (Ok _) c.in_ok-names.ensures.looks_up)
      (finds_looked_up (Ok _) c.in_ok-pairs.ensures.looks_up) (λ machine sound names pairs. (names, pairs));
}
