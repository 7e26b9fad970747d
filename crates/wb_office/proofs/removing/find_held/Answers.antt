use Rattle.std.proofs.Common.{◌∙◌, Ok, Err}
use Rattle.wb_store.proofs.ReadLemmas.{handed_on}
use Rattle.wb_store.proofs.FindsLemmas.{fails_to_find, finds_from, finds_looked_up}
use Rattle.wb_office.proofs.RemovalLemmas.{held_of_counts}
use Rattle.wb_office.proofs.removing.find_held.Goals as goal

pub returns-in_err-counts : goal.returns-in_err-counts
returns-in_err-counts g c = record {
  finds = fails_to_find (finds_looked_up (Err _) c.in_err-counts.ensures.looks_up)
      (handed_on c.from_residual.result c.from_residual.ensures.1);
}

pub returns : goal.returns
returns g c = record {
  finds = finds_from (finds_looked_up (Ok _) c.in_ok-counts.ensures.looks_up) (λ machine sound are.
      c.has_held.ensures.value ∙ held_of_counts machine c.args.removal.now _ sound are);
}
