use Rattle.std.proofs.Common.{Ok, Err, ◌∙◌}
use Rattle.wb_store.proofs.ReadLemmas.{handed_on}
use Rattle.wb_office.proofs.AskLemmas.{holder-found}
use Rattle.wb_store.proofs.FindsLemmas.{fails_to_find, finds_from, finds_looked_up}
use Rattle.wb_office.proofs.query.find_holder.Goals as goal

pub returns-in_err-found : goal.returns-in_err-found
returns-in_err-found g c = record {
  finds = fails_to_find (finds_looked_up (Err _) c.in_err-found.ensures.looks_up)
      (handed_on c.from_residual.result c.from_residual.ensures.1);
}

pub returns : goal.returns
returns g c = record {
  finds = finds_from (finds_looked_up (Ok _) c.in_ok-found.ensures.looks_up)
      (λ machine sound taken. c.holder_in.ensures.value
      ∙ holder-found machine c.args.take_number c.in_ok-found.found (taken sound));
}
