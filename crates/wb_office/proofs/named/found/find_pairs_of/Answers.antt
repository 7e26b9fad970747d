use Rattle.std.proofs.Common.{Ok, Err, ap, map, ◌∙◌}
use Rattle.wb_store.proofs.ReadLemmas.{handed_on}
use Rattle.wb_store.proofs.FindsLemmas.{fails_to_find, finds_from, finds_looked_up, lacks_memory}
use Rattle.wb_office.proofs.named.found.find_pairs_of.Goals as goal

pub returns-in_err-archs : goal.returns-in_err-archs
returns-in_err-archs g c = record {
  finds = fails_to_find (finds_looked_up (Err _) c.in_err-archs.ensures.looks_up) (handed_on c.from_residual.result c.from_residual.ensures.1);
}

pub returns-in_err-pairs_with : goal.returns-in_err-pairs_with
returns-in_err-pairs_with g c = record {
  finds = lacks_memory (finds_looked_up (Ok _) c.in_ok-archs.ensures.looks_up)
      (handed_on c.from_residual-in_err-pairs_with.result c.from_residual-in_err-pairs_with.ensures.1);
}

pub returns : goal.returns
returns g c = record {
  finds = finds_from (finds_looked_up (Ok _) c.in_ok-archs.ensures.looks_up)
      (λ machine sound archs. c.in_ok-pairs_with.ensures.value ∙ ap (map (λ arch. (c.args.builder.now, arch))) (archs sound));
}
