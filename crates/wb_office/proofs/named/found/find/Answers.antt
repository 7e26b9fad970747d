use Rattle.wb_store.proofs.ReadLemmas.{handed_on}
use Rattle.wb_store.proofs.FindsLemmas.{fails_to_find, finds_both, finds_from, then_fails}
use Rattle.wb_office.proofs.named.found.find.Goals as goal

pub returns-in_err-first : goal.returns-in_err-first
returns-in_err-first g c = record { finds = fails_to_find c.in_err-first.ensures.finds (handed_on c.from_residual.result c.from_residual.ensures.1) }

pub returns-in_err-others : goal.returns-in_err-others
returns-in_err-others g c = record {
  finds = then_fails c.in_ok-first.ensures.finds c.in_err-others.ensures.finds (handed_on c.from_residual-in_err-others.result c.from_residual-in_err-others.ensures.1);
}

pub returns-in_err-pairs : goal.returns-in_err-pairs
returns-in_err-pairs g c = record {
  finds = then_fails (finds_both c.in_ok-first.ensures.finds c.in_ok-others.ensures.finds) c.in_err-pairs.ensures.finds
      (handed_on c.from_residual-in_err-pairs.result c.from_residual-in_err-pairs.ensures.1);
}

pub returns : goal.returns
returns g c = record {
  finds = finds_from (finds_both (finds_both c.in_ok-first.ensures.finds c.in_ok-others.ensures.finds) c.in_ok-pairs.ensures.finds) (λ machine sound is own. record {
    handed = own.0.0;
    accepted = own.0.1;
    archs = own.1;
    first = is.0.0;
    others = is.0.1;
    pairs = is.1;
  });
}
