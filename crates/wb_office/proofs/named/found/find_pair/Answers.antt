use Rattle.std.proofs.Common.{Ok, Err, [], ◌∷◌, ap, ◌∙◌}
use Rattle.std.specs.Prelude.{cond}
use Rattle.wb_store.proofs.ReadLemmas.{handed_on}
use Rattle.wb_store.proofs.FindsLemmas.{fails_to_find, finds_from, finds_looked_up, lacks_memory}
use Rattle.wb_office.proofs.named.found.find_pair.Goals as goal

pub returns-in_err-is_there : goal.returns-in_err-is_there
returns-in_err-is_there g c = record {
  finds = fails_to_find (finds_looked_up (Err _) c.in_err-is_there.ensures.looks_up) (handed_on c.from_residual.result c.from_residual.ensures.1);
}

pub returns-in_err-pair_if : goal.returns-in_err-pair_if
returns-in_err-pair_if g c = record {
  finds = lacks_memory (finds_looked_up (Ok _) c.in_ok-is_there.ensures.looks_up)
      (handed_on c.from_residual-in_err-pair_if.result c.from_residual-in_err-pair_if.ensures.1);
}

pub returns : goal.returns
returns g c = record {
  finds = finds_from (finds_looked_up (Ok _) c.in_ok-is_there.ensures.looks_up)
      (λ machine sound there. c.in_ok-pair_if.ensures.value ∙ ap (λ b. cond b ((c.args.adds.now.name, c.args.adds.now.arch) ∷ []) []) there);
}
