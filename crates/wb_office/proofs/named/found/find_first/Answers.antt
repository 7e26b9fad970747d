use Rattle.std.proofs.Common.{ap, sym, ◌∙◌}
use Rattle.wb_office.specs.Sought.{first_named}
use Rattle.wb_store.proofs.FindsLemmas.{finds_looked_up, finds_weaker}
use Rattle.wb_office.proofs.named.found.find_first.Goals as goal

pub returns-in-Taken : goal.returns-in-Taken
returns-in-Taken g c = record {
  finds = finds_weaker c.by_take.result (finds_looked_up c.by_take.result c.by_take.ensures.looks_up)
      (λ machine row sound is. is sound ∙ ap (first_named machine) (sym c.in-Taken.is));
}

pub returns-in-Head : goal.returns-in-Head
returns-in-Head g c = record {
  finds = finds_weaker c.head.result (finds_looked_up c.head.result c.head.ensures.looks_up)
      (λ machine row sound is. is sound ∙ ap (first_named machine) (sym c.in-Head.is));
}
