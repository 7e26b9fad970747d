use Rattle.std.proofs.Common.{ap, sym, ◌∙◌}
use Rattle.wb_office.specs.Sought.{others_named}
use Rattle.wb_store.proofs.FindsLemmas.{finds_looked_up, finds_weaker}
use Rattle.wb_office.proofs.SoughtLemmas.{held_again-some}
use Rattle.wb_office.proofs.named.found.find_others.Goals as goal

pub returns-in-Head : goal.returns-in-Head
returns-in-Head g c =
    let next = c.in-Head.next.now in
    record {
      finds = finds_weaker c.held_by.result (finds_looked_up c.held_by.result c.held_by.ensures.looks_up)
          (λ machine rows sound is.
          is.whole sound ∙ held_again-some machine next.builder next.after (sym c.is_some.ensures ∙ c.if-is_some.true)
          ∙ ap (others_named machine) (sym c.in-Head.is));
    }

pub returns-in-Held : goal.returns-in-Held
returns-in-Held g c = record {
  finds = finds_weaker c.held_by-in-Held.result (finds_looked_up c.held_by-in-Held.result
      c.held_by-in-Held.ensures.looks_up)
      (λ machine rows sound is. is.whole sound ∙ ap (others_named machine) (sym c.in-Held.is));
}
