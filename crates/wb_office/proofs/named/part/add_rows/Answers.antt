use Rattle.std.proofs.Common.{[], ◌∷◌, sym, ap, ◌∙◌, map as each}
use Rattle.std.proofs.lemmas.List.{map-append}
use Rattle.wb_states.specs.Lookups.{entry_of}
use Rattle.wb_office.specs.Sought.{with_entries}
use Rattle.wb_office.proofs.SoughtLemmas.{with_entries-push}
use Rattle.wb_office.proofs.named.part.add_rows.Goals as goal

pub loop-row-preserved : goal.loop-row-preserved
loop-row-preserved c =
    let left = c.pop.new.self.items in
    let store = c.loop-row.store in
    let row = c.in-Some.row in
    ap (λ m. with_entries m (each entry_of left)) c.in_ok-add_row.ensures.ok ∙ sym (with_entries-push store (each entry_of left) (entry_of row))
    ∙ ap (with_entries store) (sym (ap (each entry_of) c.in-Some.ensures.items ∙ map-append entry_of left (row ∷ []))) ∙ c.loop-row.invariant
