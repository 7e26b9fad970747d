use Rattle.std.proofs.Common.{not, sym, ap, ◌∙◌, Ok, Err}
use Rattle.deb_text.specs.Lists.{is_nonempty}
use Rattle.wb_store.proofs.ReadLemmas.{handed_on}
use Rattle.wb_office.proofs.AskLemmas.{mine-is, mine-unknown, mine_with}
use Rattle.wb_store.proofs.ScratchLemmas.{counted-is_nonempty}
use Rattle.wb_store.proofs.FindsLemmas.{fails_to_find, finds_both, finds_from, finds_looked_up, finds_then}
use Rattle.wb_store.proofs.FindsLemmas.{lacks_memory, then_fails}
use Rattle.wb_office.proofs.query.find_mine.Goals as goal

pub returns-in_err-archs-clause-finds : goal.returns-in_err-archs-clause-finds
returns-in_err-archs-clause-finds g c = fails_to_find (finds_looked_up (Err _) c.in_err-archs.ensures.looks_up) (handed_on c.from_residual.result c.from_residual.ensures.1)

pub returns-in_err-held_by-clause-finds : goal.returns-in_err-held_by-clause-finds
returns-in_err-held_by-clause-finds g c = then_fails (finds_looked_up (Ok _) c.in_ok-archs.ensures.looks_up) (finds_looked_up (Err _) c.in_err-held_by.ensures.looks_up)
    (handed_on c.from_residual-in_err-held_by.result c.from_residual-in_err-held_by.ensures.1)

pub returns-in_err-builder-clause-finds : goal.returns-in_err-builder-clause-finds
returns-in_err-builder-clause-finds g c = lacks_memory (finds_both (finds_looked_up (Ok _) c.in_ok-archs.ensures.looks_up) (finds_looked_up (Ok _) c.in_ok-held_by.ensures.looks_up))
    (handed_on c.from_residual-in_err-builder.result c.from_residual-in_err-builder.ensures.1)

pub returns-clause-finds : goal.returns-clause-finds
returns-clause-finds g c = finds_then (finds_looked_up (Ok _) c.in_ok-archs.ensures.looks_up) (finds_looked_up (Ok _) c.in_ok-held_by.ensures.looks_up)
    (λ machine sound archs held. (λ i. mine_with (c.in_ok-builder.ensures.cases i) (c.from-records.ensures i))
    ∙ mine-is machine c.args.builder.now c.in_ok-held_by.field-0.items
    (ap not (ap is_nonempty (sym (archs sound)) ∙ sym (ap not c.is_empty-is_unknown.ensures
    ∙ counted-is_nonempty c.in_ok-archs.archs) ∙ ap not c.if-is_unknown.false)) (held.whole sound))

pub returns-then-is_unknown-clause-finds : goal.returns-then-is_unknown-clause-finds
returns-then-is_unknown-clause-finds g c = finds_from (finds_looked_up (Ok _) c.in_ok-archs.ensures.looks_up)
    (λ machine sound archs. mine-unknown machine c.args.builder.now
    (ap not (ap is_nonempty (sym (archs sound)) ∙ sym (ap not c.is_empty-is_unknown.ensures ∙ counted-is_nonempty c.in_ok-archs.archs) ∙ ap not c.if-is_unknown.true)))
