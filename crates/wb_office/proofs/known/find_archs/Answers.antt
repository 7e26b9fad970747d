use Rattle.std.proofs.Common.{Ok, Err, ◌∙◌}
use Rattle.wb_store.proofs.ReadLemmas.{handed_on}
use Rattle.wb_store.specs.Finds.{Finds}
use Rattle.wb_store.proofs.FindsLemmas.{fails_to_find, finds_from, finds_looked_up, finds_unasked, lacks_memory}
use Rattle.wb_office.proofs.known.find_archs.Goals as goal

pub returns-in_err-copied-clause-finds : goal.returns-in_err-copied-clause-finds
returns-in_err-copied-clause-finds g c =
    let nothing : Finds g.S.Store (λ machine (x : Unit {0}). Unit {0}) c.args.store.now c.args.store.now (Ok tt) = finds_unasked (λ machine sound. tt) in
    lacks_memory nothing (handed_on c.from_residual.result c.from_residual.ensures.1)

pub returns-in_err-found-clause-finds : goal.returns-in_err-found-clause-finds
returns-in_err-found-clause-finds g c =
    fails_to_find (finds_looked_up (Err _) c.in_err-found.ensures.looks_up) (handed_on c.from_residual-in_err-found.result c.from_residual-in_err-found.ensures.1)

pub returns-in_err-archs-clause-finds : goal.returns-in_err-archs-clause-finds
returns-in_err-archs-clause-finds g c =
    lacks_memory (finds_looked_up (Ok _) c.in_ok-found.ensures.looks_up) (handed_on c.from_residual-in_err-archs.result c.from_residual-in_err-archs.ensures.1)

pub returns-clause-finds : goal.returns-clause-finds
returns-clause-finds g c = finds_from (finds_looked_up (Ok _) c.in_ok-found.ensures.looks_up)
    (λ machine sound found knows. (
      c.in_ok-archs.ensures.value ∙ c.deref-2.ensures.value
          ∙ found,
      record { counts = knows.counts; archs = found; summaries = knows.summaries },
    ))
