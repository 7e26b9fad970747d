use Rattle.std.proofs.Common.{◌≡◌, ◌∙◌, Ok, Err, IfSome, ap, subst, sym}
use Rattle.wb_states.specs.Lookups.{counts_of}
use Rattle.wb_store.proofs.ReadLemmas.{handed_on}
use Rattle.wb_store.proofs.FindsLemmas.{fails_to_find, finds_from, finds_looked_up, finds_unasked, lacks_memory}
use Rattle.wb_office.proofs.SummaryLemmas.{known_with}
use Rattle.wb_office.proofs.known.find_counts.Goals as goal

pub returns-in-Some-clause-finds : goal.returns-in-Some-clause-finds
returns-in-Some-clause-finds g c = finds_unasked (λ machine sound knows. (
  subst (λ found. IfSome found (λ counts. counts ≡ counts_of machine c.args.arch.now))
      (sym c.in-Some.ensures.value) (knows.summaries c.args.arch.now),
  knows,
))

pub returns-in_err-counts-clause-finds : goal.returns-in_err-counts-clause-finds
returns-in_err-counts-clause-finds g c =
    fails_to_find (finds_looked_up (Err _) c.in_err-counts.ensures.looks_up)
    (handed_on c.from_residual.result c.from_residual.ensures.1)

pub returns-in_err-name-clause-finds : goal.returns-in_err-name-clause-finds
returns-in_err-name-clause-finds g c =
    lacks_memory (finds_looked_up (Ok _) c.in_ok-counts.ensures.looks_up)
    (handed_on c.from_residual-in_err-name.result c.from_residual-in_err-name.ensures.1)

pub returns-in_err-insert-clause-finds : goal.returns-in_err-insert-clause-finds
returns-in_err-insert-clause-finds g c =
    lacks_memory (finds_looked_up (Ok _) c.in_ok-counts.ensures.looks_up)
    (handed_on c.from_residual-in_err-insert.result c.from_residual-in_err-insert.ensures.1)

pub returns-clause-finds : goal.returns-clause-finds
returns-clause-finds g c = finds_from (finds_looked_up (Ok _) c.in_ok-counts.ensures.looks_up)
    (λ machine sound found knows. (
      found,
      record {
        counts = knows.counts;
        archs = knows.archs;
        summaries = known_with machine c.in_ok-name.name c.in_ok-counts.counts c.args.known.now.summaries c.insert.new.self
            (found ∙ ap (counts_of machine)
            (sym c.in_ok-name.ensures.cases)) c.in_ok-insert.ensures.updates.0 knows.summaries;
      },
    ))
