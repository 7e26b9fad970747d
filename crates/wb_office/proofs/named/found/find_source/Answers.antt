use Rattle.std.proofs.Common.{ap, ◌∙◌, option_map, Ok, Err}
use Rattle.wb_store.proofs.ReadLemmas.{handed_on}
use Rattle.wb_store.proofs.FindsLemmas.{fails_to_find, finds_from, finds_looked_up, lacks_memory}
use Rattle.wb_office.proofs.SoughtLemmas.{found_named}
use Rattle.wb_office.proofs.named.found.find_source.Goals as goal

pub returns-in_err-found : goal.returns-in_err-found
returns-in_err-found g c = record {
  finds = fails_to_find (finds_looked_up (Err _) c.in_err-found.ensures.looks_up) (handed_on c.from_residual.result c.from_residual.ensures.1);
}

pub returns-in_err-keyed : goal.returns-in_err-keyed
returns-in_err-keyed g c = record {
  finds = lacks_memory (finds_looked_up (Ok _) c.in_ok-found.ensures.looks_up)
      (handed_on c.from_residual-in_err-keyed.result c.from_residual-in_err-keyed.ensures.1);
}

pub returns : goal.returns
returns g c =
    let arch = c.args.arch.now in
    let source = c.args.source.now in
    record {
      finds = finds_from (finds_looked_up (Ok _) c.in_ok-found.ensures.looks_up)
          (λ machine sound is.
          c.in_ok-keyed.ensures.value ∙ ap (option_map (λ current. ((arch, source), current))) is
          ∙ found_named machine arch source);
    }
