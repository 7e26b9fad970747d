use Rattle.std.proofs.Common.{Ok, Err}
use Rattle.wb_store.proofs.ReadLemmas.{handed_on}
use Rattle.wb_office.proofs.AskLemmas.{unknown-is}
use Rattle.wb_store.proofs.FindsLemmas.{fails_to_find, finds_from, finds_looked_up}
use Rattle.wb_office.proofs.query.is_unknown_arch.Goals as goal

pub returns-in_err-words : goal.returns-in_err-words
returns-in_err-words g c = record { finds = fails_to_find (finds_looked_up (Err _) c.in_err-words.ensures.looks_up) (handed_on c.from_residual.result c.from_residual.ensures.1) }

pub returns : goal.returns
returns g c = record {
  finds = finds_from (finds_looked_up (Ok _) c.in_ok-words.ensures.looks_up) (λ machine sound words. unknown-is machine c.args.arch.now c.in_ok-words.words c.is_none.result words c.is_none.ensures);
}
