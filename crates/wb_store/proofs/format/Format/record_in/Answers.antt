use Rattle.std.proofs.Common.{◌≡◌, IfOk, IfSome, subst, sym}
use Rattle.wb_states.specs.Lookups.{entry_of}
use Rattle.wb_store.specs.Schemas.{IsKeptIn, cells_in}
use Rattle.wb_store.proofs.format.Format.record_in.Goals as goal

pub returns-in-One-clause-value : goal.returns-in-One-clause-value
returns-in-One-clause-value c =
    subst (λ format. IfOk c.first_record_of.result (λ found. IfSome found (λ made. (c.args.row.now ≡ cells_in format (entry_of made)) × IsKeptIn format made.current)))
    (sym c.in-One.is) c.first_record_of.ensures.value
