use Rattle.wb_rows.proofs.FaultLemmas.{passed}
use Rattle.wb_rows.proofs.ReadLemmas.{no_holder, no_take}
use Rattle.wb_rows.proofs.fields.hold_of.Goals as goal

pub returns-in_err-holder-clause-refused : goal.returns-in_err-holder-clause-refused
returns-in_err-holder-clause-refused c =
    passed _ c.from_residual.result c.from_residual.ensures.1 (λ is. no_holder c.args.row.now (c.in_err-holder.ensures.refused is))

pub returns-in_err-take-clause-refused : goal.returns-in_err-take-clause-refused
returns-in_err-take-clause-refused c =
    passed _ c.from_residual-in_err-take.result c.from_residual-in_err-take.ensures.1 (λ is. no_take c.args.row.now (c.in_err-take.ensures.refused is))
