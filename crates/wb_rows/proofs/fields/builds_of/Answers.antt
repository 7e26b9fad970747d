use Rattle.wb_rows.proofs.FaultLemmas.{passed}
use Rattle.wb_rows.proofs.ReadLemmas.{no_earlier, no_number}
use Rattle.wb_rows.proofs.fields.builds_of.Goals as goal

pub returns-in_err-earlier-clause-refused : goal.returns-in_err-earlier-clause-refused
returns-in_err-earlier-clause-refused c =
    passed _ c.from_residual.result c.from_residual.ensures.1 (λ is. no_earlier c.args.row.now (c.in_err-earlier.ensures.refused is))

pub returns-in_err-number-clause-refused : goal.returns-in_err-number-clause-refused
returns-in_err-number-clause-refused c =
    passed _ c.from_residual-in_err-number.result c.from_residual-in_err-number.ensures.1 (λ is. no_number c.args.row.now (c.in_err-number.ensures.refused is))
