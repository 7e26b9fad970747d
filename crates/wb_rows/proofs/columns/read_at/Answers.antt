use Rattle.wb_rows.proofs.FaultLemmas.{turned}
use Rattle.wb_rows.proofs.columns.read_at.Goals as goal

pub returns-in_err-value-clause-refused : goal.returns-in_err-value-clause-refused
returns-in_err-value-clause-refused g c =
    turned c.from_residual.result c.from_residual.ensures.1 (λ other. c.in_err-value.ensures.kind other c.requires)
