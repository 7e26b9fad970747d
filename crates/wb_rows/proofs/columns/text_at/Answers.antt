use Rattle.sqlite.specs.Order.{column}
use Rattle.wb_rows.proofs.FaultLemmas.{passed}
use Rattle.wb_rows.proofs.ValueLemmas.{no_text}
use Rattle.wb_rows.proofs.columns.text_at.Goals as goal

pub returns-in_err-text-clause-refused : goal.returns-in_err-text-clause-refused
returns-in_err-text-clause-refused c =
    passed _ c.from_residual.result c.from_residual.ensures.1 (λ is. no_text (column c.args.row.now c.args.at) (c.in_err-text.ensures.refused is))
