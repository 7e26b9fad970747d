use Rattle.wb_rows.proofs.FaultLemmas.{passed}
use Rattle.wb_rows.proofs.ReadLemmas.{no_start}
use Rattle.wb_rows.proofs.fields.fields_of.Goals as goal

pub returns-in_err-shared-clause-refused : goal.returns-in_err-shared-clause-refused
returns-in_err-shared-clause-refused c =
    passed _ c.from_residual.result c.from_residual.ensures.1 (λ is. no_start c.args.row.now (c.in_err-shared.ensures.refused is))
