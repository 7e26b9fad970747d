use Rattle.wb_rows.proofs.FaultLemmas.{passed}
use Rattle.wb_rows.proofs.ReadLemmas.{no_build_priority}
use Rattle.wb_rows.proofs.fields.urgency_of.Goals as goal

pub returns-in_err-build_priority-clause-refused : goal.returns-in_err-build_priority-clause-refused
returns-in_err-build_priority-clause-refused c =
    passed _ c.from_residual.result c.from_residual.ensures.1 (λ is. no_build_priority c.args.row.now (c.in_err-build_priority.ensures.refused is))
