use Rattle.wb_rows.proofs.FaultLemmas.{passed}
use Rattle.wb_rows.proofs.ScratchLemmas.{no_source_extra}
use Rattle.wb_rows.proofs.scratch.source_flag_of.Goals as goal

pub returns-in_err-extra-clause-refused : goal.returns-in_err-extra-clause-refused
returns-in_err-extra-clause-refused c =
    passed _ c.from_residual.result c.from_residual.ensures.1 (λ is. no_source_extra c.args.row.now (c.in_err-extra.ensures.refused is))
