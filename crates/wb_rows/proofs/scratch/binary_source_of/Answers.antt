use Rattle.wb_rows.proofs.FaultLemmas.{passed}
use Rattle.wb_rows.proofs.ScratchLemmas.{no_binary_source_version}
use Rattle.wb_rows.proofs.scratch.binary_source_of.Goals as goal

pub returns-in_err-source_version-clause-refused : goal.returns-in_err-source_version-clause-refused
returns-in_err-source_version-clause-refused c =
    passed _ c.from_residual.result c.from_residual.ensures.1 (λ is. no_binary_source_version c.args.row.now (c.in_err-source_version.ensures.refused is))
