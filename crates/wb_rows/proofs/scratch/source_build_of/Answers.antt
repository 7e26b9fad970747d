use Rattle.wb_rows.proofs.FaultLemmas.{passed}
use Rattle.wb_rows.proofs.ScratchLemmas.{no_source_version, no_source_architecture}
use Rattle.wb_rows.proofs.scratch.source_build_of.Goals as goal

pub returns-in_err-version-clause-refused : goal.returns-in_err-version-clause-refused
returns-in_err-version-clause-refused c =
    passed _ c.from_residual.result c.from_residual.ensures.1 (λ is. no_source_version c.args.row.now (c.in_err-version.ensures.refused is))

pub returns-in_err-architecture-clause-refused : goal.returns-in_err-architecture-clause-refused
returns-in_err-architecture-clause-refused c =
    passed _ c.from_residual-in_err-architecture.result c.from_residual-in_err-architecture.ensures.1 (λ is. no_source_architecture c.args.row.now (c.in_err-architecture.ensures.refused is))
