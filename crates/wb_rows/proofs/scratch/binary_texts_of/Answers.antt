use Rattle.wb_rows.proofs.FaultLemmas.{passed}
use Rattle.wb_rows.proofs.ScratchLemmas.{no_binary_version, no_binary_source}
use Rattle.wb_rows.proofs.scratch.binary_texts_of.Goals as goal

pub returns-in_err-version-clause-refused : goal.returns-in_err-version-clause-refused
returns-in_err-version-clause-refused c =
    passed _ c.from_residual.result c.from_residual.ensures.1 (λ is. no_binary_version c.args.row.now (c.in_err-version.ensures.refused is))

pub returns-in_err-source-clause-refused : goal.returns-in_err-source-clause-refused
returns-in_err-source-clause-refused c =
    passed _ c.from_residual-in_err-source.result c.from_residual-in_err-source.ensures.1 (λ is. no_binary_source c.args.row.now (c.in_err-source.ensures.refused is))
