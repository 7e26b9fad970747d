use Rattle.wb_rows.proofs.FaultLemmas.{passed}
use Rattle.wb_rows.proofs.ScratchLemmas.{no_binary_number, no_binary_own}
use Rattle.wb_rows.proofs.scratch.binary_number_of.Goals as goal

pub returns-in_err-number-clause-refused : goal.returns-in_err-number-clause-refused
returns-in_err-number-clause-refused c =
    passed _ c.from_residual.result c.from_residual.ensures.1 (λ is. no_binary_number c.args.row.now (c.in_err-number.ensures.refused is))

pub returns-in_err-kind-clause-refused : goal.returns-in_err-kind-clause-refused
returns-in_err-kind-clause-refused c =
    passed _ c.from_residual-in_err-kind.result c.from_residual-in_err-kind.ensures.1 (λ is. no_binary_own c.args.row.now (c.in_err-kind.ensures.refused is))
