use Rattle.wb_rows.proofs.FaultLemmas.{passed}
use Rattle.wb_rows.proofs.ScratchLemmas.{no_binary_seq, no_binary_name}
use Rattle.wb_rows.proofs.scratch.binary_place_of.Goals as goal

pub returns-in_err-seq-clause-refused : goal.returns-in_err-seq-clause-refused
returns-in_err-seq-clause-refused c =
    passed _ c.from_residual.result c.from_residual.ensures.1 (λ is. no_binary_seq c.args.row.now (c.in_err-seq.ensures.refused is))

pub returns-in_err-name-clause-refused : goal.returns-in_err-name-clause-refused
returns-in_err-name-clause-refused c =
    passed _ c.from_residual-in_err-name.result c.from_residual-in_err-name.ensures.1 (λ is. no_binary_name c.args.row.now (c.in_err-name.ensures.refused is))
