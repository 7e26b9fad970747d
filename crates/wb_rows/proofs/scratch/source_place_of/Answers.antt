use Rattle.wb_rows.proofs.FaultLemmas.{passed}
use Rattle.wb_rows.proofs.ScratchLemmas.{no_source_seq, no_source_name}
use Rattle.wb_rows.proofs.scratch.source_place_of.Goals as goal

pub returns-in_err-seq-clause-refused : goal.returns-in_err-seq-clause-refused
returns-in_err-seq-clause-refused c =
    passed _ c.from_residual.result c.from_residual.ensures.1 (λ is. no_source_seq c.args.row.now (c.in_err-seq.ensures.refused is))

pub returns-in_err-name-clause-refused : goal.returns-in_err-name-clause-refused
returns-in_err-name-clause-refused c =
    passed _ c.from_residual-in_err-name.result c.from_residual-in_err-name.ensures.1 (λ is. no_source_name c.args.row.now (c.in_err-name.ensures.refused is))
