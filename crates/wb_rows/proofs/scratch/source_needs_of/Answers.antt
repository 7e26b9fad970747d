use Rattle.wb_rows.proofs.FaultLemmas.{passed}
use Rattle.wb_rows.proofs.ScratchLemmas.{no_source_depends, no_source_depends_arch}
use Rattle.wb_rows.proofs.scratch.source_needs_of.Goals as goal

pub returns-in_err-depends-clause-refused : goal.returns-in_err-depends-clause-refused
returns-in_err-depends-clause-refused c =
    passed _ c.from_residual.result c.from_residual.ensures.1 (λ is. no_source_depends c.args.row.now (c.in_err-depends.ensures.refused is))

pub returns-in_err-depends_arch-clause-refused : goal.returns-in_err-depends_arch-clause-refused
returns-in_err-depends_arch-clause-refused c =
    passed _ c.from_residual-in_err-depends_arch.result c.from_residual-in_err-depends_arch.ensures.1 (λ is. no_source_depends_arch c.args.row.now (c.in_err-depends_arch.ensures.refused is))
