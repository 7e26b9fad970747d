use Rattle.wb_rows.proofs.FaultLemmas.{passed}
use Rattle.wb_rows.proofs.ReadLemmas.{no_arch, no_source}
use Rattle.wb_rows.proofs.fields.key_of.Goals as goal

pub returns-in_err-arch-clause-refused : goal.returns-in_err-arch-clause-refused
returns-in_err-arch-clause-refused c =
    passed _ c.from_residual.result c.from_residual.ensures.1 (λ is. no_arch c.args.row.now (c.in_err-arch.ensures.refused is))

pub returns-in_err-source-clause-refused : goal.returns-in_err-source-clause-refused
returns-in_err-source-clause-refused c =
    passed _ c.from_residual-in_err-source.result c.from_residual-in_err-source.ensures.1 (λ is. no_source c.args.row.now (c.in_err-source.ensures.refused is))
