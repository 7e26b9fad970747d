use Rattle.wb_rows.proofs.FaultLemmas.{passed}
use Rattle.wb_rows.proofs.ReadLemmas.{no_waits, no_depends}
use Rattle.wb_rows.proofs.fields.needs_of.Goals as goal

pub returns-in_err-waits-clause-refused : goal.returns-in_err-waits-clause-refused
returns-in_err-waits-clause-refused c =
    passed _ c.from_residual.result c.from_residual.ensures.1 (λ is. no_waits c.args.row.now (c.in_err-waits.ensures.refused is))

pub returns-in_err-depends-clause-refused : goal.returns-in_err-depends-clause-refused
returns-in_err-depends-clause-refused c =
    passed _ c.from_residual-in_err-depends.result c.from_residual-in_err-depends.ensures.1 (λ is. no_depends c.args.row.now (c.in_err-depends.ensures.refused is))
