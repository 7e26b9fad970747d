use Rattle.wb_rows.proofs.FaultLemmas.{passed}
use Rattle.wb_rows.proofs.ReadLemmas.{no_state, no_version}
use Rattle.wb_rows.proofs.fields.standing_of.Goals as goal

pub returns-in_err-state-clause-refused : goal.returns-in_err-state-clause-refused
returns-in_err-state-clause-refused c =
    passed _ c.from_residual.result c.from_residual.ensures.1 (λ is. no_state c.args.row.now (c.in_err-state.ensures.refused is))

pub returns-in_err-version-clause-refused : goal.returns-in_err-version-clause-refused
returns-in_err-version-clause-refused c =
    passed _ c.from_residual-in_err-version.result c.from_residual-in_err-version.ensures.1 (λ is. no_version c.args.row.now (c.in_err-version.ensures.refused is))
