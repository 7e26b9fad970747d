use Rattle.std.proofs.Common.{◌≡◌, ◌∙◌, ap, sym}
use Rattle.sqlite.specs.Order.{column}
use Rattle.wb_rows.specs.Reading.{text_cell}
use Rattle.wb_rows.proofs.FaultLemmas.{passed, turned}
use Rattle.wb_rows.proofs.ValueLemmas.{no_version, no_version_text}
use Rattle.wb_rows.proofs.columns.version_at.Goals as goal

pub returns-in_err-text-clause-refused : goal.returns-in_err-text-clause-refused
returns-in_err-text-clause-refused c =
    passed _ c.from_residual.result c.from_residual.ensures.1 (λ is. no_version_text (column c.args.row.now c.args.at) (c.in_err-text.ensures.refused is))

pub returns-in_err-version-clause-refused : goal.returns-in_err-version-clause-refused
returns-in_err-version-clause-refused c =
    let same : column c.args.row.now c.args.at ≡ text_cell c.as_str.result.now = c.in_ok-text.ensures.value ∙ ap text_cell (sym c.as_str.ensures.value) in
    turned c.from_residual-in_err-version.result c.from_residual-in_err-version.ensures.1
    (λ other. no_version (column c.args.row.now c.args.at) c.as_str.result.now _ same (c.in_err-version.ensures.refused other))
