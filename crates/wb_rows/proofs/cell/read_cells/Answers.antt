use Rattle.std.proofs.Common.{◌≡◌, ◌<◌, length, arith, ◌+◌, ◌∷◌, [], ap, ◌∙◌}
use Rattle.wb_rows.proofs.FaultLemmas.{passed}
use Rattle.wb_rows.proofs.ShownLemmas.{column_read, none_shown, whole_row}
use Rattle.std.proofs.lemmas.List.{length-append}
use Rattle.wb_rows.proofs.cell.read_cells.Goals as goal

pub returns-in_err-cell-clause-refused : goal.returns-in_err-cell-clause-refused
returns-in_err-cell-clause-refused c =
    let within : c.loop-at.at < length c.args.row.now = omega arith in
    passed _ c.from_residual.result c.from_residual.ensures.1 (λ is. none_shown c.args.row.now c.loop-at.at within (c.in_err-cell.ensures.refused is))

pub loop-at-preserved : goal.loop-at-preserved
loop-at-preserved c = record {
  count = ap length c.in_ok-push.ensures.items ∙ length-append c.loop-at.cells.items (c.in_ok-cell.cell ∷ []) ∙ ap (λ n. n + 1) c.loop-at.invariant.count;
  columns = column_read c.args.row.now c.loop-at.cells.items c.push.new.self.items c.in_ok-cell.cell c.loop-at.at c.loop-at.invariant.count c.loop-at.invariant.columns c.in_ok-push.ensures.items c.in_ok-cell.ensures.value;
}

pub returns-clause-value : goal.returns-clause-value
returns-clause-value c =
    let count : length c.loop-at.cells.items ≡ length c.args.row.now = omega arith in
    whole_row c.args.row.now c.loop-at.cells.items count c.loop-at.invariant.columns
