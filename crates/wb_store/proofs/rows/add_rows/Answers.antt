use Rattle.std.proofs.Common.{sym, subst, IfErr}
use Rattle.wb_rows.specs.Shown.{AreReadableCells, values_of}
use Rattle.wb_store.specs.Faults.{IsUnfit}
use Rattle.wb_store.specs.Lookups.{AreRowsOf}
use Rattle.wb_store.proofs.ReadLemmas.{handed_on, row_fault}
use Rattle.wb_store.proofs.ShowLemmas.{row_added}
use Rattle.wb_store.proofs.rows.add_rows.Goals as goal

pub loop-row-preserved : goal.loop-row-preserved
loop-row-preserved c =
    row_added c.args.table c.args.made.now c.loop-row.made c.push.new.self c.in_ok-shown.shown c.in-Some.row c.next.new.self.rest.items c.loop-row.row-iterator.rest.items c.args.found.items c.loop-row.invariant.0
    c.loop-row.invariant.1 c.loop-row.invariant.2 c.in-Some.ensures.steps.0 c.in_ok-push.ensures.value c.in_ok-shown.ensures.value

pub returns-in_err-shown-clause-err : goal.returns-in_err-shown-clause-err
returns-in_err-shown-clause-err c =
    subst (λ r. IfErr r (IsUnfit c.args.table (AreRowsOf values_of AreReadableCells c.args.found.items))) (sym (handed_on c.from_residual.result c.from_residual.ensures.1))
    (row_fault values_of AreReadableCells c.args.table c.loop-row.invariant.0 c.in-Some.row c.next.new.self.rest.items c.loop-row.row-iterator.rest.items c.args.found.items c.in_err-shown.field-0.0
    c.loop-row.invariant.1 c.in-Some.ensures.steps.0 c.in_err-shown.ensures.err)
