use Rattle.std.proofs.Common.{map, sym, subst, IfErr, IsUtf8}
use Rattle.wb_rows.specs.Scratch.{name_cells}
use Rattle.wb_store.specs.Faults.{IsUnfit}
use Rattle.wb_store.specs.ScratchLookups.{AreNames}
use Rattle.wb_store.proofs.ReadLemmas.{handed_on, row_fault, row_read}
use Rattle.wb_store.proofs.reading.names_in.Goals as goal

pub returns-in_err-name_in-clause-err : goal.returns-in_err-name_in-clause-err
returns-in_err-name_in-clause-err c =
    subst (λ r. IfErr r (IsUnfit c.args.table (AreNames c.args.rows.items))) (sym
    (handed_on c.from_residual.result c.from_residual.ensures.1))
    (row_fault name_cells IsUtf8 c.args.table
    (map name_cells c.loop-row.made.items) c.in-Some.row c.next.new.self.rest.items
    c.loop-row.row-iterator.rest.items c.args.rows.items c.in_err-name_in.field-0.0
    c.loop-row.invariant c.in-Some.ensures.steps.0 c.in_err-name_in.ensures.err)

pub loop-row-preserved : goal.loop-row-preserved
loop-row-preserved c =
    row_read name_cells c.loop-row.made.items c.push.new.self.items c.in_ok-name_in.field-0 c.in-Some.row
    c.next.new.self.rest.items c.loop-row.row-iterator.rest.items c.args.rows.items c.loop-row.invariant
    c.in-Some.ensures.steps.0 c.in_ok-push.ensures.items c.in_ok-name_in.ensures.value
