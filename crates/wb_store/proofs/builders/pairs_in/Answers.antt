use Rattle.std.proofs.Common.{map, sym, subst, IfErr}
use Rattle.wb_rows.specs.Cells.{builder_cells}
use Rattle.wb_states.specs.declared.store_fault.Table.TheVariants.{Builder}
use Rattle.wb_store.specs.Faults.{IsUnfit}
use Rattle.wb_store.specs.Lookups.{ArePairs, IsReadablePair}
use Rattle.wb_store.proofs.ReadLemmas.{handed_on, row_fault, row_read}
use Rattle.wb_store.proofs.builders.pairs_in.Goals as goal

pub returns-in_err-pair_in-clause-err : goal.returns-in_err-pair_in-clause-err
returns-in_err-pair_in-clause-err c =
    subst (λ r. IfErr r (IsUnfit Builder (ArePairs c.args.rows.items))) (sym
    (handed_on c.from_residual.result c.from_residual.ensures.1))
    (row_fault builder_cells IsReadablePair Builder
    (map builder_cells c.loop-row.made.items) c.in-Some.row c.next.new.self.rest.items
    c.loop-row.row-iterator.rest.items c.args.rows.items c.in_err-pair_in.field-0.0
    c.loop-row.invariant c.in-Some.ensures.steps.0 c.in_err-pair_in.ensures.err)

pub loop-row-preserved : goal.loop-row-preserved
loop-row-preserved c =
    row_read builder_cells c.loop-row.made.items c.push.new.self.items c.in_ok-pair_in.field-0 c.in-Some.row
    c.next.new.self.rest.items c.loop-row.row-iterator.rest.items c.args.rows.items c.loop-row.invariant
    c.in-Some.ensures.steps.0 c.in_ok-push.ensures.items c.in_ok-pair_in.ensures.value
