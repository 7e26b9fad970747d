use Rattle.std.proofs.Common.{sym, subst, IfErr, arith}
use Rattle.wb_states.specs.declared.store_fault.Table.TheVariants.{Arch}
use Rattle.wb_rows.specs.Cells.{arch_cells}
use Rattle.wb_store.specs.Checks.{AreBadRows, IsFormedArch}
use Rattle.wb_store.proofs.CheckLemmas.{faulted, row_holds, row_is_bad}
use Rattle.wb_store.proofs.checks.archs.tested_archs.Goals as goal

pub returns-in_err-arch_in-clause-err : goal.returns-in_err-arch_in-clause-err
returns-in_err-arch_in-clause-err c =
    subst (λ r. IfErr r (AreBadRows Arch arch_cells IsFormedArch c.args.rows.items)) (sym (faulted c.from_residual.result c.from_residual.ensures.1))
    (row_is_bad arch_cells IsFormedArch Arch c.loop-row.made.items c.in-Some.row c.next.new.self.rest.items c.loop-row.row-iterator.rest.items c.args.rows.items _ c.in_err-arch_in.field-0.0
    c.loop-row.invariant c.in-Some.ensures.steps.0 (omega arith) c.in_err-arch_in.ensures.err)

pub loop-row-preserved : goal.loop-row-preserved
loop-row-preserved c =
    row_holds arch_cells IsFormedArch c.loop-row.made.items c.push.new.self.items c.in_ok-arch_in.field-0 c.in-Some.row c.next.new.self.rest.items c.loop-row.row-iterator.rest.items c.args.rows.items
    c.loop-row.invariant c.in-Some.ensures.steps.0 c.in_ok-push.ensures.items c.in_ok-arch_in.ensures.value
