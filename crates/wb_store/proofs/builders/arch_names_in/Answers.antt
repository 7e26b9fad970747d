use Rattle.std.proofs.Common.{[], ◌∷◌, ◌++◌, map, refl, sym, ap, subst, IfErr, ◌∙◌}
use Rattle.std.proofs.lemmas.List.{map-append}
use Rattle.wb_rows.specs.Cells.{builder_cells}
use Rattle.wb_states.specs.Machine.{Key}
use Rattle.wb_states.specs.declared.store_fault.Table.TheVariants.{Builder}
use Rattle.wb_store.specs.Faults.{IsUnfit}
use Rattle.wb_store.specs.Lookups.{ArePairs, IsReadablePair}
use Rattle.wb_store.proofs.ReadLemmas.{handed_on, row_fault, row_read}
use Rattle.wb_store.proofs.builders.arch_names_in.Goals as goal

pub returns-in_err-arch-clause-err : goal.returns-in_err-arch-clause-err
returns-in_err-arch-clause-err c =
    subst (λ r. IfErr r (IsUnfit Builder (ArePairs c.args.rows.items))) (sym (handed_on c.from_residual.result c.from_residual.ensures.1))
    (row_fault builder_cells IsReadablePair Builder (map builder_cells c.loop-row.invariant.0) c.in-Some.row c.next.new.self.rest.items c.loop-row.row-iterator.rest.items c.args.rows.items c.in_err-arch.field-0.0
    c.loop-row.invariant.1 c.in-Some.ensures.steps.0 c.in_err-arch.ensures.err)

pub loop-row-preserved : goal.loop-row-preserved
loop-row-preserved c =
    let before = c.loop-row.invariant.0 in
    let pair : Key = (c.in_ok-arch.field-0-0, c.in_ok-arch.arch) in (
      before ++ pair ∷ [],
      row_read builder_cells before (before ++ pair ∷ []) pair c.in-Some.row c.next.new.self.rest.items c.loop-row.row-iterator.rest.items c.args.rows.items c.loop-row.invariant.1
          c.in-Some.ensures.steps.0 refl c.in_ok-arch.ensures.value,
      c.in_ok-push.ensures.items ∙ ap (λ l. l ++ c.in_ok-arch.arch ∷ []) c.loop-row.invariant.2 ∙ sym (map-append (λ (p : Key). p.1) before (pair ∷ [])),
    )
