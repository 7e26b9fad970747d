use Rattle.std.proofs.Common.{map, sym, subst, IfErr, [], ◌∷◌}
use Rattle.std.specs.List.{AllByRecursion}
use Rattle.wb_sql.proofs.AppendLemmas.{all_append}
use Rattle.wb_archive.specs.Tables.{HasFittingTake}
use Rattle.wb_rows.specs.FirstSchema.{IsOfFirst, first_cells}
use Rattle.wb_states.specs.declared.keyed.KeyedRecord.{KeyedRecord}
use Rattle.wb_states.specs.declared.store_fault.Table.TheVariants.{SourceState}
use Rattle.wb_store.specs.Faults.{IsUnfit}
use Rattle.wb_store.specs.Lookups.{AreRowsOf}
use Rattle.wb_store.specs.Upgrading.{IsFirstEntry, first_keyed}
use Rattle.wb_store.proofs.ReadLemmas.{handed_on, row_fault, row_read}
use Rattle.wb_store.proofs.upgrading.first_records_in.Goals as goal

pub returns-in_err-first_record_in-clause-err : goal.returns-in_err-first_record_in-clause-err
returns-in_err-first_record_in-clause-err c =
    subst (λ r. IfErr r (IsUnfit SourceState (AreRowsOf first_cells IsFirstEntry c.args.rows.items))) (sym (handed_on c.from_residual.result c.from_residual.ensures.1))
    (row_fault first_cells IsFirstEntry SourceState (map first_keyed c.loop-row.made.items) c.in-Some.row c.next.new.self.rest.items c.loop-row.row-iterator.rest.items c.args.rows.items
    c.in_err-first_record_in.field-0.0 c.loop-row.invariant.0 c.in-Some.ensures.steps.0 c.in_err-first_record_in.ensures.err)

pub loop-row-preserved : goal.loop-row-preserved
loop-row-preserved c =
    let read : KeyedRecord = c.in_ok-first_record_in.field-0 in (
      row_read first_keyed c.loop-row.made.items c.push.new.self.items read c.in-Some.row c.next.new.self.rest.items c.loop-row.row-iterator.rest.items c.args.rows.items c.loop-row.invariant.0
          c.in-Some.ensures.steps.0 c.in_ok-push.ensures.items c.in_ok-first_record_in.ensures.value,
      subst (AllByRecursion (λ (read : KeyedRecord). IsOfFirst read.current × HasFittingTake read.current)) (sym c.in_ok-push.ensures.items)
          (all_append (λ (read : KeyedRecord). IsOfFirst read.current × HasFittingTake read.current) c.loop-row.made.items (read ∷ []) c.loop-row.invariant.1 (c.in_ok-first_record_in.ensures.kept, tt)),
    )
