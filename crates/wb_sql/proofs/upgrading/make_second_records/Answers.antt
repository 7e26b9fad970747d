use Rattle.std.proofs.Common.{[], ◌∷◌, inl, inr, refl}
use Rattle.wb_sql.specs.Tables.{source_record, record_order, record_take}
use Rattle.wb_sql.specs.Upgrading.{with_second_take}
use Rattle.wb_sql.proofs.MakingLemmas.{table_makes, index_makes, fails, tables_follow, makes_then}
use Rattle.wb_sql.proofs.UpgradeLemmas.{first_grown, second_record_grown, second_order_grown, second_record_is, second_order_is, second_take_is}
use Rattle.wb_sql.proofs.upgrading.make_second_records.Goals as goal

pub returns-in_err-create_table : goal.returns-in_err-create_table
returns-in_err-create_table g c = record {
  makes = λ base first numbered. fails c.from_residual.ensures (table_makes source_record (inr (inr (inr (inl refl)))) (first_grown base first numbered) (second_record_is base) c.source_record.ensures c.in_err-create_table.ensures.runs c.in_err-create_table.ensures.ok);
}

pub returns-in_err-create_index : goal.returns-in_err-create_index
returns-in_err-create_index g c = record {
  makes = λ base first numbered. let follows = tables_follow base.tables (with_second_take base) (source_record ∷ []) in
      makes_then follows (table_makes source_record (inr (inr (inr (inl refl)))) (first_grown base first numbered) (second_record_is base) c.source_record.ensures c.in_ok-create_table.ensures.runs c.in_ok-create_table.ensures.ok)
      (fails c.from_residual-in_err-create_index.ensures (index_makes source_record record_order (inr (inr (inr (inl refl)))) (second_record_grown base first numbered) (second_record_grown base first numbered).has.0 (second_order_is base) c.record_order.ensures c.in_err-create_index.ensures.runs c.in_err-create_index.ensures.ok));
}

pub returns : goal.returns
returns g c = record {
  makes = λ base first numbered. let follows = tables_follow base.tables (with_second_take base) (source_record ∷ []) in
      makes_then follows (table_makes source_record (inr (inr (inr (inl refl)))) (first_grown base first numbered) (second_record_is base) c.source_record.ensures c.in_ok-create_table.ensures.runs c.in_ok-create_table.ensures.ok)
      (makes_then follows (index_makes source_record record_order (inr (inr (inr (inl refl)))) (second_record_grown base first numbered) (second_record_grown base first numbered).has.0 (second_order_is base) c.record_order.ensures c.in_ok-create_index.ensures.runs c.in_ok-create_index.ensures.ok)
      (index_makes source_record record_take (inr (inr (inr (inr (inl refl))))) (second_order_grown base first numbered) (second_order_grown base first numbered).has.0 (second_take_is base) c.record_take.ensures c.create_index-2.ensures.runs c.create_index-2.ensures.ok));
}
