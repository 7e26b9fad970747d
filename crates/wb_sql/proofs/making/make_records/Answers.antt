use Rattle.std.proofs.Common.{[], ◌∷◌, inl, inr, refl}
use Rattle.wb_sql.specs.Making.{with_record_take}
use Rattle.wb_sql.specs.Tables.{office, arch, builder, source_record}
use Rattle.wb_sql.specs.Tables.{record_order, record_take}
use Rattle.wb_sql.proofs.GrowthLemmas.{builder_grown, record_grown, order_grown}
use Rattle.wb_sql.proofs.MakingLemmas.{table_makes, index_makes, fails, tables_follow, makes_then}
use Rattle.wb_sql.proofs.StepLemmas.{source_record_is, record_order_is, record_take_is}
use Rattle.wb_sql.proofs.making.make_records.Goals as goal

pub returns-in_err-create_table : goal.returns-in_err-create_table
returns-in_err-create_table g c = record {
  makes = λ base lacks numbered. fails c.from_residual.ensures (table_makes source_record (inr (inr (inr (inl refl)))) (builder_grown base lacks numbered) (source_record_is base) c.source_record.ensures c.in_err-create_table.ensures.runs c.in_err-create_table.ensures.ok);
}

pub returns-in_err-create_index : goal.returns-in_err-create_index
returns-in_err-create_index g c = record {
  makes = λ base lacks numbered. let follows = tables_follow base.tables (with_record_take base) (office ∷ arch ∷ builder ∷ source_record ∷ []) in
      makes_then follows (table_makes source_record (inr (inr (inr (inl refl)))) (builder_grown base lacks numbered) (source_record_is base) c.source_record.ensures c.in_ok-create_table.ensures.runs c.in_ok-create_table.ensures.ok)
      (fails c.from_residual-in_err-create_index.ensures (index_makes source_record record_order (inr (inr (inr (inl refl)))) (record_grown base lacks numbered) (record_grown base lacks numbered).has.1.1.1.0 (record_order_is base) c.record_order.ensures c.in_err-create_index.ensures.runs c.in_err-create_index.ensures.ok));
}

pub returns : goal.returns
returns g c = record {
  makes = λ base lacks numbered. let follows = tables_follow base.tables (with_record_take base) (office ∷ arch ∷ builder ∷ source_record ∷ []) in
      makes_then follows (table_makes source_record (inr (inr (inr (inl refl)))) (builder_grown base lacks numbered) (source_record_is base) c.source_record.ensures c.in_ok-create_table.ensures.runs c.in_ok-create_table.ensures.ok)
      (makes_then follows (index_makes source_record record_order (inr (inr (inr (inl refl)))) (record_grown base lacks numbered) (record_grown base lacks numbered).has.1.1.1.0 (record_order_is base) c.record_order.ensures c.in_ok-create_index.ensures.runs c.in_ok-create_index.ensures.ok)
      (index_makes source_record record_take (inr (inr (inr (inr (inl refl))))) (order_grown base lacks numbered) (order_grown base lacks numbered).has.1.1.1.0 (record_take_is base) c.record_take.ensures c.create_index-2.ensures.runs c.create_index-2.ensures.ok));
}
