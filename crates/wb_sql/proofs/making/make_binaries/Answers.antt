use Rattle.std.proofs.Common.{[], ◌∷◌, inl, inr, refl}
use Rattle.wb_sql.specs.Making.{with_tables}
use Rattle.wb_sql.specs.Tables.{office, arch, builder, source_record, scratch_source, scratch_binary}
use Rattle.wb_sql.specs.Tables.{binary_name, binary_source}
use Rattle.wb_sql.proofs.GrowthLemmas.{source_name_grown, binary_grown, binary_source_grown}
use Rattle.wb_sql.proofs.MakingLemmas.{table_makes, index_makes, fails, tables_follow, makes_then}
use Rattle.wb_sql.proofs.StepLemmas.{scratch_binary_is, binary_source_is, binary_name_is}
use Rattle.wb_sql.proofs.making.make_binaries.Goals as goal

pub returns-in_err-create_table : goal.returns-in_err-create_table
returns-in_err-create_table g c = record {
  makes = λ base lacks numbered. fails c.from_residual.ensures (table_makes scratch_binary (inr (inr (inr (inr (inr (inl refl)))))) (source_name_grown base lacks numbered) (scratch_binary_is base) c.scratch_binary.ensures c.in_err-create_table.ensures.runs c.in_err-create_table.ensures.ok);
}

pub returns-in_err-create_index : goal.returns-in_err-create_index
returns-in_err-create_index g c = record {
  makes = λ base lacks numbered. let follows = tables_follow base.tables (with_tables base) (office ∷ arch ∷ builder ∷ source_record ∷ scratch_source ∷ scratch_binary ∷ []) in
      makes_then follows (table_makes scratch_binary (inr (inr (inr (inr (inr (inl refl)))))) (source_name_grown base lacks numbered) (scratch_binary_is base) c.scratch_binary.ensures c.in_ok-create_table.ensures.runs c.in_ok-create_table.ensures.ok)
      (fails c.from_residual-in_err-create_index.ensures (index_makes scratch_binary binary_source (inr (inr (inr (inr (inr (inr (inl refl))))))) (binary_grown base lacks numbered) (binary_grown base lacks numbered).has.1.1.1.1.1.0 (binary_source_is base) c.binary_source.ensures c.in_err-create_index.ensures.runs c.in_err-create_index.ensures.ok));
}

pub returns : goal.returns
returns g c = record {
  makes = λ base lacks numbered. let follows = tables_follow base.tables (with_tables base) (office ∷ arch ∷ builder ∷ source_record ∷ scratch_source ∷ scratch_binary ∷ []) in
      makes_then follows (table_makes scratch_binary (inr (inr (inr (inr (inr (inl refl)))))) (source_name_grown base lacks numbered) (scratch_binary_is base) c.scratch_binary.ensures c.in_ok-create_table.ensures.runs c.in_ok-create_table.ensures.ok)
      (makes_then follows (index_makes scratch_binary binary_source (inr (inr (inr (inr (inr (inr (inl refl))))))) (binary_grown base lacks numbered) (binary_grown base lacks numbered).has.1.1.1.1.1.0 (binary_source_is base) c.binary_source.ensures c.in_ok-create_index.ensures.runs c.in_ok-create_index.ensures.ok)
      (index_makes scratch_binary binary_name (inr (inr (inr (inr (inr (inr (inr (inl refl)))))))) (binary_source_grown base lacks numbered) (binary_source_grown base lacks numbered).has.1.1.1.1.1.0 (binary_name_is base) c.binary_name.ensures c.create_index-2.ensures.runs c.create_index-2.ensures.ok));
}
