use Rattle.std.proofs.Common.{[], ◌∷◌, inl, inr, refl}
use Rattle.wb_sql.specs.Making.{with_source_name}
use Rattle.wb_sql.specs.Tables.{office, arch, builder, source_record, scratch_source}
use Rattle.wb_sql.specs.Tables.{source_name}
use Rattle.wb_sql.proofs.GrowthLemmas.{take_grown, source_grown}
use Rattle.wb_sql.proofs.MakingLemmas.{table_makes, index_makes, fails, tables_follow, makes_then}
use Rattle.wb_sql.proofs.StepLemmas.{scratch_source_is, source_name_is}
use Rattle.wb_sql.proofs.making.make_sources.Goals as goal

pub returns-in_err-create_table : goal.returns-in_err-create_table
returns-in_err-create_table g c = record {
  makes = λ base lacks numbered. fails c.from_residual.ensures (table_makes scratch_source (inr (inr (inr (inr (inl refl))))) (take_grown base lacks numbered) (scratch_source_is base) c.scratch_source.ensures c.in_err-create_table.ensures.runs c.in_err-create_table.ensures.ok);
}

pub returns : goal.returns
returns g c = record {
  makes = λ base lacks numbered. let follows = tables_follow base.tables (with_source_name base) (office ∷ arch ∷ builder ∷ source_record ∷ scratch_source ∷ []) in
      makes_then follows (table_makes scratch_source (inr (inr (inr (inr (inl refl))))) (take_grown base lacks numbered) (scratch_source_is base) c.scratch_source.ensures c.in_ok-create_table.ensures.runs c.in_ok-create_table.ensures.ok)
      (index_makes scratch_source source_name (inr (inr (inr (inr (inr (inl refl)))))) (source_grown base lacks numbered) (source_grown base lacks numbered).has.1.1.1.1.0 (source_name_is base) c.source_name.ensures c.create_index.ensures.runs c.create_index.ensures.ok);
}
