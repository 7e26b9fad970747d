use Rattle.std.proofs.Common.{[], ◌∷◌, inl, inr, refl}
use Rattle.wb_sql.specs.Tables.{source_record, scratch_source, scratch_binary}
use Rattle.wb_sql.specs.Tables.{source_name, binary_source, binary_name}
use Rattle.wb_sql.specs.Upgrading.{with_second}
use Rattle.wb_sql.proofs.MakingLemmas.{index_makes, fails, tables_follow, makes_then}
use Rattle.wb_sql.proofs.UpgradeLemmas.{second_take_grown, second_source_grown, second_binary_grown, second_source_is, second_binary_is, second_is}
use Rattle.wb_sql.proofs.UpgradeLemmas.{sources_there, binaries_there, binaries_still_there}
use Rattle.wb_sql.proofs.upgrading.index_scratch_tables.Goals as goal

pub returns-in_err-create_index : goal.returns-in_err-create_index
returns-in_err-create_index g c = record {
  makes = λ base first numbered. fails c.from_residual.ensures (index_makes scratch_source source_name (inr (inr (inr (inr (inr (inl refl)))))) (second_take_grown base first numbered) (sources_there base first numbered) (second_source_is base) c.source_name.ensures c.in_err-create_index.ensures.runs c.in_err-create_index.ensures.ok);
}

pub returns-in_err-create_index-2 : goal.returns-in_err-create_index-2
returns-in_err-create_index-2 g c = record {
  makes = λ base first numbered. let follows = tables_follow base.tables (with_second base) (source_record ∷ []) in
      makes_then follows (index_makes scratch_source source_name (inr (inr (inr (inr (inr (inl refl)))))) (second_take_grown base first numbered) (sources_there base first numbered) (second_source_is base) c.source_name.ensures c.in_ok-create_index.ensures.runs c.in_ok-create_index.ensures.ok)
      (fails c.from_residual-in_err-create_index-2.ensures (index_makes scratch_binary binary_source (inr (inr (inr (inr (inr (inr (inl refl))))))) (second_source_grown base first numbered) (binaries_there base first numbered) (second_binary_is base) c.binary_source.ensures c.in_err-create_index-2.ensures.runs c.in_err-create_index-2.ensures.ok));
}

pub returns : goal.returns
returns g c = record {
  makes = λ base first numbered. let follows = tables_follow base.tables (with_second base) (source_record ∷ []) in
      makes_then follows (index_makes scratch_source source_name (inr (inr (inr (inr (inr (inl refl)))))) (second_take_grown base first numbered) (sources_there base first numbered) (second_source_is base) c.source_name.ensures c.in_ok-create_index.ensures.runs c.in_ok-create_index.ensures.ok)
      (makes_then follows (index_makes scratch_binary binary_source (inr (inr (inr (inr (inr (inr (inl refl))))))) (second_source_grown base first numbered) (binaries_there base first numbered) (second_binary_is base) c.binary_source.ensures c.in_ok-create_index-2.ensures.runs c.in_ok-create_index-2.ensures.ok)
      (index_makes scratch_binary binary_name (inr (inr (inr (inr (inr (inr (inr (inl refl)))))))) (second_binary_grown base first numbered) (binaries_still_there base first numbered) (second_is base) c.binary_name.ensures c.create_index-3.ensures.runs c.create_index-3.ensures.ok));
}
