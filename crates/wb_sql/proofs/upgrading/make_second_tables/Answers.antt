use Rattle.std.proofs.Common.{[], ◌∷◌}
use Rattle.wb_sql.specs.Tables.{source_record}
use Rattle.wb_sql.specs.Upgrading.{with_second}
use Rattle.wb_sql.proofs.MakingLemmas.{fails, tables_follow, makes_then}
use Rattle.wb_sql.proofs.upgrading.make_second_tables.Goals as goal

pub returns-in_err-make_second_records : goal.returns-in_err-make_second_records
returns-in_err-make_second_records g c = record {
  makes = λ base first numbered. fails c.from_residual.ensures (c.in_err-make_second_records.ensures.makes base first numbered);
}

pub returns : goal.returns
returns g c = record {
  makes = λ base first numbered. makes_then (tables_follow base.tables (with_second base) (source_record ∷ [])) (c.in_ok-make_second_records.ensures.makes base first numbered)
      (c.index_scratch_tables.ensures.makes base first numbered);
}
