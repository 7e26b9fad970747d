use Rattle.std.proofs.Common.{[], ◌∷◌, inl, inr, refl}
use Rattle.wb_sql.specs.Making.{with_builder}
use Rattle.wb_sql.specs.Tables.{office, arch, builder}
use Rattle.wb_sql.proofs.GrowthLemmas.{base_grown, office_grown, arch_grown}
use Rattle.wb_sql.proofs.MakingLemmas.{table_makes, fails, tables_follow, makes_then}
use Rattle.wb_sql.proofs.StepLemmas.{office_is, arch_is, builder_is}
use Rattle.wb_sql.proofs.making.make_people.Goals as goal

pub returns-in_err-create_table : goal.returns-in_err-create_table
returns-in_err-create_table g c = record {
  makes = λ base lacks numbered. fails c.from_residual.ensures (table_makes office (inl refl) (base_grown base lacks numbered) (office_is base) c.office.ensures c.in_err-create_table.ensures.runs c.in_err-create_table.ensures.ok);
}

pub returns-in_err-create_table-2 : goal.returns-in_err-create_table-2
returns-in_err-create_table-2 g c = record {
  makes = λ base lacks numbered. makes_then (tables_follow base.tables (with_builder base) (office ∷ arch ∷ builder ∷ []))
      (table_makes office (inl refl) (base_grown base lacks numbered) (office_is base) c.office.ensures c.in_ok-create_table.ensures.runs c.in_ok-create_table.ensures.ok)
      (fails c.from_residual-in_err-create_table-2.ensures (table_makes arch (inr (inl refl)) (office_grown base lacks numbered) (arch_is base) c.arch.ensures c.in_err-create_table-2.ensures.runs c.in_err-create_table-2.ensures.ok));
}

pub returns : goal.returns
returns g c = record {
  makes = λ base lacks numbered. let follows = tables_follow base.tables (with_builder base) (office ∷ arch ∷ builder ∷ []) in
      makes_then follows (table_makes office (inl refl) (base_grown base lacks numbered) (office_is base) c.office.ensures c.in_ok-create_table.ensures.runs c.in_ok-create_table.ensures.ok)
      (makes_then follows (table_makes arch (inr (inl refl)) (office_grown base lacks numbered) (arch_is base) c.arch.ensures c.in_ok-create_table-2.ensures.runs c.in_ok-create_table-2.ensures.ok)
      (table_makes builder (inr (inr (inl refl))) (arch_grown base lacks numbered) (builder_is base) c.builder.ensures c.create_table-3.ensures.runs c.create_table-3.ensures.ok));
}
