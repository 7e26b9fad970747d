use Rattle.std.proofs.Common.{◌∷◌}
use Rattle.wb_sql.specs.Making.{with_tables, tables_after_office}
use Rattle.wb_sql.specs.Tables.{office}
use Rattle.wb_sql.proofs.MakingLemmas.{fails, tables_follow, makes_then}
use Rattle.wb_sql.proofs.making.make_tables.Goals as goal

pub returns-in_err-make_people : goal.returns-in_err-make_people
returns-in_err-make_people g c = record {
  makes = λ base lacks numbered. fails c.from_residual.ensures (c.in_err-make_people.ensures.makes base lacks numbered);
}

pub returns-in_err-make_records : goal.returns-in_err-make_records
returns-in_err-make_records g c = record {
  makes = λ base lacks numbered. makes_then (tables_follow base.tables (with_tables base) (office ∷ tables_after_office)) (c.in_ok-make_people.ensures.makes base lacks numbered)
      (fails c.from_residual-in_err-make_records.ensures (c.in_err-make_records.ensures.makes base lacks numbered));
}

pub returns-in_err-make_sources : goal.returns-in_err-make_sources
returns-in_err-make_sources g c = record {
  makes = λ base lacks numbered. let follows = tables_follow base.tables (with_tables base) (office ∷ tables_after_office) in
      makes_then follows (c.in_ok-make_people.ensures.makes base lacks numbered)
      (makes_then follows (c.in_ok-make_records.ensures.makes base lacks numbered)
      (fails c.from_residual-in_err-make_sources.ensures (c.in_err-make_sources.ensures.makes base lacks numbered)));
}

pub returns : goal.returns
returns g c = record {
  makes = λ base lacks numbered. let follows = tables_follow base.tables (with_tables base) (office ∷ tables_after_office) in
      makes_then follows (c.in_ok-make_people.ensures.makes base lacks numbered)
      (makes_then follows (c.in_ok-make_records.ensures.makes base lacks numbered)
      (makes_then follows (c.in_ok-make_sources.ensures.makes base lacks numbered) (c.make_binaries.ensures.makes base lacks numbered)));
}
