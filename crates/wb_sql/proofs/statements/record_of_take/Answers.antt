use Rattle.std.proofs.Common.{refl, None, [], codes, false, map, ◌∷◌}
use Rattle.sqlite_tied.specs.Compute.{everything}
use Rattle.wb_sql.specs.Tables.{source_record, typed}
use Rattle.wb_sql.specs.OfficeStatements.{record_of_take, no_limit}
use Rattle.wb_sql.proofs.SelectForm.{select}
use Rattle.wb_sql.proofs.ShownLemmas.{name_of}
use Rattle.wb_sql.proofs.OfficeLemmas.{record_columns, record_columns_are}
use Rattle.wb_sql.proofs.AmongLemmas.{asks_among}
use Rattle.sqlite.specs.Kind.TheVariants.{Integer}
use Rattle.sqlite_resolve.specs.Compile.{first}
use Rattle.wb_sql.proofs.statements.record_of_take.Goals as goal

pub returns : goal.returns
unfolding first everything
returns c = asks_among source_record _ record_of_take (record {
  columns = record_columns;
  tests = (9, typed Integer false (codes "take"), 1) ∷ [];
  order = [];
  limit = no_limit;
  statement = select (codes "source_record") (map name_of record_columns) ((codes "take", 1) ∷ []) [] None;
  names = codes "?1" ∷ [];
  start = 0;
  stop = 173;
  tail = 173;
  ends = refl;
  counted = refl;
  first_is = refl;
  select_is = λ tree. record { none = refl; others = refl; distinct = refl; shown = refl; from = refl; filter = refl; group = refl; having = refl; sorted = refl; paged = λ schema. refl };
  typed = λ tree. record {
    columns_are = record_columns_are tree;
    tests_are = record { column = record { named = refl; is = refl }; place = refl; plain = refl };
    order_is = tt;
    free = tt;
    small = refl;
    typed = refl;
  };
  asks = λ tree. refl;
})
