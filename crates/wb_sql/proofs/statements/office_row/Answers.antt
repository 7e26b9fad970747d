use Rattle.std.proofs.Common.{refl, [], codes, None, map}
use Rattle.sqlite_tied.specs.Compute.{everything}
use Rattle.wb_sql.specs.Tables.{office}
use Rattle.wb_sql.specs.OfficeStatements.{office_row, no_limit}
use Rattle.wb_sql.proofs.SelectForm.{select}
use Rattle.wb_sql.proofs.ShownLemmas.{name_of}
use Rattle.wb_sql.proofs.OfficeLemmas.{whole_office_columns, whole_office_columns_are}
use Rattle.wb_sql.proofs.AmongLemmas.{asks_among}
use Rattle.sqlite_resolve.specs.Compile.{first}
use Rattle.wb_sql.proofs.statements.office_row.Goals as goal

pub returns : goal.returns
unfolding first everything
returns c = asks_among office _ office_row (record {
  columns = whole_office_columns;
  tests = [];
  order = [];
  limit = no_limit;
  statement = select (codes "office") (map name_of whole_office_columns) [] [] None;
  names = [];
  start = 0;
  stop = 47;
  tail = 47;
  ends = refl;
  counted = refl;
  first_is = refl;
  select_is = λ tree. record { none = refl; others = refl; distinct = refl; shown = refl; from = refl; filter = refl; group = refl; having = refl; sorted = refl; paged = λ schema. refl };
  typed = λ tree. record {
    columns_are = whole_office_columns_are tree;
    tests_are = tt;
    order_is = tt;
    free = tt;
    small = refl;
    typed = refl;
  };
  asks = λ tree. refl;
})
