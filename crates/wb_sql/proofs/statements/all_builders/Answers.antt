use Rattle.std.proofs.Common.{refl, [], ◌∷◌, codes, None, map}
use Rattle.sqlite_tied.specs.Compute.{everything}
use Rattle.wb_sql.specs.Tables.{builder, text}
use Rattle.wb_sql.specs.OfficeStatements.{all_builders, no_limit}
use Rattle.wb_sql.proofs.SelectForm.{select}
use Rattle.wb_sql.proofs.ShownLemmas.{name_of}
use Rattle.wb_sql.proofs.OfficeLemmas.{builder_columns, builder_columns_are}
use Rattle.wb_sql.proofs.AmongLemmas.{asks_among}
use Rattle.sqlite_resolve.specs.Compile.{first}
use Rattle.wb_sql.proofs.statements.all_builders.Goals as goal

pub returns : goal.returns
unfolding first everything
returns c = asks_among builder _ all_builders (record {
  columns = builder_columns;
  tests = [];
  order = (0, text (codes "name")) ∷ (1, text (codes "arch")) ∷ [];
  limit = no_limit;
  statement = select (codes "builder") (map name_of builder_columns) [] (codes "name" ∷ codes "arch" ∷ []) None;
  names = [];
  start = 0;
  stop = 50;
  tail = 50;
  ends = refl;
  counted = refl;
  first_is = refl;
  select_is = λ tree. record { none = refl; others = refl; distinct = refl; shown = refl; from = refl; filter = refl; group = refl; having = refl; sorted = refl; paged = λ schema. refl };
  typed = λ tree. record {
    columns_are = builder_columns_are tree;
    tests_are = tt;
    order_is = (record { named = refl; is = refl }, (record { named = refl; is = refl }, tt));
    free = (refl, (refl, tt));
    small = refl;
    typed = refl;
  };
  asks = λ tree. refl;
})
