use Rattle.std.proofs.Common.{refl, None, [], codes, map, ◌∷◌}
use Rattle.sqlite_tied.specs.Compute.{everything}
use Rattle.wb_sql.specs.Tables.{source_record, text}
use Rattle.wb_sql.specs.OfficeStatements.{names_of_arch, no_limit}
use Rattle.wb_sql.proofs.SelectForm.{select}
use Rattle.wb_sql.proofs.ShownLemmas.{name_of}
use Rattle.wb_sql.proofs.OfficeLemmas.{source_columns, source_columns_are}
use Rattle.wb_sql.proofs.AmongLemmas.{asks_among}
use Rattle.sqlite_resolve.specs.Compile.{first}
use Rattle.wb_sql.proofs.statements.names_of_arch.Goals as goal

pub returns : goal.returns
unfolding first everything
returns c = asks_among source_record _ names_of_arch (record {
  columns = source_columns;
  tests = (0, text (codes "arch"), 1) ∷ [];
  order = (1, text (codes "source")) ∷ [];
  limit = no_limit;
  statement = select (codes "source_record") (map name_of source_columns) ((codes "arch", 1) ∷ [])
      (codes "source" ∷ []) None;
  names = codes "?1" ∷ [];
  start = 0;
  stop = 64;
  tail = 64;
  ends = refl;
  counted = refl;
  first_is = refl;
  select_is = λ tree. record {
    none = refl;
    others = refl;
    distinct = refl;
    shown = refl;
    from = refl;
    filter = refl;
    group = refl;
    having = refl;
    sorted = refl;
    paged = λ schema. refl;
  };
  typed = λ tree. record {
    columns_are = source_columns_are tree;
    tests_are = record { column = record { named = refl; is = refl }; place = refl; plain = refl };
    order_is = (record { named = refl; is = refl }, tt);
    free = (refl, tt);
    small = refl;
    typed = refl;
  };
  asks = λ tree. refl;
})
