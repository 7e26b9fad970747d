use Rattle.std.proofs.Common.{refl, [], ◌∷◌, codes, None, map}
use Rattle.sqlite_tied.specs.Compute.{everything}
use Rattle.wb_sql.specs.Tables.{arch, text}
use Rattle.wb_sql.specs.OfficeStatements.{arch_of_name, no_limit}
use Rattle.wb_sql.proofs.SelectForm.{select}
use Rattle.wb_sql.proofs.ShownLemmas.{name_of}
use Rattle.wb_sql.proofs.OfficeLemmas.{arch_columns, arch_columns_are}
use Rattle.wb_sql.proofs.AmongLemmas.{asks_among}
use Rattle.sqlite_resolve.specs.Compile.{first}
use Rattle.wb_sql.proofs.statements.arch_words.Goals as goal

pub returns : goal.returns
unfolding first everything
returns c = asks_among arch _ arch_of_name (record {
  columns = arch_columns;
  tests = (0, text (codes "name"), 1) ∷ [];
  order = [];
  limit = no_limit;
  statement = select (codes "arch") (map name_of arch_columns) ((codes "name", 1) ∷ []) [] None;
  names = codes "?1" ∷ [];
  start = 0;
  stop = 46;
  tail = 46;
  ends = refl;
  counted = refl;
  first_is = refl;
  select_is = λ tree. record { none = refl; others = refl; distinct = refl; shown = refl; from = refl; filter = refl; group = refl; having = refl; sorted = refl; paged = λ schema. refl };
  typed = λ tree. record {
    columns_are = arch_columns_are tree;
    tests_are = record { column = record { named = refl; is = refl }; place = refl; plain = refl };
    order_is = tt;
    free = tt;
    small = refl;
    typed = refl;
  };
  asks = λ tree. refl;
})
