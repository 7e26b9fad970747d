use Rattle.std.proofs.Common.{refl, [], ◌∷◌, codes, None, false, map}
use Rattle.sqlite_tied.specs.Compute.{everything}
use Rattle.sqlite.specs.Kind.TheVariants.{Integer}
use Rattle.wb_sql.specs.Tables.{scratch_source, typed}
use Rattle.wb_sql.specs.OfficeStatements.{no_limit}
use Rattle.wb_sql.specs.ScratchStatements.{all_sources}
use Rattle.wb_sql.proofs.SelectForm.{select}
use Rattle.wb_sql.proofs.ShownLemmas.{name_of}
use Rattle.wb_sql.proofs.ScratchLemmas.{source_columns, source_columns_are}
use Rattle.wb_sql.proofs.AmongLemmas.{asks_among}
use Rattle.sqlite_resolve.specs.Compile.{first}
use Rattle.wb_sql.proofs.scratch.all_sources.Goals as goal

pub returns : goal.returns
unfolding first everything
returns c = asks_among scratch_source _ all_sources (record {
  columns = source_columns;
  tests = [];
  order = (0, typed Integer false (codes "seq")) ∷ [];
  limit = no_limit;
  statement = select (codes "scratch_source") (map name_of source_columns) [] (codes "seq" ∷ []) None;
  names = [];
  start = 0;
  stop = 121;
  tail = 121;
  ends = refl;
  counted = refl;
  first_is = refl;
  select_is = λ tree. record { none = refl; others = refl; distinct = refl; shown = refl; from = refl; filter = refl; group = refl; having = refl; sorted = refl; paged = λ schema. refl };
  typed = λ tree. record {
    columns_are = source_columns_are tree;
    tests_are = tt;
    order_is = (record { named = refl; is = refl }, tt);
    free = (refl, tt);
    small = refl;
    typed = refl;
  };
  asks = λ tree. refl;
})
