use Rattle.std.proofs.Common.{refl, [], ◌∷◌, codes, None, false, map}
use Rattle.sqlite_tied.specs.Compute.{everything}
use Rattle.sqlite.specs.Kind.TheVariants.{Integer}
use Rattle.wb_sql.specs.Tables.{scratch_binary, text, typed}
use Rattle.wb_sql.specs.OfficeStatements.{no_limit}
use Rattle.wb_sql.specs.ScratchStatements.{binaries_named}
use Rattle.wb_sql.proofs.SelectForm.{select}
use Rattle.wb_sql.proofs.ShownLemmas.{name_of}
use Rattle.wb_sql.proofs.ScratchLemmas.{binary_columns, binary_columns_are}
use Rattle.wb_sql.proofs.AmongLemmas.{asks_among}
use Rattle.sqlite_resolve.specs.Compile.{first}
use Rattle.wb_sql.proofs.scratch.binaries_named.Goals as goal

pub returns : goal.returns
unfolding first everything
returns c = asks_among scratch_binary _ binaries_named (record {
  columns = binary_columns;
  tests = (1, text (codes "name"), 1) ∷ [];
  order = (0, typed Integer false (codes "seq")) ∷ [];
  limit = no_limit;
  statement = select (codes "scratch_binary") (map name_of binary_columns) ((codes "name", 1) ∷ []) (codes "seq" ∷ []) None;
  names = codes "?1" ∷ [];
  start = 0;
  stop = 111;
  tail = 111;
  ends = refl;
  counted = refl;
  first_is = refl;
  select_is = λ tree. record { none = refl; others = refl; distinct = refl; shown = refl; from = refl; filter = refl; group = refl; having = refl; sorted = refl; paged = λ schema. refl };
  typed = λ tree. record {
    columns_are = binary_columns_are tree;
    tests_are = record { column = record { named = refl; is = refl }; place = refl; plain = refl };
    order_is = (record { named = refl; is = refl }, tt);
    free = (refl, tt);
    small = refl;
    typed = refl;
  };
  asks = λ tree. refl;
})
