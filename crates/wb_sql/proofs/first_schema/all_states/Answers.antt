use Rattle.std.proofs.Common.{refl, None, [], codes, map, ◌∷◌}
use Rattle.sqlite_tied.specs.Compute.{everything}
use Rattle.wb_sql.specs.Tables.{text}
use Rattle.wb_sql.specs.FirstSchema.{all_states}
use Rattle.wb_sql.specs.Tables.{source_state}
use Rattle.wb_sql.specs.OfficeStatements.{no_limit}
use Rattle.wb_sql.proofs.SelectForm.{select}
use Rattle.wb_sql.proofs.ShownLemmas.{name_of}
use Rattle.wb_sql.proofs.FirstSchemaLemmas.{state_columns, state_columns_are}
use Rattle.wb_sql.proofs.AmongLemmas.{asks_among}
use Rattle.sqlite_resolve.specs.Compile.{first}
use Rattle.wb_sql.proofs.first_schema.all_states.Goals as goal

pub returns : goal.returns
unfolding first everything
returns c = asks_among source_state _ all_states (record {
  columns = state_columns;
  tests = [];
  order = (0, text (codes "arch")) ∷ (1, text (codes "source")) ∷ [];
  limit = no_limit;
  statement = select (codes "source_state") (map name_of state_columns) [] (codes "arch" ∷ codes "source" ∷ []) None;
  names = [];
  start = 0;
  stop = 162;
  tail = 162;
  ends = refl;
  counted = refl;
  first_is = refl;
  select_is = λ tree. record { none = refl; others = refl; distinct = refl; shown = refl; from = refl; filter = refl; group = refl; having = refl; sorted = refl; paged = λ schema. refl };
  typed = λ tree. record {
    columns_are = state_columns_are tree;
    tests_are = tt;
    order_is = (record { named = refl; is = refl }, (record { named = refl; is = refl }, tt));
    free = (refl, (refl, tt));
    small = refl;
    typed = refl;
  };
  asks = λ tree. refl;
})
