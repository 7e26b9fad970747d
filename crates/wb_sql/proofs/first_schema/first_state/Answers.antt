use Rattle.std.proofs.Common.{refl, [], codes, Some, map, pos}
use Rattle.sqlite_tied.specs.Compute.{everything}
use Rattle.wb_sql.specs.FirstSchema.{first_state}
use Rattle.wb_sql.specs.Tables.{source_state}
use Rattle.wb_sql.proofs.SelectForm.{select}
use Rattle.wb_sql.proofs.ShownLemmas.{name_of}
use Rattle.wb_sql.proofs.FirstSchemaLemmas.{arch_columns, arch_columns_are}
use Rattle.wb_sql.proofs.AmongLemmas.{asks_among}
use Rattle.sqlite.specs.Term.{lit}
use Rattle.sqlite.specs.declared.types.Value.TheVariants.{Int}
use Rattle.sqlite_ast.specs.declared.Expr.{roll-Expr}
use Rattle.sqlite_ast.specs.declared.Expr.TheOpen.Expr-F.{Integer}
use Rattle.sqlite_resolve.specs.Compile.{first}
use Rattle.wb_sql.proofs.first_schema.first_state.Goals as goal

pub returns : goal.returns
unfolding first everything
returns c = asks_among source_state _ first_state (record {
  columns = arch_columns;
  tests = [];
  order = [];
  limit = lit (Int (pos 1));
  statement = select (codes "source_state") (map name_of arch_columns) [] [] (Some (roll-Expr (Integer (codes "1"))));
  names = [];
  start = 0;
  stop = 37;
  tail = 37;
  ends = refl;
  counted = refl;
  first_is = refl;
  select_is = λ tree. record { none = refl; others = refl; distinct = refl; shown = refl; from = refl; filter = refl; group = refl; having = refl; sorted = refl; paged = λ schema. refl };
  typed = λ tree. record {
    columns_are = arch_columns_are tree;
    tests_are = tt;
    order_is = tt;
    free = tt;
    small = refl;
    typed = refl;
  };
  asks = λ tree. refl;
})
