use Rattle.std.proofs.Common.{refl, [], codes, Some, map, pos}
use Rattle.sqlite_tied.specs.Compute.{everything}
use Rattle.wb_sql.specs.Tables.{scratch_source}
use Rattle.wb_sql.specs.OfficeStatements.{first_source}
use Rattle.wb_sql.proofs.SelectForm.{select}
use Rattle.wb_sql.proofs.ShownLemmas.{name_of}
use Rattle.wb_sql.proofs.OfficeLemmas.{scratch_columns, scratch_source_columns_are}
use Rattle.wb_sql.proofs.AmongLemmas.{asks_among}
use Rattle.sqlite.specs.Term.{lit}
use Rattle.sqlite.specs.declared.types.Value.TheVariants.{Int}
use Rattle.sqlite_ast.specs.declared.Expr.{roll-Expr}
use Rattle.sqlite_ast.specs.declared.Expr.TheOpen.Expr-F.{Integer}
use Rattle.sqlite_resolve.specs.Compile.{first}
use Rattle.wb_sql.proofs.statements.first_scratch_source.Goals as goal

pub returns : goal.returns
unfolding first everything
returns c = asks_among scratch_source _ first_source (record {
  columns = scratch_columns;
  tests = [];
  order = [];
  limit = lit (Int (pos 1));
  statement = select (codes "scratch_source") (map name_of scratch_columns) [] [] (Some (roll-Expr (Integer (codes "1"))));
  names = [];
  start = 0;
  stop = 38;
  tail = 38;
  ends = refl;
  counted = refl;
  first_is = refl;
  select_is = λ tree. record { none = refl; others = refl; distinct = refl; shown = refl; from = refl; filter = refl; group = refl; having = refl; sorted = refl; paged = λ schema. refl };
  typed = λ tree. record {
    columns_are = scratch_source_columns_are tree;
    tests_are = tt;
    order_is = tt;
    free = tt;
    small = refl;
    typed = refl;
  };
  asks = λ tree. refl;
})
