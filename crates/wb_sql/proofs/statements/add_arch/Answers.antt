use Rattle.std.proofs.Common.{refl, [], codes, ◌∷◌}
use Rattle.sqlite_tied.specs.Compute.{everything}
use Rattle.sqlite_resolve.specs.Compile.{first}
use Rattle.sqlite_ast.specs.declared.Expr.{roll-Expr}
use Rattle.sqlite_ast.specs.declared.Expr.TheOpen.Expr-F.{Parameter}
use Rattle.sqlite_ast.specs.declared.Rows.TheVariants.{Values}
use Rattle.wb_sql.specs.Tables.{arch}
use Rattle.wb_sql.specs.OfficeStatements.{arch_row}
use Rattle.wb_sql.proofs.AmongLemmas.{inserts_among}
use Rattle.wb_sql.proofs.statements.add_arch.Goals as goal

pub returns : goal.returns
unfolding first everything
returns c = inserts_among arch _ arch_row (record {
  width = 4;
  columns =
      codes "name" ∷ codes "os" ∷ codes "cpu" ∷ [];
  rows =
      Values ((
      roll-Expr (Parameter 1) ∷ roll-Expr (Parameter 2) ∷ roll-Expr (Parameter 3) ∷ []) ∷ []);
  names =
      codes "?1" ∷ codes "?2" ∷ codes "?3" ∷ [];
  start = 0;
  stop = 51;
  tail = 51;
  ends = refl;
  counted = refl;
  first_is = refl;
  rows_are = λ schema tree. refl;
  one_row = record { count = refl; all = refl };
  still = record { uncounted = refl; unstamped = refl; untimed = refl };
})
