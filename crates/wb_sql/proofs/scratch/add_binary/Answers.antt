use Rattle.std.proofs.Common.{refl, [], codes, ◌∷◌}
use Rattle.sqlite_tied.specs.Compute.{everything}
use Rattle.sqlite_resolve.specs.Compile.{first}
use Rattle.sqlite_ast.specs.declared.Expr.{roll-Expr}
use Rattle.sqlite_ast.specs.declared.Expr.TheOpen.Expr-F.{Parameter}
use Rattle.sqlite_ast.specs.declared.Rows.TheVariants.{Values}
use Rattle.wb_sql.specs.Tables.{scratch_binary}
use Rattle.wb_sql.specs.ScratchStatements.{binary_row}
use Rattle.wb_sql.proofs.AmongLemmas.{inserts_among}
use Rattle.wb_sql.proofs.scratch.add_binary.Goals as goal

pub returns : goal.returns
unfolding first everything
returns c = inserts_among scratch_binary _ binary_row (record {
  width = 8;
  columns =
      codes "seq" ∷ codes "name" ∷ codes "version" ∷ codes "source" ∷ codes "source_version" ∷ codes "number" ∷ codes "own" ∷ [];
  rows =
      Values ((
      roll-Expr (Parameter 1) ∷ roll-Expr (Parameter 2) ∷ roll-Expr (Parameter 3) ∷ roll-Expr (Parameter 4) ∷ roll-Expr (Parameter 5) ∷ roll-Expr (Parameter 6) ∷ roll-Expr (Parameter 7) ∷ []) ∷ []);
  names =
      codes "?1" ∷ codes "?2" ∷ codes "?3" ∷ codes "?4" ∷ codes "?5" ∷ codes "?6" ∷ codes "?7" ∷ [];
  start = 0;
  stop = 119;
  tail = 119;
  ends = refl;
  counted = refl;
  first_is = refl;
  rows_are = λ schema tree. refl;
  one_row = record { count = refl; all = refl };
  still = record { uncounted = refl; unstamped = refl; untimed = refl };
})
