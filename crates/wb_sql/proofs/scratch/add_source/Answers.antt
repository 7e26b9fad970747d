use Rattle.std.proofs.Common.{refl, [], codes, ◌∷◌}
use Rattle.sqlite_tied.specs.Compute.{everything}
use Rattle.sqlite_resolve.specs.Compile.{first}
use Rattle.sqlite_ast.specs.declared.Expr.{roll-Expr}
use Rattle.sqlite_ast.specs.declared.Expr.TheOpen.Expr-F.{Parameter}
use Rattle.sqlite_ast.specs.declared.Rows.TheVariants.{Values}
use Rattle.wb_sql.specs.Tables.{scratch_source}
use Rattle.wb_sql.specs.ScratchStatements.{source_row}
use Rattle.wb_sql.proofs.AmongLemmas.{inserts_among}
use Rattle.wb_sql.proofs.scratch.add_source.Goals as goal

pub returns : goal.returns
unfolding first everything
returns c = inserts_among scratch_source _ source_row (record {
  width = 10;
  columns =
      codes "seq" ∷ codes "name" ∷ codes "version" ∷ codes "architecture" ∷ codes "extra" ∷ codes "priority" ∷ codes "section" ∷ codes "depends" ∷ codes "depends_arch" ∷ [];
  rows =
      Values ((
      roll-Expr (Parameter 1) ∷ roll-Expr (Parameter 2) ∷ roll-Expr (Parameter 3) ∷ roll-Expr (Parameter 4) ∷ roll-Expr (Parameter 5) ∷ roll-Expr (Parameter 6) ∷ roll-Expr (Parameter 7) ∷ roll-Expr (Parameter 8) ∷ roll-Expr (Parameter 9) ∷ []) ∷ []);
  names =
      codes "?1" ∷ codes "?2" ∷ codes "?3" ∷ codes "?4" ∷ codes "?5" ∷ codes "?6" ∷ codes "?7" ∷ codes "?8" ∷ codes "?9" ∷ [];
  start = 0;
  stop = 153;
  tail = 153;
  ends = refl;
  counted = refl;
  first_is = refl;
  rows_are = λ schema tree. refl;
  one_row = record { count = refl; all = refl };
  still = record { uncounted = refl; unstamped = refl; untimed = refl };
})
