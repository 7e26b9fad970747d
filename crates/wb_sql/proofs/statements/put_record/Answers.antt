use Rattle.std.proofs.Common.{refl, [], codes, ◌∷◌}
use Rattle.sqlite_tied.specs.Compute.{everything}
use Rattle.sqlite_resolve.specs.Compile.{first}
use Rattle.sqlite_ast.specs.declared.Expr.{roll-Expr}
use Rattle.sqlite_ast.specs.declared.Expr.TheOpen.Expr-F.{Parameter}
use Rattle.sqlite_ast.specs.declared.Rows.TheVariants.{Values}
use Rattle.wb_sql.proofs.OfficeUpsertLemmas.{upserts_records}
use Rattle.wb_sql.proofs.statements.put_record.Goals as goal

pub returns : goal.returns
unfolding first everything
returns c = upserts_records _ (record {
  width = 17;
  columns =
      codes "arch" ∷ codes "source" ∷ codes "state" ∷ codes "version" ∷ codes "priority" ∷ codes "section" ∷ codes "earlier" ∷ codes "number" ∷ codes "holder" ∷ codes "take"
      ∷ codes "waits" ∷ codes "depends" ∷ codes "note" ∷ codes "message" ∷ codes "build_priority" ∷ codes "rank" ∷ [];
  rows =
      Values ((
      roll-Expr (Parameter 1) ∷ roll-Expr (Parameter 2) ∷ roll-Expr (Parameter 3) ∷ roll-Expr (Parameter 4) ∷ roll-Expr (Parameter 5) ∷ roll-Expr (Parameter 6)
      ∷ roll-Expr (Parameter 7) ∷ roll-Expr (Parameter 8) ∷ roll-Expr (Parameter 9) ∷ roll-Expr (Parameter 10) ∷ roll-Expr (Parameter 11) ∷ roll-Expr (Parameter 12)
      ∷ roll-Expr (Parameter 13) ∷ roll-Expr (Parameter 14) ∷ roll-Expr (Parameter 15) ∷ roll-Expr (Parameter 16) ∷ []) ∷ []);
  target = codes "arch" ∷ codes "source" ∷ [];
  assigned =
      (codes "state", roll-Expr (Parameter 3)) ∷ (codes "version", roll-Expr (Parameter 4)) ∷ (codes "priority", roll-Expr (Parameter 5)) ∷ (codes "section", roll-Expr (Parameter 6))
      ∷ (codes "earlier", roll-Expr (Parameter 7)) ∷ (codes "number", roll-Expr (Parameter 8)) ∷ (codes "holder", roll-Expr (Parameter 9)) ∷ (codes "take", roll-Expr (Parameter 10))
      ∷ (codes "waits", roll-Expr (Parameter 11)) ∷ (codes "depends", roll-Expr (Parameter 12)) ∷ (codes "note", roll-Expr (Parameter 13)) ∷ (codes "message", roll-Expr (Parameter 14))
      ∷ (codes "build_priority", roll-Expr (Parameter 15)) ∷ (codes "rank", roll-Expr (Parameter 16)) ∷ [];
  names =
      codes "?1" ∷ codes "?2" ∷ codes "?3" ∷ codes "?4" ∷ codes "?5" ∷ codes "?6" ∷ codes "?7" ∷ codes "?8" ∷ codes "?9" ∷ codes "?10" ∷ codes "?11" ∷ codes "?12" ∷ codes "?13"
      ∷ codes "?14" ∷ codes "?15" ∷ codes "?16" ∷ [];
  start = 0;
  stop = 472;
  tail = 472;
  ends = refl;
  counted = refl;
  first_is = refl;
  rows_are = λ schema tree. refl;
  aims = refl;
  target_is = λ tree. refl;
  no_rowid = refl;
  key_columns = refl;
  assigns = refl;
  updates = λ schema at tree. refl;
  typed = λ tree. refl;
  one_row = record { count = refl; all = refl };
  still = record { uncounted = refl; unstamped = refl; untimed = refl };
})
