use Rattle.std.proofs.Common.{refl, [], codes, ◌∷◌, ◌-◌}
use Rattle.sqlite_tied.specs.Compute.{everything}
use Rattle.sqlite_resolve.specs.Compile.{first}
use Rattle.sqlite_resolve.specs.Lowering.{nothing, max_budget}
use Rattle.sqlite_ast.specs.declared.Expr.{roll-Expr}
use Rattle.sqlite_ast.specs.declared.Expr.TheOpen.Expr-F.{Parameter}
use Rattle.wb_sql.specs.Tables.{source_record, text}
use Rattle.wb_sql.specs.OfficeStatements.{parameter, has_record_key, record_sets}
use Rattle.wb_sql.proofs.OfficeUpdateLemmas.{updates_among}
use Rattle.wb_sql.proofs.statements.replace_record.Goals as goal

pub returns : goal.returns
unfolding first everything
returns c = updates_among source_record _ has_record_key record_sets (record {
  tests = (0, text (codes "arch"), 1) ∷ (1, text (codes "source"), 2) ∷ [];
  assignments =
      (codes "state", roll-Expr (Parameter 3)) ∷ (codes "version", roll-Expr (Parameter 4)) ∷ (codes "priority", roll-Expr (Parameter 5)) ∷ (codes "section", roll-Expr (Parameter 6))
      ∷ (codes "earlier", roll-Expr (Parameter 7)) ∷ (codes "number", roll-Expr (Parameter 8)) ∷ (codes "holder", roll-Expr (Parameter 9)) ∷ (codes "take", roll-Expr (Parameter 10))
      ∷ (codes "waits", roll-Expr (Parameter 11)) ∷ (codes "depends", roll-Expr (Parameter 12)) ∷ (codes "note", roll-Expr (Parameter 13)) ∷ (codes "message", roll-Expr (Parameter 14))
      ∷ (codes "build_priority", roll-Expr (Parameter 15)) ∷ (codes "rank", roll-Expr (Parameter 16)) ∷ [];
  places = 3 ∷ 4 ∷ 5 ∷ 6 ∷ 7 ∷ 8 ∷ 9 ∷ 10 ∷ 11 ∷ 12 ∷ 13 ∷ 14 ∷ 15 ∷ 16 ∷ [];
  values =
      parameter 2 ∷ parameter 3 ∷ parameter 4 ∷ parameter 5 ∷ parameter 6 ∷ parameter 7 ∷ parameter 8 ∷ parameter 9 ∷ parameter 10 ∷ parameter 11 ∷ parameter 12 ∷ parameter 13
      ∷ parameter 14 ∷ parameter 15 ∷ [];
  budget = max_budget - 14;
  last = nothing;
  names =
      codes "?1" ∷ codes "?2" ∷ codes "?3" ∷ codes "?4" ∷ codes "?5" ∷ codes "?6" ∷ codes "?7" ∷ codes "?8" ∷ codes "?9" ∷ codes "?10" ∷ codes "?11" ∷ codes "?12" ∷ codes "?13"
      ∷ codes "?14" ∷ codes "?15" ∷ codes "?16" ∷ [];
  start = 0;
  stop = 251;
  tail = 251;
  ends = refl;
  counted = refl;
  first_is = refl;
  assigns = λ schema at tree. refl;
  row_is = λ tree. refl;
  tests_are = λ tree. (record { column = record { named = refl; is = refl }; place = refl; plain = refl }, record { column = record { named = refl; is = refl }; place = refl; plain = refl });
  small = refl;
  typed = λ tree. refl;
  terms_are = λ tree. refl;
  still = record { uncounted = refl; unstamped = refl; untimed = refl };
})
