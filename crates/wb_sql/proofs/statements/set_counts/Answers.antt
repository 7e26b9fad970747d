use Rattle.std.proofs.Common.{refl, [], codes, ◌∷◌, ◌-◌}
use Rattle.sqlite_tied.specs.Compute.{everything}
use Rattle.sqlite_resolve.specs.Compile.{first}
use Rattle.sqlite_resolve.specs.Lowering.{nothing, max_budget}
use Rattle.sqlite_ast.specs.declared.Expr.{roll-Expr}
use Rattle.sqlite_ast.specs.declared.Expr.TheOpen.Expr-F.{Parameter}
use Rattle.wb_sql.specs.Tables.{office}
use Rattle.wb_sql.specs.OfficeStatements.{parameter, office_sets}
use Rattle.wb_sql.proofs.OfficeUpdateLemmas.{updates_among}
use Rattle.wb_sql.proofs.statements.set_counts.Goals as goal

pub returns : goal.returns
unfolding first everything
returns c = updates_among office _ [] office_sets (record {
  tests = [];
  assignments = (codes "handed", roll-Expr (Parameter 1)) ∷ (codes "accepted", roll-Expr (Parameter 2)) ∷ [];
  places = 3 ∷ 4 ∷ [];
  values = parameter 0 ∷ parameter 1 ∷ [];
  budget = max_budget - 2;
  last = nothing;
  names = codes "?1" ∷ codes "?2" ∷ [];
  start = 0;
  stop = 44;
  tail = 44;
  ends = refl;
  counted = refl;
  first_is = refl;
  assigns = λ schema at tree. refl;
  row_is = λ tree. refl;
  tests_are = λ tree. tt;
  small = refl;
  typed = λ tree. refl;
  terms_are = λ tree. refl;
  still = record { uncounted = refl; unstamped = refl; untimed = refl };
})
