use Rattle.std.proofs.Common.{refl, [], codes, ◌∷◌, ◌-◌, pos}
use Rattle.sqlite_tied.specs.Compute.{everything}
use Rattle.sqlite_resolve.specs.Compile.{first}
use Rattle.sqlite_resolve.specs.Lowering.{nothing, max_budget}
use Rattle.sqlite_ast.specs.declared.Expr.{roll-Expr}
use Rattle.sqlite_ast.specs.declared.Expr.TheOpen.Expr-F.{Integer}
use Rattle.wb_sql.specs.Tables.{office}
use Rattle.wb_sql.specs.FirstSchema.{second_format}
use Rattle.sqlite.specs.Term.{lit}
use Rattle.sqlite.specs.declared.types.Value.TheVariants.{Int}
use Rattle.wb_sql.proofs.OfficeUpdateLemmas.{updates_among}
use Rattle.wb_sql.proofs.first_schema.set_second_format.Goals as goal

pub returns : goal.returns
unfolding first everything
returns c = updates_among office _ [] second_format (record {
  tests = [];
  assignments = (codes "format", roll-Expr (Integer (codes "2"))) ∷ [];
  places = 2 ∷ [];
  values = lit (Int (pos 2)) ∷ [];
  budget = max_budget - 1;
  last = nothing;
  names = [];
  start = 0;
  stop = 28;
  tail = 28;
  ends = refl;
  counted = refl;
  first_is = refl;
  assigns = λ schema at tree. refl;
  row_is = λ tree. refl;
  tests_are = λ tree. tt;
  small = refl;
  typed = λ tree. refl;
  terms_are = λ tree. refl;
  still = record { uncounted = refl; unstamped = refl; untimed = refl };
})
