-- How a SELECT on one table is read, step by step, over a schema that has the table at a place.
use Rattle.std.proofs.Common.{◌≡◌, refl, ℕ, List, [], ◌∷◌, Ok, None, Some, Bool, true, false, slice_get}
use Rattle.sqlite_value.specs.declared.keys.Key.{Key}
use Rattle.sqlite_schema.specs.declared.schema.Schema.{Schema}
use Rattle.sqlite_schema.specs.declared.schema.Table.{Table}
use Rattle.sqlite_schema.specs.Names.{table_named}
use Rattle.sqlite_sql.specs.Term.{Term}
use Rattle.sqlite_draft.specs.declared.join.Step.TheVariants.{Inner}
use Rattle.sqlite_resolve.specs.Lowering.{Lowering, nothing, fresh, max_budget, take_slot}
use Rattle.sqlite_resolve.specs.declared.state.Carried.{Carried}
use Rattle.sqlite_resolve.specs.declared.state.State.{State}
use Rattle.sqlite_resolve.specs.declared.scope.Bound.{Bound}
use Rattle.sqlite_resolve.specs.declared.scope.Output.{Output}
use Rattle.sqlite_resolve.specs.declared.select.Clauses.{Clauses}
use Rattle.sqlite_resolve.specs.Scope.{Context}
use Rattle.sqlite_resolve.specs.Body as body
use Rattle.sqlite_resolve.specs.Order as sorting
use Rattle.sqlite_resolve.specs.Select as selecting
use Rattle.sqlite_resolve.specs.Expr.{lower}
use Rattle.sqlite_ast.specs.declared.Expr.{Expr}
use Rattle.sqlite_ast.specs.declared.Core.{Core, out-Core}
use Rattle.sqlite_ast.specs.declared.Origin.TheVariants as origin
use Rattle.sqlite_ast.specs.declared.Sort.{Sort}
use Rattle.wb_sql.proofs.SelectForm.{Name, shown, source}
use Rattle.wb_sql.proofs.OpenedLemmas.{out_source}
use Rattle.wb_sql.proofs.ColumnLemmas.{over, at_budget, bound_at}

table_in_is : (schema : Schema) (at slot : ℕ) (name : Name) → table_named schema name ≡ Some at → body.table_in schema slot (origin.Table name) ≡ Ok (name, at)
unfolding body.table_in
table_in_is schema at slot name named = rw named refl

-- FROM has the table alone
bound_is : (schema : Schema) (at n : ℕ) (name : Name) (last : Carried) → table_named schema name ≡ Some at
    → body.bound schema (source name) (at_budget 1 n last) ≡ Ok (bound_at at name, at_budget 2 n last)
unfolding body.bound take_slot
bound_is schema at n name last named = rw (out_source name, table_in_is schema at 1 name named) refl

bounds_are : (schema : Schema) (at n : ℕ) (name : Name) (last : Carried) → table_named schema name ≡ Some at
    → body.bounds schema (source name ∷ []) (at_budget 1 n last) ≡ Ok (bound_at at name ∷ [], at_budget 2 n last)
unfolding body.bounds
bounds_are schema at n name last named = rw (bound_is schema at n name last named) refl

begins_is : (name : Name) → body.begins_with_on (source name ∷ []) ≡ false
begins_is name = rw (out_source name) refl

shared_is : (lower : Context → Expr → Lowering Term) (cx : Context) (tables : List Bound) (at : ℕ) (name : Name) (s : State) → body.shared cx tables (bound_at at name) s ≡ Ok ([], s)
unfolding body.shared
shared_is lower cx tables at name s = refl

inner_is : (lower : Context → Expr → Lowering Term) (cx : Context) (tree : ℕ) (s : State)
    → body.inner_join lower cx (record { steps = []; filter = [] }) tree [] None s ≡ Ok (record { steps = Inner tree ∷ []; filter = [] }, s)
unfolding body.inner_join body.tests
inner_is lower cx tree s = refl

join_is : (lower : Context → Expr → Lowering Term) (schema : Schema) (table : Table) (at : ℕ) (name : Name) (so_far : List Output) (aggregates : Bool) (s : State) → slice_get schema.tables at ≡ Some table
    → body.join lower (over schema at name so_far aggregates) (bound_at at name ∷ []) (record { steps = []; filter = [] }) (bound_at at name) (source name) s
    ≡ Ok (record { steps = Inner table.tree ∷ []; filter = [] }, s)
unfolding body.join
join_is lower schema table at name so_far aggregates s listed =
    rw (listed, shared_is lower (over schema at name so_far aggregates) (bound_at at name ∷ []) at name s, out_source name, inner_is lower (over schema at name so_far aggregates) table.tree s) refl

joins_are : (lower : Context → Expr → Lowering Term) (schema : Schema) (table : Table) (at : ℕ) (name : Name) (so_far : List Output) (aggregates : Bool) (s : State) → slice_get schema.tables at ≡ Some table
    → body.joins lower (over schema at name so_far aggregates) (bound_at at name ∷ []) (source name ∷ []) s ≡ Ok (record { steps = Inner table.tree ∷ []; filter = [] }, s)
unfolding body.joins
joins_are lower schema table at name so_far aggregates s listed = rw (begins_is name, join_is lower schema table at name so_far aggregates s listed) refl

-- WHERE
matching_is : (lower : Context → Expr → Lowering Term) (schema : Schema) (table : Table) (at : ℕ) (name : Name) (so_far : List Output) (core : Core) (filter : List Term) (s s1 : State)
    → slice_get schema.tables at ≡ Some table → (out-Core core).from ≡ source name ∷ []
    → body.tests lower (over schema at name so_far false) [] (out-Core core).filter s ≡ Ok (filter, s1)
    → body.matching lower (selecting.outermost schema) (record { tables = bound_at at name ∷ []; shown = so_far }) core s ≡ Ok (record { steps = Inner table.tree ∷ []; filter = filter }, s1)
unfolding body.matching
matching_is lower schema table at name so_far core filter s s1 listed from matched = rw (from, joins_are lower schema table at name so_far false s listed, matched) refl

result_is : (lower : Context → Expr → Lowering Term) (schema : Schema) (at : ℕ) (name : Name) (core : Core) (columns : List Output) (s s1 : State)
    → body.outputs_from lower (over schema at name [] true) (bound_at at name ∷ []) [] (out-Core core).shown s ≡ Ok (columns, s1)
    → body.result lower (selecting.outermost schema) (record { tables = bound_at at name ∷ []; shown = [] }) core s ≡ Ok (columns, s1)
unfolding body.result body.outputs
result_is lower schema at name core columns s s1 is = is

-- the table, the columns of the result and WHERE
body_is : (lower : Context → Expr → Lowering Term) (schema : Schema) (table : Table) (at n : ℕ) (name : Name) (core : Core) (columns : List Output) (filter : List Term) (last : Carried) (s1 s2 : State)
    → table_named schema name ≡ Some at → slice_get schema.tables at ≡ Some table → (out-Core core).from ≡ source name ∷ []
    → body.outputs_from lower (over schema at name [] true) (bound_at at name ∷ []) [] (out-Core core).shown (at_budget 2 n last) ≡ Ok (columns, s1)
    → body.tests lower (over schema at name columns false) [] (out-Core core).filter s1 ≡ Ok (filter, s2)
    → body.body lower (selecting.outermost schema) core (at_budget 1 n last)
    ≡ Ok (record { level = record { tables = bound_at at name ∷ []; shown = columns }; steps = Inner table.tree ∷ []; filter = filter }, s2)
unfolding body.body
body_is lower schema table at n name core columns filter last s1 s2 named listed from shown matched =
    rw (
      from,
      bounds_are schema at n name last named,
      result_is lower schema at name core columns (at_budget 2 n last) s1 shown,
      matching_is lower schema table at name columns core filter s1 s2 listed from matched,
    ) refl

having_is : (cx : Context) (s : State) → selecting.having cx None s ≡ Ok ([], s)
unfolding selecting.having body.tests
having_is cx s = refl

keys_is : (lower : Context → Expr → Lowering Term) (cx : Context) (shown : List Output) (s : State) → sorting.keys lower cx shown [] s ≡ Ok (([], []), s)
unfolding sorting.keys
keys_is lower cx shown s = refl

-- the table, the columns of the result, WHERE and ORDER BY
abbrev pub clauses_of : ℕ → Name → Table → List Output → List Term → List (Term × Key) → Clauses
clauses_of at name table columns filter order = record {
  body = record { level = record { tables = bound_at at name ∷ []; shown = columns }; steps = Inner table.tree ∷ []; filter = filter };
  is_grouped = false;
  keys = [];
  collations = [];
  having = [];
  order = order;
}

pub parts_are : (schema : Schema) (table : Table) (at n m l : ℕ) (name : Name) (core : Core) (sorts : List Sort) (columns : List Output) (filter : List Term) (order : List (Term × Key)) (last c1 c2 c3 : Carried)
    → table_named schema name ≡ Some at → slice_get schema.tables at ≡ Some table → (out-Core core).from ≡ source name ∷ [] → (out-Core core).group ≡ [] → (out-Core core).having ≡ None
    → body.outputs_from lower (over schema at name [] true) (bound_at at name ∷ []) [] (out-Core core).shown (at_budget 2 max_budget nothing) ≡ Ok (columns, at_budget 2 n c1)
    → body.tests lower (over schema at name columns false) [] (out-Core core).filter (at_budget 2 n c1) ≡ Ok (filter, at_budget 2 m c2)
    → sorting.sorts_from lower (over schema at name columns false) columns [] sorts (at_budget 2 m c2) ≡ Ok (order, at_budget 2 l c3)
    → selecting.parts schema core sorts (fresh 1 max_budget) ≡ Ok (clauses_of at name table columns filter order, at_budget 2 l c3)
unfolding selecting.parts sorting.sorts
parts_are schema table at n m l name core sorts columns filter order last c1 c2 c3 named listed from group having shown matched sorted =
    rw (
      body_is lower schema table at max_budget name core columns filter nothing (at_budget 2 n c1) (at_budget 2 m c2) named listed from shown matched,
      group,
      having,
      keys_is lower (over schema at name columns false) columns (at_budget 2 m c2),
      having_is (over schema at name columns false) (at_budget 2 m c2),
      sorted,
    ) refl
