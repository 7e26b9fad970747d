-- The texts that set columns of the rows of a table (UPDATE), over a schema that may have tables, indexes and views of others.
use Rattle.std.proofs.Common.{◌≡◌, refl, subst, ℕ, nat_le, negsuc, ◌&&◌, List, [], ◌∷◌, length, map, Ok, None, Some, Option, true, false, slice_get}
use Rattle.sqlite.specs.Schema.{Schema}
use Rattle.sqlite.specs.Table.{Table}
use Rattle.sqlite.specs.Term.{Term, lit, col}
use Rattle.sqlite.specs.declared.types.Value.TheVariants.{Int}
use Rattle.sqlite_schema.specs.declared.command.Command.{Command}
use Rattle.sqlite_schema.specs.declared.command.Command.TheVariants as does
use Rattle.sqlite_typing.specs.Types.{accepts_after, row_classes, is_count}
use Rattle.sqlite_draft.specs.declared.query.Draft.{Draft}
use Rattle.sqlite_draft.specs.declared.join.Step.TheVariants.{Inner}
use Rattle.sqlite_draft.specs.Query.{query_of as drafted}
use Rattle.sqlite_resolve.specs.declared.state.Carried.{Carried}
use Rattle.sqlite_resolve.specs.Lowering.{max_budget, fresh}
use Rattle.sqlite_resolve.specs.Terms.{number}
use Rattle.sqlite_resolve.specs.Write.{assigned, row, updated, updated_in, simple}
use Rattle.sqlite_resolve.specs.Compile as compile
use Rattle.sqlite_ast.specs.declared.Expr.{Expr}
use Rattle.sqlite_ast.specs.declared.Statement.TheVariants as written
use Rattle.wb_sql.specs.Queries.{query_of}
use Rattle.wb_sql.specs.Changes.{rows_renewed}
use Rattle.wb_sql.specs.Among.{table_at, HasTable, UpdatesAmong}
use Rattle.wb_sql.proofs.SelectForm.{Name, where_of, parsed}
use Rattle.wb_sql.proofs.ColumnLemmas.{over, at_budget}
use Rattle.wb_sql.proofs.CompiledLemmas.{compiled_of, program_is, understood_is}
use Rattle.wb_sql.proofs.SelectLemmas.{Test, AreTests, test_of, term_of, tests_are, suffices_for, left_by, carried_by}
use Rattle.wb_sql.proofs.ChangeLemmas.{base_of, picked_is, change_is, simple_accepted}
use Rattle.wb_sql.proofs.AmongLemmas.{IsStill, means_is, plain_table}

-- ---- the command

-- the rows that pass these tests, and what each is to be
abbrev pub rows_set : Table → List Term → List Term → Draft
rows_set table filter sets = simple (Inner table.tree ∷ []) filter (col 1 0 ∷ col 1 0 ∷ sets)

-- these rows have the right types
abbrev pub IsTypedUpdate : Table → List Term → List Term → Type 0
IsTypedUpdate table filter sets =
    (accepts_after [] (drafted (rows_set table filter sets)) (Some (row_classes table ∷ [])) && (is_count [] (lit (Int (negsuc 0))) && is_count [] (number 0))) ≡ true

-- the columns at these places are set to these values, each of which is read from the row alone, and the budget leaves so much
abbrev pub Assigns : Table → List (Name × Expr) → List ℕ → List Term → ℕ → Carried → Schema → ℕ → Type 0
Assigns table assignments places values budget last schema at =
    assigned (over schema at table.name [] false) table assignments (fresh 2 max_budget) ≡ Ok ((places, values), at_budget 2 budget last)

updated_is : (schema : Schema) (table : Table) (at : ℕ) (assignments : List (Name × Expr)) (tests : List Test) (places : List ℕ) (values sets : List Term) (budget : ℕ) (last : Carried)
    → slice_get schema.tables at ≡ Some table → Assigns table assignments places values budget last schema at
    → row table None places (col 1 0 ∷ []) values ≡ Ok (col 1 0 ∷ col 1 0 ∷ sets)
    → AreTests table tests → suffices_for budget tests ≡ true
    → updated schema at table assignments (where_of (map test_of tests)) ≡ Ok (rows_set table (map (term_of table) tests) sets)
unfolding updated updated_in
updated_is schema table at assignments tests places values sets budget last listed assigns row_is are enough =
    rw (
      assigns,
      row_is,
      picked_is (over schema at table.name [] false) table (col 1 0 ∷ col 1 0 ∷ sets) (map (term_of table) tests) (where_of (map test_of tests)) (at_budget 2 budget last)
          2 (left_by budget tests) (carried_by last tests) (tests_are schema table at 2 budget table.name [] last listed tests are enough),
    ) refl

update_is : (schema : Schema) (table : Table) (base : ℕ) (assignments : List (Name × Expr)) (test : Option Expr) (filter sets : List Term) (has : HasTable schema table)
    → updated schema has.at table assignments test ≡ Ok (rows_set table filter sets) → IsTypedUpdate table filter sets
    → compile.command schema [] base (written.Update table.name assignments test []) ≡ Ok (does.Update has.at (record { lets = []; body = drafted (rows_set table filter sets) }))
unfolding compile.command compile.update
update_is schema table base assignments test filter sets has updates typed =
    rw (
      has.named,
      has.listed,
      updates,
      program_is schema (rows_set table filter sets) (simple_accepted schema table filter (col 1 0 ∷ col 1 0 ∷ sets) has typed),
    ) refl

update_returns : (schema : Schema) (base : ℕ) (name : Name) (assignments : List (Name × Expr)) (test : Option Expr)
    → compile.returning schema base (written.Update name assignments test []) ≡ Ok None
unfolding compile.returning compile.shows
update_returns schema base name assignments test = refl

update_timed : (schema : Schema) (name : Name) (assignments : List (Name × Expr)) (test : Option Expr) → compile.timed schema [] (written.Update name assignments test []) ≡ []
unfolding compile.timed
update_timed schema name assignments test = refl

-- ---- the text

-- the text, which has so many parameters, is an UPDATE of the rows of the table that pass these tests, which sets each column to its term
pub record IsUpdate (table : Table) (sql : List ℕ) (terms sets : List Term) (count : ℕ) : Type 0 where
  pub tests : List Test
  pub assignments : List (Name × Expr)
  pub places : List ℕ
  pub values : List Term
  pub budget : ℕ
  pub last : Carried
  pub names : List Name
  pub start : ℕ
  pub stop : ℕ
  pub tail : ℕ
  pub ends : nat_le (length sql) tail ≡ true
  pub counted : length names ≡ count
  pub first_is : compile.first sql ≡ Ok (parsed (written.Update table.name assignments (where_of (map test_of tests)) []) names start stop tail)
  pub assigns : (schema : Schema) (at tree : ℕ) → Assigns (table_at tree table) assignments places values budget last schema at
  pub row_is : (tree : ℕ) → row (table_at tree table) None places (col 1 0 ∷ []) values ≡ Ok (col 1 0 ∷ col 1 0 ∷ sets)
  pub tests_are : (tree : ℕ) → AreTests (table_at tree table) tests
  pub small : suffices_for budget tests ≡ true
  pub typed : (tree : ℕ) → IsTypedUpdate (table_at tree table) terms sets
  pub terms_are : (tree : ℕ) → map (term_of (table_at tree table)) tests ≡ terms
  pub still : IsStill table

pub updates_among : (table : Table) (sql : List ℕ) (terms sets : List Term) {count : ℕ} → IsUpdate table sql terms sets count → UpdatesAmong table sql terms sets count
updates_among table sql terms sets is schema tree has quiet =
    let test : Option Expr = where_of (map test_of is.tests) in
    let c : Command = does.Update has.at (record { lets = []; body = query_of (rows_renewed tree terms sets) }) in
    let updates : updated schema has.at (table_at tree table) is.assignments test ≡ Ok (rows_set (table_at tree table) terms sets) =
    subst (λ filter. updated schema has.at (table_at tree table) is.assignments test ≡ Ok (rows_set (table_at tree table) filter sets)) (is.terms_are tree)
    (updated_is schema (table_at tree table) has.at is.assignments is.tests is.places is.values sets is.budget is.last has.listed (is.assigns schema has.at tree) (is.row_is tree)
    (is.tests_are tree) is.small) in
    let all : compile.compiled schema sql ≡ Ok (compiled_of c is.names is.start is.stop is.tail) =
    change_is schema sql (written.Update table.name is.assignments test []) is.names is.start is.stop is.tail c is.first_is
    (update_returns schema (base_of is.names) table.name is.assignments test) (update_timed schema table.name is.assignments test)
    (update_is schema (table_at tree table) (base_of is.names) is.assignments test terms sets has updates (is.typed tree)) in
    record {
      at = has.at;
      table_is = plain_table schema table tree has quiet is.still;
      stored = has.stored;
      means = means_is schema sql c is.names is.start is.stop is.tail is.ends is.counted (understood_is schema sql (compiled_of c is.names is.start is.stop is.tail) all);
    }
