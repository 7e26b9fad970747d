-- The command of an INSERT, an INSERT OR REPLACE or a DELETE on one table, where the schema is known to have the table at a place.
use Rattle.std.proofs.Common.{◌≡◌, refl, sym, subst, ℕ, ◌+◌, negsuc, ◌&&◌, List, [], ◌∷◌, map, Ok, None, Some, Option, true, false}
use Rattle.sqlite.specs.Schema.{Schema}
use Rattle.sqlite.specs.Table.{Table}
use Rattle.sqlite.specs.declared.types.Value.TheVariants.{Int}
use Rattle.sqlite_schema.specs.declared.command.Source.{Source}
use Rattle.sqlite_schema.specs.declared.command.Command.{Command}
use Rattle.sqlite_schema.specs.declared.command.Command.TheVariants as does
use Rattle.sqlite_schema.specs.declared.command.Conflict.TheVariants as how
use Rattle.sqlite_sql.specs.Term.{Term, lit, col}
use Rattle.sqlite_typing.specs.Types.{accepts_program, accepts_after, row_classes, is_count}
use Rattle.sqlite_draft.specs.declared.query.Draft.{Draft}
use Rattle.sqlite_draft.specs.declared.join.Step.TheVariants.{Inner}
use Rattle.sqlite_draft.specs.Query.{query_of}
use Rattle.sqlite_resolve.specs.Lowering.{Checked, and_then, nothing, max_budget}
use Rattle.sqlite_resolve.specs.Terms.{number}
use Rattle.sqlite_resolve.specs.Scope.{Context}
use Rattle.sqlite_resolve.specs.declared.state.State.{State}
use Rattle.sqlite_resolve.specs.declared.state.Carried.{Carried}
use Rattle.sqlite_resolve.specs.Body as body
use Rattle.sqlite_resolve.specs.Expr.{lower}
use Rattle.sqlite_resolve.specs.Write.{picked, deleted, simple}
use Rattle.sqlite_resolve.specs.Given.{upserts}
use Rattle.sqlite_resolve.specs.Compile as compile
use Rattle.sqlite_ast.specs.declared.Expr.{Expr}
use Rattle.sqlite_ast.specs.declared.Rows.{Rows}
use Rattle.sqlite_ast.specs.declared.Conflict.{Conflict}
use Rattle.sqlite_ast.specs.declared.Conflict.TheVariants as conflict
use Rattle.sqlite_ast.specs.declared.Statement.{Statement}
use Rattle.sqlite_ast.specs.declared.Statement.TheVariants as written
use Rattle.sqlite_ast.specs.declared.Upsert.{Upsert}
use Rattle.wb_sql.specs.Among.{HasTable}
use Rattle.wb_sql.proofs.AloneLemmas.{found_in_tree}
use Rattle.wb_sql.proofs.SelectForm.{Name, where_of, parsed}
use Rattle.wb_sql.proofs.ColumnLemmas.{over, at_budget}
use Rattle.wb_sql.proofs.CompiledLemmas.{compiled_of, filled_is, program_is}
use Rattle.wb_sql.proofs.SelectLemmas.{Test, AreTests, test_of, term_of, tests_are, suffices_for, left_by, carried_by}

-- the number of parameters
abbrev pub base_of : List Name → ℕ
base_of names = compile.small names + compile.small []

-- a statement without RETURNING and without the time
planned_is : (schema : Schema) (statement : Statement) (names : List Name) (start stop tail : ℕ) (c : Command)
    → compile.returning schema (base_of names) statement ≡ Ok None → compile.timed schema [] statement ≡ [] → compile.command schema [] (base_of names) statement ≡ Ok c
    → compile.planned schema (parsed statement names start stop tail) ≡ Ok ([], (c, None))
unfolding compile.planned compile.meaning
planned_is schema statement names start stop tail c returning timed command = rw (timed, returning, command) refl

pub change_is : (schema : Schema) (text : List ℕ) (statement : Statement) (names : List Name) (start stop tail : ℕ) (c : Command)
    → compile.first text ≡ Ok (parsed statement names start stop tail)
    → compile.returning schema (base_of names) statement ≡ Ok None → compile.timed schema [] statement ≡ [] → compile.command schema [] (base_of names) statement ≡ Ok c
    → compile.compiled schema text ≡ Ok (compiled_of c names start stop tail)
unfolding compile.compiled
change_is schema text statement names start stop tail c first returning timed command = rw (first, planned_is schema statement names start stop tail c returning timed command) refl

on_table_is : (schema : Schema) (table : Table) (f : ℕ → Table → Checked Command) (has : HasTable schema table) → compile.on_table schema table.name f ≡ f has.at table
on_table_is schema table f has = rw (has.named, has.listed) refl

-- nothing of the time stands in the table
pub insert_timed : (schema : Schema) (table : Table) (columns : List Name) (rows : Rows) (way : Conflict) (clauses : List Upsert) → HasTable schema table → table.stamps.formats ≡ []
    → compile.timed schema [] (written.Insert way table.name columns rows clauses []) ≡ []
unfolding compile.timed
insert_timed schema table columns rows way clauses has none = rw (has.named, has.listed, none) refl

pub insert_returns : (schema : Schema) (base : ℕ) (name : Name) (columns : List Name) (rows : Rows) (way : Conflict) (clauses : List Upsert)
    → compile.returning schema base (written.Insert way name columns rows clauses []) ≡ Ok None
unfolding compile.returning compile.shows
insert_returns schema base name columns rows way clauses = refl

pub insert_is : (schema : Schema) (table : Table) (base : ℕ) (columns : List Name) (rows : Rows) (source : Source) (has : HasTable schema table)
    → compile.new_rows schema table base columns rows ≡ Ok source → compile.command schema [] base (written.Insert conflict.Abort table.name columns rows [] []) ≡ Ok (does.Insert has.at source)
unfolding compile.command compile.insert_or_abort compile.insert
insert_is schema table base columns rows source has new =
    rw (on_table_is schema table (λ at t. and_then (compile.new_rows schema t base columns rows) (λ s. Ok (does.Insert at s))) has, new) refl

no_upserts : (schema : Schema) (at base : ℕ) (table : Table) → upserts schema at table base [] ≡ Ok []
unfolding upserts
no_upserts schema at base table = refl

pub replace_is : (schema : Schema) (table : Table) (base : ℕ) (columns : List Name) (rows : Rows) (source : Source) (has : HasTable schema table)
    → compile.new_rows schema table base columns rows ≡ Ok source
    → compile.command schema [] base (written.Insert conflict.Replace table.name columns rows [] []) ≡ Ok (does.InsertOr has.at how.Replace source [])
unfolding compile.command compile.insert_or
replace_is schema table base columns rows source has new = rw (has.named, has.listed, new, no_upserts schema has.at base table) refl

-- the rowids of a table's rows that pass these tests
abbrev pub rowids : Table → List Term → Draft
rowids table filter = simple (Inner table.tree ∷ []) filter (col 1 0 ∷ [])

pub picked_is : (cx : Context) (table : Table) (project filter : List Term) (test : Option Expr) (s : State) (next n : ℕ) (last : Carried)
    → body.tests lower cx [] test s ≡ Ok (filter, at_budget next n last) → picked cx table project test s ≡ Ok (simple (Inner table.tree ∷ []) filter project, at_budget next n last)
unfolding picked
picked_is cx table project filter test s next n last is = rw is refl

deleted_by : (schema : Schema) (table : Table) (at : ℕ) (test : Option Expr) (filter : List Term) (n : ℕ) (last : Carried)
    → body.tests lower (over schema at table.name [] false) [] test (at_budget 2 max_budget nothing) ≡ Ok (filter, at_budget 2 n last) → deleted schema at table test ≡ Ok (rowids table filter)
unfolding deleted
deleted_by schema table at test filter n last is =
    rw (picked_is (over schema at table.name [] false) table (col 1 0 ∷ []) filter test (at_budget 2 max_budget nothing) 2 n last is) refl

-- what is asked of the table's rows has the right types, whatever else the schema has
pub simple_accepted : (schema : Schema) (table : Table) (filter project : List Term) → HasTable schema table
    → (accepts_after [] (query_of (simple (Inner table.tree ∷ []) filter project)) (Some (row_classes table ∷ [])) && (is_count [] (lit (Int (negsuc 0))) && is_count [] (number 0))) ≡ true
    → accepts_program schema [] (query_of (simple (Inner table.tree ∷ []) filter project)) [] ≡ true
simple_accepted schema table filter project has typed =
    subst (λ slots. (accepts_after [] (query_of (simple (Inner table.tree ∷ []) filter project)) slots && (is_count [] (lit (Int (negsuc 0))) && is_count [] (number 0))) ≡ true)
    (sym (filled_is schema table has.stored (found_in_tree schema table has))) typed

-- a DELETE whose WHERE is read as these terms
pub delete_by : (schema : Schema) (table : Table) (base : ℕ) (test : Option Expr) (filter : List Term) (n : ℕ) (last : Carried) (has : HasTable schema table)
    → body.tests lower (over schema has.at table.name [] false) [] test (at_budget 2 max_budget nothing) ≡ Ok (filter, at_budget 2 n last)
    → (accepts_after [] (query_of (rowids table filter)) (Some (row_classes table ∷ [])) && (is_count [] (lit (Int (negsuc 0))) && is_count [] (number 0))) ≡ true
    → compile.command schema [] base (written.Delete table.name test []) ≡ Ok (does.Delete has.at (record { lets = []; body = query_of (rowids table filter) }))
unfolding compile.command compile.delete
delete_by schema table base test filter n last has is typed =
    rw (
      has.named,
      has.listed,
      deleted_by schema table has.at test filter n last is,
      program_is schema (rowids table filter) (simple_accepted schema table filter (col 1 0 ∷ []) has typed),
    ) refl

pub delete_is : (schema : Schema) (table : Table) (base : ℕ) (tests : List Test) (has : HasTable schema table) → AreTests table tests → suffices_for max_budget tests ≡ true
    → (accepts_after [] (query_of (rowids table (map (term_of table) tests))) (Some (row_classes table ∷ [])) && (is_count [] (lit (Int (negsuc 0))) && is_count [] (number 0))) ≡ true
    → compile.command schema [] base (written.Delete table.name (where_of (map test_of tests)) [])
    ≡ Ok (does.Delete has.at (record { lets = []; body = query_of (rowids table (map (term_of table) tests)) }))
delete_is schema table base tests has are enough typed =
    delete_by schema table base (where_of (map test_of tests)) (map (term_of table) tests) (left_by max_budget tests) (carried_by nothing tests) has
    (tests_are schema table has.at 2 max_budget table.name [] nothing has.listed tests are enough) typed

pub delete_returns : (schema : Schema) (base : ℕ) (name : Name) (test : Option Expr) → compile.returning schema base (written.Delete name test []) ≡ Ok None
unfolding compile.returning compile.shows
delete_returns schema base name test = refl

pub delete_timed : (schema : Schema) (name : Name) (test : Option Expr) → compile.timed schema [] (written.Delete name test []) ≡ []
unfolding compile.timed
delete_timed schema name test = refl
