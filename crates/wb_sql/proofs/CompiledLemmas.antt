-- The query and the command of a SELECT on one table, where the schema is known to have the table at a place.
use Rattle.std.proofs.Common.{◌≡◌, refl, sym, subst, ℕ, ◌^◌, ◌==◌, nat_le, find, ◌&&◌, List, [], ◌∷◌, map, Ok, None, Some, Option, true, false, suc}
use Rattle.sqlite_value.specs.declared.keys.Key.{Key}
use Rattle.sqlite_value.specs.declared.keys.Collation.{Collation}
use Rattle.sqlite_schema.specs.declared.schema.Schema.{Schema}
use Rattle.sqlite_schema.specs.declared.schema.Table.{Table}
use Rattle.sqlite_schema.specs.declared.command.Command.{Command}
use Rattle.sqlite_schema.specs.declared.command.Command.TheVariants as does
use Rattle.sqlite_schema.specs.declared.program.Table.{Table as Let}
use Rattle.sqlite_sql.specs.Term.{Term}
use Rattle.sqlite_sql.specs.Query.{inner, end}
use Rattle.sqlite_typing.specs.Types.{accepts_program, accepts_after, filled, row_classes, is_count}
use Rattle.sqlite_draft.specs.declared.query.Draft.{Draft}
use Rattle.sqlite_draft.specs.Query.{query_of}
use Rattle.sqlite_resolve.specs.Lowering.{max_budget, fresh}
use Rattle.sqlite_resolve.specs.declared.state.Carried.{Carried}
use Rattle.sqlite_resolve.specs.declared.scope.Output.{Output}
use Rattle.sqlite_resolve.specs.declared.compiled.Compiled.{Compiled}
use Rattle.sqlite_resolve.specs.Select as selecting
use Rattle.sqlite_resolve.specs.Program as program
use Rattle.sqlite_resolve.specs.Compile as compile
use Rattle.sqlite_ast.specs.declared.Core.{Core, out-Core}
use Rattle.sqlite_ast.specs.declared.Select.{Select, out-Select}
use Rattle.sqlite_ast.specs.declared.Sort.{Sort}
use Rattle.sqlite_ast.specs.declared.Statement.TheVariants as written
use Rattle.sqlite.specs.Listing.{understood, reads_listing}
use Rattle.wb_sql.proofs.SelectForm.{Name, source, parsed}
use Rattle.wb_sql.proofs.OpenedLemmas.{out_source}
use Rattle.wb_sql.proofs.ColumnLemmas.{at_budget}
use Rattle.wb_sql.proofs.StageLemmas.{clauses_of}

-- the query of one table
abbrev pub draft_of : Table → List Output → List Term → List (Term × Key) → Term → Term → Draft
draft_of table columns filter order limit offset = record {
  from = inner table.tree end;
  filter = filter;
  group = None;
  project = map (λ o. o.term) columns;
  distinct = false;
  collations = [];
  order = order;
  limit = limit;
  offset = offset;
}

-- it, and the names and the collations of its columns
abbrev pub shown_of : Table → List Output → List Term → List (Term × Key) → Term → Term → program.Shown
shown_of table columns filter order limit offset = (draft_of table columns filter order limit offset, map (λ o. o.name) columns, map (λ o. o.carried.collation) columns)

assembled_is : (table : Table) (at l : ℕ) (name : Name) (columns : List Output) (filter : List Term) (order : List (Term × Key)) (limit offset : Term) (c : Carried)
    → selecting.assembled false limit offset (clauses_of at name table columns filter order) (at_budget 2 l c) ≡ Ok (draft_of table columns filter order limit offset)
unfolding selecting.assembled selecting.ungrouped
assembled_is table at l name columns filter order limit offset c = refl

pub named_is : (schema : Schema) (table : Table) (at l : ℕ) (name : Name) (core : Core) (sorts : List Sort) (columns : List Output) (filter : List Term) (order : List (Term × Key)) (limit offset : Term) (c : Carried)
    → (out-Core core).distinct ≡ false → selecting.parts schema core sorts (fresh 1 max_budget) ≡ Ok (clauses_of at name table columns filter order, at_budget 2 l c)
    → selecting.named schema core sorts (limit, offset) ≡ Ok (shown_of table columns filter order limit offset)
unfolding selecting.named
named_is schema table at l name core sorts columns filter order limit offset c distinct parts =
    rw (parts, distinct, assembled_is table at l name columns filter order limit offset c) refl

module _ (q : Schema → Select → program.Building program.Shown) where
  origin_is : (schema : Schema) (name : Name) (lets : List Let) → program.sources q schema (source name ∷ []) lets ≡ Ok (schema, lets)
  unfolding program.sources program.source
  origin_is schema name lets = rw (out_source name) refl

  viewing_is : (schema : Schema) (core : Core) (order : List Sort) (page : Term × Term) (n : ℕ) (lets : List Let) (shown : program.Shown)
      → selecting.named schema core order page ≡ Ok shown → program.viewing q schema core order page (suc n) schema lets ≡ Ok ((shown, schema), lets)
  unfolding program.viewing
  viewing_is schema core order page n lets shown named = rw named refl

  single_is : (schema : Schema) (name : Name) (core : Core) (order : List Sort) (page : Term × Term) (lets : List Let) (shown : program.Shown)
      → (out-Core core).from ≡ source name ∷ [] → selecting.named schema core order page ≡ Ok shown → program.single q schema core order page lets ≡ Ok ((shown, schema), lets)
  unfolding program.single
  single_is schema name core order page lets shown from named = rw (from, origin_is schema name lets, viewing_is schema core order page 63 lets shown named) refl

  alone_is : (schema : Schema) (name : Name) (core : Core) (order : List Sort) (page : Term × Term) (lets : List Let) (shown : program.Shown)
      → (out-Core core).from ≡ source name ∷ [] → selecting.named schema core order page ≡ Ok shown → program.alone q schema core order page lets ≡ Ok (shown, lets)
  unfolding program.alone
  alone_is schema name core order page lets shown from named = rw (single_is schema name core order page lets shown from named) refl

  whole_is : (schema : Schema) (name : Name) (s : Select) (page : Term × Term) (lets : List Let) (shown : program.Shown)
      → selecting.paging schema s ≡ Ok page → (out-Select s).others ≡ [] → (out-Core (out-Select s).first).from ≡ source name ∷ []
      → selecting.named schema (out-Select s).first (out-Select s).order page ≡ Ok shown → program.whole q schema s lets ≡ Ok (shown, lets)
  unfolding program.whole
  whole_is schema name s page lets shown paging others from named = rw (paging, others, alone_is schema name (out-Select s).first (out-Select s).order page lets shown from named) refl

  level_is : (schema : Schema) (name : Name) (s : Select) (page : Term × Term) (lets : List Let) (shown : program.Shown)
      → (out-Select s).«with» ≡ [] → selecting.paging schema s ≡ Ok page → (out-Select s).others ≡ [] → (out-Core (out-Select s).first).from ≡ source name ∷ []
      → selecting.named schema (out-Select s).first (out-Select s).order page ≡ Ok shown → program.level q schema s lets ≡ Ok (shown, lets)
  unfolding program.level program.with
  level_is schema name s page lets shown none paging others from named = rw (none, whole_is schema name s page lets shown paging others from named) refl

pub query_is : (schema : Schema) (name : Name) (s : Select) (page : Term × Term) (shown : program.Shown)
    → (out-Select s).«with» ≡ [] → selecting.paging schema s ≡ Ok page → (out-Select s).others ≡ [] → (out-Core (out-Select s).first).from ≡ source name ∷ []
    → selecting.named schema (out-Select s).first (out-Select s).order page ≡ Ok shown → program.query schema s ≡ Ok (shown, [])
unfolding program.query program.query_to
query_is schema name s page shown none paging others from named = level_is (program.query_to 15) schema name s page [] shown none paging others from named

pub filled_is : (schema : Schema) (table : Table) → nat_le (2 ^ 31) table.tree ≡ false → find (λ t. t.tree == table.tree) schema.tables ≡ Some table
    → filled schema [] [] (inner table.tree end) [] ≡ Some (row_classes table ∷ [])
filled_is schema table small found = rw (small, found) refl

-- the types of a query on one table are right, whatever else the schema has
pub accepts_is : (schema : Schema) (table : Table) (columns : List Output) (filter : List Term) (order : List (Term × Key)) (limit offset : Term)
    → nat_le (2 ^ 31) table.tree ≡ false → find (λ t. t.tree == table.tree) schema.tables ≡ Some table
    → (accepts_after [] (query_of (draft_of table columns filter order limit offset)) (Some (row_classes table ∷ [])) && (is_count [] limit && is_count [] offset)) ≡ true
    → accepts_program schema [] (query_of (draft_of table columns filter order limit offset)) [] ≡ true
accepts_is schema table columns filter order limit offset small found typed =
    subst (λ slots. (accepts_after [] (query_of (draft_of table columns filter order limit offset)) slots && (is_count [] limit && is_count [] offset)) ≡ true) (sym (filled_is schema table small found)) typed

pub program_is : (schema : Schema) (d : Draft) → accepts_program schema [] (query_of d) [] ≡ true → program.program schema [] d ≡ Ok (record { lets = []; body = query_of d })
unfolding program.program
program_is schema d accepted = rw accepted refl

pub read_is : (schema : Schema) (s : Select) (d : Draft) (names : List Name) (how : List (Option Collation))
    → program.query schema s ≡ Ok ((d, names, how), []) → accepts_program schema [] (query_of d) [] ≡ true
    → compile.read schema s ≡ Ok (does.Select (record { lets = []; body = query_of d }) names)
unfolding compile.read
read_is schema s d names how query accepted = rw (query, program_is schema d accepted) refl

planned_is : (schema : Schema) (s : Select) (names : List Name) (start stop tail : ℕ) (c : Command) → compile.read schema s ≡ Ok c
    → compile.planned schema (parsed (written.Select s) names start stop tail) ≡ Ok ([], (c, None))
unfolding compile.planned compile.timed compile.meaning compile.command compile.returning
planned_is schema s names start stop tail c read = rw read refl

-- what is compiled of a text with this command
abbrev pub compiled_of : Command → List Name → ℕ → ℕ → ℕ → Compiled
compiled_of c names start stop tail = record { command = c; returning = None; names = names; formats = []; start = start; end = stop; tail = tail }

pub compiled_is : (schema : Schema) (text : List ℕ) (s : Select) (names : List Name) (start stop tail : ℕ) (c : Command)
    → compile.first text ≡ Ok (parsed (written.Select s) names start stop tail) → compile.read schema s ≡ Ok c → compile.compiled schema text ≡ Ok (compiled_of c names start stop tail)
unfolding compile.compiled
compiled_is schema text s names start stop tail c first read = rw (first, planned_is schema s names start stop tail c read) refl

pub understood_is : (schema : Schema) (text : List ℕ) (c : Compiled) → compile.compiled schema text ≡ Ok c → understood schema text ≡ Ok c
unfolding understood
understood_is schema text c is = rw is refl

pub unlisted_is : (schema : Schema) (text : List ℕ) (c : Compiled) → compile.compiled schema text ≡ Ok c → reads_listing schema text ≡ false
unlisted_is schema text c is = rw is refl
