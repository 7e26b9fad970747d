-- The texts that put a record in, or write it over the one with its key (INSERT ON CONFLICT DO UPDATE), over a schema that may have tables, indexes and
-- views of others.
use Rattle.std.proofs.Common.{◌≡◌, refl, sym, ap, ◌∙◌, ℕ, ◌==◌, nat_le, true, false, not, List, [], ◌∷◌, length, find, Ok, None, Some}
use Rattle.std.specs.List.{list_all}
use Rattle.std.specs.Str.{bytes_eq}
use Rattle.std.proofs.lemmas.Bool.{and_left, and_right, eq-eqb}
use Rattle.sqlite.specs.Schema.{Schema}
use Rattle.sqlite.specs.Table.{Table}
use Rattle.sqlite.specs.Term.{Term, col}
use Rattle.sqlite.specs.Source.TheVariants.{Values}
use Rattle.sqlite.specs.Collation.TheVariants.{Binary}
use Rattle.sqlite_schema.specs.declared.schema.Index.{Index}
use Rattle.sqlite_schema.specs.declared.command.Command.{Command}
use Rattle.sqlite_schema.specs.declared.command.Command.TheVariants as does
use Rattle.sqlite_schema.specs.declared.command.Conflict.TheVariants as how
use Rattle.sqlite_schema.specs.declared.command.Source.{Source}
use Rattle.sqlite_schema.specs.declared.command.Upsert as found
use Rattle.sqlite_schema.specs.declared.program.Program.{Program}
use Rattle.sqlite_typing.specs.Types.{accepts_program}
use Rattle.sqlite_catalog.specs.Listing.{automatic}
use Rattle.sqlite_catalog.proofs.ListFacts.{find_within}
use Rattle.sqlite_draft.specs.declared.query.Draft.{Draft}
use Rattle.sqlite_draft.specs.Query.{query_of as drafted}
use Rattle.sqlite_resolve.specs.Terms.{equal}
use Rattle.sqlite_resolve.specs.Write.{places}
use Rattle.sqlite_resolve.specs.Given.{is_key_at, key_at, key_meant, do_update, update, upsert, upserts}
use Rattle.sqlite_resolve.specs.Compile as compile
use Rattle.sqlite_ast.specs.declared.Expr.{Expr}
use Rattle.sqlite_ast.specs.declared.Rows.{Rows}
use Rattle.sqlite_ast.specs.declared.Conflict.TheVariants as conflict
use Rattle.sqlite_ast.specs.declared.Statement.TheVariants as written
use Rattle.sqlite_ast.specs.declared.Upsert.{Upsert}
use Rattle.wb_sql.specs.Changes.{IsOneRow, UpsertsInto, renewal, never_acts_on}
use Rattle.wb_sql.specs.Tables.{source_record, record_order, record_take}
use Rattle.wb_sql.specs.OfficeStatements.{record_row, record_sets, record_key}
use Rattle.wb_sql.specs.Among.{table_at, index_at, HasTable, HasIndexes, UpsertsRecords}
use Rattle.wb_sql.proofs.SelectForm.{Name, parsed}
use Rattle.wb_sql.proofs.CompiledLemmas.{compiled_of, program_is, understood_is}
use Rattle.wb_sql.proofs.OfficeUpdateLemmas.{rows_set, IsTypedUpdate}
use Rattle.wb_sql.proofs.ChangeLemmas.{base_of, change_is, insert_timed, insert_returns, simple_accepted}
use Rattle.wb_sql.proofs.AmongLemmas.{IsStill, means_is, plain_table}

-- ---- the key

-- an index of another table is not the key
unguarded : (table : Table) (key : List ℕ) (index : Index) → (index.table == table.tree) ≡ false → is_key_at table key index ≡ false
unfolding is_key_at
unguarded table key index other = and_left _ _ (and_left _ _ (and_left _ _ (and_right _ _ other)))

-- the first index on the table is the key, and it stands for it
found_first : (schema : Schema) (table : Table) (key : List ℕ) (index : Index) (more : List Index) → HasIndexes schema table.tree (index ∷ more) → is_key_at table key index ≡ true
    → find (is_key_at table key) schema.indexes ≡ Some index
found_first schema table key index more has is =
    let first : find (is_key_at table key) (index ∷ more) ≡ Some index = rw is refl in
    sym (find_within (is_key_at table key) (λ i. i.table == table.tree) schema.indexes (λ i there other. unguarded table key i other)) ∙ ap (find (is_key_at table key)) has ∙ first

key_is : (schema : Schema) (table : Table) (names : List Name) (key : List ℕ) (index : Index) (more : List Index)
    → (length names == 0) ≡ false → places table names ≡ Ok key → bytes_eq key (0 ∷ []) ≡ false
    → HasIndexes schema table.tree (index ∷ more) → is_key_at table key index ≡ true → index.columns ≡ key
    → key_meant schema table names ≡ Ok (Some key)
unfolding key_meant key_at
key_is schema table names key index more some named other has is columns = rw (some, named, other, found_first schema table key index more has is, columns) refl

-- ---- the row that is written over

-- the row with the rowid that is given after the parameters, and what it is to be
abbrev pub renewed : Table → ℕ → List Term → Draft
renewed table count sets = rows_set table (equal Binary (col 1 0) (col 0 count) ∷ []) sets

update_is : (schema : Schema) (at base : ℕ) (table : Table) (u : Upsert) (d : Draft) → (length u.sets == 0) ≡ false → do_update schema at table base u ≡ Ok d
    → accepts_program schema [] (drafted d) [] ≡ true → update schema at table base u ≡ Ok (Some (record { lets = []; body = drafted d }))
unfolding update
update_is schema at base table u d some does accepted = rw (some, does, program_is schema d accepted) refl

upserts_is : (schema : Schema) (at base : ℕ) (table : Table) (u : Upsert) (key : List ℕ) (p : Program) → (length u.target == 0) ≡ false
    → key_meant schema table u.target ≡ Ok (Some key) → update schema at table base u ≡ Ok (Some p)
    → upserts schema at table base (u ∷ []) ≡ Ok (record { target = Some key; update = Some p } ∷ [])
unfolding upserts upsert
upserts_is schema at base table u key p some meant updates = rw (some, meant, updates) refl

upsert_is : (schema : Schema) (table : Table) (base : ℕ) (columns : List Name) (rows : Rows) (source : Source) (u : Upsert) (all : List found.Upsert) (has : HasTable schema table)
    → compile.new_rows schema table base columns rows ≡ Ok source → upserts schema has.at table base (u ∷ []) ≡ Ok all
    → compile.command schema [] base (written.Insert conflict.Abort table.name columns rows (u ∷ []) []) ≡ Ok (does.InsertOr has.at how.Abort source all)
unfolding compile.command compile.insert_or_abort compile.insert_or
upsert_is schema table base columns rows source u all has new clauses = rw (has.named, has.listed, new, clauses) refl

-- ---- the text

-- ON CONFLICT (names) DO UPDATE SET each of these
abbrev pub clause_of : List Name → List (Name × Expr) → Upsert
clause_of target sets = record { target = target; sets = sets; filter = None }

-- the text, which has so many parameters, is an INSERT of one row into the table, ON CONFLICT (key) DO UPDATE SET each column to its term
pub record IsUpsert (table : Table) (sql : List ℕ) (terms sets : List Term) (key : List ℕ) (count : ℕ) : Type 0 where
  pub width : ℕ
  pub columns : List Name
  pub rows : Rows
  pub target : List Name
  pub assigned : List (Name × Expr)
  pub names : List Name
  pub start : ℕ
  pub stop : ℕ
  pub tail : ℕ
  pub ends : nat_le (length sql) tail ≡ true
  pub counted : length names ≡ count
  pub first_is : compile.first sql ≡ Ok (parsed (written.Insert conflict.Abort table.name columns rows (clause_of target assigned ∷ []) []) names start stop tail)
  pub rows_are : (schema : Schema) (tree : ℕ) → compile.new_rows schema (table_at tree table) (base_of names) columns rows ≡ Ok (Values terms width)
  pub aims : (length target == 0) ≡ false
  pub target_is : (tree : ℕ) → places (table_at tree table) target ≡ Ok key
  pub no_rowid : bytes_eq key (0 ∷ []) ≡ false
  pub key_columns : list_all (λ place. not (place == 0)) key ≡ true
  pub assigns : (length assigned == 0) ≡ false
  pub updates : (schema : Schema) (at tree : ℕ) → do_update schema at (table_at tree table) (base_of names) (clause_of target assigned) ≡ Ok (renewed (table_at tree table) count sets)
  pub typed : (tree : ℕ) → IsTypedUpdate (table_at tree table) (equal Binary (col 1 0) (col 0 count) ∷ []) sets
  pub one_row : IsOneRow terms width
  pub still : IsStill table

upserts_among : (table : Table) (sql : List ℕ) (terms sets : List Term) (key : List ℕ) (count : ℕ) → IsUpsert table sql terms sets key count
    → (schema : Schema) (tree : ℕ) (index : Index) (more : List Index) → HasTable schema (table_at tree table) → HasIndexes schema tree (index ∷ more)
    → is_key_at (table_at tree table) key index ≡ true → index.columns ≡ key → never_acts_on schema tree ≡ true
    → UpsertsInto schema sql (table_at tree table) terms sets key count
upserts_among table sql terms sets key count is schema tree index more has indexed guards columns quiet =
    let u : Upsert = clause_of is.target is.assigned in
    let c : Command = does.InsertOr has.at how.Abort (Values terms is.width) (renewal tree key count sets ∷ []) in
    let clauses : upserts schema has.at (table_at tree table) (base_of is.names) (u ∷ []) ≡ Ok (renewal tree key count sets ∷ []) =
    upserts_is schema has.at (base_of is.names) (table_at tree table) u key (record { lets = []; body = drafted (renewed (table_at tree table) count sets) }) is.aims
    (key_is schema (table_at tree table) is.target key index more is.aims (is.target_is tree) is.no_rowid indexed guards columns)
    (update_is schema has.at (base_of is.names) (table_at tree table) u (renewed (table_at tree table) count sets) is.assigns (is.updates schema has.at tree)
    (simple_accepted schema (table_at tree table) (equal Binary (col 1 0) (col 0 count) ∷ []) (col 1 0 ∷ col 1 0 ∷ sets) has (is.typed tree))) in
    let all : compile.compiled schema sql ≡ Ok (compiled_of c is.names is.start is.stop is.tail) =
    change_is schema sql (written.Insert conflict.Abort table.name is.columns is.rows (u ∷ []) []) is.names is.start is.stop is.tail c is.first_is
    (insert_returns schema (base_of is.names) table.name is.columns is.rows conflict.Abort (u ∷ []))
    (insert_timed schema (table_at tree table) is.columns is.rows conflict.Abort (u ∷ []) has is.still.untimed)
    (upsert_is schema (table_at tree table) (base_of is.names) is.columns is.rows (Values terms is.width) u (renewal tree key count sets ∷ []) has (is.rows_are schema tree) clauses) in
    record {
      at = has.at;
      width = is.width;
      table_is = plain_table schema table tree has quiet is.still;
      stored = has.stored;
      one_row = is.one_row;
      columns = is.key_columns;
      means = means_is schema sql c is.names is.start is.stop is.tail is.ends is.counted (understood_is schema sql (compiled_of c is.names is.start is.stop is.tail) all);
    }

-- ---- the records

-- the index of a record's key is that of its architecture and its source package
key_guards : (tree key : ℕ) → is_key_at (table_at tree source_record) record_key (automatic (table_at tree source_record) 0 (1 ∷ 2 ∷ []) key) ≡ true
unfolding is_key_at
key_guards tree key = let same : (tree == tree) ≡ true = eq-eqb tree tree refl in rw same refl

pub upserts_records : (sql : List ℕ) → IsUpsert source_record sql record_row record_sets record_key 16 → UpsertsRecords sql
upserts_records sql is schema tree at has indexed quiet =
    upserts_among source_record sql record_row record_sets record_key 16 is schema tree (automatic (table_at tree source_record) 0 (1 ∷ 2 ∷ []) at.record_key)
    (index_at at.record_order tree record_order ∷ index_at at.record_take tree record_take ∷ []) has indexed (key_guards tree at.record_key) refl quiet
