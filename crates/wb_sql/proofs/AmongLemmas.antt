-- The office's texts over a schema that may have tables, indexes and views of others.
use Rattle.std.proofs.Common.{◌≡◌, refl, sym, subst, ap, ◌∙◌, ◌&&◌, ℕ, nat_le, negsuc, List, [], ◌∷◌, length, map, Ok, Some, true, false}
use Rattle.std.proofs.lemmas.Bool.{leb-true}
use Rattle.sqlite.specs.Schema.{Schema}
use Rattle.sqlite.specs.Table.{Table}
use Rattle.sqlite.specs.Term.{Term, lit}
use Rattle.sqlite.specs.Source.TheVariants.{Values}
use Rattle.sqlite.specs.Listing.{understood}
use Rattle.sqlite.specs.Given.{IsPlain}
use Rattle.sqlite.specs.declared.types.Value.TheVariants.{Int}
use Rattle.sqlite_schema.specs.declared.schema.Column.{Column}
use Rattle.sqlite_schema.specs.declared.command.Command.{Command}
use Rattle.sqlite_schema.specs.declared.command.Command.TheVariants as does
use Rattle.sqlite_schema.specs.declared.command.Conflict.TheVariants as how
use Rattle.sqlite_typing.specs.Types.{accepts_after, row_classes, is_count}
use Rattle.sqlite_draft.specs.Query.{query_of as drafted}
use Rattle.sqlite_resolve.specs.Compile.{first, compiled, command, read, new_rows}
use Rattle.sqlite_resolve.specs.Lowering.{max_budget}
use Rattle.sqlite_resolve.specs.Terms.{number as shown_number}
use Rattle.sqlite_ast.specs.declared.Rows.{Rows}
use Rattle.sqlite_ast.specs.declared.Conflict.{Conflict}
use Rattle.sqlite_ast.specs.declared.Conflict.TheVariants as conflict
use Rattle.sqlite_ast.specs.declared.Select.{Select}
use Rattle.sqlite_ast.specs.declared.Statement.TheVariants as written
use Rattle.wb_sql.specs.Queries.{TableQuery, query_of, rowids_where}
use Rattle.wb_sql.specs.Changes.{IsPlainTable, IsOneRow, never_acts_on}
use Rattle.wb_sql.specs.Statements.{Means, IsWhole, command_in, parameters_in}
use Rattle.wb_sql.specs.Among.{table_at, query_at, HasTable, AsksAmong, InsertsAmong, ReplacesAmong, DeletesAmong}
use Rattle.wb_sql.proofs.SelectForm.{parsed, where_of}
use Rattle.wb_sql.proofs.ShownLemmas.{outputs_after}
use Rattle.wb_sql.proofs.CompiledLemmas.{compiled_of, compiled_is, understood_is, unlisted_is}
use Rattle.wb_sql.proofs.SelectLemmas.{Test, AreTests, IsSelect, IsTyped, asked, asked_is, suffices_for, term_of, test_of}
use Rattle.wb_sql.proofs.ChangeLemmas.{base_of, rowids, change_is, insert_timed, insert_returns, insert_is, replace_is, delete_is, delete_returns, delete_timed}

-- a text that was compiled to a command, with these parameters and nothing after it, without RETURNING and without the time, means that command
pub means_is : (schema : Schema) (sql : List ℕ) (c : Command) (names : List (List ℕ)) (start stop tail : ℕ) {count : ℕ} → nat_le (length sql) tail ≡ true → length names ≡ count
    → understood schema sql ≡ Ok (compiled_of c names start stop tail) → Means schema sql c count
means_is schema sql c names start stop tail {count} ends counted is = record {
  is = ap command_in is;
  plain = subst IsPlain (sym is) (refl, refl);
  whole = subst (IsWhole sql) (sym is) (leb-true (length sql) tail ends);
  counted = ap parameters_in is ∙ counted;
}

-- over each schema that has the table, the statement of the text, which has so many parameters, is read as what the
-- query asks, and shows these names
pub record IsQueryBy (table : Table) (sql : List ℕ) (q : TableQuery) (count : ℕ) : Type 0 where
  pub shown : (tree : ℕ) → List (List ℕ)
  pub statement : Select
  pub names : List (List ℕ)
  pub start : ℕ
  pub stop : ℕ
  pub tail : ℕ
  pub ends : nat_le (length sql) tail ≡ true
  pub counted : length names ≡ count
  pub first_is : first sql ≡ Ok (parsed (written.Select statement) names start stop tail)
  pub reads : (schema : Schema) (tree : ℕ) → HasTable schema (table_at tree table)
      → read schema statement ≡ Ok (does.Select (record { lets = []; body = query_of (query_at tree q) }) (shown tree))

pub asks_by : (table : Table) (sql : List ℕ) (q : TableQuery) {count : ℕ} → IsQueryBy table sql q count
    → AsksAmong table sql q count
asks_by table sql q is schema tree has =
    let c : Command = does.Select (record { lets = []; body = query_of (query_at tree q) }) (is.shown tree) in
    let all : compiled schema sql ≡ Ok (compiled_of c is.names is.start is.stop is.tail) =
    compiled_is schema sql is.statement is.names is.start is.stop is.tail c is.first_is (is.reads schema tree has) in
    record {
      names = is.shown tree;
      means = means_is schema sql c is.names is.start is.stop is.tail is.ends is.counted (understood_is schema sql (compiled_of c is.names is.start is.stop is.tail) all);
      unlisted = unlisted_is schema sql (compiled_of c is.names is.start is.stop is.tail) all;
      stored = has.stored;
    }

-- the text, which has so many parameters, is a SELECT of these columns of the table, with these tests, in this order and with this limit, which is what the query asks
pub record IsQuery (table : Table) (sql : List ℕ) (q : TableQuery) (count : ℕ) : Type 0 where
  pub columns : List (ℕ × Column)
  pub tests : List Test
  pub order : List (ℕ × Column)
  pub limit : Term
  pub statement : Select
  pub names : List (List ℕ)
  pub start : ℕ
  pub stop : ℕ
  pub tail : ℕ
  pub ends : nat_le (length sql) tail ≡ true
  pub counted : length names ≡ count
  pub first_is : first sql ≡ Ok (parsed (written.Select statement) names start stop tail)
  pub select_is : (tree : ℕ) → IsSelect (table_at tree table) statement columns tests order limit
  pub typed : (tree : ℕ) → IsTyped (table_at tree table) columns tests order limit
  pub asks : (tree : ℕ) → drafted (asked (table_at tree table) columns tests order limit) ≡ query_of (query_at tree q)

pub asks_among : (table : Table) (sql : List ℕ) (q : TableQuery) {count : ℕ} → IsQuery table sql q count → AsksAmong table sql q count
asks_among table sql q is = asks_by table sql q (record {
  shown = λ tree. map (λ o. o.name) (outputs_after (table_at tree table) [] is.columns);
  statement = is.statement;
  names = is.names;
  start = is.start;
  stop = is.stop;
  tail = is.tail;
  ends = is.ends;
  counted = is.counted;
  first_is = is.first_is;
  reads =
      λ schema tree has. asked_is schema (table_at tree table) is.statement is.columns is.tests is.order is.limit has
      (is.select_is tree) (is.typed tree)
      ∙ ap (λ b. Ok (does.Select (record {
        lets =
            [];
        body = b;
      }) (map (λ o. o.name) (outputs_after (table_at tree table) [] is.columns)))) (is.asks tree);
})

-- the table counts no rowids and reads no time
pub record IsStill (table : Table) : Type 0 where
  pub uncounted : table.is_counted ≡ false
  pub unstamped : table.stamps.terms ≡ []
  pub untimed : table.stamps.formats ≡ []

-- the text, which has so many parameters, is an INSERT of one row into the table, which does this where a row with its key is there
pub record IsInsert (way : Conflict) (table : Table) (sql : List ℕ) (terms : List Term) (count : ℕ) : Type 0 where
  pub width : ℕ
  pub columns : List (List ℕ)
  pub rows : Rows
  pub names : List (List ℕ)
  pub start : ℕ
  pub stop : ℕ
  pub tail : ℕ
  pub ends : nat_le (length sql) tail ≡ true
  pub counted : length names ≡ count
  pub first_is : first sql ≡ Ok (parsed (written.Insert way table.name columns rows [] []) names start stop tail)
  pub rows_are : (schema : Schema) (tree : ℕ) → new_rows schema (table_at tree table) (base_of names) columns rows ≡ Ok (Values terms width)
  pub one_row : IsOneRow terms width
  pub still : IsStill table

-- the text, which has so many parameters, is a DELETE of the rows of the table that pass these tests
pub record IsDelete (table : Table) (sql : List ℕ) (terms : List Term) (count : ℕ) : Type 0 where
  pub tests : List Test
  pub names : List (List ℕ)
  pub start : ℕ
  pub stop : ℕ
  pub tail : ℕ
  pub ends : nat_le (length sql) tail ≡ true
  pub counted : length names ≡ count
  pub first_is : first sql ≡ Ok (parsed (written.Delete table.name (where_of (map test_of tests)) []) names start stop tail)
  pub tests_are : (tree : ℕ) → AreTests (table_at tree table) tests
  pub small : suffices_for max_budget tests ≡ true
  pub typed : (tree : ℕ) → (accepts_after [] (drafted (rowids (table_at tree table) terms)) (Some (row_classes (table_at tree table) ∷ [])) && (is_count [] (lit (Int (negsuc 0))) && is_count [] (shown_number 0))) ≡ true
  pub terms_are : (tree : ℕ) → map (term_of (table_at tree table)) tests ≡ terms
  pub still : IsStill table

-- the table is plain, wherever it is
pub plain_table : (schema : Schema) (table : Table) (tree : ℕ) (has : HasTable schema (table_at tree table)) → never_acts_on schema tree ≡ true → IsStill table → IsPlainTable schema has.at (table_at tree table)
plain_table schema table tree has quiet still = record { listed = has.listed; uncounted = still.uncounted; unstamped = still.unstamped; quiet = quiet }

pub inserts_among : (table : Table) (sql : List ℕ) (terms : List Term) {count : ℕ} → IsInsert conflict.Abort table sql terms count → InsertsAmong table sql terms count
inserts_among table sql terms is schema tree has quiet =
    let c : Command = does.Insert has.at (Values terms is.width) in
    let all : compiled schema sql ≡ Ok (compiled_of c is.names is.start is.stop is.tail) =
    change_is schema sql (written.Insert conflict.Abort table.name is.columns is.rows [] []) is.names is.start is.stop is.tail c is.first_is
    (insert_returns schema (base_of is.names) table.name is.columns is.rows conflict.Abort [])
    (insert_timed schema (table_at tree table) is.columns is.rows conflict.Abort [] has is.still.untimed)
    (insert_is schema (table_at tree table) (base_of is.names) is.columns is.rows (Values terms is.width) has (is.rows_are schema tree)) in
    record {
      at = has.at;
      width = is.width;
      table_is = plain_table schema table tree has quiet is.still;
      one_row = is.one_row;
      means = means_is schema sql c is.names is.start is.stop is.tail is.ends is.counted (understood_is schema sql (compiled_of c is.names is.start is.stop is.tail) all);
    }

pub replaces_among : (table : Table) (sql : List ℕ) (terms : List Term) {count : ℕ} → IsInsert conflict.Replace table sql terms count → ReplacesAmong table sql terms count
replaces_among table sql terms is schema tree has quiet =
    let c : Command = does.InsertOr has.at how.Replace (Values terms is.width) [] in
    let all : compiled schema sql ≡ Ok (compiled_of c is.names is.start is.stop is.tail) =
    change_is schema sql (written.Insert conflict.Replace table.name is.columns is.rows [] []) is.names is.start is.stop is.tail c is.first_is
    (insert_returns schema (base_of is.names) table.name is.columns is.rows conflict.Replace [])
    (insert_timed schema (table_at tree table) is.columns is.rows conflict.Replace [] has is.still.untimed)
    (replace_is schema (table_at tree table) (base_of is.names) is.columns is.rows (Values terms is.width) has (is.rows_are schema tree)) in
    record {
      at = has.at;
      width = is.width;
      table_is = plain_table schema table tree has quiet is.still;
      one_row = is.one_row;
      means = means_is schema sql c is.names is.start is.stop is.tail is.ends is.counted (understood_is schema sql (compiled_of c is.names is.start is.stop is.tail) all);
    }

pub deletes_among : (table : Table) (sql : List ℕ) (terms : List Term) {count : ℕ} → IsDelete table sql terms count → DeletesAmong table sql terms count
deletes_among table sql terms is schema tree has quiet =
    let c : Command = does.Delete has.at (record { lets = []; body = query_of (rowids_where tree terms) }) in
    let deletes : command schema [] (base_of is.names) (written.Delete table.name (where_of (map test_of is.tests)) []) ≡ Ok c =
    subst (λ filter. command schema [] (base_of is.names) (written.Delete table.name (where_of (map test_of is.tests)) []) ≡ Ok (does.Delete has.at (record { lets = []; body = drafted (rowids (table_at tree table) filter) })))
    (is.terms_are tree)
    (delete_is schema (table_at tree table) (base_of is.names) is.tests has (is.tests_are tree) is.small
    (subst (λ filter. (accepts_after [] (drafted (rowids (table_at tree table) filter)) (Some (row_classes (table_at tree table) ∷ [])) && (is_count [] (lit (Int (negsuc 0))) && is_count [] (shown_number 0))) ≡ true)
    (sym (is.terms_are tree)) (is.typed tree))) in
    let all : compiled schema sql ≡ Ok (compiled_of c is.names is.start is.stop is.tail) =
    change_is schema sql (written.Delete table.name (where_of (map test_of is.tests)) []) is.names is.start is.stop is.tail c is.first_is
    (delete_returns schema (base_of is.names) table.name (where_of (map test_of is.tests))) (delete_timed schema table.name (where_of (map test_of is.tests))) deletes in
    record {
      at = has.at;
      table_is = plain_table schema table tree has quiet is.still;
      stored = has.stored;
      means = means_is schema sql c is.names is.start is.stop is.tail is.ends is.counted (understood_is schema sql (compiled_of c is.names is.start is.stop is.tail) all);
    }
