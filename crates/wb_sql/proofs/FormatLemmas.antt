-- What the text that asks for the format means over a schema whose table `office` has whatever other columns.
use Rattle.std.proofs.Common.{◌≡◌, refl, sym, subst, ap, ◌∙◌, ◌&&◌, ℕ, ◌+◌, suc, nat_le, List, [], ◌∷◌, length, map, codes, Ok, Some, None, true, false, Bool, cond, slice_get, option_map, is_some, arith}
use Rattle.std.proofs.lemmas.Option.{slice_get-map}
use Rattle.sqlite_tied.specs.Compute.{everything}
use Rattle.sqlite.specs.Schema.{Schema}
use Rattle.sqlite.specs.Table.{Table}
use Rattle.sqlite_schema.specs.declared.schema.Column.{Column}
use Rattle.sqlite_schema.specs.declared.command.Command.{Command}
use Rattle.sqlite_schema.specs.declared.command.Command.TheVariants as does
use Rattle.sqlite_schema.specs.Names.{column_named, table_named, place_of, is_key, same_name}
use Rattle.sqlite_catalog.proofs.StepLemmas.{no_table}
use Rattle.sqlite_typing.specs.Types.{accepts_after, row_classes, class_in, is_count}
use Rattle.sqlite_draft.specs.Query.{query_of as drafted}
use Rattle.sqlite_resolve.specs.Compile.{first, compiled, read}
use Rattle.sqlite_resolve.specs.Terms.{number as shown_number}
use Rattle.sqlite_ast.specs.declared.Select.{Select}
use Rattle.sqlite_ast.specs.declared.Statement.TheVariants as written
use Rattle.wb_sql.specs.Queries.{query_of}
use Rattle.wb_sql.specs.Among.{HasTable, LacksOffice, table_in}
use Rattle.wb_sql.specs.OfficeStatements.{no_limit}
use Rattle.wb_sql.specs.Format.{HasFormatColumn, AsksFormat, format_place, formats_in}
use Rattle.wb_sql.specs.Recognition.{IsFound}
use Rattle.wb_sql.specs.Tables.{number, office}
use Rattle.wb_sql.proofs.FreeLemmas.{office_free}
use Rattle.wb_sql.proofs.AmongLemmas.{means_is}
use Rattle.wb_sql.proofs.SelectForm.{parsed, select, shown, source}
use Rattle.wb_sql.proofs.ShownLemmas.{outputs_after}
use Rattle.wb_sql.proofs.TestLemmas.{IsColumn}
use Rattle.wb_sql.proofs.CompiledLemmas.{compiled_of, compiled_is, understood_is, unlisted_is}
use Rattle.wb_sql.proofs.SelectLemmas.{IsSelect, IsTyped, asked, asked_is}

-- ---- the text

-- the statement of the text
abbrev pub format_select : Select
format_select = select (codes "office") (codes "format" ∷ []) [] [] None

-- a row has a value of some class at the place of each column
class_at : (table : Table) (column : Column) (place : ℕ) → slice_get table.columns place ≡ Some column → is_some (slice_get (row_classes table) (place_of table place)) ≡ true
class_at table column place listed = by_key (is_key table.key place)
  where
    by_key : (b : Bool) → is_some (slice_get (row_classes table) (cond b 0 (place + 1))) ≡ true
    by_key true = refl
    by_key false =
        let next : place + 1 ≡ suc place = omega arith in
        let is : slice_get (map class_in table.columns) place ≡ Some (class_in column) = slice_get-map class_in table.columns place ∙ ap (option_map class_in) listed in
        rw next (ap is_some is)

module _ {schema : Schema} (has : HasFormatColumn schema) where
  abbrev column_is : List (ℕ × Column)
  column_is = (has.format.place, has.format.column) ∷ []

  is_column : IsColumn has.table has.format.place has.format.column
  is_column = record { named = subst (λ name. column_named has.table name ≡ Some has.format.place) (sym has.format.spelled) has.format.named; is = has.format.listed }

  is_select : IsSelect has.table format_select column_is [] [] no_limit
  unfolding everything
  is_select = record {
    none = refl;
    others = refl;
    distinct = refl;
    shown = ap (λ name. shown name ∷ []) (sym has.format.spelled);
    from = ap (λ name. source name ∷ []) (sym has.spelled);
    filter = refl;
    group = refl;
    having = refl;
    sorted = refl;
    paged = λ schema. refl;
  }

  typed_is : (accepts_after [] (drafted (asked has.table column_is [] [] no_limit)) (Some (row_classes has.table ∷ [])) && (is_count [] no_limit && is_count [] (shown_number 0))) ≡ true
  typed_is = rw (class_at has.table has.format.column has.format.place has.format.listed) refl

  is_typed : IsTyped has.table column_is [] [] no_limit
  is_typed = record { columns_are = (is_column, tt); tests_are = tt; order_is = tt; free = tt; small = refl; typed = typed_is }

-- a text of this statement alone asks for the format
pub asks_format : (sql : List ℕ) (start stop tail : ℕ) → nat_le (length sql) tail ≡ true → first sql ≡ Ok (parsed (written.Select format_select) [] start stop tail) → AsksFormat sql
asks_format sql start stop tail ends first_is schema has =
    let names : List (List ℕ) = map (λ o. o.name) (outputs_after has.table [] (column_is has)) in
    let c : Command = does.Select (record { lets = []; body = query_of (formats_in has) }) names in
    let reads : read schema format_select ≡ Ok c = asked_is schema has.table format_select (column_is has) [] [] no_limit has.has (is_select has) (is_typed has) in
    let all : compiled schema sql ≡ Ok (compiled_of c [] start stop tail) = compiled_is schema sql format_select [] start stop tail c first_is reads in
    record {
      names = names;
      means = means_is schema sql c [] start stop tail ends refl (understood_is schema sql (compiled_of c [] start stop tail) all);
      unlisted = unlisted_is schema sql (compiled_of c [] start stop tail) all;
      stored = has.has.stored;
    }

-- ---- the recognition

-- the table of the schema that has this name is found with it
pub found_has : (schema : Schema) (table : Table) (name : List ℕ) → HasTable schema table → table.name ≡ name → IsFound schema name table
found_has schema table name h is =
    record { at = h.at; named = subst (λ n. table_named schema n ≡ Some h.at) is h.named; listed = h.listed; in_tree = h.in_tree; stored = h.stored }

-- ---- the one table and the one column

some_is : {A : Type 0} (x y : A) → Some x ≡ Some y → x ≡ y
some_is x y e = cc

-- the format stands in one table, at one place
pub same_format : (schema : Schema) (a b : HasFormatColumn schema) → (a.table ≡ b.table) × (format_place a ≡ format_place b)
unfolding found_has
same_format schema a b =
    let one = (found_has schema a.table (codes "office") a.has a.spelled).named in
    let other = (found_has schema b.table (codes "office") b.has b.spelled).named in
    let at : a.has.at ≡ b.has.at = some_is _ _ (sym one ∙ other) in
    let table : a.table ≡ b.table = some_is _ _ (sym a.has.listed ∙ (ap (slice_get schema.tables) at ∙ b.has.listed)) in
    let named : column_named b.table (codes "format") ≡ Some a.format.place = subst (λ t. column_named t (codes "format") ≡ Some a.format.place) table a.format.named in
    let place : a.format.place ≡ b.format.place = some_is _ _ (sym named ∙ b.format.named) in
    (table, subst (λ t. place_of t a.format.place ≡ place_of b.table b.format.place) (sym table) (ap (place_of b.table) place))

-- a schema with the table of the office has it
pub format_of_office : (schema : Schema) → HasTable schema (table_in schema office) → HasFormatColumn schema
unfolding same_name
format_of_office schema has = record {
  table = table_in schema office;
  has = has;
  spelled = refl;
  format = record { place = 1; column = number (codes "format"); named = refl; listed = refl; spelled = refl };
}

-- there it is at the third place of a row, after the rowid and the id
pub format_in_office : (schema : Schema) (has : HasTable schema (table_in schema office)) (h : HasFormatColumn schema) → (h.table ≡ table_in schema office) × (format_place h ≡ 2)
unfolding format_of_office
format_in_office schema has h = same_format schema h (format_of_office schema has)

-- a schema that lacks the office has no table of that name
pub lacks_format : (schema : Schema) → LacksOffice schema → ¬ HasFormatColumn schema
unfolding same_name
lacks_format schema lacks h =
    let none = no_table schema (codes "office") (office_free schema lacks (codes "office") refl) in
    let some = (found_has schema h.table (codes "office") h.has h.spelled).named in
    cc
