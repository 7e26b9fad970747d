-- The CREATE texts of the office over a schema that may have tables, indexes and views of others.
use Rattle.std.proofs.Common.{◌≡◌, refl, sym, subst, ap, ◌∙◌, ℕ, zero, suc, ◌+◌, ◌==◌, nat_le, Bool, true, false, not, ◌&&◌, ◌||◌, cond}
use Rattle.std.proofs.Common.{List, [], ◌∷◌, ◌++◌, length, codes, slice_get, slice_range, Option, None, Some, is_some, option_and_then, Ok}
use Rattle.std.specs.List.{position_from, list_any}
use Rattle.std.proofs.lemmas.List.Folds.{list_any-append}
use Rattle.sqlite.specs.Schema.{Schema}
use Rattle.sqlite.specs.Table.{Table}
use Rattle.sqlite.specs.Listing.{understood}
use Rattle.sqlite_tied.specs.Compute.{everything}
use Rattle.sqlite.specs.Change.{is_used, created, next_tree}
use Rattle.sqlite.specs.Rows.{sequence}
use Rattle.sqlite.specs.Does.{lacks_sequence}
use Rattle.sqlite_schema.specs.declared.schema.Index.{Index}
use Rattle.sqlite_schema.specs.declared.command.Command.{Command}
use Rattle.sqlite_schema.specs.declared.command.Command.TheVariants as does
use Rattle.sqlite_schema.specs.Names.{same_name, table_named, view_named}
use Rattle.sqlite_catalog.proofs.StepLemmas.{no_table, no_index, no_view}
use Rattle.sqlite_resolve.specs.Compile as compile
use Rattle.sqlite_resolve.specs.Define as define
use Rattle.sqlite_ast.specs.declared.CreateTable.{CreateTable}
use Rattle.sqlite_ast.specs.declared.CreateIndex.{CreateIndex}
use Rattle.sqlite_ast.specs.declared.Expr.{roll-Expr}
use Rattle.sqlite_ast.specs.declared.Expr.TheOpen.Expr-F.{Integer}
use Rattle.sqlite_ast.specs.declared.Rows.TheVariants.{Values}
use Rattle.sqlite_ast.specs.declared.Statement.TheVariants as written
use Rattle.wb_sql.specs.Statements.{statement_in}
use Rattle.wb_sql.specs.Among.{table_at, index_at, ReplacesAmong}
use Rattle.wb_sql.specs.Tables.{office}
use Rattle.wb_sql.specs.OfficeStatements.{first_office_row}
use Rattle.wb_sql.specs.Making.{CreatesAmong, IndexesAmong}
use Rattle.wb_sql.proofs.SelectForm.{Name, parsed}
use Rattle.wb_sql.proofs.CompiledLemmas.{compiled_of, understood_is}
use Rattle.wb_sql.proofs.ChangeLemmas.{change_is}
use Rattle.wb_sql.proofs.AmongLemmas.{means_is, replaces_among}

-- the name of a table or an index is free, and is not one of SQLite's own
creates_is : (if_missing : Bool) (name : Name) → compile.is_reserved name ≡ false → compile.creates if_missing name None None ≡ Ok true
unfolding compile.creates
creates_is if_missing name own = rw own refl

-- no view has the name, nor an index or a trigger that is kept as it is
attached_is : (schema : Schema) (name : Name) → view_named schema name ≡ None → compile.is_attached schema name ≡ false
unfolding compile.is_attached
attached_is schema name none = rw none refl

-- the command of a CREATE TABLE whose name is free
table_made : (schema : Schema) (def : CreateTable) (table : Table) → is_used schema def.name ≡ false → compile.is_reserved def.name ≡ false
    → define.table [] def ≡ Ok table → (length table.computed == length table.stamps.places && not def.resolves) ≡ true → compile.create_table schema [] def ≡ Ok does.CreateTable
unfolding compile.create_table
table_made schema def table free own defined plain =
    rw (
      attached_is schema def.name (no_view schema def.name free),
      no_table schema def.name free,
      no_view schema def.name free,
      no_index schema def.name free,
      creates_is def.if_missing def.name own,
      defined,
      plain,
    ) refl

-- the text is a CREATE TABLE of this table, which counts no rowids
pub record IsCreateTable (table : Table) (sql : List ℕ) : Type 0 where
  pub def : CreateTable
  pub start : ℕ
  pub stop : ℕ
  pub tail : ℕ
  pub ends : nat_le (length sql) tail ≡ true
  pub first_is : compile.first sql ≡ Ok (parsed (written.CreateTable def) [] start stop tail)
  pub name_is : def.name ≡ table.name
  pub own : compile.is_reserved def.name ≡ false
  pub defined : define.table [] def ≡ Ok (table_at 0 table)
  pub plain : (length table.computed == length table.stamps.places && not def.resolves) ≡ true
  pub alone : slice_range sql start stop ≡ sql
  pub uncounted : table.is_counted ≡ false

-- the text is a CREATE INDEX of this index on the table, in whatever tree it is
pub record IsCreateIndex (table : Table) (index : Index) (sql : List ℕ) : Type 0 where
  pub def : CreateIndex
  pub start : ℕ
  pub stop : ℕ
  pub tail : ℕ
  pub ends : nat_le (length sql) tail ≡ true
  pub first_is : compile.first sql ≡ Ok (parsed (written.CreateIndex def) [] start stop tail)
  pub on : def.table ≡ table.name
  pub name_is : def.name ≡ index.name
  pub others : compile.is_reserved def.table ≡ false
  pub own : compile.is_reserved def.name ≡ false
  pub defined : (tree : ℕ) → define.index (table_at tree table) def ≡ Ok (index_at 0 tree index)
  pub alone : slice_range sql start stop ≡ sql

-- what a list has at a place, it has there where more follows
longer_has : {X : Type 0} (xs ys : List X) (at : ℕ) → is_some (slice_get xs at) ≡ true → is_some (slice_get (xs ++ ys) at) ≡ true
longer_has [] ys at h = absurd (cc)
longer_has (x ∷ xs) ys zero h = refl
longer_has (x ∷ xs) ys (suc at) h = longer_has xs ys at h

-- the first that passes a test stays the first where more follows
still_first : {X : Type 0} (p : X → Bool) (xs ys : List X) (from at : ℕ) → position_from p from xs ≡ Some at → position_from p from (xs ++ ys) ≡ Some at
still_first p [] ys from at e = absurd (cc)
still_first p (x ∷ xs) ys from at e = go (p x) (still_first p xs ys (from + 1) at) e
  where
    go : (b : Bool) → (position_from p (from + 1) xs ≡ Some at → position_from p (from + 1) (xs ++ ys) ≡ Some at) → cond b (Some from) (position_from p (from + 1) xs) ≡ Some at
        → cond b (Some from) (position_from p (from + 1) (xs ++ ys)) ≡ Some at
    go true later e = e
    go false later e = later e

-- so what was found first is found where more follows
found_again : {X : Type 0} (xs ys : List X) (old new : Option ℕ) → ((at : ℕ) → old ≡ Some at → new ≡ Some at) → is_some (option_and_then (slice_get xs) old) ≡ true
    → is_some (option_and_then (slice_get (xs ++ ys)) new) ≡ true
found_again xs ys None new same h = absurd (cc)
found_again xs ys (Some at) new same h = rw (same at refl) (longer_has xs ys at h)

-- no more rowids are counted, so no table of their counts is lacked
still_counted : (any more has has' : Bool) → more ≡ false → (has ≡ true → has' ≡ true) → (any && not has) ≡ false → ((any || (more || false)) && not has') ≡ false
still_counted false more has has' none so h = rw none refl
still_counted true more true has' none so h = rw (so refl) refl
still_counted true more false has' none so h = absurd (cc)

-- a table that counts no rowids leaves the schema without the need of a table of counts
still_uncounted : (schema : Schema) (table : Table) → lacks_sequence schema ≡ false → table.is_counted ≡ false → lacks_sequence (created schema table) ≡ false
still_uncounted schema table fine uncounted =
    let new : List Table = record table { tree = next_tree schema } ∷ [] in
    let named : Table → Bool = λ t. same_name t.name (codes "sqlite_sequence") in
    ap (λ b. b && not (is_some (sequence (created schema table)))) (list_any-append (λ (t : Table). t.is_counted) schema.tables new)
    ∙ still_counted (list_any (λ t. t.is_counted) schema.tables) table.is_counted (is_some (sequence schema)) (is_some (sequence (created schema table))) uncounted
    (found_again schema.tables new (position_from named 0 schema.tables) (position_from named 0 (schema.tables ++ new)) (still_first named schema.tables new 0)) fine

-- a text's statement alone, of a text that was compiled
alone_is : (schema : Schema) (sql : List ℕ) (c : Command) (start stop tail : ℕ) → understood schema sql ≡ Ok (compiled_of c [] start stop tail) → slice_range sql start stop ≡ sql
    → statement_in sql (understood schema sql) ≡ sql
alone_is schema sql c start stop tail is alone = ap (statement_in sql) is ∙ alone

-- the table that the text defines
table_defined : (sql : List ℕ) (def : CreateTable) (table : Table) (start stop tail : ℕ) → compile.first sql ≡ Ok (parsed (written.CreateTable def) [] start stop tail)
    → define.table [] def ≡ Ok table → compile.table_defined_by sql ≡ Ok table
unfolding compile.table_defined_by compile.table_in
table_defined sql def table start stop tail first defined = rw (first, defined) refl

-- the index that the text defines
index_defined : (sql : List ℕ) (def : CreateIndex) (table : Table) (index : Index) (start stop tail : ℕ) → compile.first sql ≡ Ok (parsed (written.CreateIndex def) [] start stop tail)
    → define.index table def ≡ Ok index → compile.index_defined_by table sql ≡ Ok index
unfolding compile.index_defined_by compile.index_in
index_defined sql def table index start stop tail first defined = rw (first, defined) refl

-- the command of a CREATE INDEX whose name is free, on a table of the schema
index_made : (schema : Schema) (def : CreateIndex) (table : Table) (index : Index) (at : ℕ) → table_named schema def.table ≡ Some at → slice_get schema.tables at ≡ Some table
    → is_used schema def.name ≡ false → compile.is_reserved def.table ≡ false → compile.is_reserved def.name ≡ false → define.index table def ≡ Ok index
    → compile.create_index schema def ≡ Ok (does.CreateIndex at)
unfolding compile.create_index
index_made schema def table index at named listed free others own defined =
    rw (
      others,
      named,
      listed,
      no_index schema def.name free,
      no_table schema def.name free,
      no_view schema def.name free,
      creates_is def.if_missing def.name own,
      defined,
    ) refl

-- a CREATE has no RETURNING and reads no time
table_understood : (schema : Schema) (sql : List ℕ) (def : CreateTable) (start stop tail : ℕ) → compile.first sql ≡ Ok (parsed (written.CreateTable def) [] start stop tail)
    → compile.create_table schema [] def ≡ Ok does.CreateTable → understood schema sql ≡ Ok (compiled_of does.CreateTable [] start stop tail)
unfolding compile.returning compile.timed compile.command
table_understood schema sql def start stop tail first made =
    understood_is schema sql (compiled_of does.CreateTable [] start stop tail)
    (change_is schema sql (written.CreateTable def) [] start stop tail does.CreateTable first refl refl made)

index_understood : (schema : Schema) (sql : List ℕ) (def : CreateIndex) (at start stop tail : ℕ) → compile.first sql ≡ Ok (parsed (written.CreateIndex def) [] start stop tail)
    → compile.create_index schema def ≡ Ok (does.CreateIndex at) → understood schema sql ≡ Ok (compiled_of (does.CreateIndex at) [] start stop tail)
unfolding compile.returning compile.timed compile.command
index_understood schema sql def at start stop tail first made =
    understood_is schema sql (compiled_of (does.CreateIndex at) [] start stop tail)
    (change_is schema sql (written.CreateIndex def) [] start stop tail (does.CreateIndex at) first refl refl made)

-- a CREATE TABLE text makes its table in each schema in which the name is free
pub table_among : (table : Table) (sql : List ℕ) → IsCreateTable table sql → CreatesAmong table sql
table_among table sql is schema free fine =
    let unused : is_used schema is.def.name ≡ false = subst (λ n. is_used schema n ≡ false) (sym is.name_is) free in
    let made = table_made schema is.def (table_at 0 table) unused is.own is.defined is.plain in
    let all = table_understood schema sql is.def is.start is.stop is.tail is.first_is made in
    record {
      means = means_is schema sql does.CreateTable [] is.start is.stop is.tail is.ends refl all;
      alone = alone_is schema sql does.CreateTable is.start is.stop is.tail all is.alone;
      defines = table_defined sql is.def (table_at 0 table) is.start is.stop is.tail is.first_is is.defined;
      uncounted = still_uncounted schema (table_at 0 table) fine is.uncounted;
    }

-- a CREATE INDEX text makes its index in each schema that has the table and in which the name is free
pub index_among : (table : Table) (index : Index) (sql : List ℕ) → IsCreateIndex table index sql → IndexesAmong table index sql
index_among table index sql is schema tree has free =
    let unused : is_used schema is.def.name ≡ false = subst (λ n. is_used schema n ≡ false) (sym is.name_is) free in
    let named : table_named schema is.def.table ≡ Some has.at = subst (λ n. table_named schema n ≡ Some has.at) (sym is.on) has.named in
    let made = index_made schema is.def (table_at tree table) (index_at 0 tree index) has.at named has.listed unused is.others is.own (is.defined tree) in
    let all = index_understood schema sql is.def has.at is.start is.stop is.tail is.first_is made in
    record {
      at = has.at;
      listed = has.listed;
      means = means_is schema sql (does.CreateIndex has.at) [] is.start is.stop is.tail is.ends refl all;
      alone = alone_is schema sql (does.CreateIndex has.at) is.start is.stop is.tail all is.alone;
      defines = index_defined sql is.def (table_at tree table) (index_at 0 tree index) is.start is.stop is.tail is.first_is (is.defined tree);
    }

-- the row of an empty office is put into the office's table, over each schema that has it
pub first_row_among : ReplacesAmong office (codes "INSERT OR REPLACE INTO office(id, format, handed, accepted) VALUES (1, 2, 0, 0)") first_office_row 0
unfolding compile.first everything
first_row_among = replaces_among office _ first_office_row (record {
  width = 5;
  columns = codes "id" ∷ codes "format" ∷ codes "handed" ∷ codes "accepted" ∷ [];
  rows = Values ((roll-Expr (Integer (codes "1")) ∷ roll-Expr (Integer (codes "2")) ∷ roll-Expr (Integer (codes "0")) ∷ roll-Expr (Integer (codes "0")) ∷ []) ∷ []);
  names = [];
  start = 0;
  stop = 79;
  tail = 79;
  ends = refl;
  counted = refl;
  first_is = refl;
  rows_are = λ schema tree. refl;
  one_row = record { count = refl; all = refl };
  still = record { uncounted = refl; unstamped = refl; untimed = refl };
})
