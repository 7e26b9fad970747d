-- The columns of the scratch tables, as the queries show them; and the DELETE of the rows up to a place.
use Rattle.std.proofs.Common.{◌≡◌, refl, ap, ◌∙◌, ℕ, nat_le, negsuc, ◌&&◌, List, [], ◌∷◌, codes, length, Ok, Some, true, false}
use Rattle.sqlite.specs.Schema.{Schema}
use Rattle.sqlite.specs.Table.{Table}
use Rattle.sqlite.specs.Term.{Term, lit, col, op2}
use Rattle.sqlite_sql.specs.declared.ops.BinaryOp.TheVariants as by
use Rattle.sqlite_sql.specs.declared.ops.CompareOp.TheVariants as compare
use Rattle.sqlite.specs.declared.types.Value.TheVariants.{Int}
use Rattle.sqlite_schema.specs.Names.{same_name, place_of}
use Rattle.sqlite_schema.specs.declared.schema.Column.{Column}
use Rattle.sqlite_schema.specs.declared.command.Command.{Command}
use Rattle.sqlite_schema.specs.declared.command.Command.TheVariants as does
use Rattle.sqlite_typing.specs.Types.{accepts_after, row_classes, is_count}
use Rattle.sqlite_draft.specs.Query.{query_of as drafted}
use Rattle.sqlite_resolve.specs.Body as body
use Rattle.sqlite_resolve.specs.Compile.{first, compiled, command}
use Rattle.sqlite_resolve.specs.Expr.{lower}
use Rattle.sqlite_resolve.specs.Lowering.{max_budget, nothing, chosen}
use Rattle.sqlite_resolve.specs.Scope.{declared}
use Rattle.sqlite_resolve.specs.Terms.{number as shown_number}
use Rattle.sqlite_ast.specs.declared.Statement.TheVariants as written
use Rattle.sqlite.specs.Kind.TheVariants.{Integer}
use Rattle.wb_sql.specs.Queries.{query_of, rowids_where}
use Rattle.wb_sql.specs.ScratchStatements.{is_up_to_place}
use Rattle.wb_sql.specs.Tables.{text, number, typed, scratch_source, scratch_binary}
use Rattle.wb_sql.specs.Among.{table_at, HasTable, DeletesAmong}
use Rattle.wb_sql.proofs.AmongLemmas.{IsStill, plain_table, means_is}
use Rattle.wb_sql.proofs.ChangeLemmas.{base_of, rowids, change_is, delete_by, delete_returns, delete_timed}
use Rattle.wb_sql.proofs.ColumnLemmas.{over, at_budget}
use Rattle.wb_sql.proofs.CompiledLemmas.{compiled_of, understood_is}
use Rattle.wb_sql.proofs.SelectForm.{bound, parsed}
use Rattle.wb_sql.proofs.SelectLemmas.{tests_some, without_three}
use Rattle.wb_sql.proofs.ShownLemmas.{AreColumns}
use Rattle.wb_sql.proofs.TestLemmas.{IsColumn, lower_bound}

-- the column of the place in the list
abbrev pub seq : Column
seq = typed Integer false (codes "seq")

-- the columns of a source package of a merge
abbrev pub source_columns : List (ℕ × Column)
source_columns =
    (0, typed Integer false (codes "seq")) ∷ (1, text (codes "name")) ∷ (2, text (codes "version")) ∷ (3, text (codes "architecture")) ∷ (4, number (codes "extra")) ∷ (5, text (codes "priority"))
    ∷ (6, text (codes "section")) ∷ (7, text (codes "depends")) ∷ (8, text (codes "depends_arch")) ∷ []

-- the column of its name
abbrev pub name_columns : List (ℕ × Column)
name_columns = (1, text (codes "name")) ∷ []

-- the columns of a binary package of a merge
abbrev pub binary_columns : List (ℕ × Column)
binary_columns =
    (0, typed Integer false (codes "seq")) ∷ (1, text (codes "name")) ∷ (2, text (codes "version")) ∷ (3, text (codes "source")) ∷ (4, text (codes "source_version")) ∷ (5, number (codes "number"))
    ∷ (6, number (codes "own")) ∷ []

pub source_columns_are : (tree : ℕ) → AreColumns (table_at tree scratch_source) source_columns
unfolding same_name
source_columns_are tree = (
  record { named = refl; is = refl },
  (
    record { named = refl; is = refl },
    (
      record { named = refl; is = refl },
      (
        record { named = refl; is = refl },
        (
          record { named = refl; is = refl },
          (record { named = refl; is = refl }, (record { named = refl; is = refl }, (record { named = refl; is = refl }, (record { named = refl; is = refl }, tt)))),
        ),
      ),
    ),
  ),
)

pub name_columns_are : (tree : ℕ) → AreColumns (table_at tree scratch_source) name_columns
unfolding same_name
name_columns_are tree = (record { named = refl; is = refl }, tt)

pub binary_columns_are : (tree : ℕ) → AreColumns (table_at tree scratch_binary) binary_columns
unfolding same_name
binary_columns_are tree = (
  record { named = refl; is = refl },
  (
    record { named = refl; is = refl },
    (
      record { named = refl; is = refl },
      (record { named = refl; is = refl }, (record { named = refl; is = refl }, (record { named = refl; is = refl }, (record { named = refl; is = refl }, tt)))),
    ),
  ),
)

-- the term of "the place is at most the first parameter"
abbrev pub bound_term : Table → Term
bound_term table = op2 (by.Compare compare.Le (chosen (declared table 0 seq) nothing)) (col 1 0) (col 0 0)

-- the text is a DELETE of the rows of the table whose place, which is the rowid, is at most the one parameter
pub record IsDeleteUpTo (table : Table) (sql : List ℕ) : Type 0 where
  pub names : List (List ℕ)
  pub start : ℕ
  pub stop : ℕ
  pub tail : ℕ
  pub ends : nat_le (length sql) tail ≡ true
  pub counted : length names ≡ 1
  pub first_is : first sql ≡ Ok (parsed (written.Delete table.name (Some (bound (seq.name, 1))) []) names start stop tail)
  pub column_is : (tree : ℕ) → IsColumn (table_at tree table) 0 seq
  pub typed : (tree : ℕ) → (accepts_after [] (drafted (rowids (table_at tree table) is_up_to_place)) (Some (row_classes (table_at tree table) ∷ [])) && (is_count [] (lit (Int (negsuc 0))) && is_count [] (shown_number 0))) ≡ true
  pub place : (tree : ℕ) → place_of (table_at tree table) 0 ≡ 0
  pub term_is : (tree : ℕ) → bound_term (table_at tree table) ∷ [] ≡ is_up_to_place
  pub still : IsStill table

-- what its WHERE is read as
bound_is : (schema : Schema) (table : Table) (has : HasTable schema table) → IsColumn table 0 seq → place_of table 0 ≡ 0 → bound_term table ∷ [] ≡ is_up_to_place
    → body.tests lower (over schema has.at table.name [] false) [] (Some (bound (seq.name, 1))) (at_budget 2 max_budget nothing) ≡ Ok (is_up_to_place, at_budget 2 (without_three max_budget) nothing)
bound_is schema table has column place term =
    tests_some lower (over schema has.at table.name [] false) (bound (seq.name, 1)) _ (at_budget 2 max_budget nothing) (at_budget 2 (without_three max_budget) nothing)
    (lower_bound schema table seq has.at 0 1 table.name [] false 698 2 max_budget nothing has.listed column place refl refl refl)
    ∙ ap (λ (filter : List Term). Ok (filter, at_budget 2 (without_three max_budget) nothing)) term

pub deletes_up_to : (table : Table) (sql : List ℕ) → IsDeleteUpTo table sql → DeletesAmong table sql is_up_to_place 1
deletes_up_to table sql is schema tree has quiet =
    let c : Command = does.Delete has.at (record { lets = []; body = query_of (rowids_where tree is_up_to_place) }) in
    let deletes : command schema [] (base_of is.names) (written.Delete table.name (Some (bound (seq.name, 1))) []) ≡ Ok c =
    delete_by schema (table_at tree table) (base_of is.names) (Some (bound (seq.name, 1))) is_up_to_place (without_three max_budget) nothing has
    (bound_is schema (table_at tree table) has (is.column_is tree) (is.place tree) (is.term_is tree)) (is.typed tree) in
    let all : compiled schema sql ≡ Ok (compiled_of c is.names is.start is.stop is.tail) =
    change_is schema sql (written.Delete table.name (Some (bound (seq.name, 1))) []) is.names is.start is.stop is.tail c is.first_is
    (delete_returns schema (base_of is.names) table.name (Some (bound (seq.name, 1)))) (delete_timed schema table.name (Some (bound (seq.name, 1)))) deletes in
    record {
      at = has.at;
      table_is = plain_table schema table tree has quiet is.still;
      stored = has.stored;
      means = means_is schema sql c is.names is.start is.stop is.tail is.ends is.counted (understood_is schema sql (compiled_of c is.names is.start is.stop is.tail) all);
    }
