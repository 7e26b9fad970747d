-- The row of an empty office, put into the office's tables, which have no row.
use Rattle.std.proofs.Common.{◌≡◌, ◌≢◌, ℕ, ◌==◌, Bool, true, false, cond, pos, List, [], ◌∷◌, ◌++◌, codes, filter, length, inr, Result, OnOk, refl, arith, sym, ap, ap₂, subst, ◌∙◌}
use Rattle.std.specs.List.{AllByRecursion, list_any}
use Rattle.std.proofs.lemmas.Bool.{both_ways, eq-eqb, or_parts}
use Rattle.sqlite_schema.specs.Names.{same_name}
use Rattle.sqlite_trees.specs.declared.store.Store.{Ghosts}
use Rattle.sqlite.specs.Schema.{Schema}
use Rattle.sqlite.specs.Table.{Table}
use Rattle.sqlite.specs.declared.error.Error.{Error}
use Rattle.sqlite.specs.Held.{Held, state}
use Rattle.sqlite.specs.State.{State, HasCleanDisk}
use Rattle.wb_sql.specs.Calls.{RunsStatement}
use Rattle.wb_sql.specs.Rows.{IsStored, IsTyped, replaced}
use Rattle.wb_sql.specs.Changes.{Replaces}
use Rattle.wb_sql.proofs.WriteLemmas.{cast_int, cast_null, replaces_writes}
use Rattle.wb_sql.specs.Among.{HasOffice, HasTable, LacksOffice, IsNumbered, is_office_name, table_at, table_in, tree_named, rows_in}
use Rattle.wb_sql.specs.Making.{with_tables, tables_after_office, HasEmptyTables, MakesOffice, first_row, Makes}
use Rattle.wb_sql.specs.OfficeStatements.{first_office_row}
use Rattle.wb_sql.specs.Tables.{office, arch, builder, source_record, scratch_source, scratch_binary}
use Rattle.wb_sql.proofs.ApartLemmas.{other_rows, own_rows}
use Rattle.wb_sql.proofs.AppendLemmas.{all_split, all_both}
use Rattle.wb_sql.proofs.CreateLemmas.{first_row_among}
use Rattle.wb_sql.proofs.GrowthLemmas.{tables_grown, office_made}
use Rattle.wb_sql.proofs.MakingLemmas.{statement_makes, Follows}
use Rattle.wb_sql.proofs.QuietLemmas.{office_quiet}

abbrev first_row_text : List ℕ
first_row_text = codes "INSERT OR REPLACE INTO office(id, format, handed, accepted) VALUES (1, 2, 0, 0)"

first_row_typed : (tree : ℕ) → IsTyped (table_at tree office) first_row
first_row_typed tree = record {
  row = refl;
  id = inr (pos 1, refl);
  cast = ap₂ ◌∷◌ cast_null (ap₂ ◌∷◌ (cast_int (pos 2)) (ap₂ ◌∷◌ (cast_int (pos 0)) (ap₂ ◌∷◌ (cast_int (pos 0)) refl)));
  present = refl;
}

-- none of the tables of others is in the tree of a table of the office: they stand before it, it is alone in its tree, and it has another name
not_in : (tree : ℕ) (tables more : List Table) (own : Table) → filter (λ t. t.tree == tree) (tables ++ more) ≡ own ∷ [] → is_office_name own.name ≡ true
    → list_any (λ t. is_office_name t.name) tables ≡ false → AllByRecursion (λ t. t.tree ≢ tree) tables
not_in tree [] more own alone named free = tt
not_in tree (t ∷ tables) more own alone named free = by (t.tree == tree) refl alone (λ rest. not_in tree tables more own rest named parts.1)
  where
    parts : (is_office_name t.name ≡ false) × (list_any (λ t. is_office_name t.name) tables ≡ false)
    parts = or_parts _ _ free

    by : (b : Bool) → (t.tree == tree) ≡ b → cond b (t ∷ filter (λ t. t.tree == tree) (tables ++ more)) (filter (λ t. t.tree == tree) (tables ++ more)) ≡ own ∷ []
        → (filter (λ t. t.tree == tree) (tables ++ more) ≡ own ∷ [] → AllByRecursion (λ t. t.tree ≢ tree) tables) → AllByRecursion (λ t. t.tree ≢ tree) (t ∷ tables)
    by true here alone rest = absurd (both_ways (is_office_name t.name) parts.0 (ap (λ (u : Table). is_office_name u.name) (let same : t ≡ own = cc in same) ∙ named))
    by false here alone rest = (λ same. both_ways (t.tree == tree) here (eq-eqb t.tree tree same), rest alone)

first_row_made : (base : Schema) → LacksOffice base → IsNumbered base → (old new : State) → HasEmptyTables (with_tables base) (office ∷ tables_after_office) old
    → Replaces first_row_text [] old new → MakesOffice base old new
unfolding same_name
first_row_made base lacks numbered old new was h =
    let schema : Schema = old.now.schema in
    let has : HasOffice schema = subst HasOffice (sym was.schema_is) (office_made base lacks numbered) in
    let tree : ℕ = tree_named schema office.name in
    let stored : IsStored (old.now.trees tree) = subst IsStored (sym was.empty.0) (record { whole = refl; rising = tt }) in
    let text = first_row_among schema tree has.office_is (office_quiet schema has) in
    let set = (h (table_in schema office) first_office_row 0 text stored (first_row_typed tree)).0 in
    let rest = was.empty.1 in
    let other : (t : Table) → HasTable schema (table_in schema t) → length t.columns ≢ 4 → rows_in new.now t ≡ rows_in old.now t =
    λ t there differ. other_rows old new (table_in schema office) _ t has.office_is set there differ in
    let grown = tables_grown base lacks numbered in
    let tables : schema.tables ≡ base.tables ++ grown.more = ap (λ (s : Schema). s.tables) was.schema_is ∙ grown.tables_are in
    record {
      made = record {
        schema_is = set.schema ∙ was.schema_is;
        empty = (
          other arch has.arch_is (λ e. omega (arith, e)) ∙ rest.0,
          (
            other builder has.builder_is (λ e. omega (arith, e)) ∙ rest.1.0,
            (
              other source_record has.record_is (λ e. omega (arith, e)) ∙ rest.1.1.0,
              (other scratch_source has.source_is (λ e. omega (arith, e)) ∙ rest.1.1.1.0, (other scratch_binary has.binary_is (λ e. omega (arith, e)) ∙ rest.1.1.1.1.0, tt)),
            ),
          ),
        );
      };
      office_row = own_rows old new office _ set ∙ ap (replaced schema (table_in schema office) first_row) was.empty.0;
      kept = all_both _ _ _ (λ t kept apart. kept apart) base.tables
          (all_split _ base.tables grown.more (subst (AllByRecursion (λ t. t.tree ≢ tree → new.now.trees t.tree ≡ old.now.trees t.tree)) tables set.tables)).0
          (not_in tree base.tables grown.more (table_in schema office) (subst (λ ts. filter (λ t. t.tree == tree) ts ≡ table_in schema office ∷ []) tables has.office_is.in_tree) refl lacks.free.tables);
      shown = set.shown;
      marks = set.marks;
    }

pub first_row_makes : {S A : Type 0} {g : Ghosts S} {base : Schema} {old new : Held S} {r : Result A Error} → LacksOffice base → IsNumbered base → RunsStatement g first_row_text [] old new r
    → (HasCleanDisk (state g new) → OnOk r (Replaces first_row_text [] (state g old) (state g new))) → Makes g (with_tables base) (office ∷ tables_after_office) (MakesOffice base) old new r
first_row_makes {g} {base} {old} {new} lacks numbered =
    let schema : Schema = with_tables base in
    let has = office_made base lacks numbered in
    let tree : ℕ = tree_named schema office.name in
    statement_makes (Replaces first_row_text [])
    (replaces_writes schema first_row_text (table_in schema office) first_office_row (first_row_among schema tree has.office_is (office_quiet schema has)))
    (inr (inr (first_row_among, has.office_is, office_quiet schema has)))
    (first_row_made base lacks numbered (state g old) (state g new))

pub office_follows : (base : Schema) → Follows base.tables (MakesOffice base)
office_follows base mid tables a b c p q = record {
  made = q.made;
  office_row = q.office_row;
  kept = all_both _ _ _ (λ t one two. two ∙ one) base.tables p.kept q.kept;
  shown = record { was_open = p.shown.was_open; is_open = q.shown.is_open; now_is = refl; committed_is = q.shown.committed_is ∙ p.shown.committed_is; mode = q.shown.mode };
  marks = q.marks ∙ p.marks;
}
