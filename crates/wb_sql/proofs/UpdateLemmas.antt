-- What UPDATE of one row does: it writes the row that passes the tests anew, under its rowid.
use Rattle.std.proofs.Common.{◌≡◌, inl, inr, ℕ, ◌^◌, nat_le, Bool, true, false, not, ◌&&◌, List, [], ◌∷◌, map, filter, Option, None, Ok, Less, IsPermutation, refl, sym, ap, subst, ◌∙◌}
use Rattle.std.specs.List.{list_all}
use Rattle.std.proofs.lemmas.Bool.{and_parts, not-true, both_ways, cases_Bool, false_from_ne_true}
use Rattle.std.proofs.lemmas.Cmp.{tied_itself}
use Rattle.sqlite.specs.Order.{Row}
use Rattle.sqlite_value.specs.Order.{value_cmp}
use Rattle.sqlite_value.proofs.OrderLemmas.{value_cmp_total}
use Rattle.sqlite.specs.declared.types.Value.TheVariants.{Null}
use Rattle.sqlite.specs.Tree.{Trees, IsTable, rowid, has_rowid, put_row, without_rowid}
use Rattle.sqlite_trees.specs.View.{is_int}
use Rattle.sqlite.specs.Schema.{Schema}
use Rattle.sqlite.specs.Table.{Table}
use Rattle.sqlite_schema.specs.declared.schema.Keys.TheVariants.{Enforced}
use Rattle.sqlite_schema.specs.Rules.{Fits}
use Rattle.sqlite.specs.Term.{Term, eval_all, holds}
use Rattle.sqlite.specs.Query.{Output, output}
use Rattle.sqlite.specs.Command.TheVariants.{Update}
use Rattle.sqlite.specs.Cast.{cast_row}
use Rattle.sqlite.specs.Rowids.TheVariants.{Given}
use Rattle.sqlite.specs.Edit.{Applies, edit_of, id_in, is_taken}
use Rattle.sqlite.specs.Effect.{Database}
use Rattle.sqlite.specs.Rows.{Written, Updates}
use Rattle.sqlite.specs.State.{State}
use Rattle.sqlite.proofs.Callers.{runs_as, one_permutation}
use Rattle.sqlite_rules.specs.Lists.{Has}
use Rattle.sqlite_rules.specs.Calls.{ids_of}
use Rattle.sqlite_rules.proofs.ListLemmas.{all_has, all_from, test_has}
use Rattle.sqlite_keyed.proofs.ListLemmas.{filter_none}
use Rattle.wb_sql.specs.Calls.{RanInside}
use Rattle.wb_sql.specs.Queries.{query_of, chosen, outputs, Answers}
use Rattle.wb_sql.specs.Rows.{cells_of, IsStored, IsTyped, without}
use Rattle.wb_sql.specs.Statements.{IsWriting, changes}
use Rattle.wb_sql.specs.Changes.{IsPlainTable, UpdatesIn, IsOnlyOne, rows_renewed, Updates as UpdatesRows}
use Rattle.wb_sql.proofs.ReadingLemmas.{means_as, answers_from}
use Rattle.wb_sql.proofs.SetLemmas.{filter_same_on, has_own, same_by_rowid, stored-filter, put_leaves}
use Rattle.wb_sql.proofs.WriteLemmas.{went, same_value, Spares, applied, spared, kept_row, task, shown_inside, row_step, sets as sets_table}

-- ---- the query for one row

-- a test that one row of a table passes alone leaves that row
pub alone_left : (p : Row → Bool) (rows : List Row) (r : Row) → IsTable rows → Has rows r → p r ≡ true → ((x : Row) → Has rows x → p x ≡ true → x ≡ r) → filter p rows ≡ r ∷ []
alone_left p [] r up h passes alone = absurd h
alone_left p (y ∷ rows) r up h passes alone = elim (cases_Bool (p y)) [
  | inl here ↦
      let is : y ≡ r = alone y (inl refl) here in
      let none : filter p rows ≡ [] = filter_none p rows (all_from _ rows (λ x there. false_from_ne_true _ (λ again.
      let lower : value_cmp (rowid y) (rowid x) ≡ Less = all_has _ rows x up.0 there in
      let same = ap (λ (z : Row). value_cmp (rowid y) (rowid z)) (alone x (inr there) again ∙ sym is) in
      let tie = tied_itself value_cmp_total (rowid y) in
      cc))) in
      rw (here, none) (ap (λ (x : Row). x ∷ []) is)
  | inr other ↦ elim h [
    | inl same ↦ absurd (both_ways _ other (ap p (sym same) ∙ passes))
    | inr later ↦ rw other (alone_left p rows r up.1 later passes (λ x there. alone x (inr there)))
  ]
]

-- a query that finds one row answers the row's rowid, twice, and then the terms
shows_one : (tree : ℕ) (tests terms : List Term) (params : Row) (rows : List Row) (r : Row) → chosen (rows_renewed tree tests terms) params rows ≡ r ∷ []
    → (answer : List Row) → Answers (rows_renewed tree tests terms) params rows answer → answer ≡ (rowid r ∷ rowid r ∷ eval_all terms (params ∷ r ∷ [])) ∷ []
shows_one tree tests terms params rows r one answer a =
    let q = rows_renewed tree tests terms in
    let outs : outputs q params rows ≡ output (query_of q) (params ∷ r ∷ []) ∷ [] = ap (map (λ (row : Row). output (query_of q) (params ∷ row ∷ []))) one in
    let ordered = one_permutation (output (query_of q) (params ∷ r ∷ [])) a.ordered (subst (λ l. IsPermutation l a.ordered) outs a.same) in
    a.shown ∙ ap (map (λ (o : Output). o.1)) ordered

-- ---- the row that is written

-- the row has these cells now, and is beside the others
pub record IsWrittenOver (schema : Schema) (table : Table) (db : Trees) (r cs : Row) (next : Trees) : Type 0 where
  pub rows_are : next table.tree ≡ put_row (rowid r ∷ cs) (without_rowid (id_in (rowid r)) (db table.tree))
  pub fresh : (not (is_taken (without_rowid (id_in (rowid r)) (db table.tree)) (rowid r ∷ cs)) && true) ≡ true
  pub whole : is_int (rowid r) ≡ true
  pub spares : Spares schema table db next
  pub fits : Fits schema next

module _ (limit : Option ℕ) (schema : Schema) (at : ℕ) (table : Table) (params : Row) (plain : IsPlainTable schema at table)
    (low : nat_le (2 ^ 31) table.tree ≡ false) (db : Trees) (stored : IsStored (db table.tree)) (r : Row) (there : Has (db table.tree) r) where
  abbrev rows : List Row
  rows = db table.tree

  module _ (cs : Row) (kept : cast_row table (rowid r ∷ cs) ≡ rowid r ∷ cs) where
    abbrev it : Row
    it = rowid r ∷ cs

    abbrev left : List Row
    left = without_rowid (id_in (rowid r)) rows

    -- the edit that takes the row out and puts the new one in leaves that
    written_over : (next : Trees) → Applies schema Enforced db (edit_of db table (id_in (rowid r) ∷ []) Given 1 ((rowid r ∷ it) ∷ [])) next → IsWrittenOver schema table db r cs next
    written_over next a = record {
      rows_are = a.rows ∙ ap (λ x. put_row x left) kept;
      fresh = subst (λ x. (not (is_taken left x) && true) ≡ true) kept a.fresh;
      whole = test_has (λ x. is_int (rowid x)) rows r stored.whole there;
      spares = spared (task limit schema at table params plain) refl plain.quiet db next (edit_of db table (id_in (rowid r) ∷ []) Given 1 ((rowid r ∷ it) ∷ [])) refl a;
      fits = a.fits;
    }

    -- an UPDATE that finds one row, of a statement or of ON CONFLICT, which reads more than the parameters
    pub updates_one : (tests sets : List Term) (full : Row) → chosen (rows_renewed table.tree tests sets) full rows ≡ r ∷ [] → eval_all sets (full ∷ r ∷ []) ≡ cs
        → (w : Written) → Updates (task limit schema at table params plain) (record { lets = []; body = query_of (rows_renewed table.tree tests sets) }) full db (Ok w)
        → IsWrittenOver schema table db r cs w.trees
    updates_one tests sets full one cells_are w u =
        let answered = went u in
        let done = went answered.2 in
        let answer = answers_from (rows_renewed table.tree tests sets) db full answered.0 low (answered.1.answer Null) in
        let found : answered.0 ≡ (rowid r ∷ it) ∷ [] =
        shows_one table.tree tests sets full rows r one answered.0 answer ∙ ap (λ c. (rowid r ∷ rowid r ∷ c) ∷ []) cells_are in
        let is : w.trees ≡ done.0 = ap (λ (x : Written). x.trees) (same_value done.2) in
        let a = subst (λ rs. Applies schema Enforced db (edit_of db table (ids_of rs) Given 1 rs) done.0) found
        (applied (task limit schema at table params plain) refl plain.quiet db done.0 (edit_of db table (ids_of answered.0) Given 1 answered.0) refl done.1) in
        subst (IsWrittenOver schema table db r cs) (sym is) (written_over done.0 a)

  -- ---- the row that alone passes the tests

  module _ (tests sets : List Term) (only : IsOnlyOne tests params rows r) (typed : IsTyped table (rowid r ∷ eval_all sets (params ∷ r ∷ []))) where
    abbrev passes : Row → Bool
    passes row = list_all (holds (params ∷ row ∷ [])) tests

    abbrev renewed : Row
    renewed = eval_all sets (params ∷ r ∷ [])

    -- the rows with its rowid are those that pass
    passes_alone : (row : Row) → Has rows row → has_rowid (id_in (rowid r)) row ≡ passes row
    passes_alone row was = elim (cases_Bool (has_rowid (id_in (rowid r)) row)) [
      | inl same ↦ same ∙ sym (subst (λ x. passes x ≡ true) (sym (same_by_rowid rows stored row r was there same)) only.passes)
      | inr other ↦
          other ∙ sym (false_from_ne_true _ (λ pass.
          both_ways _ other (subst (λ x. has_rowid (id_in (rowid r)) x ≡ true) (sym (only.alone row was pass)) (has_own rows stored r there))))
    ]

    -- the UPDATE writes the row over itself
    updates : (w : Written) → Updates (task limit schema at table params plain) (record { lets = []; body = query_of (rows_renewed table.tree tests sets) }) params db (Ok w)
        → IsWrittenOver schema table db r renewed w.trees
    updates = updates_one renewed (kept_row table (rowid r ∷ renewed) typed) tests sets params (alone_left passes rows r stored.rising there only.passes only.alone) refl

    -- the rows that do not pass are those with another rowid
    rest : without_rowid (id_in (rowid r)) rows ≡ without passes rows
    rest = filter_same_on _ _ rows (λ row was. ap not (passes_alone row was))

    -- what is left: the rows that do not pass, and that row with its rowid and what its columns are set to
    left_is : (next : Trees) → IsWrittenOver schema table db r renewed next → next table.tree ≡ put_row (rowid r ∷ renewed) (without passes rows)
    left_is next over = over.rows_are ∙ ap (put_row (rowid r ∷ renewed)) rest

    -- what is left is stored, and its cells are those that were set and those of the other rows
    leaves : (next : Trees) (after : List Row) → IsWrittenOver schema table db r renewed next → next table.tree ≡ after
        → IsStored after × IsPermutation (renewed ∷ cells_of (without passes rows)) (cells_of after)
    leaves next after over same =
        let free = subst (λ others. is_taken others (rowid r ∷ renewed) ≡ false) rest (not-true _ (and_parts _ _ over.fresh).0) in
        put_leaves (rowid r ∷ renewed) (without passes rows) after (stored-filter rows stored _) over.whole free (sym (left_is next over) ∙ same)

-- UPDATE of one row, in a transaction: the row keeps its rowid
pub updates_rows : (sql : List ℕ) (params : Row) (old after : State) → RanInside sql params old after → UpdatesRows sql params old after
updates_rows sql params old after ran table tests set_terms count row text stored only typed =
    let plain = text.table_is in
    let limit = old.step_limit in
    let schema = old.now.schema in
    let trees = old.now.trees in
    let command = Update text.at (record { lets = []; body = query_of (rows_renewed table.tree tests set_terms) }) in
    let w = runs_as sql params old after schema refl command (means_as schema sql command text.means) text.means.plain ran.1.0 ran.1.1 in
    let step = row_step params old after text.at table plain command w.tally w.changed in
    let over = updates limit schema text.at table params plain text.stored trees stored row only.there tests set_terms only typed step.0 step.1 in
    let now : step.0.trees table.tree ≡ after.now.trees table.tree = ap (λ (d : Database). d.trees table.tree) (sym step.2) in
    let rows_are = left_is limit schema text.at table params plain text.stored trees stored row only.there tests set_terms only typed step.0.trees over in
    let left = leaves limit schema text.at table params plain text.stored trees stored row only.there tests set_terms only typed step.0.trees (after.now.trees table.tree) over now in (
      sets_table params old after text.at table plain _ step.0.trees rows_are over.spares step.2 (shown_inside old after None command _ params ran.1.0 ran.0 w) w.marks,
      left.0,
      left.1,
    )

-- such a text writes
pub updates_writes : (schema : Schema) (sql : List ℕ) (table : Table) (tests sets : List Term) {count : ℕ} → UpdatesIn schema sql table tests sets count → IsWriting schema sql
updates_writes schema sql table tests sets text = ap changes text.means.is
