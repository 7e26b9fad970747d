-- What INSERT, INSERT OR REPLACE and DELETE on one table do, level by level of the kit's meaning of a statement.
use Rattle.std.proofs.Common.{◌≡◌, ◌≢◌, ◌⊎◌, inl, inr, ℕ, ◌/◌, ◌-◌, ℤ, Bool, true, false, not, ◌&&◌, ◌||◌, ◌==◌, cond, List, [], ◌∷◌, ◌++◌, length, drop, map, filter, flat_map, slice_get, option_map, unwrap_or, Option, Some, None, Ok, Err, Result, IsTrue, refl, sym, ap, subst, ◌∙◌, append-nil}
use Rattle.std.specs.List.{AllByRecursion, filter_map, list_all, list_any}
use Rattle.std.proofs.lemmas.Bool.{and_parts}
use Rattle.sqlite.specs.Order.{Row}
use Rattle.sqlite.specs.Tree.{Trees, rowid, put_row}
use Rattle.sqlite.specs.Schema.{Schema}
use Rattle.sqlite.specs.Table.{Table}
use Rattle.sqlite.specs.Term.{Term, eval_all, holds}
use Rattle.sqlite.specs.declared.types.Value.TheVariants.{Null, Int}
use Rattle.sqlite.specs.Source.TheVariants.{Values}
use Rattle.sqlite.specs.Command.{Command}
use Rattle.sqlite.specs.Command.TheVariants.{Insert, InsertOr, Delete}
use Rattle.sqlite_schema.specs.declared.schema.Action.{Action}
use Rattle.sqlite_schema.specs.declared.schema.Action.TheVariants.{NoAction, Restrict, Cascade, SetNull, SetDefault}
use Rattle.sqlite_schema.specs.declared.schema.Reference.{Reference}
use Rattle.sqlite_schema.specs.declared.schema.Keys.TheVariants.{Enforced}
use Rattle.sqlite_schema.specs.declared.command.Conflict.{Conflict}
use Rattle.sqlite_schema.specs.declared.command.Conflict.TheVariants.{Replace}
use Rattle.sqlite_schema.specs.declared.command.Upsert.{Upsert}
use Rattle.sqlite_schema.specs.Rules.{ParentKey, parent_key}
use Rattle.sqlite_rules.specs.declared.action.Deed.{Deed}
use Rattle.sqlite_rules.specs.Action.{works, work_for, work_by, deed_for, deed_of, loses, pairs}
use Rattle.sqlite_rules.specs.Steps.{IsJudged}
use Rattle.sqlite_rules.specs.Calls.{ids_of}
use Rattle.sqlite.specs.Rowids.TheVariants.{Chosen, Above, Given}
use Rattle.sqlite.specs.Edit.{Edit, edit_of, taken_by, Applies, IsNoIndex, without_all, with_rowid}
use Rattle.sqlite.specs.Cast.{cast_row}
use Rattle.sqlite.specs.Effect.{Database, value_rows}
use Rattle.sqlite.specs.Rows.{Edited, Written, Task, Puts, Clears, Upserts, Judged, Tries, TriesEach, InsertsOr, Inserts, nothing, mended, passes_over, stamped, rowids_for, count_of, Counts}
use Rattle.sqlite.specs.Does.{Tally, AtPlace, OnRows, WritesRows}
use Rattle.sqlite_schema.specs.declared.command.Returning.{Returning}
use Rattle.sqlite.specs.State.{State, Shows, Writes, mode_of}
use Rattle.sqlite.proofs.Callers.{one_step, runs_as}
use Rattle.wb_sql.proofs.ReadingLemmas.{means_as, answers_from}
use Rattle.std.proofs.Common.{ap₂, ◌^◌, nat_le, IsPermutation}
use Rattle.std.proofs.lemmas.List.Sorted.{IsPermutation-sym}
use Rattle.sqlite.specs.Query.{Output, output}
use Rattle.sqlite.specs.Rows.{Deletes}
use Rattle.sqlite_trees.proofs.ListLemmas.{all-permutation}
use Rattle.sqlite_rules.specs.Lists.{Has}
use Rattle.sqlite_rules.proofs.ListLemmas.{all_from, all_has, has_filtered, has_kept}
use Rattle.sqlite_rules.proofs.ProbeLemmas.{has_mapped, mapped_has}
use Rattle.wb_sql.specs.Calls.{RanInside}
use Rattle.wb_sql.specs.Queries.{query_of, rowids_where, outputs, Answers}
use Rattle.wb_sql.specs.Statements.{IsWriting, changes}
use Rattle.std.proofs.lemmas.Bool.{not-true}
use Rattle.sqlite.specs.Kind.TheVariants.{Integer}
use Rattle.sqlite.specs.Ops.{unary, is_null}
use Rattle.sqlite.specs.Cast.{cast}
use Rattle.sqlite.specs.Edit.{is_taken, next_rowid}
use Rattle.sqlite_trees.specs.View.{is_int}
use Rattle.sqlite_rules.specs.declared.error.Refusal.{Refusal}
use Rattle.wb_sql.specs.Rows.{cells, cells_of, IsStored, IsTyped, with_next_rowid, meets, inserted, apart, replaced, without}
use Rattle.wb_sql.proofs.SetLemmas.{taken_out, stored-filter, stored-put_row, cells_beside}
use Rattle.wb_sql.specs.Changes.{is_no_action, does_nothing, refers_to_tree, never_acts_on, IsPlainTable, IsOneRow, ReplacesInto, InsertsInto, DeletesFrom, SetsTable, Deletes as DeletesRows}

-- a part that gave a value did not stop on the way
pub went : {B E R : Type 0} {b : B} {Stops : E → Type 0} → ((stop : E) × Stops stop × (Ok b ≡ Err stop)) ⊎ R → R
went (inl stopped) = absurd (let e = stopped.2 in cc)
went (inr on) = on

pub same_value : {B E : Type 0} {a b : B} → ◌≡◌ {A = Result B E} (Ok a) (Ok b) → a ≡ b
same_value e = cc

-- ---- no foreign key acts

no_action_is : (a : Action) → is_no_action a ≡ true → a ≡ NoAction
no_action_is NoAction h = refl
no_action_is Restrict h = absurd (cc)
no_action_is Cascade h = absurd (cc)
no_action_is SetNull h = absurd (cc)
no_action_is SetDefault h = absurd (cc)

no_deed : (ref : Reference) (deletes : Bool) → does_nothing ref ≡ true → deed_for Enforced deletes ref ≡ None
no_deed ref true h = ap (deed_of Enforced true) (no_action_is ref.on_delete (and_parts _ _ h).0)
no_deed ref false h = ap (deed_of Enforced false) (no_action_is ref.on_update (and_parts _ _ h).1)

none_if : {W : Type 0} (same quiet moved : Bool) (deed : Deed) (work : W) → (not same || quiet) ≡ true → (quiet ≡ true → Some deed ≡ None) → cond (same && moved) (Some work) None ≡ None
none_if true true moved deed work h none = absurd (let e = none refl in cc)
none_if true false moved deed work h none = absurd (cc)
none_if false quiet moved deed work h none = refl

-- a foreign key sets nothing off if it refers to another tree, or does nothing
no_work_by : (depth tree : ℕ) (moves : List (Row × Row)) (child : Table) (ref : Reference) (deed : Option Deed) (key : Option ParentKey) (quiet : Bool)
    → (not (unwrap_or (option_map (λ key. key.0 == tree) key) false) || quiet) ≡ true → (quiet ≡ true → deed ≡ None) → work_by depth tree moves child ref deed key ≡ None
no_work_by depth tree moves child ref None key quiet h none = refl
no_work_by depth tree moves child ref (Some deed) None quiet h none = refl
no_work_by depth tree moves child ref (Some deed) (Some key) quiet h none = none_if (key.0 == tree) quiet (list_any (loses key.2 key.1) moves) deed _ h none

module _ (schema : Schema) (depth tree : ℕ) (olds news : List Row) where
  no_works_of : (table : Table) (refs : List Reference) → list_all (λ ref. not (refers_to_tree schema tree ref) || does_nothing ref) refs ≡ true
      → filter_map (work_for schema Enforced depth tree olds news table) refs ≡ []
  no_works_of table [] h = refl
  no_works_of table (ref ∷ refs) h =
      let parts = and_parts _ _ h in
      let none : work_for schema Enforced depth tree olds news table ref ≡ None =
      no_work_by depth tree (pairs olds news) table ref (deed_for Enforced (length news == 0) ref) (parent_key schema.tables ref) (does_nothing ref) parts.0 (no_deed ref (length news == 0)) in
      rw (none, no_works_of table refs parts.1)

  no_works_in : (tables : List Table) → list_all (λ table. list_all (λ ref. not (refers_to_tree schema tree ref) || does_nothing ref) table.references) tables ≡ true
      → flat_map (λ child. filter_map (work_for schema Enforced depth tree olds news child) child.references) tables ≡ []
  no_works_in [] h = refl
  no_works_in (table ∷ tables) h = let parts = and_parts _ _ h in rw (no_works_of table table.references parts.0, no_works_in tables parts.1)

  pub no_works : never_acts_on schema tree ≡ true → works schema Enforced depth tree olds news ≡ []
  no_works quiet = no_works_in schema.tables quiet

-- ---- one edit

-- what an edit leaves alone
pub record Spares (schema : Schema) (table : Table) (old new : Trees) : Type 0 where
  pub tables : AllByRecursion (λ t. t.tree ≢ table.tree → new t.tree ≡ old t.tree) schema.tables
  pub others : (t : ℕ) → t ≢ table.tree → IsNoIndex schema t → new t ≡ old t

spared_twice : (tables : List Table) (own : ℕ) (a b c : Trees) → AllByRecursion (λ t. t.tree ≢ own → b t.tree ≡ a t.tree) tables → AllByRecursion (λ t. t.tree ≢ own → c t.tree ≡ b t.tree) tables
    → AllByRecursion (λ t. t.tree ≢ own → c t.tree ≡ a t.tree) tables
spared_twice [] own a b c p q = tt
spared_twice (t ∷ tables) own a b c p q = (λ other. q.0 other ∙ p.0 other, spared_twice tables own a b c p.1 q.1)

spared_alone : (tables : List Table) (own : ℕ) (a : Trees) → AllByRecursion (λ t. t.tree ≢ own → a t.tree ≡ a t.tree) tables
spared_alone [] own a = tt
spared_alone (t ∷ tables) own a = (λ other. refl, spared_alone tables own a)

pub spares_then : (schema : Schema) (table : Table) (a b c : Trees) → Spares schema table a b → Spares schema table b c → Spares schema table a c
spares_then schema table a b c p q = record { tables = spared_twice schema.tables table.tree a b c p.tables q.tables; others = λ t other plain. q.others t other plain ∙ p.others t other plain }

pub spares_same : (schema : Schema) (table : Table) (a : Trees) → Spares schema table a a
spares_same schema table a = record { tables = spared_alone schema.tables table.tree a; others = λ t other plain. refl }

module _ (task : Task) (keys_are : task.keys ≡ Enforced) (quiet : never_acts_on task.schema task.table.tree ≡ true) where
  pub applied : (db next : Trees) (edit : Edit) → edit.table ≡ task.table → Edited task.schema task.keys db edit (Ok next) → Applies task.schema task.keys db edit next
  applied db next edit is h =
      let still : never_acts_on task.schema edit.table.tree ≡ true = subst (λ (t : Table). never_acts_on task.schema t.tree ≡ true) (sym is) quiet in
      one_step task.schema task.keys db next edit (subst (λ k. works task.schema k 0 edit.table.tree (taken_by db edit) edit.news ≡ []) (sym keys_are) (no_works task.schema 0 edit.table.tree _ _ still)) h

  pub spared : (db next : Trees) (edit : Edit) → edit.table ≡ task.table → Applies task.schema task.keys db edit next → Spares task.schema task.table db next
  spared db next edit is a = subst (λ t. Spares task.schema t db next) is (record { tables = a.tables; others = a.others })

  -- the row is put in, at its own rowid
  pub record IsPut (new : Row) (rows : List Row) (db next : Trees) : Type 0 where
    pub rows_are : next task.table.tree ≡ put_row new rows
    pub spares : Spares task.schema task.table db next
    pub free : is_taken rows new ≡ false

  pub puts : (new : Row) (db : Trees) (w : Written) → cast_row task.table new ≡ new → Puts task new db (Ok w) → IsPut new (db task.table.tree) db w.trees
  puts new db w kept h =
      let edit = edit_of db task.table [] Given 0 (new ∷ []) in
      let done = went h in
      let a = applied db done.0 edit refl done.1 in
      let is : w.trees ≡ done.0 = ap (λ (x : Written). x.trees) (same_value done.2) in
      let put : IsPut new (db task.table.tree) db done.0 = record {
        rows_are = a.rows ∙ ap (λ r. put_row r (db task.table.tree)) kept;
        spares = spared db done.0 edit refl a;
        free = not-true _ (and_parts _ _ (subst (λ r. (not (is_taken (db task.table.tree) r) && true) ≡ true) kept a.fresh)).0;
      } in
      subst (IsPut new (db task.table.tree) db) (sym is) put

  -- the rows that are found go, and the row is put in
  clears : (new : Row) (db : Trees) (found : List Row) (w : Written) → cast_row task.table new ≡ new → Clears task Replace new db found (Ok w)
      → IsPut new (without_all (db task.table.tree) (ids_of found)) db w.trees
  clears new db [] w kept h = puts new db w kept h
  clears new db (x ∷ more) w kept h =
      let edit = edit_of db task.table (ids_of (x ∷ more)) Given 0 [] in
      let done = went h in
      let a = applied db done.0 edit refl done.1 in
      let put = subst (λ rows. IsPut new rows done.0 w.trees) a.rows (puts new done.0 w kept done.2) in
      record { rows_are = put.rows_are; spares = spares_then task.schema task.table db done.0 w.trees (spared db done.0 edit refl a) put.spares; free = put.free }

  upserts : (new : Row) (db : Trees) (w : Written) → IsStored (db task.table.tree) → cast_row task.table new ≡ new → Upserts task Replace new db [] (Ok w)
      → IsPut new (filter (λ row. not (meets task.schema task.table new row)) (db task.table.tree)) db w.trees
  upserts new db w stored kept h =
      let rows = db task.table.tree in
      let same = taken_out rows stored h.0 (meets task.schema task.table new)
      (λ x there. let r = h.1.sound x there in (r.0, r.1, r.2, ap rowid r.3))
      (λ r there meet. (rowid r ∷ [], h.1.complete r there meet, refl)) in
      subst (λ left. IsPut new left db w.trees) same (clears new db h.0 w kept h.2)

  -- a row that is judged sound is written, whatever OR says but IGNORE
  module _ (way : Conflict) (clauses : List Upsert) (strict : (why : Refusal) → passes_over way why ≡ false) (new : Row) (db : Trees) (w : Written) where
    judged : (verdict : Option Refusal) → IsJudged task.table new verdict → Judged task way clauses new db verdict (Ok w) → (is_int (rowid new) ≡ true) × Upserts task way new db clauses (Ok w)
    judged None told h = (told.0, h)
    judged (Some why) told h = absurd (let e = rw (strict why) at h in cc)

    pub tries : Tries task way clauses new db (Ok w) → (is_int (rowid new) ≡ true) × Upserts task way new db clauses (Ok w)
    tries (inl refused) = absurd (let e = refused.1 in cc)
    tries (inr told) = judged told.0 told.1 told.2

-- ---- the row that is written

either : {X : Type 0} (b : Bool) (x : X) → cond b x x ≡ x
either true x = refl
either false x = refl

pub cast_int : (n : ℤ) → cast Integer (Int n) ≡ Int n
unfolding unary
cast_int n = either _ (Int n)

pub cast_null : cast Integer Null ≡ Null
unfolding unary
cast_null = either _ Null

module _ (table : Table) (given : Row) (typed : IsTyped table given) where
  cast_id : cast Integer (rowid given) ≡ rowid given
  cast_id = elim typed.id [ inl none ↦ rw none cast_null | inr some ↦ rw some.1 (cast_int some.0) ]

  pub kept_row : cast_row table given ≡ given
  kept_row = ap₂ ◌∷◌ cast_id typed.cast ∙ sym typed.row

  pub kept_source : cast_row table (mended Replace table given) ≡ given
  kept_source = ap (λ cs. cast_row table (rowid given ∷ cs)) typed.present ∙ ap (cast_row table) (sym typed.row) ∙ kept_row

  pub kept_new : (rows : List Row) → cast_row table (with_next_rowid rows given) ≡ with_next_rowid rows given
  kept_new rows = go (is_null (rowid given))
    where
      go : (b : Bool) → cast_row table (cond b (Int (next_rowid rows) ∷ cells given) given) ≡ cond b (Int (next_rowid rows) ∷ cells given) given
      go true = ap₂ ◌∷◌ (cast_int (next_rowid rows)) typed.cast
      go false = kept_row

-- ---- one row of VALUES

one_source : (params full : Row) (terms : List Term) (width : ℕ) (rows : List Row) → IsOneRow terms width → full ≡ params → rows ≡ value_rows full width (length terms / width) terms
    → rows ≡ eval_all terms (params ∷ []) ∷ []
one_source params full terms width rows one same h =
    subst (λ n. rows ≡ value_rows full width n terms) one.count h ∙ ap (λ ts. eval_all ts (full ∷ []) ∷ []) one.all ∙ ap (λ p. eval_all terms (p ∷ []) ∷ []) same

module _ (limit : Option ℕ) (schema : Schema) (at : ℕ) (table : Table) (params : Row) (plain : IsPlainTable schema at table) where
  abbrev pub task : Task
  task = record { limit = limit; keys = Enforced; schema = schema; table = table; params = params }

  unstamped : stamped table params ≡ params
  unstamped = ap (λ terms. params ++ eval_all terms (drop (length params - length table.stamps.formats) params ∷ [])) plain.unstamped ∙ append-nil params

  uncounted_rowids : (top : ℤ) → rowids_for table top ≡ Chosen
  uncounted_rowids top = ap (λ b. cond b (Above top) Chosen) plain.uncounted

  uncounted : (db next : Trees) (counter : Option Row) (top : ℤ) → Counts task db counter top (Ok next) → next ≡ db
  uncounted db next counter top h = same_value (rw plain.uncounted at h)

  -- what a row of VALUES comes to in the table
  pub record IsReplaced (given : Row) (db next : Trees) : Type 0 where
    pub rows_are : next table.tree ≡ replaced schema table given (db table.tree)
    pub spares : Spares schema table db next
    pub whole : is_int (rowid (with_next_rowid (db table.tree) given)) ≡ true
    pub free : is_taken (filter (λ row. not (meets schema table (with_next_rowid (db table.tree) given) row)) (db table.tree)) (with_next_rowid (db table.tree) given) ≡ false

  module _ (terms : List Term) (width : ℕ) (one : IsOneRow terms width) (typed : IsTyped table (eval_all terms (params ∷ []))) (db : Trees) (stored : IsStored (db table.tree)) where
    abbrev given : Row
    given = eval_all terms (params ∷ [])

    abbrev new : Row
    new = with_next_rowid (db table.tree) given

    -- the one row is tried as the row with its rowid
    module _ (way : Conflict) (clauses : List Upsert) (kept : cast_row table (mended way table given) ≡ given) where
      tries_each : (rows : List Row) (top : ℤ) (done : Written × ℤ) → rows ≡ given ∷ [] → TriesEach task way clauses rows top (nothing db) (Ok done)
          → (w : Written) × Tries task way clauses new db (Ok w) × (done.0.trees ≡ w.trees)
      tries_each rows top done is h =
          let each = went (subst (λ rs. TriesEach task way clauses rs top (nothing db) (Ok done)) is h) in
          let row : with_rowid (rowids_for table top) (db table.tree) (cast_row table (mended way table given)) ≡ new =
          ap (λ how. with_rowid how (db table.tree) (cast_row table (mended way table given))) (uncounted_rowids top) ∙ ap (with_next_rowid (db table.tree)) kept in
          (each.0, subst (λ r. Tries task way clauses r db (Ok each.0)) row each.1, ap (λ (p : Written × ℤ). p.0.trees) (same_value each.2))

      pub tries_one : (w : Written) → InsertsOr task way clauses (Values terms width) db (Ok w) → (x : Written) × Tries task way clauses new db (Ok x) × (w.trees ≡ x.trees)
      tries_one w h =
          let sourced = went h in
          let counter = went sourced.2 in
          let tried = went counter.2 in
          let counted = went tried.2 in
          let each = tries_each sourced.0 (count_of counter.0) tried.0 (one_source params (stamped table params) terms width sourced.0 one unstamped sourced.1.1) tried.1 in
          (each.0, each.1, ap (λ (x : Written). x.trees) (same_value counted.2) ∙ uncounted tried.0.0.trees counted.0 counter.0 tried.0.1 counted.1 ∙ each.2)

    pub inserts_or : (w : Written) → InsertsOr task Replace [] (Values terms width) db (Ok w) → IsReplaced given db w.trees
    inserts_or w h =
        let x = tries_one Replace [] (kept_source table given typed) w h in
        let tried = tries task refl plain.quiet Replace [] (λ why. refl) new db x.0 x.1 in
        let put = upserts task refl plain.quiet new db x.0 stored (kept_new table given typed (db table.tree)) tried.1 in
        subst (IsReplaced given db) (sym x.2) (record { rows_are = put.rows_are; spares = put.spares; whole = tried.0; free = put.free })

    -- INSERT of one row
    pub inserts : (w : Written) → Inserts task (Values terms width) db (Ok w)
        → (w.trees table.tree ≡ inserted given (db table.tree)) × Spares schema table db w.trees × (is_int (rowid new) ≡ true) × (is_taken (db table.tree) new ≡ false)
    inserts w h =
        let sourced = went h in
        let counter = went sourced.2 in
        let written = went counter.2 in
        let counted = went written.2 in
        let how = rowids_for table (count_of counter.0) in
        let one_row = one_source params (stamped table params) terms width sourced.0 one unstamped sourced.1.1 in
        let edit : edit_of db table [] how 0 sourced.0 ≡ edit_of db table [] Chosen 0 (given ∷ []) = ap₂ (λ h rows. edit_of db table [] h 0 rows) (uncounted_rowids (count_of counter.0)) one_row in
        let a = subst (λ e. Applies schema Enforced db e written.0) edit (applied task refl plain.quiet db written.0 (edit_of db table [] how 0 sourced.0) refl written.1) in
        let row : with_next_rowid (db table.tree) (cast_row table given) ≡ new = ap (with_next_rowid (db table.tree)) (kept_row table given typed) in
        let end : w.trees ≡ written.0 = ap (λ (x : Written). x.trees) (same_value counted.2) ∙ uncounted written.0 counted.0 counter.0 _ counted.1 in
        subst (λ next. (next table.tree ≡ inserted given (db table.tree)) × Spares schema table db next × (is_int (rowid new) ≡ true) × (is_taken (db table.tree) new ≡ false)) (sym end) (
          a.rows ∙ ap (λ r. put_row r (db table.tree)) row,
          spared task refl plain.quiet db written.0 (edit_of db table [] Chosen 0 (given ∷ [])) refl a,
          (and_parts _ _ (subst (λ r. (is_int (rowid r) && true) ≡ true) row a.keyed)).0,
          not-true _ (and_parts _ _ (subst (λ r. (not (is_taken (db table.tree) r) && true) ≡ true) row a.fresh)).0,
        )

  -- DELETE
  module _ (tests : List Term) (low : nat_le (2 ^ 31) table.tree ≡ false) (db : Trees) (stored : IsStored (db table.tree)) where
    abbrev passes : Row → Bool
    passes row = list_all (holds (params ∷ row ∷ [])) tests

    abbrev shown_rowid : Row → Output
    shown_rowid row = output (query_of (rowids_where table.tree tests)) (params ∷ row ∷ [])

    found_are : (answer : List Row) → Answers (rowids_where table.tree tests) params (db table.tree) answer → without_all (db table.tree) (ids_of answer) ≡ without passes (db table.tree)
    found_are answer a =
        let outs = outputs (rowids_where table.tree tests) params (db table.tree) in
        let there : AllByRecursion (Has outs) a.ordered = all-permutation (Has outs) outs a.ordered a.same (all_from (Has outs) outs (λ o h. h)) in
        let back : AllByRecursion (Has a.ordered) outs = all-permutation (Has a.ordered) a.ordered outs (IsPermutation-sym outs a.ordered a.same) (all_from (Has a.ordered) a.ordered (λ o h. h)) in
        ap (λ rows. without_all (db table.tree) (ids_of rows)) a.shown ∙
        taken_out (db table.tree) stored (map (λ o. o.1) a.ordered) passes
        (λ x h.
        let o = has_mapped (λ (p : Output). p.1) a.ordered x h in
        let r = has_mapped shown_rowid (filter passes (db table.tree)) o.0 (all_has (Has outs) a.ordered o.0 there o.1) in
        let kept = has_filtered passes (db table.tree) r.0 r.1 in
        (r.0, kept.0, kept.1, ap rowid (o.2 ∙ ap (λ (p : Output). p.1) r.2)))
        (λ r h pass.
        let o = mapped_has shown_rowid (filter passes (db table.tree)) r (has_kept passes (db table.tree) r h pass) in
        (rowid r ∷ [], mapped_has (λ (p : Output). p.1) a.ordered (shown_rowid r) (all_has (Has a.ordered) outs (shown_rowid r) back o), refl))

    pub deletes : (w : Written) → Deletes task (record { lets = []; body = query_of (rowids_where table.tree tests) }) db (Ok w)
        → (w.trees table.tree ≡ without passes (db table.tree)) × Spares schema table db w.trees
    deletes w h =
        let found = went h in
        let done = went found.2 in
        let edit = edit_of db table (ids_of found.0) Given 0 [] in
        let a = applied task refl plain.quiet db done.0 edit refl done.1 in
        let is : w.trees ≡ done.0 = ap (λ (x : Written). x.trees) (same_value done.2) in
        let answer = answers_from (rowids_where table.tree tests) db params found.0 low (found.1.answer Null) in
        subst (λ next. (next table.tree ≡ without passes (db table.tree)) × Spares schema table db next) (sym is) (a.rows ∙ found_are found.0 answer, spared task refl plain.quiet db done.0 edit refl a)

-- ---- the whole statement

-- in a transaction a write shows itself, and the last commit stays
pub shown_inside : (old new : State) (returning : Option Returning) (command : Command) (text : List ℕ) (params : Row) (count : ℕ) → IsTrue old.in_transaction → Writes old new returning command text params count
    → Shows old new new.now old.committed true
shown_inside old new returning command text params count inside w = record {
  was_open = w.shown.was_open;
  is_open = w.shown.is_open;
  now_is = refl;
  committed_is = w.shown.committed_is ∙ ap (λ b. cond b old.committed new.now) inside;
  mode = w.shown.mode ∙ inside;
}

module _ (params : Row) (old new : State) (at : ℕ) (table : Table) (plain : IsPlainTable old.now.schema at table) where
  abbrev own_task : Task
  own_task = record { limit = old.step_limit; keys = Enforced; schema = old.now.schema; table = table; params = params }

  pub row_step : (command : Command) (tally : Tally)
      → AtPlace (λ t. OnRows (record { limit = old.step_limit; keys = Enforced; schema = old.now.schema; table = t; params = params }) (mode_of old) None command old.now.trees) (slice_get old.now.schema.tables at)
      (Ok (tally, new.now))
      → (w : Written) × WritesRows own_task old.now.trees command (Ok w) × (new.now ≡ record { schema = old.now.schema; trees = w.trees })
  row_step command tally h =
      let on = subst (λ o. AtPlace (λ t. OnRows (record { limit = old.step_limit; keys = Enforced; schema = old.now.schema; table = t; params = params }) (mode_of old) None command old.now.trees) o (Ok (tally, new.now)))
      plain.listed h in
      let wrote = went on in
      let ends = went (went wrote.2).2 in
      (wrote.0, wrote.1, ap (λ (p : Tally × Database). p.1) (same_value ends.2))

  pub sets : (rows : List Row) (next : Trees) → next table.tree ≡ rows → Spares old.now.schema table old.now.trees next → new.now ≡ record { schema = old.now.schema; trees = next }
      → Shows old new new.now old.committed true → new.marks ≡ old.marks → SetsTable table rows old new
  sets rows next rows_are spares now shown marks =
      let trees : new.now.trees ≡ next = ap (λ (d : Database). d.trees) now in
      subst (λ t. t table.tree ≡ rows → Spares old.now.schema table old.now.trees t → SetsTable table rows old new) trees
      (λ is kept. record { rows_are = is; tables = kept.tables; others = kept.others; schema = ap (λ (d : Database). d.schema) now; shown = shown; marks = marks }) rows_are spares

module _ (sql : List ℕ) (params : Row) (old new : State) (ran : RanInside sql params old new) (table : Table) (terms : List Term) where
  abbrev source : Row
  source = eval_all terms (params ∷ [])

  abbrev rows : List Row
  rows = old.now.trees table.tree

  -- INSERT OR REPLACE of one row, in a transaction
  pub replaces : (count : ℕ) → ReplacesInto old.now.schema sql table terms count → IsStored rows → IsTyped table source
      → SetsTable table (replaced old.now.schema table source rows) old new × IsStored (new.now.trees table.tree)
      × IsPermutation (cells source ∷ cells_of (apart old.now.schema table source rows)) (cells_of (new.now.trees table.tree))
  replaces count text stored typed =
      let plain = text.table_is in
      let command = InsertOr text.at Replace (Values terms text.width) [] in
      let w = runs_as sql params old new old.now.schema refl command (means_as old.now.schema sql command text.means) text.means.plain ran.1.0 ran.1.1 in
      let step = row_step params old new text.at table plain command w.tally w.changed in
      let is = inserts_or old.step_limit old.now.schema text.at table params plain terms text.width text.one_row typed old.now.trees stored step.0 step.1 in
      let set = sets params old new text.at table plain (replaced old.now.schema table source rows) step.0.trees is.rows_are is.spares step.2
      (shown_inside old new None command _ params ran.1.0 ran.0 w) w.marks in (
        set,
        subst IsStored (sym set.rows_are) (stored-put_row _ (stored-filter rows stored _) _ is.whole),
        subst (λ all. IsPermutation (cells source ∷ cells_of (apart old.now.schema table source rows)) (cells_of all)) (sym set.rows_are)
            (cells_beside source rows (apart old.now.schema table source rows) is.free),
      )

  -- INSERT of one row, in a transaction
  pub inserts_one : (count : ℕ) → InsertsInto old.now.schema sql table terms count → IsStored rows → IsTyped table source
      → SetsTable table (inserted source rows) old new × IsStored (new.now.trees table.tree) × IsPermutation (cells source ∷ cells_of rows) (cells_of (new.now.trees table.tree))
  inserts_one count text stored typed =
      let plain = text.table_is in
      let command = Insert text.at (Values terms text.width) in
      let w = runs_as sql params old new old.now.schema refl command (means_as old.now.schema sql command text.means) text.means.plain ran.1.0 ran.1.1 in
      let step = row_step params old new text.at table plain command w.tally w.changed in
      let is = inserts old.step_limit old.now.schema text.at table params plain terms text.width text.one_row typed old.now.trees stored step.0 step.1 in
      let set = sets params old new text.at table plain (inserted source rows) step.0.trees is.0 is.1 step.2 (shown_inside old new None command _ params ran.1.0 ran.0 w) w.marks in (
        set,
        subst IsStored (sym set.rows_are) (stored-put_row rows stored _ is.2),
        subst (λ all. IsPermutation (cells source ∷ cells_of rows) (cells_of all)) (sym set.rows_are) (cells_beside source rows rows is.3),
      )

-- DELETE, in a transaction
pub deletes_rows : (sql : List ℕ) (params : Row) (old after : State) → RanInside sql params old after → DeletesRows sql params old after
deletes_rows sql params old after ran table tests count text stored =
    let plain = text.table_is in
    let command = Delete text.at (record { lets = []; body = query_of (rowids_where table.tree tests) }) in
    let w = runs_as sql params old after old.now.schema refl command (means_as old.now.schema sql command text.means) text.means.plain ran.1.0 ran.1.1 in
    let step = row_step params old after text.at table plain command w.tally w.changed in
    let is = deletes old.step_limit old.now.schema text.at table params plain tests text.stored old.now.trees stored step.0 step.1 in
    let rows = without (λ row. list_all (holds (params ∷ row ∷ [])) tests) (old.now.trees table.tree) in
    let set = sets params old after text.at table plain rows step.0.trees is.0 is.1 step.2 (shown_inside old after None command _ params ran.1.0 ran.0 w) w.marks in
    (set, subst IsStored (sym set.rows_are) (stored-filter (old.now.trees table.tree) stored _))

-- ---- such texts write

pub replaces_writes : (schema : Schema) (sql : List ℕ) (table : Table) (terms : List Term) {count : ℕ} → ReplacesInto schema sql table terms count → IsWriting schema sql
replaces_writes schema sql table terms text = ap changes text.means.is

pub inserts_writes : (schema : Schema) (sql : List ℕ) (table : Table) (terms : List Term) {count : ℕ} → InsertsInto schema sql table terms count → IsWriting schema sql
inserts_writes schema sql table terms text = ap changes text.means.is

pub deletes_writes : (schema : Schema) (sql : List ℕ) (table : Table) (tests : List Term) {count : ℕ} → DeletesFrom schema sql table tests count → IsWriting schema sql
deletes_writes schema sql table tests text = ap changes text.means.is

-- a DELETE with no test leaves no row
pub none_without_tests : (params : Row) (rows : List Row) → without (λ row. list_all (holds (params ∷ row ∷ [])) []) rows ≡ []
none_without_tests params [] = refl
none_without_tests params (row ∷ rows) = none_without_tests params rows
