-- What INSERT ON CONFLICT of one row does: it puts the row in, or writes it over the one that has its key.
use Rattle.std.proofs.Common.{bytes_eq, ◌≡◌, inl, inr, ℕ, zero, suc, ◌^◌, nat_le, ℤ, Bool, true, false, not, ◌&&◌, ◌==◌, cond, List, [], ◌∷◌, ◌++◌, length, Option, Some, None, Ok, Ordering, Less, Equal, Greater, IsPermutation, refl, sym, ap, ap₂, subst, ◌∙◌}
use Rattle.std.specs.List.{list_all}
use Rattle.std.specs.Ordering.{is_eq, is_ne}
use Rattle.std.proofs.lemmas.Bool.{and_parts, and_from, or_cases, or_right, not-true, both_ways, cases_Bool, false_from_ne_true}
use Rattle.std.proofs.lemmas.Slice.Eq.{bytes_eq-Decides}
use Rattle.sqlite.specs.Order.{Row}
use Rattle.sqlite_value.specs.Order.{column, value_cmp}
use Rattle.sqlite.specs.Collation.TheVariants.{Binary}
use Rattle.sqlite.specs.declared.types.Value.{Value}
use Rattle.sqlite.specs.declared.types.Value.TheVariants.{Int}
use Rattle.sqlite.specs.Tree.{Trees, rowid, has_rowid, put_row, without_rowid}
use Rattle.sqlite_trees.specs.View.{is_int}
use Rattle.sqlite.specs.Schema.{Schema}
use Rattle.sqlite.specs.Table.{Table}
use Rattle.sqlite_schema.specs.declared.schema.Index.{Index}
use Rattle.sqlite_schema.specs.declared.schema.Constraint.TheVariants.{Unique}
use Rattle.sqlite_schema.specs.declared.command.Conflict.TheVariants.{Abort}
use Rattle.sqlite_schema.specs.Rules.{equal, differ, agree, guards, Fits}
use Rattle.sqlite.specs.Ops.{binary, is_null, is_true, from_truth}
use Rattle.sqlite.specs.Term.{Term, eval_all, holds}
use Rattle.sqlite.specs.Source.TheVariants.{Values}
use Rattle.sqlite.specs.Command.TheVariants.{InsertOr}
use Rattle.sqlite.specs.Kind.TheVariants.{Integer}
use Rattle.sqlite.specs.Cast.{cast, cast_row}
use Rattle.sqlite.specs.Edit.{id_in, is_taken, next_rowid}
use Rattle.sqlite.specs.Effect.{Database}
use Rattle.sqlite.specs.Rows.{Written, Task, Clears, Puts, Meets, Upserts, Updates, shown}
use Rattle.sqlite.specs.State.{State}
use Rattle.sqlite.proofs.Callers.{runs_as}
use Rattle.sqlite_rules.specs.Lists.{Has}
use Rattle.sqlite_rules.specs.InPlace.{AgreeAt}
use Rattle.sqlite_rules.specs.Keys.{shares, AreConflicts}
use Rattle.sqlite_rules.proofs.ListLemmas.{all_from, test_has, some_has, some_from, has_kept, has_got}
use Rattle.sqlite_rules.proofs.PlaceLemmas.{agree_same, agrees_itself}
use Rattle.sqlite_rules.proofs.RuleLemmas.{keeps_at}
use Rattle.sqlite_rules.proofs.TableLemmas.{put_all_adds, put_all_keeps}
use Rattle.sqlite_keyed.proofs.ListLemmas.{filter_all}
use Rattle.wb_sql.specs.Calls.{RanInside}
use Rattle.wb_sql.specs.Queries.{query_of, chosen}
use Rattle.wb_sql.specs.Rows.{cells, cells_of, IsStored, IsTyped, with_next_rowid, meets, apart}
use Rattle.wb_sql.specs.Statements.{IsWriting, changes}
use Rattle.wb_sql.specs.Changes.{IsPlainTable, UpsertsInto, IsDecidedBy, row_of_rowid, renewal, has_key, Upserts as UpsertsRows}
use Rattle.wb_sql.proofs.ReadingLemmas.{means_as}
use Rattle.wb_sql.proofs.SetLemmas.{filter_same_on, int_at, has_own, same_by_rowid, stored-filter, cells_numbered, put_leaves}
use Rattle.wb_sql.proofs.UpdateLemmas.{alone_left, IsWrittenOver, updates_one}
use Rattle.wb_sql.proofs.WriteLemmas.{Spares, puts, tries, cast_int, kept_row, kept_new, task, tries_one, shown_inside, row_step, sets as sets_table}

-- ---- rowids as SQL compares them

pub true_of : (b : Bool) → is_true (from_truth (Some b)) ≡ b
true_of true = refl
true_of false = refl

not_tied : (o : Ordering) → is_ne o ≡ not (is_eq o)
not_tied Less = refl
not_tied Equal = refl
not_tied Greater = refl

pub equal_int : (m n : ℤ) → equal Binary (Int m) (Int n) ≡ is_eq (value_cmp (Int m) (Int n))
unfolding binary
equal_int m n = true_of (is_eq (value_cmp (Int m) (Int n)))

differ_int : (m n : ℤ) → differ (Int m) (Int n) ≡ not (is_eq (value_cmp (Int m) (Int n)))
unfolding binary
differ_int m n = true_of (is_ne (value_cmp (Int m) (Int n))) ∙ not_tied (value_cmp (Int m) (Int n))

and_true : (b : Bool) → (b && true) ≡ b
and_true true = refl
and_true false = refl

-- ---- the query for one row by its rowid

value_after : (xs : Row) (v : Value) (more : Row) → column (xs ++ v ∷ more) (length xs) ≡ v
value_after [] v more = refl
value_after (x ∷ xs) v more = value_after xs v more

module _ (tree : ℕ) (params more : Row) (terms : List Term) (rows : List Row) (stored : IsStored rows) (r : Row) (there : Has rows r) where
  abbrev full : Row
  full = params ++ rowid r ∷ more

  rowid_given : column full (length params) ≡ Int (id_in (rowid r))
  rowid_given = value_after params (rowid r) more ∙ int_at rows stored r there

  has_it : (row : Row) → Has rows row → list_all (holds (full ∷ row ∷ [])) (row_of_rowid tree (length params) terms).filter ≡ has_rowid (id_in (rowid r)) row
  has_it row h =
      let id = id_in (rowid r) in
      ap (λ v. equal Binary (rowid row) v && true) rowid_given ∙ and_true (equal Binary (rowid row) (Int id)) ∙ ap (λ v. equal Binary v (Int id)) (int_at rows stored row h)
      ∙ equal_int (id_in (rowid row)) id ∙ sym (ap (λ v. is_eq (value_cmp v (Int id))) (int_at rows stored row h))

  -- it finds that row alone
  chosen_one : chosen (row_of_rowid tree (length params) terms) full rows ≡ r ∷ []
  chosen_one = filter_same_on _ _ rows has_it ∙ alone_left (has_rowid (id_in (rowid r))) rows r stored.rising there (has_own rows stored r there) (λ x h. same_by_rowid rows stored x r h there)

-- ---- the rows that have the key

-- a key with no column that is the rowid is not the rowid
not_rowid : (key : List ℕ) → list_all (λ place. not (place == 0)) key ≡ true → bytes_eq key (0 ∷ []) ≡ true → ⊥
not_rowid key columns h =
    let is : key ≡ 0 ∷ [] = (bytes_eq-Decides key (0 ∷ [])).0 h in
    let e = subst (λ k. list_all (λ place. not (place == 0)) k ≡ true) is columns in
    cc

module _ (schema : Schema) (table : Table) (key : List ℕ) (columns : list_all (λ place. not (place == 0)) key ≡ true) (new : Row) where
  -- a row has the key under a unique index on its columns
  by_index : (row : Row) → has_key schema table key new row ≡ true
      → (i : Index) × Has schema.indexes i × (guards i table ≡ true) × (i.columns ≡ key) × (agree i.order i.columns row i.columns new ≡ true)
  by_index row h = elim (or_cases _ _ h) [
    | inl at_rowid ↦ absurd (not_rowid key columns (and_parts _ _ at_rowid).0)
    | inr any ↦
        let i = some_has (shares (Some key) table new row) schema.indexes any in
        let parts = and_parts _ _ i.2 in
        let aimed = and_parts _ _ parts.0 in
        (i.0, i.1, aimed.0, sym ((bytes_eq-Decides key i.0.columns).0 aimed.1), parts.1)
  ]

  meets_by_key : (row : Row) → has_key schema table key new row ≡ true → meets schema table new row ≡ true
  meets_by_key row h = let i = by_index row h in or_right _ _ (some_from (shares None table new row) schema.indexes i.0 i.1 (and_from _ _ (and_from _ _ i.2 refl) i.4))

  module _ (row : Row) (same : (at : ℕ) → column new (suc at) ≡ column row (suc at)) where
    same_key : (places : List ℕ) → list_all (λ place. not (place == 0)) places ≡ true → AgreeAt places new row
    same_key [] h = tt
    same_key (zero ∷ places) h = absurd (cc)
    same_key (suc at ∷ places) h = (same at, same_key places (and_parts _ _ h).1)

    -- beside a row with the cells of the new one no other has the key
    no_other : (next : Trees) (other : Row) → Has schema.tables table → Fits schema next → Has (next table.tree) row → Has (next table.tree) other → differ (rowid other) (rowid row) ≡ true
        → has_key schema table key new other ≡ true → ⊥
    no_other next other listed fits there beside apart h =
        let i = by_index other h in
        let places = same_key i.0.columns (subst (λ k. list_all (λ place. not (place == 0)) k ≡ true) (sym i.3) columns) in
        let key_too : agree i.0.order i.0.columns other i.0.columns row ≡ true =
        agree_same i.0.order i.0.columns i.0.columns other other new row (agrees_itself i.0.columns other) places ∙ i.4 in
        let kept = keeps_at Unique schema next table row (fits.rules Unique (λ e. cc)) listed there in
        let alone = not-true _ (test_has _ schema.indexes i.0 kept i.1) in
        let clash = some_from (λ x. agree i.0.order i.0.columns x i.0.columns row && differ (rowid x) (rowid row)) (next table.tree) other beside (and_from _ _ key_too apart) in
        both_ways _ alone (and_from _ _ i.2 clash)

-- ---- the row that is written

-- a row that is typed keeps its cells as its rowid is chosen
numbered_is : (table : Table) (given : Row) (rows : List Row) → IsTyped table given → with_next_rowid rows given ≡ rowid (with_next_rowid rows given) ∷ cells given
numbered_is table given rows typed = go (is_null (rowid given))
  where
    go : (b : Bool) → cond b (Int (next_rowid rows) ∷ cells given) given ≡ rowid (cond b (Int (next_rowid rows) ∷ cells given) given) ∷ cells given
    go true = refl
    go false = typed.row

-- ABORT puts the row in, whatever it meets
puts_of : (job : Task) (new : Row) (db : Trees) (found : List Row) (w : Written) → Clears job Abort new db found (Ok w) → Puts job new db (Ok w)
puts_of job new db [] w h = h
puts_of job new db (x ∷ more) w h = h

module _ (limit : Option ℕ) (schema : Schema) (at : ℕ) (table : Table) (params given : Row) (sets : List Term) (key : List ℕ) (plain : IsPlainTable schema at table)
    (low : nat_le (2 ^ 31) table.tree ≡ false) (columns : list_all (λ place. not (place == 0)) key ≡ true) (typed : IsTyped table given)
    (db : Trees) (stored : IsStored (db table.tree)) (decided : IsDecidedBy schema table key params given sets (db table.tree)) where
  abbrev own : Task
  own = task limit schema at table params plain

  abbrev rows : List Row
  rows = db table.tree

  abbrev new : Row
  new = with_next_rowid rows given

  -- a row with the cells that are given is put in beside those that do not meet the new row
  pub record IsPutApart (next : Trees) : Type 0 where
    pub row : Row
    pub cells_are : cells row ≡ cells given
    pub rows_are : next table.tree ≡ put_row row (apart schema table given rows)
    pub spares : Spares schema table db next
    pub whole : is_int (rowid row) ≡ true
    pub free : is_taken (apart schema table given rows) row ≡ false

  -- no row has the key: none meets the new row, which is put in
  puts_new : (w : Written) → AreConflicts (Some key) schema.indexes table rows new [] → is_int (rowid new) ≡ true → Upserts own Abort new db [] (Ok w) → IsPutApart w.trees
  puts_new w none whole h =
      let all : apart schema table given rows ≡ rows =
      filter_all (λ row. not (meets schema table new row)) rows (all_from _ rows (λ row there. ap not (false_from_ne_true _ (λ meet. none.complete row there (decided.by_key row there meet))))) in
      let put = puts own refl plain.quiet new db w (kept_new table given typed rows) (puts_of own new db h.0 w h.2) in
      record {
        row = new;
        cells_are = cells_numbered given rows;
        rows_are = put.rows_are ∙ ap (put_row new) (sym all);
        spares = put.spares;
        whole = whole;
        free = subst (λ l. is_taken l new ≡ false) (sym all) put.free;
      }

  -- a row has the key: it alone meets the new row, which is written over it
  module _ (r : Row) (there : Has rows r) (h : has_key schema table key new r ≡ true) where
    abbrev it : Row
    it = rowid r ∷ cells given

    abbrev left : List Row
    left = without_rowid (id_in (rowid r)) rows

    kept_it : cast_row table it ≡ it
    kept_it = let is = int_at rows stored r there in ap₂ ◌∷◌ (ap (cast Integer) is ∙ cast_int (id_in (rowid r)) ∙ sym is) typed.cast

    module _ (next : Trees) (over : IsWrittenOver schema table db r (cells given) next) where
      -- only that row meets the new one: any other with the key would have it still
      meets_it : (row : Row) → Has rows row → meets schema table new row ≡ has_rowid (id_in (rowid r)) row
      meets_it row was = elim (cases_Bool (has_rowid (id_in (rowid r)) row)) [
        | inl same ↦ subst (λ x. meets schema table new x ≡ true) (sym (same_by_rowid rows stored row r was there same)) (meets_by_key schema table key columns new r h) ∙ sym same
        | inr other ↦
            let id = id_in (rowid r) in
            let here : Has (next table.tree) it = subst (λ l. Has l it) (sym over.rows_are) (put_all_adds (it ∷ []) left it over.fresh (inl refl)) in
            let beside : Has (next table.tree) row =
            subst (λ l. Has l row) (sym over.rows_are) (put_all_keeps (it ∷ []) left row over.fresh (has_kept (λ x. not (has_rowid id x)) rows row was (ap not other))) in
            let differs : differ (rowid row) (rowid r) ≡ true =
            ap₂ differ (int_at rows stored row was) (int_at rows stored r there) ∙ differ_int (id_in (rowid row)) id
            ∙ ap not (sym (ap (λ v. is_eq (value_cmp v (Int id))) (int_at rows stored row was)) ∙ other) in
            false_from_ne_true _ (λ meet.
            no_other schema table key columns new it (λ place. ap (λ (x : Row). column x (suc place)) (numbered_is table given rows typed)) next row
            (has_got schema.tables at table plain.listed) over.fits here beside differs (decided.by_key row was meet)) ∙ sym other
      ]

      put_over : IsPutApart next
      put_over =
          let rest : apart schema table given rows ≡ left = filter_same_on _ _ rows (λ row was. ap not (meets_it row was)) in
          record {
            row = it;
            cells_are = refl;
            rows_are = over.rows_are ∙ ap (put_row it) (sym rest);
            spares = over.spares;
            whole = over.whole;
            free = subst (λ l. is_taken l it ≡ false) (sym rest) (not-true _ (and_parts _ _ over.fresh).0);
          }

    -- DO UPDATE writes the new cells over that row
    updates_it : (w : Written) → Updates own (record { lets = []; body = query_of (row_of_rowid table.tree (length params) sets) }) (params ++ rowid r ∷ shown table new) db (Ok w) → IsPutApart w.trees
    updates_it w u =
        let tests = (row_of_rowid table.tree (length params) sets).filter in
        let one = chosen_one table.tree params (shown table new) sets rows stored r there in
        put_over w.trees (updates_one limit schema at table params plain low db stored r there (cells given) kept_it tests sets (params ++ rowid r ∷ shown table new) one (decided.cells_are r there h) w u)

  upserts : (w : Written) → is_int (rowid new) ≡ true → Upserts own Abort new db (renewal table.tree key (length params) sets ∷ []) (Ok w) → IsPutApart w.trees
  upserts w whole h = go h.0 h.1 h.2
    where
      go : (found : List Row) → AreConflicts (Some key) schema.indexes table rows new found
          → Meets own (Upserts own Abort new db []) new db (renewal table.tree key (length params) sets) found (Ok w) → IsPutApart w.trees
      go [] are met = puts_new w are whole met
      go (x ∷ more) are met =
          let r = are.sound x (inl refl) in
          updates_it r.0 r.1 r.2 w
          (subst (λ y. Updates own (record { lets = []; body = query_of (row_of_rowid table.tree (length params) sets) }) (params ++ rowid y ∷ shown table new) db (Ok w)) r.3 met)

  -- what is left is stored, and its cells are those that are given and those of the rows apart
  leaves : (next : Trees) (after : List Row) → IsPutApart next → next table.tree ≡ after
      → IsStored after × IsPermutation (cells given ∷ cells_of (apart schema table given rows)) (cells_of after)
  leaves next after put same =
      let left = apart schema table given rows in
      subst (λ columns. IsStored after × IsPermutation (columns ∷ cells_of left) (cells_of after)) put.cells_are
      (put_leaves put.row left after (stored-filter rows stored _) put.whole put.free (sym put.rows_are ∙ same))

-- INSERT ON CONFLICT of one row, in a transaction
pub upserts_rows : (sql : List ℕ) (params : Row) (old after : State) → RanInside sql params old after → UpsertsRows sql params old after
upserts_rows sql params old after ran table terms sets key text stored typed decided =
    let plain = text.table_is in
    let limit = old.step_limit in
    let schema = old.now.schema in
    let trees = old.now.trees in
    let given = eval_all terms (params ∷ []) in
    let clauses = renewal table.tree key (length params) sets ∷ [] in
    let command = InsertOr text.at Abort (Values terms text.width) clauses in
    let w = runs_as sql params old after schema refl command (means_as schema sql command text.means) text.means.plain ran.1.0 ran.1.1 in
    let step = row_step params old after text.at table plain command w.tally w.changed in
    let x = tries_one limit schema text.at table params plain terms text.width text.one_row typed trees stored Abort clauses (kept_row table given typed) step.0 step.1 in
    let tried = tries (task limit schema text.at table params plain) refl plain.quiet Abort clauses (λ why. refl) (with_next_rowid (trees table.tree) given) trees x.0 x.1 in
    let put = upserts limit schema text.at table params given sets key plain text.stored text.columns typed trees stored decided x.0 tried.0 tried.1 in
    let now : x.0.trees table.tree ≡ after.now.trees table.tree = ap (λ (t : Trees). t table.tree) (sym x.2) ∙ ap (λ (d : Database). d.trees table.tree) (sym step.2) in
    let left = leaves limit schema text.at table params given sets key plain text.stored text.columns typed trees stored decided x.0.trees (after.now.trees table.tree) put now in (
      sets_table params old after text.at table plain (after.now.trees table.tree) x.0.trees now put.spares (step.2 ∙ ap (λ (t : Trees). record { schema = schema; trees = t }) x.2)
          (shown_inside old after None command _ params ran.1.0 ran.0 w) w.marks,
      left.0,
      left.1,
    )

-- such a text writes
pub upserts_writes : (schema : Schema) (sql : List ℕ) (table : Table) (terms sets : List Term) (key : List ℕ) (count : ℕ) → UpsertsInto schema sql table terms sets key count → IsWriting schema sql
upserts_writes schema sql table terms sets key count text = ap changes text.means.is
