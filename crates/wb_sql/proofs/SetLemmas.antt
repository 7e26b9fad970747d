-- Rows that are taken out by their rowids, and put in.
use Rattle.std.proofs.Common.{◌≡◌, inl, inr, ℤ, Bool, true, false, not, ◌&&◌, cond, List, [], ◌∷◌, map, flat_map, filter, Ordering, Less, Equal, Greater, refl, sym, ap, subst, ◌∙◌, IsPermutation}
use Rattle.std.specs.List.{AllByRecursion, list_any, list_all}
use Rattle.std.specs.Ordering.{is_eq, match_ordering}
use Rattle.std.proofs.lemmas.Bool.{both_ways, cases_Bool, or_parts, false_from_ne_true}
use Rattle.std.proofs.lemmas.Cmp.{tied_itself}
use Rattle.std.proofs.lemmas.List.Sorted.{IsPermutation-refl, IsPermutation-cons, IsPermutation-trans, IsPermutation-middle}
use Rattle.sqlite.specs.Order.{Row}
use Rattle.sqlite_value.specs.Order.{value_cmp}
use Rattle.sqlite.specs.declared.types.Value.TheVariants.{Int}
use Rattle.sqlite_value.proofs.OrderLemmas.{value_cmp_total}
use Rattle.sqlite.specs.Tree.{rowid, has_rowid, put_row, without_rowid}
use Rattle.sqlite_trees.specs.View.{is_int}
use Rattle.sqlite_trees.proofs.TreeLemmas.{IsTable-put_row}
use Rattle.sqlite_rules.specs.Lists.{Has}
use Rattle.sqlite_rules.specs.Calls.{ids_of}
use Rattle.sqlite.specs.Edit.{id_in, without_all, is_taken, next_rowid}
use Rattle.sqlite.specs.Ops.{is_null}
use Rattle.sqlite_rules.proofs.ListLemmas.{test_has, test_from, some_has, some_from, has_filtered}
use Rattle.sqlite_rules.proofs.ProbeLemmas.{has_mapped, mapped_has}
use Rattle.sqlite_rules.proofs.TableLemmas.{int_is, put_has}
use Rattle.sqlite_rules.proofs.PlaceLemmas.{tied_same}
use Rattle.sqlite_keyed.proofs.ListLemmas.{ascending-filter, IsPermutation-flat_map}
use Rattle.wb_sql.specs.Rows.{cells, cells_of, IsStored, with_next_rowid}

pub filter_same_on : {X : Type 0} (p q : X → Bool) (xs : List X) → ((x : X) → Has xs x → p x ≡ q x) → filter p xs ≡ filter q xs
filter_same_on p q [] each = refl
filter_same_on p q (x ∷ xs) each = rw (each x (inl refl), filter_same_on p q xs (λ y h. each y (inr h)))

filter_twice : {X : Type 0} (p q : X → Bool) (xs : List X) → filter p (filter q xs) ≡ filter (λ x. q x && p x) xs
filter_twice p q [] = refl
filter_twice p q (x ∷ xs) = elim (cases_Bool (q x)) [
  | inl kept ↦ rw (kept, filter_twice p q xs)
  | inr left ↦ rw (left, filter_twice p q xs)
]

-- a row has one of the rowids
abbrev has_any : List ℤ → Row → Bool
has_any ids row = list_any (λ id. has_rowid id row) ids

not_either : (a b : Bool) → (not a && not b) ≡ not (Rattle.std.specs.Prelude.◌||◌ a b)
not_either true b = refl
not_either false b = refl

filter_all_of : (rows : List Row) → filter (λ row. true) rows ≡ rows
filter_all_of [] = refl
filter_all_of (r ∷ rows) = ap (λ l. r ∷ l) (filter_all_of rows)

without_all_is : (ids : List ℤ) (rows : List Row) → without_all rows ids ≡ filter (λ row. not (has_any ids row)) rows
without_all_is [] rows = sym (filter_all_of rows)
without_all_is (id ∷ ids) rows =
    without_all_is ids (without_rowid id rows) ∙ filter_twice (λ row. not (has_any ids row)) (λ row. not (has_rowid id row)) rows
    ∙ filter_same_on _ _ rows (λ row h. not_either (has_rowid id row) (has_any ids row))

equal_is : (o : Ordering) → is_eq o ≡ true → o ≡ Equal
equal_is Less h = absurd (cc)
equal_is Equal h = refl
equal_is Greater h = absurd (cc)

module _ (rows : List Row) (stored : IsStored rows) where
  pub int_at : (r : Row) → Has rows r → rowid r ≡ Int (id_in (rowid r))
  int_at r h = int_is (rowid r) (test_has (λ x. is_int (rowid x)) rows r stored.whole h)

  -- a row has its own rowid, and no other row has it
  pub has_own : (row : Row) → Has rows row → has_rowid (id_in (rowid row)) row ≡ true
  has_own row h = ap (λ v. is_eq (value_cmp v (Int (id_in (rowid row))))) (int_at row h) ∙ ap is_eq (tied_itself value_cmp_total (Int (id_in (rowid row))))

  pub same_by_rowid : (row r : Row) → Has rows row → Has rows r → has_rowid (id_in (rowid r)) row ≡ true → row ≡ r
  same_by_rowid row r h there own = tied_same rows row r stored.rising h there (ap (value_cmp (rowid row)) (int_at r there) ∙ equal_is _ own)

  -- rows are taken out by the rowids of those that pass a test, and all of these
  pub taken_out : (found : List Row) (p : Row → Bool) → ((x : Row) → Has found x → (r : Row) × Has rows r × (p r ≡ true) × (rowid x ≡ rowid r))
      → ((r : Row) → Has rows r → p r ≡ true → (x : Row) × Has found x × (rowid x ≡ rowid r)) → without_all rows (ids_of found) ≡ filter (λ row. not (p row)) rows
  taken_out found p sound complete = without_all_is (ids_of found) rows ∙ filter_same_on _ _ rows (λ row h. ap not (same row h))
    where
      one_of : (row : Row) → Has rows row → has_any (ids_of found) row ≡ true → p row ≡ true
      one_of row h any =
          let id = some_has (λ i. has_rowid i row) (ids_of found) any in
          let x = has_mapped (λ (r : Row). id_in (rowid r)) found id.0 id.1 in
          let r = sound x.0 x.1 in
          let is : id.0 ≡ id_in (rowid r.0) = x.2 ∙ ap id_in r.3 in
          ap p (same_by_rowid row r.0 h r.1 (subst (λ i. has_rowid i row ≡ true) is id.2)) ∙ r.2

      all_of : (row : Row) → Has rows row → p row ≡ true → has_any (ids_of found) row ≡ true
      all_of row h passes =
          let x = complete row h passes in
          some_from (λ i. has_rowid i row) (ids_of found) (id_in (rowid row)) (subst (Has (ids_of found)) (ap id_in x.2) (mapped_has (λ (r : Row). id_in (rowid r)) found x.0 x.1)) (has_own row h)

      same : (row : Row) → Has rows row → has_any (ids_of found) row ≡ p row
      same row h = elim (cases_Bool (p row)) [
        | inl passes ↦ all_of row h passes ∙ sym passes
        | inr fails ↦ false_from_ne_true _ (λ any. both_ways _ fails (one_of row h any)) ∙ sym fails
      ]

  pub stored-filter : (p : Row → Bool) → IsStored (filter p rows)
  stored-filter p = record {
    whole = test_from _ (filter p rows) (λ r h. test_has (λ x. is_int (rowid x)) rows r stored.whole (has_filtered p rows r h).0);
    rising = ascending-filter _ p rows stored.rising;
  }

  pub stored-put_row : (new : Row) → is_int (rowid new) ≡ true → IsStored (put_row new rows)
  stored-put_row new whole = record {
    whole = test_from _ (put_row new rows) (λ r h. elim (put_has new rows r h) [ inl same ↦ ap (λ (x : Row). is_int (rowid x)) same ∙ whole | inr was ↦ test_has (λ x. is_int (rowid x)) rows r stored.whole was ]);
    rising = IsTable-put_row new rows stored.rising;
  }

-- a row that no row meets by its rowid comes beside the others
pub put_beside : (new : Row) (rows : List Row) → is_taken rows new ≡ false → IsPermutation (new ∷ rows) (put_row new rows)
put_beside new [] free = IsPermutation-refl _
put_beside new (r ∷ rows) free = go (value_cmp (rowid r) (rowid new)) (or_parts _ _ free).0 (put_beside new rows (or_parts _ _ free).1)
  where
    go : (o : Ordering) → is_eq o ≡ false → IsPermutation (new ∷ rows) (put_row new rows) → IsPermutation (new ∷ r ∷ rows) (match_ordering o (r ∷ put_row new rows) (new ∷ rows) (new ∷ r ∷ rows))
    go Less other later = IsPermutation-trans _ _ _ (IsPermutation-middle (new ∷ []) r rows) (IsPermutation-cons r _ _ later)
    go Equal other later = absurd (cc)
    go Greater other later = IsPermutation-refl _

one_each : {A B : Type 0} (f : A → B) (xs : List A) → map f xs ≡ flat_map (λ x. f x ∷ []) xs
one_each f [] = refl
one_each f (x ∷ xs) = ap (λ l. f x ∷ l) (one_each f xs)

pub IsPermutation-map : {A B : Type 0} (f : A → B) (xs ys : List A) → IsPermutation xs ys → IsPermutation (map f xs) (map f ys)
IsPermutation-map f xs ys same = subst (λ l. IsPermutation l (map f ys)) (sym (one_each f xs)) (subst (IsPermutation (flat_map (λ x. f x ∷ []) xs)) (sym (one_each f ys)) (IsPermutation-flat_map (λ x. f x ∷ []) xs ys same))

-- the rowid that is chosen changes no cell
pub cells_numbered : (given : Row) (rows : List Row) → cells (with_next_rowid rows given) ≡ cells given
cells_numbered given rows = go (is_null (rowid given))
  where
    go : (b : Bool) → cells (cond b (Int (next_rowid rows) ∷ cells given) given) ≡ cells given
    go true = refl
    go false = refl

-- the cells of a row that is put beside others
pub cells_put : (row : Row) (left : List Row) → is_taken left row ≡ false → IsPermutation (cells row ∷ cells_of left) (cells_of (put_row row left))
cells_put row left free = IsPermutation-map cells (row ∷ left) (put_row row left) (put_beside row left free)

-- a row that is put in beside others, of which none has its rowid, leaves stored rows with the cells of all
pub put_leaves : (row : Row) (left after : List Row) → IsStored left → is_int (rowid row) ≡ true → is_taken left row ≡ false → put_row row left ≡ after
    → IsStored after × IsPermutation (cells row ∷ cells_of left) (cells_of after)
put_leaves row left after stored whole free is = (
  subst IsStored is (stored-put_row left stored row whole),
  subst (λ all. IsPermutation (cells row ∷ cells_of left) (cells_of all)) is (cells_put row left free),
)

-- and of one whose rowid is chosen
pub cells_beside : (given : Row) (rows left : List Row) → is_taken left (with_next_rowid rows given) ≡ false
    → IsPermutation (cells given ∷ cells_of left) (cells_of (put_row (with_next_rowid rows given) left))
cells_beside given rows left free =
    subst (λ c. IsPermutation (c ∷ cells_of left) (cells_of (put_row (with_next_rowid rows given) left))) (cells_numbered given rows) (cells_put (with_next_rowid rows given) left free)
