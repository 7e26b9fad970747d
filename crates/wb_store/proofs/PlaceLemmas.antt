-- Rows whose rowids are places, in the order of the places: one more, those after a place, and none.
use Rattle.std.proofs.Common.{◌≡◌, ◌≢◌, ℕ, ◌+◌, ◌<◌, nat_le, nat_cmp, true, false, not, ◌&&◌, cond, List, [], ◌∷◌, length, map, filter, Ordering, Less, Equal, Greater, is_lt, is_le, refl, sym, ap, ap₂, ◌∙◌, arith}
use Rattle.std.specs.List.{AllByRecursion, list_all}
use Rattle.std.specs.Ordering.{match_ordering}
use Rattle.std.proofs.lemmas.Bool.Decides.{nat_tests}
use Rattle.std.proofs.lemmas.List.{length-map}
use Rattle.sqlite.specs.Edit.{have_rowids}
use Rattle.sqlite.specs.Order.{Row}
use Rattle.sqlite.specs.Term.{holds}
use Rattle.sqlite.specs.Tree.{put_row, rowid}
use Rattle.sqlite.specs.Collation.TheVariants.{Binary}
use Rattle.sqlite_sql.specs.declared.ops.BinaryOp.TheVariants.{Compare}
use Rattle.sqlite_sql.specs.declared.ops.CompareOp.TheVariants.{Le}
use Rattle.sqlite_sql.specs.Ops.{binary, is_true}
use Rattle.sqlite_value.specs.Order.{value_cmp}
use Rattle.sqlite_trees.specs.Tree.{IsAscending}
use Rattle.sqlite_trees.specs.View.{is_int}
use Rattle.sqlite_keyed.proofs.ListLemmas.{ascending-map, ascending_weaker}
use Rattle.deb_text.specs.Lists.{with_item}
use Rattle.wb_rows.specs.Cells.{number}
use Rattle.wb_sql.specs.Rows.{IsStored, without}
use Rattle.wb_sql.specs.ScratchStatements.{is_up_to_place}
use Rattle.wb_store.proofs.EqualLemmas.{order-number, true_is, and_true}

pub less_of : (m n : ℕ) → m < n → nat_cmp m n ≡ Less
less_of m n less = grind (arith, nat_tests)

below_of : (m n : ℕ) → nat_cmp m n ≡ Less → m < n
below_of m n less = grind (arith, nat_tests)

above_of : (m n : ℕ) → nat_cmp m n ≡ Greater → n < m
above_of m n greater = grind (arith, nat_tests)

same_of : (m n : ℕ) → nat_cmp m n ≡ Equal → m ≡ n
same_of m n same = grind (arith, nat_tests)

le_of : (m n : ℕ) → is_le (nat_cmp m n) ≡ nat_le m n
le_of m n = grind (arith, nat_tests)

-- a place is at most another, as SQL compares them
at_most_is : (m n : ℕ) → is_true (binary (Compare Le Binary) (number m) (number n)) ≡ nat_le m n
unfolding binary
at_most_is m n = true_is (is_le (value_cmp (number m) (number n))) ∙ ap is_le (order-number m n) ∙ le_of m n

module _ {X : Type 0} (seq : X → ℕ) (stored : X → Row) (ids : (x : X) → rowid (stored x) ≡ number (seq x)) where
  abbrev pub InOrder : List X → Type 0
  InOrder = IsAscending (λ a b. seq a < seq b)

  abbrev pub by_seq : X → X → Ordering
  by_seq a b = nat_cmp (seq a) (seq b)

  whole : (xs : List X) → have_rowids (map stored xs) ≡ true
  whole [] = refl
  whole (x ∷ xs) = ap₂ ◌&&◌ (ap is_int (ids x)) (whole xs)

  -- they are stored in this order
  pub rows_stored : (xs : List X) → InOrder xs → IsStored (map stored xs)
  rows_stored xs up = record {
    whole = whole xs;
    rising = ascending-map (λ a b. value_cmp (rowid a) (rowid b) ≡ Less) stored xs
        (ascending_weaker (λ a b. seq a < seq b) (λ a b. value_cmp (rowid (stored a)) (rowid (stored b)) ≡ Less)
        (λ a b less. ap₂ value_cmp (ids a) (ids b) ∙ order-number (seq a) (seq b) ∙ less_of (seq a) (seq b) less) xs up);
  }

  -- a row with a new place stands at its place
  pub row_placed : (x : X) (xs : List X) → AllByRecursion (λ y. seq y ≢ seq x) xs → put_row (stored x) (map stored xs) ≡ map stored (with_item by_seq x xs)
  row_placed x [] new = refl
  row_placed x (y ∷ ys) new =
      let order : value_cmp (rowid (stored y)) (rowid (stored x)) ≡ by_seq y x = ap₂ value_cmp (ids y) (ids x) ∙ order-number (seq y) (seq x) in
      ap (λ o. match_ordering o (stored y ∷ put_row (stored x) (map stored ys)) (stored x ∷ map stored ys) (stored x ∷ stored y ∷ map stored ys)) order
      ∙ by (by_seq y x) refl (row_placed x ys new.1)
    where
      by : (r : Ordering) → by_seq y x ≡ r → put_row (stored x) (map stored ys) ≡ map stored (with_item by_seq x ys)
          → match_ordering r (stored y ∷ put_row (stored x) (map stored ys)) (stored x ∷ map stored ys) (stored x ∷ stored y ∷ map stored ys)
          ≡ map stored (cond (is_lt r) (y ∷ with_item by_seq x ys) (x ∷ y ∷ ys))
      by Less is rest = ap (λ l. stored y ∷ l) rest
      by Equal is rest = absurd (new.0 (same_of (seq y) (seq x) is))
      by Greater is rest = refl

  all_above : (x y : X) (ys : List X) → seq x < seq y → AllByRecursion (λ z. seq y < seq z) ys → AllByRecursion (λ z. seq x < seq z) ys
  all_above x y [] less above = tt
  all_above x y (z ∷ zs) less above = (omega (arith, less, above.0), all_above x y zs less above.1)

  all_placed : (w x : X) (xs : List X) → seq w < seq x → AllByRecursion (λ z. seq w < seq z) xs → AllByRecursion (λ z. seq w < seq z) (with_item by_seq x xs)
  all_placed w x [] less above = (less, tt)
  all_placed w x (y ∷ ys) less above =
      elim (is_lt (by_seq y x)) as (λ b. AllByRecursion (λ z. seq w < seq z) (cond b (y ∷ with_item by_seq x ys) (x ∷ y ∷ ys))) [
        | true ↦ (above.0, all_placed w x ys less above.1)
        | false ↦ (less, above)
      ]

  -- and the order is kept
  pub order_placed : (x : X) (xs : List X) → AllByRecursion (λ y. seq y ≢ seq x) xs → InOrder xs → InOrder (with_item by_seq x xs)
  order_placed x [] new up = (tt, tt)
  order_placed x (y ∷ ys) new up = by (by_seq y x) refl (order_placed x ys new.1 up.1)
    where
      by : (r : Ordering) → by_seq y x ≡ r → InOrder (with_item by_seq x ys) → InOrder (cond (is_lt r) (y ∷ with_item by_seq x ys) (x ∷ y ∷ ys))
      by Less is rest = (all_placed y x ys (below_of (seq y) (seq x) is) up.0, rest)
      by Equal is rest = absurd (new.0 (same_of (seq y) (seq x) is))
      by Greater is rest = let less = above_of (seq y) (seq x) is in ((less, all_above x y ys less up.0), up)

  apart_above : (x : X) (ys : List X) → AllByRecursion (λ z. seq x < seq z) ys → AllByRecursion (λ z. seq z ≢ seq x) ys
  apart_above x [] above = tt
  apart_above x (y ∷ ys) above = (λ same. omega (arith, above.0, same), apart_above x ys above.1)

  -- if there is a row more, its place is new
  pub is_new : (x : X) (xs : List X) → InOrder xs → length (put_row (stored x) (map stored xs)) ≡ length xs + 1 → AllByRecursion (λ y. seq y ≢ seq x) xs
  is_new x [] up more = tt
  is_new x (y ∷ ys) up more =
      let order : value_cmp (rowid (stored y)) (rowid (stored x)) ≡ by_seq y x = ap₂ value_cmp (ids y) (ids x) ∙ order-number (seq y) (seq x) in
      by (by_seq y x) refl (sym (ap (λ o. length (match_ordering o (stored y ∷ put_row (stored x) (map stored ys)) (stored x ∷ map stored ys) (stored x ∷ stored y ∷ map stored ys))) order) ∙ more) (is_new x ys up.1)
    where
      by : (r : Ordering) → by_seq y x ≡ r
          → length (match_ordering r (stored y ∷ put_row (stored x) (map stored ys)) (stored x ∷ map stored ys) (stored x ∷ stored y ∷ map stored ys)) ≡ length (y ∷ ys) + 1
          → (length (put_row (stored x) (map stored ys)) ≡ length ys + 1 → AllByRecursion (λ z. seq z ≢ seq x) ys)
          → AllByRecursion (λ z. seq z ≢ seq x) (y ∷ ys)
      by Less is more rest = let below = below_of (seq y) (seq x) is in (λ same. omega (arith, below, same), rest (omega (arith, more)))
      by Equal is more rest = absurd (omega (arith, more, length-map ys stored))
      by Greater is more rest =
          let below = above_of (seq y) (seq x) is in
          (λ same. omega (arith, below, same), apart_above x ys (all_above x y ys below up.0))

  -- no row is left by a DELETE without tests
  pub none_left : (params : Row) (xs : List X) → without (λ row. list_all (holds (params ∷ row ∷ [])) []) (map stored xs) ≡ []
  none_left params [] = refl
  none_left params (x ∷ xs) = none_left params xs

  -- the rows after a place are left by a DELETE of those up to it
  pub left_after : (place : ℕ) (xs : List X) → without (λ row. list_all (holds ((number place ∷ []) ∷ row ∷ [])) is_up_to_place) (map stored xs) ≡ map stored (filter (λ x. not (nat_le (seq x) place)) xs)
  left_after place [] = refl
  left_after place (x ∷ xs) =
      let test : list_all (holds ((number place ∷ []) ∷ stored x ∷ [])) is_up_to_place ≡ nat_le (seq x) place =
      and_true (is_true (binary (Compare Le Binary) (rowid (stored x)) (number place))) ∙ ap (λ v. is_true (binary (Compare Le Binary) v (number place))) (ids x) ∙ at_most_is (seq x) place in
      let left = without (λ row. list_all (holds ((number place ∷ []) ∷ row ∷ [])) is_up_to_place) (map stored xs) in
      let kept = filter (λ x. not (nat_le (seq x) place)) xs in
      let more = left_after place xs in
      ap (λ b. cond (not b) (stored x ∷ left) left) test
      ∙ elim (nat_le (seq x) place) as (λ b. cond (not b) (stored x ∷ left) left ≡ map stored (cond (not b) (x ∷ kept) kept)) [ true ↦ more | false ↦ ap (λ l. stored x ∷ l) more ]
