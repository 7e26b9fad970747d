-- A stable sort by a number puts a list in the order that the insertion of its items gives.
use Rattle.std.proofs.Common.{◌≡◌, ℕ, zero, suc, ◌<◌, ◌≤◌, Bool, true, false, cond, List, [], ◌∷◌, length, get_or, map, filter, nat_cmp, is_lt, refl, sym, ap, ◌∙◌, arith, inl, inr, suc-le-suc, zero-le, if◌then◌else◌}
use Rattle.std.proofs.lemmas.Bool.{cond-true, cond-false, cases_Bool}
use Rattle.std.proofs.lemmas.Bool.Decides.{nat_tests}
use Rattle.std.specs.declared.cmp.Ordering.{Ordering}
use Rattle.std.specs.List.Sorted.{ties, IsNonDecreasingBy, IsStableByKey}
use Rattle.std.specs.Ordering.{on}
use Rattle.std.specs.Option.{unwrap_or}
use Rattle.std.specs.FinMap as finite
use Rattle.wb_states.specs.Machine.{Key, Machine}
use Rattle.deb_text.specs.Lists.{with_item, sorted_by}
use Rattle.wb_states.specs.Holds.{is_held_by, held_of, take_cmp}
use Rattle.std.specs.Borrow.{Bor}
use Rattle.std.specs.Map.Iter.{deref_pair}
use Rattle.wb_states.specs.declared.record.Record.{Record}

ties_at : (m n : ℕ) → (ties (λ x y. is_lt (nat_cmp x y)) m n ≡ true → m ≡ n) × (m ≡ n → ties (λ x y. is_lt (nat_cmp x y)) m n ≡ true)
ties_at m n = (λ h. grind (arith, nat_tests), λ h. grind (arith, nat_tests))

below_at : (m n : ℕ) → (is_lt (nat_cmp m n) ≡ true → m < n) × (is_lt (nat_cmp m n) ≡ false → n ≤ m)
below_at m n = (λ h. grind (arith, nat_tests), λ h. grind (arith, nat_tests))

module _ {X : Type 0} (n : X → ℕ) where
  abbrev same : X → X → Bool
  same = ties (λ x y. is_lt (nat_cmp (n x) (n y)))

  same-true : (x y : X) → same x y ≡ true → n x ≡ n y
  same-true x y = (ties_at (n x) (n y)).0

  same_from : (x y : X) → n x ≡ n y → same x y ≡ true
  same_from x y = (ties_at (n x) (n y)).1

  filter-kept : (p : X → Bool) (y : X) (ys : List X) → p y ≡ true → filter p (y ∷ ys) ≡ y ∷ filter p ys
  filter-kept p y ys h = cond-true _ _ _ h

  filter-dropped : (p : X → Bool) (y : X) (ys : List X) → p y ≡ false → filter p (y ∷ ys) ≡ filter p ys
  filter-dropped p y ys h = cond-false _ _ _ h

  abbrev AtLeast : ℕ → List X → Type 0
  AtLeast m [] = Unit {0}
  AtLeast m (y ∷ ys) = (m ≤ n y) × AtLeast m ys

  abbrev Rises : List X → Type 0
  Rises [] = Unit {0}
  Rises (y ∷ ys) = AtLeast (n y) ys × Rises ys

  AtLeast-le : (k m : ℕ) (ys : List X) → k ≤ m → AtLeast m ys → AtLeast k ys
  AtLeast-le k m [] le h = tt
  AtLeast-le k m (y ∷ ys) le h = let first = h.0 in (omega arith, AtLeast-le k m ys le h.1)

  AtLeast-at : (m : ℕ) (ys : List X) → ((j : ℕ) (d : X) → j < length ys → m ≤ n (get_or ys j d)) → AtLeast m ys
  AtLeast-at m [] h = tt
  AtLeast-at m (y ∷ ys) h = (h zero y (suc-le-suc zero-le), AtLeast-at m ys (λ j d lt. h (suc j) d (suc-le-suc lt)))

  Rises-from_sort : (ys : List X) → IsNonDecreasingBy n ys → Rises ys
  Rises-from_sort [] h = tt
  Rises-from_sort (y ∷ ys) h = (
    AtLeast-at (n y) ys (λ j d lt. h zero (suc j) d zero-le (suc-le-suc lt)),
    Rises-from_sort ys (λ i j d le lt. h (suc i) (suc j) d (suc-le-suc le) (suc-le-suc lt)),
  )

  -- one that ties with x is among them
  AtLeast-found : (m : ℕ) (x : X) (ys : List X) (w : X) (ws : List X) → AtLeast m ys → filter (same x) ys ≡ w ∷ ws → m ≤ n x
  AtLeast-found m x [] w ws h e = cc
  AtLeast-found m x (y ∷ ys) w ws h e =
      elim (cases_Bool (same x y)) [
        | inl with ↦ omega (arith, h.0, same-true x y with)
        | inr without ↦ AtLeast-found m x ys w ws h.1 (sym (filter-dropped (same x) y ys without) ∙ e)
      ]

  same_lists : (ys zs : List X) → Rises ys → Rises zs → ((x : X) → filter (same x) ys ≡ filter (same x) zs) → ys ≡ zs
  same_lists [] [] left right alike = refl
  same_lists [] (z ∷ zs) left right alike =
      let clash = alike z ∙ filter-kept (same z) z zs (same_from z z refl) in cc
  same_lists (y ∷ ys) [] left right alike =
      let clash = sym (alike y) ∙ filter-kept (same y) y ys (same_from y y refl) in cc
  same_lists (y ∷ ys) (z ∷ zs) left right alike =
      let at_y = filter-kept (same y) y ys (same_from y y refl) in
      let at_z = filter-kept (same z) z zs (same_from z z refl) in
      let up = AtLeast-found (n z) y (z ∷ zs) y _ (omega arith, right.0) (sym (alike y) ∙ at_y) in
      let down = AtLeast-found (n y) z (y ∷ ys) z _ (omega arith, left.0) (alike z ∙ at_z) in
      let heads = sym at_y ∙ alike y ∙ filter-kept (same y) z zs (same_from y z (omega arith)) in
      let head : y ≡ z = cc in
      let tails : (x : X) → filter (same x) ys ≡ filter (same x) zs =
      λ x. elim (cases_Bool (same x y)) [
        | inl with ↦
            let both = sym (filter-kept (same x) y ys with) ∙ alike x ∙ filter-kept (same x) z zs (ap (same x) (sym head) ∙ with) in cc
        | inr without ↦
            sym (filter-dropped (same x) y ys without) ∙ alike x ∙ filter-dropped (same x) z zs (ap (same x) (sym head) ∙ without)
      ] in
      λ i. head i ∷ same_lists ys zs left.1 right.1 tails i

  abbrev by_number : X → X → Ordering
  by_number = on n nat_cmp

  AtLeast-with_item : (m : ℕ) (x : X) (ys : List X) → m ≤ n x → AtLeast m ys → AtLeast m (with_item by_number x ys)
  AtLeast-with_item m x [] le h = (le, tt)
  AtLeast-with_item m x (y ∷ ys) le h =
      elim (is_lt (nat_cmp (n y) (n x))) as (λ b. AtLeast m (if b then y ∷ with_item by_number x ys else x ∷ y ∷ ys)) [
        | true ↦ (h.0, AtLeast-with_item m x ys le h.1)
        | false ↦ (le, h)
      ]

  Rises-with_item : (x : X) (ys : List X) → Rises ys → Rises (with_item by_number x ys)
  Rises-with_item x [] h = (tt, tt)
  Rises-with_item x (y ∷ ys) h =
      elim (is_lt (nat_cmp (n y) (n x))) as (λ b. is_lt (nat_cmp (n y) (n x)) ≡ b → Rises (if b then y ∷ with_item by_number x ys else x ∷ y ∷ ys)) [
        | true ↦ λ e. let lt = (below_at (n y) (n x)).0 e in (AtLeast-with_item (n y) x ys (omega arith) h.0, Rises-with_item x ys h.1)
        | false ↦ λ e. let le = (below_at (n y) (n x)).1 e in ((le, AtLeast-le (n x) (n y) ys le h.0), h)
      ] refl

  Rises-sorted_by : (xs : List X) → Rises (sorted_by by_number xs)
  Rises-sorted_by [] = tt
  Rises-sorted_by (x ∷ xs) = Rises-with_item x (sorted_by by_number xs) (Rises-sorted_by xs)

  filter-with_item : (x y : X) (ys : List X) → filter (same x) (with_item by_number y ys) ≡ filter (same x) (y ∷ ys)
  filter-with_item x y [] = refl
  filter-with_item x y (z ∷ zs) =
      elim (is_lt (nat_cmp (n z) (n y))) as (λ b. is_lt (nat_cmp (n z) (n y)) ≡ b → filter (same x) (if b then z ∷ with_item by_number y zs else y ∷ z ∷ zs) ≡ filter (same x) (y ∷ z ∷ zs)) [
        | true ↦ λ e. elim (cases_Bool (same x z)) [
          | inr without ↦
              filter-dropped (same x) z (with_item by_number y zs) without ∙ filter-with_item x y zs
              ∙ ap (λ l. cond (same x y) (y ∷ l) l) (sym (filter-dropped (same x) z zs without))
          | inl with ↦
              elim (cases_Bool (same x y)) [
                | inl both ↦ let lt = (below_at (n z) (n y)).0 e in absurd (omega (arith, same-true x y both, same-true x z with))
                | inr only ↦
                    filter-kept (same x) z (with_item by_number y zs) with ∙ ap (λ l. z ∷ l) (filter-with_item x y zs ∙ filter-dropped (same x) y zs only)
                    ∙ sym (filter-dropped (same x) y (z ∷ zs) only ∙ filter-kept (same x) z zs with)
              ]
        ]
        | false ↦ λ e. refl
      ] refl

  filter-sorted_by : (x : X) (ys : List X) → filter (same x) (sorted_by by_number ys) ≡ filter (same x) ys
  filter-sorted_by x [] = refl
  filter-sorted_by x (y ∷ ys) = filter-with_item x y (sorted_by by_number ys) ∙ ap (λ l. cond (same x y) (y ∷ l) l) (filter-sorted_by x ys)

  -- the list that a stable sort leaves
  pub sorted-is : (xs ys : List X) → IsNonDecreasingBy n ys → IsStableByKey n nat_cmp xs ys → ys ≡ sorted_by by_number xs
  sorted-is xs ys rises stable = same_lists ys (sorted_by by_number xs) (Rises-from_sort ys rises) (Rises-sorted_by xs) (λ x. stable x ∙ sym (filter-sorted_by x xs))

module _ {X Y : Type 0} (f : X → Y) (R : Y → Y → Ordering) where
  with_item-map : (x : X) (ys : List X) → with_item R (f x) (map f ys) ≡ map f (with_item (on f R) x ys)
  with_item-map x [] = refl
  with_item-map x (y ∷ ys) =
      elim (is_lt (R (f y) (f x))) as (λ b. (if b then f y ∷ with_item R (f x) (map f ys) else f x ∷ f y ∷ map f ys) ≡ map f (if b then y ∷ with_item (on f R) x ys else x ∷ y ∷ ys)) [
        | true ↦ ap (λ l. f y ∷ l) (with_item-map x ys)
        | false ↦ refl
      ]

  -- to sort the values is to sort by the values
  pub sorted_by-map : (xs : List X) → sorted_by R (map f xs) ≡ map f (sorted_by (on f R) xs)
  sorted_by-map [] = refl
  sorted_by-map (x ∷ xs) = ap (with_item R (f x)) (sorted_by-map xs) ∙ with_item-map x (sorted_by (on f R) xs)

-- a record that is lent, after its key
abbrev pub Row : Type 0
Row = Bor Key × Bor Record

-- the take number of a record, where none counts as 0
abbrev pub number_of : Row → ℕ
number_of row = unwrap_or row.1.now.take 0

-- a stable sort of the builder's records by their take numbers gives them in their order
pub held-sorted : (machine : Machine) (builder : List ℕ) (xs ys : List Row) → IsNonDecreasingBy number_of ys → IsStableByKey number_of nat_cmp xs ys
    → map deref_pair xs ≡ filter (is_held_by builder) (finite.entries machine.records) → map deref_pair ys ≡ held_of machine builder
unfolding held_of
held-sorted machine builder xs ys rises stable all =
    ap (map deref_pair) (sorted-is number_of xs ys rises stable) ∙ sym (sorted_by-map deref_pair take_cmp xs) ∙ ap (sorted_by take_cmp) all
