-- Lists that ascend, lists that are sorted, and permutations of them.
use Rattle.std.proofs.Common.{◌≡◌, ◌⊎◌, inl, inr, Bool, true, false, cond, List, [], ◌∷◌, map, filter, take, refl, sym, ap, ap₂, subst, ◌∙◌, arith, T, ◌&&◌, Option, Some, None, Ordering, Less, Equal, Greater, is_lt, is_eq, IsPermutation}
use Rattle.std.specs.List.{AllByRecursion}
use Rattle.std.specs.List.Sorted.{IsStrictlySortedBy}
use Rattle.std.specs.Cmp.{IsTotalOrder}
use Rattle.std.specs.Option.{option_map}
use Rattle.std.specs.FinMap.{IsAntisymmetric}
use Rattle.std.specs.FinMap.Entries.{find, is_sorted, below_all}
use Rattle.std.specs.Ordering.{eq_by_cmp}
use Rattle.std.proofs.lemmas.List.Sorted.{IsPermutation-refl, IsPermutation-cons, IsPermutation-trans, IsPermutation-middle, length_permutation}
use Rattle.sqlite.proofs.Callers.{one_permutation}
use Rattle.sqlite_trees.specs.Tree.{IsAscending}
use Rattle.sqlite_keyed.proofs.ListLemmas.{filter_none}
use Rattle.deb_text.specs.Lists.{IsIn, with_item, sorted_by, first_of}
use Rattle.deb_text.proofs.KeyLemmas.{eq_by_cmp-same}

-- what holds of each item that stands in a list holds all along it
pub all_from_in : {X : Type 0} (P : X → Type 0) (xs : List X) → ((x : X) → IsIn x xs → P x) → AllByRecursion P xs
all_from_in P [] each = tt
all_from_in P (x ∷ xs) each = (each x (inl refl), all_from_in P xs (λ y h. each y (inr h)))

-- the items that a filter keeps pass its test
pub kept_pass : {X : Type 0} (p : X → Bool) (xs : List X) → AllByRecursion (λ x. p x ≡ true) (filter p xs)
kept_pass p [] = tt
kept_pass {X} p (x ∷ xs) = go (p x) refl (kept_pass p xs)
  where
    go : (b : Bool) → p x ≡ b → AllByRecursion (λ y. p y ≡ true) (filter p xs) → AllByRecursion (λ y. p y ≡ true) (cond b (x ∷ filter p xs) (filter p xs))
    go true e rest = (e, rest)
    go false e rest = rest

module _ {X : Type 0} (P : X → Type 0) (R S : X → X → Type 0) (follows : (a b : X) → P a → P b → R a b → S a b) where
  all_with : (x : X) (xs : List X) → P x → AllByRecursion P xs → AllByRecursion (R x) xs → AllByRecursion (S x) xs
  all_with x [] here all up = tt
  all_with x (y ∷ ys) here all up = (follows x y here all.0 up.0, all_with x ys here all.1 up.1)

  -- a list that ascends in one order ascends in another one that follows from it where a fact holds all along the list
  pub ascending_with : (xs : List X) → AllByRecursion P xs → IsAscending R xs → IsAscending S xs
  ascending_with [] all up = tt
  ascending_with (x ∷ xs) all up = (all_with x xs all.0 all.1 up.0, ascending_with xs all.1 up.1)

less : (r : Ordering) → T (is_lt r) → r ≡ Less
less Less h = refl
less Equal h = absurd h
less Greater h = absurd h

split : (a b : Bool) → T (a && b) → T a × T b
split true b h = (tt, h)
split false b h = absurd h

module _ {K V : Type 0} (R : K → K → Ordering) where
  all_below : (k : K) (es : List (K × V)) → T (below_all R k es) → AllByRecursion (λ e. R k e.0 ≡ Less) es
  all_below k [] h = tt
  all_below k (e ∷ es) h = let parts = split (is_lt (R k e.0)) (below_all R k es) h in (less (R k e.0) parts.0, all_below k es parts.1)

  -- the entries of a map ascend by their keys
  pub entries_ascend : (es : List (K × V)) → T (is_sorted R es) → IsAscending (λ a b. R a.0 b.0 ≡ Less) es
  entries_ascend [] h = tt
  entries_ascend (e ∷ es) h = let parts = split (below_all R e.0 es) (is_sorted R es) h in (all_below e.0 es parts.0, entries_ascend es parts.1)

-- a list that is sorted strictly ascends
pub ascending_from_strict : {X : Type 0} (cmp : X → X → Ordering) (xs : List X) → IsStrictlySortedBy cmp xs → IsAscending (λ a b. cmp a b ≡ Less) xs
unfolding IsStrictlySortedBy
ascending_from_strict cmp [] h = tt
ascending_from_strict cmp (x ∷ xs) h = (h.0, ascending_from_strict cmp xs h.1)

-- ---- at most one item

-- the entry at a key, where there is one
abbrev pub entry_at : {K V : Type 0} → K → Option V → List (K × V)
entry_at key None = []
entry_at key (Some value) = (key, value) ∷ []

module _ {K V : Type 0} (R : K → K → Ordering) (total : IsTotalOrder R) (same : IsAntisymmetric R) (key : K) where
  abbrev is_at : K × V → Bool
  is_at entry = eq_by_cmp R key entry.0

  none_after : (e : K × V) (es : List (K × V)) → key ≡ e.0 → AllByRecursion (λ x. R e.0 x.0 ≡ Less) es → AllByRecursion (λ x. is_at x ≡ false) es
  none_after e [] is up = tt
  none_after e (x ∷ es) is up = (ap (λ k. is_eq (R k x.0)) is ∙ ap is_eq up.0, none_after e es is up.1)

  -- in a map the entries at a key are the one that is found there
  pub filter_at : (es : List (K × V)) → T (is_sorted R es) → filter is_at es ≡ entry_at key (find R key es)
  filter_at [] h = refl
  filter_at (e ∷ es) h =
      let parts = split (below_all R e.0 es) (is_sorted R es) h in
      go (is_at e) refl (all_below R e.0 es parts.0) (filter_at es parts.1)
    where
      go : (b : Bool) → is_at e ≡ b → AllByRecursion (λ x. R e.0 x.0 ≡ Less) es → filter is_at es ≡ entry_at key (find R key es)
          → cond b (e ∷ filter is_at es) (filter is_at es) ≡ entry_at key (cond b (Some e.1) (find R key es))
      go true tie up rest =
          let is : key ≡ e.0 = eq_by_cmp-same same key e.0 tie in
          ap (λ l. e ∷ l) (filter_none is_at es (none_after e es is up)) ∙ (λ i. (sym is i, e.1) ∷ [])
      go false apart up rest = rest

-- a list in which no item comes before another has at most one
pub at_most_one : {X : Type 0} (xs : List X) → IsAscending (λ a b. ⊥) xs → (xs ≡ []) ⊎ ((x : X) × (xs ≡ x ∷ []))
at_most_one [] up = inl refl
at_most_one (x ∷ []) up = inr (x, refl)
at_most_one (x ∷ y ∷ xs) up = absurd up.0.0

-- a permutation of a list of at most one item is that list
pub none_permuted : {X : Type 0} (xs : List X) → IsPermutation [] xs → xs ≡ []
none_permuted [] same = refl
none_permuted {X} (x ∷ xs) same = absurd (omega (arith, length_permutation {X = X} [] (x ∷ xs) same))

pub few_permuted : {X : Type 0} (xs ys : List X) → (xs ≡ []) ⊎ ((x : X) × (xs ≡ x ∷ [])) → IsPermutation xs ys → ys ≡ xs
few_permuted xs ys (inl none) same = none_permuted ys (subst (λ l. IsPermutation l ys) none same) ∙ sym none
few_permuted xs ys (inr one) same = one_permutation one.0 ys (subst (λ l. IsPermutation l ys) one.1 same) ∙ sym one.1

pub few_mapped : {X Y : Type 0} (f : X → Y) (xs : List X) → (xs ≡ []) ⊎ ((x : X) × (xs ≡ x ∷ [])) → (map f xs ≡ []) ⊎ ((y : Y) × (map f xs ≡ y ∷ []))
few_mapped f xs (inl none) = inl (ap (map f) none)
few_mapped f xs (inr one) = inr (f one.0, ap (map f) one.1)

pub few_at : {K V : Type 0} (key : K) (found : Option V) → (entry_at key found ≡ []) ⊎ ((x : K × V) × (entry_at key found ≡ x ∷ []))
few_at key None = inl refl
few_at key (Some value) = inr ((key, value), refl)

-- ---- sorted lists

module _ {X : Type 0} (cmp : X → X → Ordering) where
  IsPermutation-with_item : (x : X) (xs : List X) → IsPermutation (with_item cmp x xs) (x ∷ xs)
  IsPermutation-with_item x [] = IsPermutation-refl (x ∷ [])
  IsPermutation-with_item x (y ∷ ys) =
      elim (is_lt (cmp y x)) as (λ b. IsPermutation (cond b (y ∷ with_item cmp x ys) (x ∷ y ∷ ys)) (x ∷ y ∷ ys)) [
        | true ↦ IsPermutation-trans _ _ _ (IsPermutation-cons y _ _ (IsPermutation-with_item x ys)) (IsPermutation-middle (y ∷ []) x ys)
        | false ↦ IsPermutation-refl _
      ]

  pub IsPermutation-sorted_by : (xs : List X) → IsPermutation (sorted_by cmp xs) xs
  IsPermutation-sorted_by [] = IsPermutation-refl []
  IsPermutation-sorted_by (x ∷ xs) = IsPermutation-trans _ _ _ (IsPermutation-with_item x (sorted_by cmp xs)) (IsPermutation-cons x _ _ (IsPermutation-sorted_by xs))

-- ---- lists of what a function gives

-- lists with one image under a function that tells its arguments apart are one
pub map_injective : {X Y : Type 0} (f : X → Y) → ((x y : X) → f x ≡ f y → x ≡ y) → (xs ys : List X) → map f xs ≡ map f ys → xs ≡ ys
map_injective f apart [] [] e = refl
map_injective f apart [] (y ∷ ys) e = cc
map_injective f apart (x ∷ xs) [] e = cc
map_injective f apart (x ∷ xs) (y ∷ ys) e =
    let first : f x ≡ f y = cc in
    let later : map f xs ≡ map f ys = cc in
    ap₂ ◌∷◌ (apart x y first) (map_injective f apart xs ys later)

pub take_one-map : {X Y : Type 0} (f : X → Y) (xs : List X) → take 1 (map f xs) ≡ map f (take 1 xs)
take_one-map f [] = refl
take_one-map f (x ∷ xs) = refl

pub first_of-take_one : {X : Type 0} (xs : List X) → first_of (take 1 xs) ≡ first_of xs
first_of-take_one [] = refl
first_of-take_one (x ∷ xs) = refl

pub first_of-entry_at : {K V : Type 0} (key : K) (found : Option V) → first_of (entry_at key found) ≡ option_map (λ value. (key, value)) found
first_of-entry_at key None = refl
first_of-entry_at key (Some value) = refl
