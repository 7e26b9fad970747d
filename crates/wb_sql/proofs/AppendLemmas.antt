-- Lists that get more at their end.
use Rattle.std.proofs.Common.{◌≡◌, ℕ, zero, suc, ◌+◌, ◌<◌, ◌≤◌, not, Bool, true, false, List, [], ◌∷◌, ◌++◌, Option, None, Some, is_some, refl, ap, ◌∙◌, inl, inr, arith, max, filter, fold, slice_get, option_and_then}
use Rattle.std.specs.List.{AllByRecursion, list_all, list_any, position_from}
use Rattle.std.proofs.lemmas.Bool.{cases_Bool, or_parts, or_from, and_parts, and_from, not-true}

-- what holds of each holds where more is known of each
pub all_so : {X : Type 0} (P Q : X → Type 0) → ((x : X) → P x → Q x) → (xs : List X) → AllByRecursion P xs → AllByRecursion Q xs
all_so P Q so [] all = tt
all_so P Q so (x ∷ xs) all = (so x all.0, all_so P Q so xs all.1)

-- what holds of each of two lists holds of each of both
pub all_append : {X : Type 0} (P : X → Type 0) (xs ys : List X) → AllByRecursion P xs → AllByRecursion P ys → AllByRecursion P (xs ++ ys)
all_append P [] ys here there = there
all_append P (x ∷ xs) ys here there = (here.0, all_append P xs ys here.1 there)

-- and of each of both, it holds of each of the one and of each of the other
pub all_split : {X : Type 0} (P : X → Type 0) (xs ys : List X) → AllByRecursion P (xs ++ ys) → AllByRecursion P xs × AllByRecursion P ys
all_split P [] ys all = (tt, all)
all_split P (x ∷ xs) ys all = let rest = all_split P xs ys all.1 in ((all.0, rest.0), rest.1)

-- what stands at a place stands there where more comes after
pub listed_before : {X : Type 0} (xs ys : List X) (at : ℕ) (x : X) → slice_get xs at ≡ Some x → slice_get (xs ++ ys) at ≡ Some x
listed_before [] ys at x e = absurd (cc)
listed_before (y ∷ xs) ys zero x e = e
listed_before (y ∷ xs) ys (suc at) x e = listed_before xs ys at x e

-- what is not nothing is there
some_of : {X : Type 0} (o : Option X) → is_some o ≡ true → (x : X) × (o ≡ Some x)
some_of None there = absurd (cc)
some_of (Some x) there = (x, refl)

-- where the last stands that is the first to pass
pub record IsLast {X : Type 0} (p : X → Bool) (from : ℕ) (xs : List X) (x : X) : Type 0 where
  pub at : ℕ
  pub placed : position_from p from (xs ++ x ∷ []) ≡ Some (from + at)
  pub listed : slice_get (xs ++ x ∷ []) at ≡ Some x

module _ {X : Type 0} (p : X → Bool) where
  -- the first that passes is so where more comes after
  pub placed_before : (from at : ℕ) (xs ys : List X) → position_from p from xs ≡ Some at → position_from p from (xs ++ ys) ≡ Some at
  placed_before from at [] ys e = absurd (cc)
  placed_before from at (x ∷ xs) ys e = elim (cases_Bool (p x)) [ inl a ↦ rw a (rw a at e) | inr a ↦ rw a (placed_before (from + 1) at xs ys (rw a at e)) ]

  -- none passes where none of what comes after does
  pub none_after : (from : ℕ) (xs ys : List X) → position_from p from xs ≡ None → AllByRecursion (λ y. p y ≡ false) ys → position_from p from (xs ++ ys) ≡ None
  none_after from [] [] e none = refl
  none_after from [] (y ∷ ys) e none = rw none.0 (none_after (from + 1) [] ys refl none.1)
  none_after from (x ∷ xs) ys e none = elim (cases_Bool (p x)) [ inl a ↦ absurd (let no = rw a at e in cc) | inr a ↦ rw a (none_after (from + 1) xs ys (rw a at e) none) ]

  -- none passes of those of which each fails
  pub none_of : (from : ℕ) (xs : List X) → AllByRecursion (λ x. p x ≡ false) xs → position_from p from xs ≡ None
  none_of from xs none = none_after from [] xs refl none

  -- the last is the first that passes if none before it does
  pub placed_last : (from : ℕ) (xs : List X) (x : X) → position_from p from xs ≡ None → p x ≡ true → IsLast p from xs x
  placed_last from [] x e so = record { at = 0; placed = let n : from ≡ from + 0 = omega arith in rw so (ap Some n); listed = refl }
  placed_last from (y ∷ xs) x e so = elim (cases_Bool (p y)) [
    | inl a ↦ absurd (let no = rw a at e in cc)
    | inr a ↦
        let rest = placed_last (from + 1) xs x (rw a at e) so in
        let n : from + 1 + rest.at ≡ from + suc rest.at = omega arith in
        record { at = suc rest.at; placed = rw a (rest.placed ∙ ap Some n); listed = rest.listed }
  ]

  -- what is found among the first is found among all
  pub found_before : (xs ys : List X) → is_some (option_and_then (slice_get xs) (position_from p 0 xs)) ≡ true
      → is_some (option_and_then (slice_get (xs ++ ys)) (position_from p 0 (xs ++ ys))) ≡ true
  found_before xs ys found = by (position_from p 0 xs) refl
    where
      by : (place : Option ℕ) → position_from p 0 xs ≡ place → is_some (option_and_then (slice_get (xs ++ ys)) (position_from p 0 (xs ++ ys))) ≡ true
      by None e = absurd (let no = rw e at found in cc)
      by (Some at) e =
          let one = some_of (slice_get xs at) (rw e at found) in
          rw (placed_before 0 at xs ys e, listed_before xs ys at one.0 one.1)

  -- those that pass are none
  pub filter_none : (xs : List X) → AllByRecursion (λ x. p x ≡ false) xs → filter p xs ≡ []
  filter_none [] none = refl
  filter_none (x ∷ xs) none = rw none.0 (filter_none xs none.1)

  -- or all
  pub filter_whole : (xs : List X) → AllByRecursion (λ x. p x ≡ true) xs → filter p xs ≡ xs
  filter_whole [] all = refl
  filter_whole (x ∷ xs) all = rw all.0 (ap (λ rest. x ∷ rest) (filter_whole xs all.1))

  -- some passes only if it is the one that is added
  pub any_last : (xs : List X) (x : X) → list_any p xs ≡ false → p x ≡ false → list_any p (xs ++ x ∷ []) ≡ false
  any_last [] x none fails = or_from _ _ fails refl
  any_last (y ∷ xs) x none fails = let parts = or_parts (p y) _ none in or_from _ _ parts.0 (any_last xs x parts.1 fails)

  -- each fails where none passes
  pub each_fails : (xs : List X) → list_any p xs ≡ false → AllByRecursion (λ x. p x ≡ false) xs
  each_fails [] none = tt
  each_fails (x ∷ xs) none = let parts = or_parts (p x) _ none in (parts.0, each_fails xs parts.1)

module _ {X : Type 0} (f : X → ℕ) where
  -- one above each is no less than where it began
  pub past_from : (a : ℕ) (xs : List X) → a ≤ fold (λ n x. max n (f x + 1)) a xs
  past_from a [] = omega arith
  past_from a (x ∷ xs) = omega (arith, past_from (max a (f x + 1)) xs)

  -- and within what each is below
  pub past_within : (a m : ℕ) (xs : List X) → a ≤ m → AllByRecursion (λ x. f x < m) xs → fold (λ n x. max n (f x + 1)) a xs ≤ m
  past_within a m [] low all = low
  past_within a m (x ∷ xs) low all = let here : f x < m = all.0 in past_within (max a (f x + 1)) m xs (omega arith) all.1

-- what holds by two facts of each
pub all_both : {X : Type 0} (P Q R : X → Type 0) → ((x : X) → P x → Q x → R x) → (xs : List X) → AllByRecursion P xs → AllByRecursion Q xs → AllByRecursion R xs
all_both P Q R so [] one two = tt
all_both P Q R so (x ∷ xs) one two = (so x one.0 two.0, all_both P Q R so xs one.1 two.1)

-- a test that each passes
pub all_pass : {X : Type 0} (p : X → Bool) (xs : List X) → list_all p xs ≡ true → AllByRecursion (λ x. p x ≡ true) xs
all_pass p [] passed = tt
all_pass p (x ∷ xs) passed = let parts = and_parts (p x) _ passed in (parts.0, all_pass p xs parts.1)

-- a test of which each passes the opposite
pub all_fail : {X : Type 0} (p : X → Bool) (xs : List X) → list_all (λ x. not (p x)) xs ≡ true → AllByRecursion (λ x. p x ≡ false) xs
all_fail p xs passed = all_so _ _ (λ x h. not-true (p x) h) xs (all_pass (λ x. not (p x)) xs passed)

-- a test that each passes where each passes a stricter one
pub tests_so : {X : Type 0} (p q : X → Bool) → ((x : X) → p x ≡ true → q x ≡ true) → (xs : List X) → list_all p xs ≡ true → list_all q xs ≡ true
tests_so p q so [] passed = refl
tests_so p q so (x ∷ xs) passed = let parts = and_parts (p x) _ passed in and_from _ _ (so x parts.0) (tests_so p q so xs parts.1)
