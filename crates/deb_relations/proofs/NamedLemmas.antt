-- The package names of relations, each once, and what depends on them alone.
use Rattle.std.proofs.Common.{◌≡◌, ℕ, Bool, true, false, cond, ◌&&◌, ◌||◌, List, [], ◌∷◌, ◌++◌, subst, refl, sym, ap, ◌∙◌, inl, inr}
use Rattle.std.specs.Prelude.{◌↔◌, not, filter, map, bytes_eq}
use Rattle.std.specs.List.{AllByRecursion, flat_map, fold, list_any, list_all}
use Rattle.std.specs.BTreeSet.{BTreeSet, contains, Updates}
use Rattle.std.proofs.lemmas.Bool.{cases_Bool, false_from_ne_true}
use Rattle.std.proofs.lemmas.List.{append-nil, append_assoc}
use Rattle.std.proofs.lemmas.List.Folds.{list_any-append}
use Rattle.std.proofs.lemmas.Map.Text.{is_eq-slice_cmp}
use Rattle.std.proofs.lemmas.Slice.Eq.{bytes_eq-Decides}
use Rattle.deb_text.specs.Lists.{IsIn}
use Rattle.deb_text.specs.Text.{text_cmp}
use Rattle.deb_relations.specs.declared.relations.Alternative.{Alternative}
use Rattle.deb_relations.specs.Satisfaction.{Offer, Pairs, versions_of, meets_restriction, is_alternative_met, is_group_met, satisfied, all_names, each_once, names_of, is_among, with_name, IsNameTest, HaveSamePairs}

-- ---- each once

bytes_eq-is : (x y : List ℕ) → bytes_eq x y ≡ true → x ≡ y
bytes_eq-is x y = (bytes_eq-Decides x y).0

-- a filter after a weaker one
filter-weaker : {X : Type 0} (p q : X → Bool) → ((x : X) → p x ≡ true → q x ≡ true) → (xs : List X)
    → filter p (filter q xs) ≡ filter p xs
filter-weaker p q implies [] = refl
filter-weaker {X} p q implies (x ∷ xs) = go (p x) (q x) refl refl (filter-weaker p q implies xs)
  where
    go : (a b : Bool) → p x ≡ a → q x ≡ b → filter p (filter q xs) ≡ filter p xs
        → filter p (cond b (x ∷ filter q xs) (filter q xs)) ≡ cond a (x ∷ filter p xs) (filter p xs)
    go true true pa qb more = rw pa (ap (λ l. x ∷ l) more)
    go true false pa qb more = absurd (cc (rw (implies x pa) at qb))
    go false true pa qb more = rw pa more
    go false false pa qb more = more

-- two filters are one
filter-both : {X : Type 0} (p q r : X → Bool) → ((x : X) → r x ≡ (q x && p x)) → (xs : List X)
    → filter p (filter q xs) ≡ filter r xs
filter-both p q r same [] = refl
filter-both {X} p q r same (x ∷ xs) = go (p x) (q x) (r x) refl refl refl (same x) (filter-both p q r same xs)
  where
    go : (a b c : Bool) → p x ≡ a → q x ≡ b → r x ≡ c → r x ≡ (q x && p x) → filter p (filter q xs) ≡ filter r xs
        → filter p (cond b (x ∷ filter q xs) (filter q xs)) ≡ cond c (x ∷ filter r xs) (filter r xs)
    go true true true pa qb rc e more = rw pa (ap (λ l. x ∷ l) more)
    go true true false pa qb rc e more = absurd (cc (rw (pa, qb, rc) at e))
    go false true true pa qb rc e more = absurd (cc (rw (pa, qb, rc) at e))
    go false true false pa qb rc e more = rw pa more
    go a false true pa qb rc e more = absurd (cc (rw (qb, rc) at e))
    go a false false pa qb rc e more = more

-- a name that is not among some is none of them
apart : (found : List (List ℕ)) (name other : List ℕ) → is_among name found ≡ true → is_among other found ≡ false
    → bytes_eq name other ≡ false
apart found name other here none =
    false_from_ne_true _ (λ same. cc (sym here ∙ ap (λ n. is_among n found) (bytes_eq-is name other same) ∙ none))

not-true : (b : Bool) → not b ≡ true → b ≡ false
not-true true e = absurd cc
not-true false e = refl

is_among-push : (found : List (List ℕ)) (name other : List ℕ)
    → not (is_among other (found ++ name ∷ [])) ≡ (not (bytes_eq name other) && not (is_among other found))
is_among-push found name other =
    ap not (list_any-append (λ v. bytes_eq v other) found (name ∷ [])) ∙ split (is_among other found) (bytes_eq name other)
  where
    split : (a b : Bool) → not (a || (b || false)) ≡ (not b && not a)
    split true true = refl
    split true false = refl
    split false true = refl
    split false false = refl

-- those of the names that are not among the ones found, each once
abbrev new_names : List (List ℕ) → List (List ℕ) → List (List ℕ)
new_names found names = filter (λ other. not (is_among other found)) (each_once names)

-- names that are added one after another, each unless it is there
fold-with_name : (names found : List (List ℕ)) → fold with_name found names ≡ found ++ new_names found names
fold-with_name [] found = sym (append-nil found)
fold-with_name (name ∷ names) found = go (is_among name found) refl (fold-with_name names)
  where
    go : (b : Bool) → is_among name found ≡ b
        → ((before : List (List ℕ)) → fold with_name before names ≡ before ++ new_names before names)
        → fold with_name (cond b found (found ++ name ∷ [])) names
        ≡ found ++ cond (not b) (name ∷ filter (λ other. not (is_among other found)) (filter (λ other. not (bytes_eq name other)) (each_once names)))
        (filter (λ other. not (is_among other found)) (filter (λ other. not (bytes_eq name other)) (each_once names)))
    go true here later =
        later found
        ∙ ap (λ l. found ++ l) (sym (filter-weaker (λ other. not (is_among other found)) (λ other. not (bytes_eq name other))
        (λ other new. ap not (apart found name other here (not-true _ new))) (each_once names)))
    go false none later =
        later (found ++ name ∷ [])
        ∙ append_assoc found (name ∷ []) (new_names (found ++ name ∷ []) names)
        ∙ ap (λ l. found ++ name ∷ l) (sym (filter-both (λ other. not (is_among other found)) (λ other. not (bytes_eq name other))
        (λ other. not (is_among other (found ++ name ∷ []))) (is_among-push found name) (each_once names)))

filter-all : {X : Type 0} (xs : List X) → filter (λ x. true) xs ≡ xs
filter-all [] = refl
filter-all (x ∷ xs) = ap (λ l. x ∷ l) (filter-all xs)

-- names that are added one after another to none
pub names_of-fold : (groups : List (List Alternative))
    → fold with_name [] (flat_map (λ group. map (λ a. a.name) group) groups) ≡ names_of groups
unfolding names_of all_names
names_of-fold groups = fold-with_name (all_names groups) [] ∙ filter-all (each_once (all_names groups))

-- the set that has a name more
pub known-push : (old new : BTreeSet (List ℕ)) (found : List (List ℕ)) (name : List ℕ)
    → IsNameTest (contains text_cmp old) found → Updates text_cmp old new name true
    → IsNameTest (contains text_cmp new) (found ++ name ∷ [])
known-push old new found name is updates other =
    updates.0 other
    ∙ ap (λ b. cond b true (contains text_cmp old other)) (is_eq-slice_cmp name other)
    ∙ ap (λ b. cond (bytes_eq name other) true b) (is other)
    ∙ either (bytes_eq name other) (is_among other found)
    ∙ sym (list_any-append (λ v. bytes_eq v other) found (name ∷ []))
  where
    either : (a b : Bool) → cond a true b ≡ (b || (a || false))
    either true true = refl
    either true false = refl
    either false true = refl
    either false false = refl

-- ---- what depends on the names alone

any-from : {X : Type 0} (p : X → Bool) (x : X) (xs : List X) → p x ≡ true → IsIn x xs → list_any p xs ≡ true
any-from p x [] e stands = absurd stands
any-from p x (y ∷ ys) e (inl same) = rw (sym (ap p same) ∙ e) refl
any-from p x (y ∷ ys) e (inr later) = elim (cases_Bool (p y)) [ inl t ↦ rw t refl | inr f ↦ rw f (any-from p x ys e later) ]

any-to : {X : Type 0} (p : X → Bool) (xs : List X) → list_any p xs ≡ true → (x : X) × (IsIn x xs × (p x ≡ true))
any-to p [] e = absurd cc
any-to p (x ∷ xs) e = elim (cases_Bool (p x)) [
  | inl t ↦ (x, (inl refl, t))
  | inr f ↦ let found = any-to p xs (rw f at e) in (found.0, (inr found.1.0, found.1.1))
]

-- two lists that have the same items pass a test alike
any-same : {X : Type 0} (p : X → Bool) (xs ys : List X) → ((x : X) → IsIn x xs ↔ IsIn x ys)
    → list_any p xs ≡ list_any p ys
any-same p xs ys same = elim (cases_Bool (list_any p xs)) [
  | inl t ↦ let found = any-to p xs t in t ∙ sym (any-from p found.0 ys found.1.1 ((same found.0).0 found.1.0))
  | inr f ↦ f ∙ sym (false_from_ne_true _ (λ t.
      let found = any-to p ys t in cc (sym f ∙ any-from p found.0 xs found.1.1 ((same found.0).1 found.1.0))))
]

-- what holds of a name and of all that differ from it holds of all
all-unfilter : (P : List ℕ → Type 0) (name : List ℕ) (names : List (List ℕ)) → P name
    → AllByRecursion P (filter (λ other. not (bytes_eq name other)) names) → AllByRecursion P names
all-unfilter P name [] here holds = tt
all-unfilter P name (other ∷ names) here holds = go (bytes_eq name other) refl (all-unfilter P name names here) holds
  where
    go : (b : Bool) → bytes_eq name other ≡ b
        → (AllByRecursion P (filter (λ v. not (bytes_eq name v)) names) → AllByRecursion P names)
        → AllByRecursion P (cond (not b) (other ∷ filter (λ v. not (bytes_eq name v)) names) (filter (λ v. not (bytes_eq name v)) names))
        → P other × AllByRecursion P names
    go true e later h = (subst P (bytes_eq-is name other e) here, later h)
    go false e later h = (h.0, later h.1)

all-each_once : (P : List ℕ → Type 0) (names : List (List ℕ)) → AllByRecursion P (each_once names)
    → AllByRecursion P names
all-each_once P [] holds = tt
all-each_once P (name ∷ names) holds = (holds.0, all-each_once P names (all-unfilter P name (each_once names) holds.0 holds.1))

all-left : {X : Type 0} (P : X → Type 0) (xs ys : List X) → AllByRecursion P (xs ++ ys) → AllByRecursion P xs
all-left P [] ys h = tt
all-left P (x ∷ xs) ys h = (h.0, all-left P xs ys h.1)

all-right : {X : Type 0} (P : X → Type 0) (xs ys : List X) → AllByRecursion P (xs ++ ys) → AllByRecursion P ys
all-right P [] ys h = h
all-right P (x ∷ xs) ys h = all-right P xs ys h.1

module _ (one other : Pairs) where
  met-same : (a : Alternative)
      → ((version : Offer) → IsIn version (versions_of one a.name) ↔ IsIn version (versions_of other a.name))
      → is_alternative_met one a ≡ is_alternative_met other a
  unfolding is_alternative_met
  met-same a same = any-same (meets_restriction a.restriction) (versions_of one a.name) (versions_of other a.name) same

  group-same : (group : List Alternative) → HaveSamePairs one other (map (λ a. a.name) group)
      → list_any (is_alternative_met one) group ≡ list_any (is_alternative_met other) group
  group-same [] same = refl
  group-same (a ∷ group) same = λ i. met-same a same.0 i || group-same group same.1 i

  groups-same : (groups : List (List Alternative))
      → HaveSamePairs one other (flat_map (λ group. map (λ a. a.name) group) groups)
      → list_all (is_group_met one) groups ≡ list_all (is_group_met other) groups
  unfolding is_group_met
  groups-same [] same = refl
  groups-same (group ∷ groups) same =
      let here = all-left _ (map (λ (a : Alternative). a.name) group) (flat_map (λ g. map (λ (a : Alternative). a.name) g) groups) same in
      let later = all-right _ (map (λ (a : Alternative). a.name) group) (flat_map (λ g. map (λ (a : Alternative). a.name) g) groups) same in
      λ i. group-same group here i && groups-same groups later i

  pub satisfied-same : (groups : List (List Alternative)) → HaveSamePairs one other (names_of groups)
      → satisfied one groups ≡ satisfied other groups
  unfolding satisfied names_of all_names
  satisfied-same groups same = groups-same groups (all-each_once _ (all_names groups) same)
