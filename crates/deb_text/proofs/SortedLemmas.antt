-- Lists in ascending order have the items of the lists that they were made of.
use Rattle.std.proofs.Common.{◌≡◌, ◌≢◌, List, [], ◌∷◌, refl, sym, ap, ◌∙◌, subst, Bool, true, false, cond, ◌&&◌, ◌⊎◌, ◌↔◌, inl, inr, T, Some, None, filter}
use Rattle.std.specs.List.{AllByRecursion}
use Rattle.std.specs.List.Sorted.{IsStrictlySortedBy}
use Rattle.std.specs.declared.cmp.Ordering.{Ordering}
use Rattle.std.specs.declared.cmp.Ordering.TheVariants.{Less, Equal, Greater}
use Rattle.std.specs.Ordering.{is_lt, is_eq, eq_by_cmp, ordering_reverse}
use Rattle.std.specs.Cmp.{IsTotalOrder, tied_back}
use Rattle.std.proofs.lemmas.Cmp.{tied_itself}
use Rattle.std.specs.FinMap.{IsAntisymmetric}
use Rattle.std.specs.FinMap.Entries.{find, is_sorted, below_all}
use Rattle.deb_text.specs.Lists.{with_item, sorted_by, first_of, IsIn}
use Rattle.deb_text.proofs.KeyLemmas.{eq_by_cmp-same}

module _ {X : Type 0} (cmp : X → X → Ordering) where
  pub IsIn-from_with_item : (e x : X) (xs : List X) → IsIn e (with_item cmp x xs) → (e ≡ x) ⊎ IsIn e xs
  IsIn-from_with_item e x [] h = h
  IsIn-from_with_item e x (y ∷ ys) h =
      (elim (is_lt (cmp y x)) as (λ b. IsIn e (cond b (y ∷ with_item cmp x ys) (x ∷ y ∷ ys)) → (e ≡ x) ⊎ IsIn e (y ∷ ys)) [
        | true ↦ λ h. elim h [
          | inl is ↦ inr (inl is)
          | inr later ↦ elim (IsIn-from_with_item e x ys later) [ inl is ↦ inl is | inr old ↦ inr (inr old) ]
        ]
        | false ↦ λ h. h
      ]) h

  pub IsIn-with_item : (e x : X) (xs : List X) → (e ≡ x) ⊎ IsIn e xs → IsIn e (with_item cmp x xs)
  IsIn-with_item e x [] h = h
  IsIn-with_item e x (y ∷ ys) h =
      (elim (is_lt (cmp y x)) as (λ b. (e ≡ x) ⊎ IsIn e (y ∷ ys) → IsIn e (cond b (y ∷ with_item cmp x ys) (x ∷ y ∷ ys))) [
        | true ↦ λ h. elim h [
          | inl is ↦ inr (IsIn-with_item e x ys (inl is))
          | inr old ↦ elim old [ inl is ↦ inl is | inr later ↦ inr (IsIn-with_item e x ys (inr later)) ]
        ]
        | false ↦ λ h. h
      ]) h

  pub IsIn-sorted_by : (e : X) (xs : List X) → IsIn e (sorted_by cmp xs) ↔ IsIn e xs
  IsIn-sorted_by e [] = (λ h. h, λ h. h)
  IsIn-sorted_by e (x ∷ xs) =
      let rest = IsIn-sorted_by e xs in (
        λ h. elim (IsIn-from_with_item e x (sorted_by cmp xs) h) [ inl is ↦ inl is | inr old ↦ inr (rest.0 old) ],
        λ h. IsIn-with_item e x (sorted_by cmp xs) (elim h [ inl is ↦ inl is | inr old ↦ inr (rest.1 old) ]),
      )

pub IsIn-filter : {X : Type 0} (p : X → Bool) (e : X) (xs : List X) → IsIn e (filter p xs) ↔ (IsIn e xs × (p e ≡ true))
IsIn-filter p e [] = (λ h. absurd h, λ h. absurd h.0)
IsIn-filter {X} p e (x ∷ xs) =
    let rest = IsIn-filter p e xs in
    elim (p x) as (λ b. p x ≡ b → IsIn e (cond b (x ∷ filter p xs) (filter p xs)) ↔ (IsIn e (x ∷ xs) × (p e ≡ true))) [
      | true ↦ λ px. (
        λ h. elim h [ inl is ↦ (inl is, ap p is ∙ px) | inr old ↦ (inr (rest.0 old).0, (rest.0 old).1) ],
        λ h. elim h.0 [ inl is ↦ inl is | inr old ↦ inr (rest.1 (old, h.1)) ],
      )
      | false ↦ λ px. (
        λ h. (inr (rest.0 h).0, (rest.0 h).1),
        λ h. elim h.0 [ inl is ↦ absurd (opposite (sym (h.1) ∙ ap p is ∙ px)) | inr old ↦ rest.1 (old, h.1) ],
      )
    ] refl
  where
    opposite : true ≡ false → ⊥
    opposite e = cc

-- each item of a list that is below all
all_below : {K V : Type 0} (R : K → K → Ordering) (x : K) (es : List (K × V)) → T (below_all R x es) → (e : K × V) → IsIn e es → R x e.0 ≡ Less
all_below R x [] h e within = absurd within
all_below R x (y ∷ ys) h e within =
    let both : T (is_lt (R x y.0) && below_all R x ys) = h in
    let parts = split (is_lt (R x y.0)) (below_all R x ys) both in
    elim within [
      | inl is ↦ rw is (less (R x y.0) parts.0)
      | inr later ↦ all_below R x ys parts.1 e later
    ]
  where
    split : (a b : Bool) → T (a && b) → T a × T b
    split true b h = (tt, h)
    split false b h = absurd h

    less : (r : Ordering) → T (is_lt r) → r ≡ Less
    less Less h = refl
    less Equal h = absurd h
    less Greater h = absurd h

-- a key below another is not that other
below_apart : {K V : Type 0} {R : K → K → Ordering} → IsTotalOrder R → (e y : K × V) → R y.0 e.0 ≡ Less → eq_by_cmp R e.0 y.0 ≡ false
below_apart {R = R} total e y less =
    elim (R e.0 y.0) as (λ r. R e.0 y.0 ≡ r → is_eq r ≡ false) [
      | Less ↦ λ _. refl
      | Equal ↦ λ tie. absurd (apart (sym less ∙ tied_back total e.0 y.0 tie))
      | Greater ↦ λ _. refl
    ] refl
  where
    apart : Less ≡ Equal → ⊥
    apart e = cc

-- in a list that ascends by its keys an entry stands exactly where it is found by its key
pub IsIn-find : {K V : Type 0} {R : K → K → Ordering} → IsTotalOrder R → IsAntisymmetric R → (e : K × V) (es : List (K × V)) → T (is_sorted R es)
    → IsIn e es ↔ (find R e.0 es ≡ Some e.1)
IsIn-find total same e [] h = (λ within. absurd within, λ found. absurd (apart found)) where
  apart : {A : Type 0} {x : A} → None ≡ Some x → ⊥
  apart e = cc
IsIn-find {K = K} {V = V} {R = R} total same e (y ∷ ys) h =
    let parts = split (below_all R y.0 ys) (is_sorted R ys) h in
    let rest = IsIn-find total same e ys parts.1 in (
      λ within. elim within [
        | inl is ↦ subst (λ (z : K × V). cond (eq_by_cmp R z.0 y.0) (Some y.1) (find R z.0 ys) ≡ Some z.1) (sym is)
            (ap (λ b. cond b (Some y.1) (find R y.0 ys)) (itself y.0))
        | inr later ↦ ap (λ b. cond b (Some y.1) (find R e.0 ys)) (below_apart total e y (all_below R y.0 ys parts.0 e later)) ∙ rest.0 later
      ],
      λ found. (elim (eq_by_cmp R e.0 y.0) as (λ b. eq_by_cmp R e.0 y.0 ≡ b → cond b (Some y.1) (find R e.0 ys) ≡ Some e.1 → IsIn e (y ∷ ys)) [
        | true ↦ λ tie is. inl (pair e y (eq_by_cmp-same same e.0 y.0 tie) (sym (only y.1 e.1 is)))
        | false ↦ λ _ is. inr (rest.1 is)
      ]) refl found,
    )
  where
    split : (a b : Bool) → T (a && b) → T a × T b
    split true b h = (tt, h)
    split false b h = absurd h

    itself : (k : K) → eq_by_cmp R k k ≡ true
    itself k = ap is_eq (tied_itself total k)

    only : (x y : V) → Some x ≡ Some y → x ≡ y
    only x y e = cc

    pair : (p q : K × V) → p.0 ≡ q.0 → p.1 ≡ q.1 → p ≡ q
    pair p q f g i = (f i, g i)

module _ {X : Type 0} (cmp : X → X → Ordering) (total : IsTotalOrder cmp) where
  -- an item that is below all of a list is below all of it with one more item that it is below
  below-with_item : (y x : X) (xs : List X) → cmp y x ≡ Less → AllByRecursion (λ z. cmp y z ≡ Less) xs → AllByRecursion (λ z. cmp y z ≡ Less) (with_item cmp x xs)
  below-with_item y x [] less all = (less, tt)
  below-with_item y x (z ∷ zs) less all =
      elim (is_lt (cmp z x)) as (λ b. AllByRecursion (λ z. cmp y z ≡ Less) (cond b (z ∷ with_item cmp x zs) (x ∷ z ∷ zs))) [
        | true ↦ (all.0, below-with_item y x zs less all.1)
        | false ↦ (less, all)
      ]

  below_later : (x y : X) (ys : List X) → cmp x y ≡ Less → AllByRecursion (λ z. cmp y z ≡ Less) ys → AllByRecursion (λ z. cmp x z ≡ Less) ys
  below_later x y [] less all = tt
  below_later x y (z ∷ zs) less all = (total.trans x y z less all.0, below_later x y zs less all.1)

  pub sorted-with_item : (x : X) (xs : List X) → IsStrictlySortedBy cmp xs → ((y : X) → IsIn y xs → cmp y x ≢ Equal) → IsStrictlySortedBy cmp (with_item cmp x xs)
  unfolding IsStrictlySortedBy
  sorted-with_item x [] sorted apart = (tt, tt)
  sorted-with_item x (y ∷ ys) sorted apart =
      elim (cmp y x) as (λ r. cmp y x ≡ r → IsStrictlySortedBy cmp (cond (is_lt r) (y ∷ with_item cmp x ys) (x ∷ y ∷ ys))) [
        | Less ↦ λ less. (below-with_item y x ys less sorted.0, sorted-with_item x ys sorted.1 (λ z later. apart z (inr later)))
        | Equal ↦ λ tie. absurd (apart y (inl refl) tie)
        | Greater ↦ λ above.
            let less : cmp x y ≡ Less = total.antisymm x y ∙ ap ordering_reverse above in
            ((less, below_later x y ys less sorted.0), sorted)
      ] refl

-- no two items of a list tie
abbrev pub Apart : {X : Type 0} → (X → X → Ordering) → List X → Type 0
Apart cmp [] = Unit {0}
Apart {X} cmp (x ∷ xs) = ((y : X) → IsIn y xs → cmp y x ≢ Equal) × Apart cmp xs

pub sorted-sorted_by : {X : Type 0} (cmp : X → X → Ordering) → IsTotalOrder cmp → (xs : List X) → Apart cmp xs → IsStrictlySortedBy cmp (sorted_by cmp xs)
unfolding IsStrictlySortedBy
sorted-sorted_by cmp total [] apart = tt
sorted-sorted_by cmp total (x ∷ xs) apart =
    sorted-with_item cmp total x (sorted_by cmp xs) (sorted-sorted_by cmp total xs apart.1)
    (λ y within. apart.0 y ((IsIn-sorted_by cmp y xs).0 within))

-- entries that pass a test do not tie where a tie of two of them is one of their keys
pub apart-filter : {K V : Type 0} {R : K → K → Ordering} → IsTotalOrder R → (cmp : K × V → K × V → Ordering) (p : K × V → Bool) (es : List (K × V)) → T (is_sorted R es)
    → ((x y : K × V) → IsIn x es → IsIn y es → p x ≡ true → p y ≡ true → cmp y x ≡ Equal → y.0 ≡ x.0) → Apart cmp (filter p es)
apart-filter total cmp p [] h keys = tt
apart-filter {K = K} {V = V} {R = R} total cmp p (e ∷ es) h keys =
    let parts = split (below_all R e.0 es) (is_sorted R es) h in
    let rest = apart-filter total cmp p es parts.1 (λ x y in_x in_y. keys x y (inr in_x) (inr in_y)) in
    elim (p e) as (λ b. p e ≡ b → Apart cmp (cond b (e ∷ filter p es) (filter p es))) [
      | true ↦ λ passes. (
        λ y within tie.
            let kept = (IsIn-filter p y es).0 within in
            let less = all_below R e.0 es parts.0 y kept.0 in
            let key : y.0 ≡ e.0 = keys e y (inl refl) (inr kept.0) passes kept.1 tie in
            differ (sym less ∙ ap (λ k. R e.0 k) key ∙ tied_itself total e.0),
        rest,
      )
      | false ↦ λ _. rest
    ] refl
  where
    split : (a b : Bool) → T (a && b) → T a × T b
    split true b h = (tt, h)
    split false b h = absurd h

    differ : Less ≡ Equal → ⊥
    differ e = cc

pub first_of-is : {X : Type 0} (xs : List X) (x : X) → first_of xs ≡ Some x → IsIn x xs
first_of-is [] x is = absurd cc
first_of-is (y ∷ ys) x is = inl cc

pub first_of-some : {X : Type 0} (xs : List X) (x : X) → IsIn x xs → (y : X) × (first_of xs ≡ Some y)
first_of-some [] x within = absurd within
first_of-some (y ∷ ys) x within = (y, refl)
