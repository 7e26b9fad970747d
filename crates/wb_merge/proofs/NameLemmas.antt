-- Texts and keys that a test finds equal, and lists of which no two are equal.
use Rattle.std.proofs.Common.{◌≡◌, ℕ, Bool, true, false, cond, T, ◌&&◌, ◌||◌, List, [], ◌∷◌, ◌++◌, map, filter, bytes_eq, refl, sym, ap, subst, ◌∙◌, Option, Some, None, is_some}
use Rattle.std.specs.List.{list_any}
use Rattle.std.specs.declared.cmp.Ordering.{Ordering}
use Rattle.std.specs.declared.cmp.Ordering.TheVariants.{Less, Equal, Greater}
use Rattle.std.specs.Ordering.{is_lt, is_eq, ordering_then, eq_by_cmp}
use Rattle.std.proofs.lemmas.Map.Text.{is_eq-slice_cmp}
use Rattle.std.proofs.lemmas.Map.Views.{any-filter_same}
use Rattle.std.proofs.lemmas.List.Folds.{list_any-append}
use Rattle.std.proofs.lemmas.Slice.Eq.{bytes_eq-Decides}
use Rattle.std.specs.FinMap as finite
use Rattle.std.specs.FinMap.Entries.{below_all, is_sorted}
use Rattle.std.proofs.lemmas.Bool.{and_right, false_from_ne_true, or_right}
use Rattle.std.proofs.lemmas.Bool.Decides.{same_from_decides}
use Rattle.deb_text.specs.Text.{text_cmp, pair_cmp}
use Rattle.deb_text.proofs.KeyLemmas.{pair_cmp-same, eq_by_cmp-same}
use Rattle.wb_merge.specs.Steps.{Key}

pub none-is : {X : Type 0} (o : Option X) → is_some o ≡ false → o ≡ None
none-is None e = refl
none-is (Some x) e = absurd cc

-- ---- texts

pub bytes_eq-is : (x y : List ℕ) → bytes_eq x y ≡ true → x ≡ y
bytes_eq-is x y = (bytes_eq-Decides x y).0

-- the same, the other way round
pub bytes_eq-turned : (s t : List ℕ) → bytes_eq s t ≡ bytes_eq t s
bytes_eq-turned s t =
    let turned = bytes_eq-Decides t s in
    same_from_decides (bytes_eq s t) (bytes_eq t s) (bytes_eq-Decides s t) (λ e. sym (turned.0 e), λ e. turned.1 (sym e))

-- ---- keys

is_eq-then : (r s : Ordering) → is_eq (ordering_then r s) ≡ (is_eq r && is_eq s)
is_eq-then Less s = refl
is_eq-then Equal s = refl
is_eq-then Greater s = refl

-- two keys tie where both of their texts are equal
pub pair-eq : (p q : Key) → eq_by_cmp pair_cmp p q ≡ (bytes_eq p.0 q.0 && bytes_eq p.1 q.1)
pair-eq p q = is_eq-then (text_cmp p.0 q.0) (text_cmp p.1 q.1) ∙ (λ i. is_eq-slice_cmp p.0 q.0 i && is_eq-slice_cmp p.1 q.1 i)

pub pair-is : (p q : Key) → eq_by_cmp pair_cmp p q ≡ true → p ≡ q
pair-is = eq_by_cmp-same pair_cmp-same

-- ---- lists of which no two are equal

abbrev pub IsApart : {K : Type 0} → (K → K → Bool) → List K → Type 0
IsApart eq [] = Unit {0}
IsApart eq (x ∷ xs) = (list_any (eq x) xs ≡ false) × IsApart eq xs

-- what a filter keeps of a text
pub filter-any : (p : List ℕ → Bool) (name : List ℕ) (names : List (List ℕ)) → list_any (bytes_eq name) (filter p names) ≡ (p name && list_any (bytes_eq name) names)
filter-any p name names = any-filter_same (bytes_eq name) p (p name) (λ other e. ap p (sym (bytes_eq-is name other e))) names

first : (a b : Bool) → T (a && b) → T a
first true b p = tt
first false b p = p

second : (a b : Bool) → T (a && b) → T b
second true b p = p
second false b p = absurd p

less : (r : Ordering) → T (is_lt r) → r ≡ Less
less Less p = refl
less Equal p = absurd p
less Greater p = absurd p

module _ {K X : Type 0} (R : K → K → Ordering) where
  below-apart : (k : K) (es : List (K × X)) → T (below_all R k es) → list_any (eq_by_cmp R k) (map (λ e. e.0) es) ≡ false
  below-apart k [] h = refl
  below-apart k (e ∷ es) h =
      let here : R k e.0 ≡ Less = less _ (first _ _ h) in
      let rest = below-apart k es (second _ _ h) in
      λ i. is_eq (here i) || rest i

  sorted-apart : (es : List (K × X)) → T (is_sorted R es) → IsApart (eq_by_cmp R) (map (λ e. e.0) es)
  sorted-apart [] h = tt
  sorted-apart (e ∷ es) h = (below-apart e.0 es (first _ _ h), sorted-apart es (second _ _ h))

-- no two keys of a map are equal
pub keys-apart : {K X : Type 0} {R : K → K → Ordering} (m : finite.FinMap R X) → IsApart (eq_by_cmp R) (finite.keys m)
keys-apart {R = R} m = sorted-apart R (finite.entries m) (finite.entries_sorted m)

pub text_keys-apart : {X : Type 0} (m : finite.FinMap text_cmp X) → IsApart bytes_eq (finite.keys m)
text_keys-apart m =
    subst (λ (eq : List ℕ → List ℕ → Bool). IsApart eq (finite.keys m)) (λ i x y. is_eq-slice_cmp x y i) (keys-apart m)

pub append-apart : {K : Type 0} (eq : K → K → Bool) (xs ys : List K) → IsApart eq xs → IsApart eq ys
    → ((x : K) → list_any (eq x) xs ≡ true → list_any (eq x) ys ≡ true → ⊥) → ((x : K) → eq x x ≡ true) → IsApart eq (xs ++ ys)
append-apart eq [] ys hx hy never itself = hy
append-apart eq (x ∷ xs) ys hx hy never itself =
    let other : list_any (eq x) ys ≡ false = false_from_ne_true _ (λ e. never x (λ i. itself x i || list_any (eq x) xs) e) in (
      list_any-append (eq x) xs ys ∙ (λ i. hx.0 i || other i),
      append-apart eq xs ys hx.1 hy (λ y ex ey. never y (or_right (eq y x) _ ex) ey) itself,
    )

-- a filter keeps apart what is apart
pub filter-apart : (p : List ℕ → Bool) (names : List (List ℕ)) → IsApart bytes_eq names → IsApart bytes_eq (filter p names)
filter-apart p [] h = tt
filter-apart p (name ∷ names) h =
    elim (p name) as (λ b. IsApart bytes_eq (cond b (name ∷ filter p names) (filter p names))) [
      | true ↦ (filter-any p name names ∙ (λ i. p name && h.0 i) ∙ and_right (p name) false refl, filter-apart p names h.1)
      | false ↦ filter-apart p names h.1
    ]
