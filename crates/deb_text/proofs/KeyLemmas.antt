-- The orders of texts and of pairs of texts are total, and only equal ones tie.
use Rattle.std.proofs.Common.{◌≡◌, refl, true, false, cond, IfSome, Some}
use Rattle.std.specs.declared.cmp.Ordering.{Ordering}
use Rattle.std.specs.declared.cmp.Ordering.TheVariants.{Less, Equal, Greater}
use Rattle.std.specs.Ordering.{ordering_then, eq_by_cmp}
use Rattle.std.specs.Cmp.{IsTotalOrder, then_total, on_total, Equal-is}
use Rattle.std.specs.Cmp.Lexicographic.{nat_list_cmp_total}
use Rattle.std.specs.FinMap as map
use Rattle.std.specs.FinMap.{IsAntisymmetric, slice_cmp-IsAntisymmetric, nat_cmp-IsAntisymmetric}
use Rattle.deb_text.specs.Text.{text_cmp, pair_cmp}

-- only a first and a second tie make a tie of two
both_tied : (r s : Ordering) → ordering_then r s ≡ Equal → (r ≡ Equal) × (s ≡ Equal)
both_tied Less s e = absurd (apart e) where
  apart : Less ≡ Equal → ⊥
  apart e = cc
both_tied Equal s e = (refl, e)
both_tied Greater s e = absurd (apart e) where
  apart : Greater ≡ Equal → ⊥
  apart e = cc

pub then-Equal : (r s : Ordering) → ordering_then r s ≡ Equal → (r ≡ Equal) × (s ≡ Equal)
then-Equal = both_tied

pub text_cmp_total : IsTotalOrder text_cmp
text_cmp_total = nat_list_cmp_total

pub text_cmp-same : IsAntisymmetric text_cmp
text_cmp-same = slice_cmp-IsAntisymmetric nat_cmp-IsAntisymmetric

pub pair_cmp_total : IsTotalOrder pair_cmp
pair_cmp_total = then_total (on_total (λ p. p.0) nat_list_cmp_total) (on_total (λ p. p.1) nat_list_cmp_total)

pub pair_cmp-same : IsAntisymmetric pair_cmp
pair_cmp-same p q e =
    let ties = then-Equal _ _ e in
    let first : p.0 ≡ q.0 = text_cmp-same _ _ ties.0 in
    let second : p.1 ≡ q.1 = text_cmp-same _ _ ties.1 in
    λ i. (first i, second i)

-- keys that the test finds equal are equal
pub eq_by_cmp-same : {K : Type 0} {R : K → K → Ordering} → IsAntisymmetric R → (x y : K) → eq_by_cmp R x y ≡ true → x ≡ y
eq_by_cmp-same {R = R} same x y e = same x y ((Equal-is (R x y)).0 e)

-- what holds of a new value and of each old one holds of each value after an insertion
pub insert_all : {K X : Type 0} {R : K → K → Ordering} → IsTotalOrder R → IsAntisymmetric R → (P : K → X → Type 0) (m : map.FinMap R X) (k : K) (v : X)
    → P k v → ((q : K) → IfSome (map.get m q) (P q)) → (q : K) → IfSome (map.get (map.insert m k v) q) (P q)
insert_all {R = R} total same P m k v new old q =
    rw (map.get-insert total m k v q)
    (elim (eq_by_cmp R q k) as (λ b. eq_by_cmp R q k ≡ b → IfSome (cond b (Some v) (map.get m q)) (P q)) [
      | true ↦ λ e. rw (eq_by_cmp-same same q k e) new
      | false ↦ λ _. old q
    ] refl)
