-- The entries of std's ordered maps, as finite maps.
use Rattle.std.proofs.Common.{◌≡◌, Bool, true, false, cond, List, [], ◌∷◌, map, refl, sym, ap, subst, ◌∙◌, Some, None, T, ◌&&◌}
use Rattle.std.specs.declared.cmp.Ordering.{Ordering}
use Rattle.std.specs.declared.cmp.Ordering.TheVariants.{Less}
use Rattle.std.specs.Ordering.{is_lt, is_eq}
use Rattle.std.specs.Cmp.{IsTotalOrder, eq_by_cmp_equiv}
use Rattle.std.specs.List.{AllByRecursion}
use Rattle.std.specs.List.Sorted.{IsStrictlySortedBy}
use Rattle.std.specs.Map.{lookup}
use Rattle.std.specs.BTreeMap.{is_at}
use Rattle.std.specs.FinMap as finite
use Rattle.std.specs.FinMap.Entries.{below_all, is_sorted}

module _ {K X : Type 0} {R : K → K → Ordering} (o : IsTotalOrder R) where
  find-lookup : (es : List (K × X)) (q : K) → finite.find R q es ≡ lookup (is_at (R q)) es
  find-lookup [] q = refl
  find-lookup (e ∷ es) q = ap (cond (is_eq (R q e.0)) (Some e.1)) (find-lookup es q)

  -- what the map that the entries make has at a key
  pub get-lookup : (es : List (K × X)) (q : K) → finite.get (finite.from_entries {R = R} es) q ≡ lookup (is_at (R q)) es
  get-lookup es q = finite.get-from_entries o es q ∙ find-lookup es q

module _ {K X : Type 0} {R : K → K → Ordering} (o : IsTotalOrder R) (same : finite.IsAntisymmetric R) where
  -- entries that differ at one key alone make maps that differ there alone
  pub one-inserted : (es fs : List (K × X)) (k : K) (v : X)
      → ((q : K) → lookup (is_at (R q)) fs ≡ cond (is_at (R k) q) (Some v) (lookup (is_at (R q)) es))
      → finite.from_entries {R = R} fs ≡ finite.insert (finite.from_entries es) k v
  one-inserted es fs k v h = finite.same_map o same _ _ (λ q.
      get-lookup o fs q ∙ h q ∙ ap (λ b. cond b (Some v) (lookup (is_at (R q)) es)) ((eq_by_cmp_equiv o).symm k q)
      ∙ sym (finite.get-insert o (finite.from_entries es) k v q ∙ ap (cond (is_at (R q) k) (Some v)) (get-lookup o es q)))

module _ {K X : Type 0} {R : K → K → Ordering} (o : IsTotalOrder R) (same : finite.IsAntisymmetric R) where
  -- entries that lack one key alone make the map that lacks it
  pub one-removed : (es fs : List (K × X)) (k : K)
      → ((q : K) → lookup (is_at (R q)) fs ≡ cond (is_at (R k) q) None (lookup (is_at (R q)) es))
      → finite.from_entries {R = R} fs ≡ finite.remove (finite.from_entries es) k
  one-removed es fs k h = finite.same_map o same _ _ (λ q.
      get-lookup o fs q ∙ h q ∙ ap (λ b. cond b None (lookup (is_at (R q)) es)) ((eq_by_cmp_equiv o).symm k q)
      ∙ sym (finite.get-remove o (finite.from_entries es) k q ∙ ap (cond (is_at (R q) k) None) (get-lookup o es q)))

both : (a b : Bool) → T a → T b → T (a && b)
both true b p q = q
both false b p q = p

module _ {K X : Type 0} (R : K → K → Ordering) where
  below-is : (k : K) (es : List (K × X)) → AllByRecursion (λ x. R k x ≡ Less) (map (λ e. e.0) es) → T (below_all R k es)
  below-is k [] h = tt
  below-is k (e ∷ es) h = both _ _ (subst (λ r. T (is_lt r)) (sym h.0) tt) (below-is k es h.1)

  sorted-is : (es : List (K × X)) → IsStrictlySortedBy R (map (λ e. e.0) es) → T (is_sorted R es)
  unfolding IsStrictlySortedBy
  sorted-is [] h = tt
  sorted-is (e ∷ es) h = both _ _ (below-is e.0 es h.0) (sorted-is es h.1)

module _ {K X : Type 0} {R : K → K → Ordering} (o : IsTotalOrder R) (same : finite.IsAntisymmetric R) where
  -- entries in the order of their keys are those of the map that they make
  pub entries-kept : (es : List (K × X)) → IsStrictlySortedBy R (map (λ e. e.0) es) → finite.entries (finite.from_entries {R = R} es) ≡ es
  entries-kept es h =
      let sorted : T (is_sorted R es) = sorted-is R es h in
      ap finite.entries (finite.same_map o same _ _ (λ q. finite.get-from_entries o es q ∙ sym (finite.get-from_sorted R es q sorted)))
      ∙ finite.entries-from_sorted R es sorted
