-- Maps and sets as the lists of what they hold: what an insertion and a removal make of them, in any order.
use Rattle.std.proofs.Common.{◌≡◌, ◌⊎◌, inl, inr, Bool, true, false, not, ◌&&◌, ◌||◌, cond, T, List, [], ◌∷◌, map, filter, Ordering, Less, Equal, Greater, Option, Some, None, is_some, refl, sym, ap, subst, ◌∙◌, IsPermutation}
use Rattle.std.specs.List.{list_any}
use Rattle.std.specs.Option.{option_or}
use Rattle.std.specs.Ordering.{is_eq, is_lt, eq_by_cmp}
use Rattle.std.specs.Cmp.{IsTotalOrder, eq_by_cmp_equiv}
use Rattle.std.proofs.lemmas.Cmp.{alike_right}
use Rattle.std.proofs.lemmas.List.Sorted.{IsPermutation-refl, IsPermutation-cons, IsPermutation-trans, IsPermutation-middle, IsPermutation-map}
use Rattle.std.specs.FinMap as finite
use Rattle.std.specs.FinSet as set
use Rattle.std.specs.FinMap.{IsAntisymmetric}
use Rattle.std.specs.FinMap.Entries.{find, put, by_order, where_key, below_all, is_sorted, is_sorted-where_key, find-where_key}
use Rattle.sqlite_trees.proofs.ListLemmas.{IsPermutation-same, filter-map}
use Rattle.deb_text.proofs.KeyLemmas.{eq_by_cmp-same}
use Rattle.wb_states.proofs.PairLemmas.{as_map, get-as_map, marked, marked-or}

split : (a b : Bool) → T (a && b) → T a × T b
split true b h = (tt, h)
split false b h = absurd h

less_is : (r : Ordering) → T (is_lt r) → r ≡ Less
less_is Less h = refl
less_is Equal h = absurd h
less_is Greater h = absurd h

turned : {A : Type 0} (b : Bool) (x y : A) → cond b y x ≡ cond (not b) x y
turned true x y = refl
turned false x y = refl

marked-left : (a b : Bool) → marked (not a && b) ≡ cond a None (marked b)
marked-left true b = refl
marked-left false b = refl

-- an entry with another key
abbrev pub is_other : {K X : Type 0} → (K → K → Ordering) → K → K × X → Bool
is_other R k e = not (eq_by_cmp R k e.0)

module _ {K X : Type 0} {R : K → K → Ordering} (o : IsTotalOrder R) where
  -- a key that is at most one below a list is the key of none of its entries
  others_kept : (k x : K) (es : List (K × X)) → (R k x ≡ Less) ⊎ (R k x ≡ Equal) → T (below_all R x es) → filter (is_other R k) es ≡ es
  others_kept k x [] at h = refl
  others_kept k x (e ∷ es) at h =
      let parts = split (is_lt (R x e.0)) (below_all R x es) h in
      let least = less_is (R x e.0) parts.0 in
      let below : R k e.0 ≡ Less = elim at [ inl less ↦ o.trans k x e.0 less least | inr tie ↦ o.congr k x e.0 tie ∙ least ] in
      ap (λ r. cond (not (is_eq r)) (e ∷ filter (is_other R k) es) (filter (is_other R k) es)) below ∙ ap (λ l. e ∷ l) (others_kept k x es at parts.1)

  -- what is put in its place stands beside the entries with other keys
  put_beside : IsAntisymmetric R → (k : K) (v : X) (es : List (K × X)) → T (is_sorted R es) → IsPermutation ((k, v) ∷ filter (is_other R k) es) (put R k v es)
  put_beside same k v [] h = IsPermutation-refl ((k, v) ∷ [])
  put_beside same k v (e ∷ es) h =
      let parts = split (below_all R e.0 es) (is_sorted R es) h in
      elim (R k e.0) as (λ r. R k e.0 ≡ r
      → IsPermutation ((k, v) ∷ cond (not (is_eq r)) (e ∷ filter (is_other R k) es) (filter (is_other R k) es)) (by_order r ((k, v) ∷ e ∷ es) ((e.0, v) ∷ es) (e ∷ put R k v es))) [
        | Less ↦ λ at. IsPermutation-same _ _ (ap (λ l. (k, v) ∷ e ∷ l) (others_kept k e.0 es (inl at) parts.0))
        | Equal ↦ λ at. IsPermutation-same _ _ (λ i. (same k e.0 at i, v) ∷ others_kept k e.0 es (inr at) parts.0 i)
        | Greater ↦ λ at. IsPermutation-trans _ _ _ (IsPermutation-middle ((k, v) ∷ []) e (filter (is_other R k) es)) (IsPermutation-cons e _ _ (put_beside same k v es parts.1))
      ] refl

  none_found : (k : K) (es : List (K × X)) → find R k es ≡ None → filter (is_other R k) es ≡ es
  none_found k [] none = refl
  none_found k (e ∷ es) none =
      elim (eq_by_cmp R k e.0) as (λ b. cond b (Some e.1) (find R k es) ≡ None → cond (not b) (e ∷ filter (is_other R k) es) (filter (is_other R k) es) ≡ e ∷ es) [
        | true ↦ λ found. absurd (cc)
        | false ↦ λ rest. ap (λ l. e ∷ l) (none_found k es rest)
      ] none

  module _ (same : IsAntisymmetric R) (m : finite.FinMap R X) (k : K) where
    -- a removal leaves the entries with other keys
    pub entries-remove : finite.entries (finite.remove m k) ≡ filter (is_other R k) (finite.entries m)
    entries-remove =
        let others = λ (x : K). not (eq_by_cmp R k x) in
        let es = where_key R others (finite.entries m) in
        let sorted : T (is_sorted R es) = is_sorted-where_key R others (finite.entries m) (finite.entries_sorted m) in
        let alike = λ (q : K) (x : K) (tie : R q x ≡ Equal). ap (λ r. not (is_eq r)) (sym (alike_right o q x k tie)) in
        let at : (q : K) → finite.get (finite.remove m k) q ≡ finite.get (finite.from_sorted {R = R} es) q =
        λ q. finite.get-remove o m k q ∙ ap (λ b. cond b None (finite.get m q)) ((eq_by_cmp_equiv o).symm q k)
        ∙ turned (eq_by_cmp R k q) (finite.get m q) None ∙ ap (λ x. cond (others q) x None) (finite.get-entries m q)
        ∙ sym (finite.get-from_sorted R es q sorted ∙ find-where_key R others q (alike q) (finite.entries m)) in
        ap finite.entries (finite.same_map o same _ _ at) ∙ finite.entries-from_sorted R es sorted

    -- an insertion puts an entry beside those with other keys
    pub entries-insert : (v : X) → IsPermutation ((k, v) ∷ finite.entries (finite.remove m k)) (finite.entries (finite.insert m k v))
    entries-insert v =
        subst (IsPermutation ((k, v) ∷ finite.entries (finite.remove m k))) (sym (finite.entries-insert o m k v))
        (subst (λ l. IsPermutation ((k, v) ∷ l) (put R k v (finite.entries m))) (sym entries-remove) (put_beside same k v (finite.entries m) (finite.entries_sorted m)))

    -- an insertion at a new key puts an entry beside all
    pub entries-added : (v : X) → finite.get m k ≡ None → IsPermutation ((k, v) ∷ finite.entries m) (finite.entries (finite.insert m k v))
    entries-added v none =
        subst (λ l. IsPermutation ((k, v) ∷ l) (finite.entries (finite.insert m k v)))
        (entries-remove ∙ none_found k (finite.entries m) (sym (finite.get-entries m k) ∙ none)) (entries-insert v)

-- ---- sets

module _ {K : Type 0} {R : K → K → Ordering} where
  module _ (o : IsTotalOrder R) where
    module _ (same : IsAntisymmetric R) (s : set.FinSet R) (k : K) where
      as_map-insert : as_map (set.insert s k) ≡ finite.insert (as_map s) k tt
      as_map-insert = finite.same_map o same _ _ (λ q.
          get-as_map o (set.insert s k) q ∙ ap marked (set.contains-insert o s k q) ∙ marked-or (eq_by_cmp R q k) (set.contains s q)
          ∙ sym (finite.get-insert o (as_map s) k tt q ∙ ap (cond (eq_by_cmp R q k) (Some (tt {0}))) (get-as_map o s q)))

      -- an insertion of a new item puts it beside all
      pub items-added : set.contains s k ≡ false → IsPermutation (k ∷ finite.keys (as_map s)) (finite.keys (as_map (set.insert s k)))
      items-added none =
          subst (λ m. IsPermutation (k ∷ finite.keys (as_map s)) (finite.keys m)) (sym as_map-insert)
          (IsPermutation-map (λ (e : K × Unit {0}). e.0) ((k, tt) ∷ finite.entries (as_map s)) (finite.entries (finite.insert (as_map s) k tt))
          (entries-added o same (as_map s) k tt (get-as_map o s k ∙ ap marked none)))

      as_map-remove : as_map (set.remove s k) ≡ finite.remove (as_map s) k
      as_map-remove = finite.same_map o same _ _ (λ q.
          get-as_map o (set.remove s k) q ∙ ap marked (set.contains-remove o s k q)
          ∙ marked-left (eq_by_cmp R q k) (set.contains s q)
          ∙ sym (finite.get-remove o (as_map s) k q ∙ ap (cond (eq_by_cmp R q k) None) (get-as_map o s q)))

      -- a removal leaves the other items
      pub items-left : finite.keys (as_map (set.remove s k)) ≡ filter (λ x. not (eq_by_cmp R k x))
          (finite.keys (as_map s))
      items-left =
          ap finite.keys as_map-remove ∙ ap (map (λ (e : K × Unit {0}). e.0)) (entries-remove o same (as_map s) k)
          ∙ sym (filter-map (λ x. not (eq_by_cmp R k x)) (λ (e : K × Unit {0}). e.0) (finite.entries (as_map s)))

-- ---- the entries of a map, inserted one after another

module _ {K X : Type 0} {R : K → K → Ordering} (o : IsTotalOrder R) (same : IsAntisymmetric R) where
  -- a map with these entries too
  abbrev pub inserted : finite.FinMap R X → List (K × X) → finite.FinMap R X
  inserted m [] = m
  inserted m (e ∷ es) = inserted (finite.insert m e.0 e.1) es

  none_below : (k : K) (es : List (K × X)) → T (below_all R k es) → find R k es ≡ None
  none_below k [] h = refl
  none_below k (e ∷ es) h =
      let parts = split (is_lt (R k e.0)) (below_all R k es) h in
      ap (λ r. cond (is_eq r) (Some e.1) (find R k es)) (less_is (R k e.0) parts.0) ∙ none_below k es parts.1

  -- what is found after them
  found_after : (q : K) (m : finite.FinMap R X) (es : List (K × X)) → T (is_sorted R es) → finite.get (inserted m es) q ≡ option_or (find R q es) (finite.get m q)
  found_after q m [] h = refl
  found_after q m (e ∷ es) h =
      let parts = split (below_all R e.0 es) (is_sorted R es) h in
      found_after q (finite.insert m e.0 e.1) es parts.1 ∙ ap (option_or (find R q es)) (finite.get-insert o m e.0 e.1 q) ∙ by_tie (eq_by_cmp R q e.0) refl parts.0
    where
      by_tie : (b : Bool) → eq_by_cmp R q e.0 ≡ b → T (below_all R e.0 es)
          → option_or (find R q es) (cond b (Some e.1) (finite.get m q)) ≡ option_or (cond b (Some e.1) (find R q es)) (finite.get m q)
      by_tie true tie below = ap (λ x. option_or x (Some e.1)) (subst (λ k. find R k es ≡ None) (sym (eq_by_cmp-same same q e.0 tie)) (none_below e.0 es below))
      by_tie false apart below = refl

  or_none : (x : Option X) → option_or x None ≡ x
  or_none None = refl
  or_none (Some x) = refl

  -- the map has them and no others
  pub all_inserted : (m : finite.FinMap R X) → inserted finite.empty (finite.entries m) ≡ m
  all_inserted m =
      finite.same_map o same (inserted finite.empty (finite.entries m)) m
      (λ q. found_after q finite.empty (finite.entries m) (finite.entries_sorted m) ∙ ap (option_or (find R q (finite.entries m))) (finite.get-empty R q) ∙ or_none (find R q (finite.entries m))
      ∙ sym (finite.get-entries m q))
