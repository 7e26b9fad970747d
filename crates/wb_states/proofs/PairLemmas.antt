-- The set of pairs of builders and architectures as a list: each pair that was added stands in it, and no other.
use Rattle.std.proofs.Common.{◌≡◌, ◌↔◌, inl, inr, Bool, true, false, ◌||◌, cond, List, [], ◌∷◌, map, Ordering, Option}
use Rattle.std.proofs.Common.{Some, None, refl, sym, ap, ◌∙◌}
use Rattle.std.specs.Prelude.{IsTrue, is_some}
use Rattle.std.specs.List.{list_any}
use Rattle.std.specs.Ordering.{is_eq, eq_by_cmp}
use Rattle.std.specs.Cmp.{IsTotalOrder}
use Rattle.std.proofs.lemmas.Cmp.{tied_itself}
use Rattle.std.specs.FinMap as finite
use Rattle.std.specs.FinSet as set
use Rattle.std.specs.FinMap.{IsAntisymmetric}
use Rattle.std.specs.FinMap.Entries.{find}
use Rattle.deb_text.specs.Lists.{IsIn}
use Rattle.deb_text.specs.Text.{pair_cmp}
use Rattle.deb_text.proofs.KeyLemmas.{eq_by_cmp-same, pair_cmp_total, pair_cmp-same}
use Rattle.wb_states.specs.Machine.{Key, Machine, builder_pairs}

-- ---- a set as a map

-- something, where it is so
abbrev pub marked : Bool → Option (Unit {0})
marked b = cond b (Some (tt {0})) None

is_some-marked : (b : Bool) → is_some (marked b) ≡ b
is_some-marked true = refl
is_some-marked false = refl

pub marked-or : (a b : Bool) → marked (a || b) ≡ cond a (Some (tt {0})) (marked b)
marked-or true b = refl
marked-or false b = refl

find-items : {K : Type 0} (R : K → K → Ordering) (q : K) (ks : List K)
    → find R q (map (λ k. (k, tt {0})) ks) ≡ marked (list_any (eq_by_cmp R q) ks)
find-items R q [] = refl
find-items R q (k ∷ ks) = ap (cond (eq_by_cmp R q k) (Some (tt {0}))) (find-items R q ks)
    ∙ sym (marked-or (eq_by_cmp R q k) (list_any (eq_by_cmp R q) ks))

module _ {K : Type 0} {R : K → K → Ordering} where
  -- a set as a map with nothing at each item
  abbrev pub as_map : set.FinSet R → finite.FinMap R (Unit {0})
  as_map s = finite.from_entries {R = R} (map (λ k. (k, tt {0})) (set.items s))

  module _ (o : IsTotalOrder R) where
    -- what that map has at a key
    pub get-as_map : (s : set.FinSet R) (q : K) → finite.get (as_map s) q ≡ marked (set.contains s q)
    get-as_map s q = finite.get-from_entries o (map (λ k. (k, tt {0})) (set.items s)) q
        ∙ find-items R q (set.items s) ∙ ap marked (sym (set.contains-items s q))

    -- the keys of that map are the items of the set
    pub contains-keys : (s : set.FinSet R) (q : K)
        → set.contains s q ≡ list_any (eq_by_cmp R q) (finite.keys (as_map s))
    contains-keys s q = sym (is_some-marked (set.contains s q)) ∙ ap is_some (sym (get-as_map s q))
        ∙ finite.contains_key-keys (as_map s) q

-- ---- what a list has

or_true : (a b : Bool) → b ≡ true → (a || b) ≡ true
or_true true b is = refl
or_true false b is = is

module _ {K : Type 0} {R : K → K → Ordering} (o : IsTotalOrder R) (same : IsAntisymmetric R) where
  pub in_any : (q : K) (xs : List K) → IsIn q xs → list_any (eq_by_cmp R q) xs ≡ true
  in_any q [] within = absurd within
  in_any q (x ∷ xs) (inl is) = ap (λ b. b || list_any (eq_by_cmp R q) xs) (ap (eq_by_cmp R q) (sym is)
      ∙ ap is_eq (tied_itself o q))
  in_any q (x ∷ xs) (inr later) = or_true (eq_by_cmp R q x) (list_any (eq_by_cmp R q) xs) (in_any q xs later)

  pub any_in : (q : K) (xs : List K) → list_any (eq_by_cmp R q) xs ≡ true → IsIn q xs
  any_in q [] is = cc
  any_in q (x ∷ xs) is = go (eq_by_cmp R q x) refl (any_in q xs) is
    where
      go : (b : Bool) → eq_by_cmp R q x ≡ b → (list_any (eq_by_cmp R q) xs ≡ true → IsIn q xs)
          → (b || list_any (eq_by_cmp R q) xs) ≡ true → IsIn q (x ∷ xs)
      go true tie rest h = inl (eq_by_cmp-same same q x tie)
      go false tie rest h = inr (rest h)

-- ---- the builders of a state

-- a pair that is listed was added
pub listed-pair : (machine : Machine) (pair : Key) → IsIn pair (builder_pairs machine)
    → set.contains machine.builders pair ≡ true
listed-pair machine pair within = contains-keys pair_cmp_total machine.builders pair
    ∙ in_any pair_cmp_total pair_cmp-same pair (builder_pairs machine) within

-- a pair that was added is listed
pub pair-listed : (machine : Machine) (pair : Key) → set.contains machine.builders pair ≡ true
    → IsIn pair (builder_pairs machine)
pair-listed machine pair there =
    any_in pair_cmp_total pair_cmp-same pair (builder_pairs machine) (sym
    (contains-keys pair_cmp_total machine.builders pair) ∙ there)

-- the list has each pair that was added, and no other
pub IsIn-builder_pairs : (machine : Machine) (pair : Key)
    → IsIn pair (builder_pairs machine) ↔ IsTrue (set.contains machine.builders pair)
IsIn-builder_pairs machine pair = (listed-pair machine pair, pair-listed machine pair)
