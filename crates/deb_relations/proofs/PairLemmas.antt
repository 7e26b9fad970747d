-- What is available, as a set of pairs of a name and a version.
use Rattle.std.proofs.Common.{◌≡◌, ℕ, ◌<◌, Bool, true, false, cond, ◌||◌, ◌&&◌, List, [], ◌∷◌, ◌++◌, get_or, zero, suc, subst, refl, sym, ap, ◌∙◌, arith, Option, Some, unwrap_or, ◌⊎◌, inl, inr}
use Rattle.std.specs.Prelude.{Contains, ◌↔◌}
use Rattle.std.specs.List.{list_any, list_all}
use Rattle.std.specs.declared.cmp.Ordering.{Ordering}
use Rattle.std.specs.declared.cmp.Ordering.TheVariants.{Less, Equal, Greater}
use Rattle.std.specs.Ordering.{eq_by_cmp, is_eq}
use Rattle.std.specs.Cmp.{tied_itself}
use Rattle.std.specs.Cmp.Lexicographic.{nat_list_cmp_total}
use Rattle.std.specs.FinMap as finite
use Rattle.std.proofs.lemmas.List.Folds.{list_any-append}
use Rattle.std.proofs.lemmas.List.Elements.{Contains-append_left, Contains-append_cases, Contains-push}
use Rattle.std.proofs.lemmas.Map.Lookups.{exact_bytes}
use Rattle.deb_relations.specs.declared.relations.Alternative.{Alternative}
use Rattle.deb_text.specs.Text.{text_cmp}
use Rattle.deb_relations.specs.Satisfaction.{Offer, Pairs, no_pairs, versions_of, with_pair, meets_restriction, is_alternative_met, is_group_met, satisfied}

eq-Equal : (o : Ordering) → is_eq o ≡ true → o ≡ Equal
eq-Equal Less e = cc
eq-Equal Equal e = refl
eq-Equal Greater e = cc

same-name : (other name : List ℕ) → eq_by_cmp text_cmp other name ≡ true → other ≡ name
same-name other name e = exact_bytes other name (eq-Equal (text_cmp other name) e)

name-same : (other name : List ℕ) → other ≡ name → eq_by_cmp text_cmp other name ≡ true
name-same other name e = ap (λ n. eq_by_cmp text_cmp n name) e ∙ ap is_eq (tied_itself nat_list_cmp_total name)

found-by : (b : Bool) (found : Option (List Offer)) (versions : List Offer) → unwrap_or (cond b (Some versions) found) [] ≡ cond b versions (unwrap_or found [])
found-by true found versions = refl
found-by false found versions = refl

-- the versions of a name, once a pair was added
versions-added : (pairs : Pairs) (name : List ℕ) (version : Offer) (other : List ℕ)
    → versions_of (with_pair pairs name version) other
    ≡ cond (eq_by_cmp text_cmp other name) (versions_of pairs name ++ version ∷ []) (versions_of pairs other)
unfolding versions_of with_pair
versions-added pairs name version other =
    ap (λ found. unwrap_or found []) (finite.get-insert nat_list_cmp_total pairs name (versions_of pairs name ++ version ∷ []) other)
    ∙ found-by (eq_by_cmp text_cmp other name) (finite.get pairs other) (versions_of pairs name ++ version ∷ [])

none-in : (versions : List Offer) (version : Offer) → versions ≡ [] → Contains versions version → ⊥
none-in [] version e h = absurd (omega (arith, h.1))
none-in (other ∷ versions) version e h = cc

pub pairs-none : (name : List ℕ) (version : Offer) → Contains (versions_of no_pairs name) version → ⊥
unfolding versions_of
pairs-none name version h = none-in (versions_of no_pairs name) version (ap (λ found. unwrap_or found []) (finite.get-empty text_cmp name)) h

alone-at : (version wanted : Offer) (k : ℕ) → k < 1 → get_or (version ∷ []) k wanted ≡ wanted → wanted ≡ version
alone-at version wanted zero few e = sym e
alone-at version wanted (suc k) few e = absurd (omega arith)

alone : (version wanted : Offer) → Contains (version ∷ []) wanted → wanted ≡ version
alone version wanted h = alone-at version wanted h.0 h.1 h.2

there : (b : Bool) (pairs : Pairs) (name : List ℕ) (version : Offer) (other : List ℕ) (wanted : Offer) → eq_by_cmp text_cmp other name ≡ b
    → Contains (cond b (versions_of pairs name ++ version ∷ []) (versions_of pairs other)) wanted
    → Contains (versions_of pairs other) wanted ⊎ ((other ≡ name) × (wanted ≡ version))
there true pairs name version other wanted e h =
    elim (Contains-append_cases (versions_of pairs name) (version ∷ []) wanted h) [
      | inl old ↦ inl (subst (λ n. Contains (versions_of pairs n) wanted) (sym (same-name other name e)) old)
      | inr new ↦ inr (same-name other name e, alone version wanted new)
    ]
there false pairs name version other wanted e h = inl h

back-old : (b : Bool) (pairs : Pairs) (name : List ℕ) (version : Offer) (other : List ℕ) (wanted : Offer) → eq_by_cmp text_cmp other name ≡ b → Contains (versions_of pairs other) wanted
    → Contains (cond b (versions_of pairs name ++ version ∷ []) (versions_of pairs other)) wanted
back-old true pairs name version other wanted e h =
    Contains-append_left (versions_of pairs name) (version ∷ []) wanted (subst (λ n. Contains (versions_of pairs n) wanted) (same-name other name e) h)
back-old false pairs name version other wanted e h = h

back-new : (pairs : Pairs) (name : List ℕ) (version : Offer) (other : List ℕ) (wanted : Offer) → other ≡ name → wanted ≡ version
    → Contains (cond (eq_by_cmp text_cmp other name) (versions_of pairs name ++ version ∷ []) (versions_of pairs other)) wanted
back-new pairs name version other wanted e same =
    let here : eq_by_cmp text_cmp other name ≡ true = name-same other name e in
    rw here (subst (λ w. Contains (versions_of pairs name ++ version ∷ []) w) (sym same) (Contains-push (versions_of pairs name) version))

back : (pairs : Pairs) (name : List ℕ) (version : Offer) (other : List ℕ) (wanted : Offer) → Contains (versions_of pairs other) wanted ⊎ ((other ≡ name) × (wanted ≡ version))
    → Contains (cond (eq_by_cmp text_cmp other name) (versions_of pairs name ++ version ∷ []) (versions_of pairs other)) wanted
back pairs name version other wanted (inl old) = back-old (eq_by_cmp text_cmp other name) pairs name version other wanted refl old
back pairs name version other wanted (inr new) = back-new pairs name version other wanted new.0 new.1

pub pairs-one : (pairs : Pairs) (name : List ℕ) (version : Offer) (other : List ℕ) (wanted : Offer)
    → Contains (versions_of (with_pair pairs name version) other) wanted ↔ (Contains (versions_of pairs other) wanted ⊎ ((other ≡ name) × (wanted ≡ version)))
pairs-one pairs name version other wanted = (
  λ h. there (eq_by_cmp text_cmp other name) pairs name version other wanted refl
      (subst (λ (versions : List Offer). Contains versions wanted) (versions-added pairs name version other) h),
  λ h. subst (λ (versions : List Offer). Contains versions wanted) (sym (versions-added pairs name version other)) (back pairs name version other wanted h),
)

any-more : (b c : Bool) → b ≡ true → (b || c) ≡ true
any-more b c e = rw e refl

more-by : (b : Bool) (test : Offer → Bool) (pairs : Pairs) (name : List ℕ) (version : Offer) (other : List ℕ) → eq_by_cmp text_cmp other name ≡ b
    → list_any test (versions_of pairs other) ≡ true
    → list_any test (cond b (versions_of pairs name ++ version ∷ []) (versions_of pairs other)) ≡ true
more-by true test pairs name version other e h =
    list_any-append test (versions_of pairs name) (version ∷ [])
    ∙ any-more _ _ (ap (λ n. list_any test (versions_of pairs n)) (sym (same-name other name e)) ∙ h)
more-by false test pairs name version other e h = h

met-more : (pairs : Pairs) (name : List ℕ) (version : Offer) (a : Alternative) → is_alternative_met pairs a ≡ true → is_alternative_met (with_pair pairs name version) a ≡ true
unfolding is_alternative_met
met-more pairs name version a h =
    ap (list_any (meets_restriction a.restriction)) (versions-added pairs name version a.name)
    ∙ more-by (eq_by_cmp text_cmp a.name name) (meets_restriction a.restriction) pairs name version a.name refl h

any-stays : {X : Type 0} (p q : X → Bool) → ((x : X) → p x ≡ true → q x ≡ true) → (xs : List X) → list_any p xs ≡ true → list_any q xs ≡ true
any-stays p q f [] h = h
any-stays p q f (x ∷ xs) h = either (p x) (q x) (list_any p xs) (list_any q xs) (f x) (any-stays p q f xs) h
  where
    either : (a b c d : Bool) → (a ≡ true → b ≡ true) → (c ≡ true → d ≡ true) → (a || c) ≡ true → (b || d) ≡ true
    either true b c d f g h = any-more b d (f refl)
    either false true c d f g h = refl
    either false false c d f g h = g h

all-stays : {X : Type 0} (p q : X → Bool) → ((x : X) → p x ≡ true → q x ≡ true) → (xs : List X) → list_all p xs ≡ true → list_all q xs ≡ true
all-stays p q f [] h = h
all-stays p q f (x ∷ xs) h = both (p x) (q x) (list_all p xs) (list_all q xs) (f x) (all-stays p q f xs) h
  where
    both : (a b c d : Bool) → (a ≡ true → b ≡ true) → (c ≡ true → d ≡ true) → (a && c) ≡ true → (b && d) ≡ true
    both true true c d f g h = g h
    both true false c d f g h = f refl
    both false b c d f g h = cc

pub pairs-stay : (pairs : Pairs) (name : List ℕ) (version : Offer) (groups : List (List Alternative)) → satisfied pairs groups ≡ true → satisfied (with_pair pairs name version) groups ≡ true
unfolding satisfied is_group_met
pairs-stay pairs name version groups h =
    all-stays (is_group_met pairs) (is_group_met (with_pair pairs name version))
    (λ group. any-stays (is_alternative_met pairs) (is_alternative_met (with_pair pairs name version)) (met-more pairs name version) group) groups h
