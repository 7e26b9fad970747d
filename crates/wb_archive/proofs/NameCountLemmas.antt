-- Lists of names that stand apart, of which those that pass a test are the same, have as many of them.
use Rattle.std.proofs.Common.{◌≡◌, ℕ, suc, Bool, true, false, cond, not, ◌&&◌, ◌||◌, List, [], ◌∷◌, length, filter, bytes_eq, refl, sym, ap, subst, ◌∙◌}
use Rattle.std.specs.List.{list_any}
use Rattle.std.proofs.lemmas.Cmp.{nat_list_eq_equiv}
use Rattle.wb_merge.proofs.NameLemmas.{IsApart, bytes_eq-is, filter-any, filter-apart}

right-false : (a b : Bool) → (a || b) ≡ false → b ≡ false
right-false true b f = absurd cc
right-false false b f = f

itself-any : (name : List ℕ) (names : List (List ℕ)) → list_any (bytes_eq name) (name ∷ names) ≡ true
itself-any name names = ap (λ b. b || list_any (bytes_eq name) names) (nat_list_eq_equiv.refl name)

-- no name passes
none-pass : (p : List ℕ → Bool) (names : List (List ℕ)) → ((name : List ℕ) → p name ≡ true → list_any (bytes_eq name) names ≡ false) → filter p names ≡ []
none-pass p [] none = refl
none-pass p (name ∷ names) none =
    go (p name) refl (none-pass p names (λ other q. right-false (bytes_eq other name) _ (none other q)))
  where
    go : (b : Bool) → p name ≡ b → filter p names ≡ [] → cond b (name ∷ filter p names) (filter p names) ≡ []
    go true e more = absurd (cc (itself-any name names, none name e))
    go false e more = more

-- a filter by a name that is not there
others-stay : (name : List ℕ) (names : List (List ℕ)) → list_any (bytes_eq name) names ≡ false → filter (λ other. not (bytes_eq name other)) names ≡ names
others-stay name [] e = refl
others-stay name (other ∷ names) e =
    go (bytes_eq name other) e (others-stay name names (right-false (bytes_eq name other) _ e))
  where
    go : (b : Bool) → (b || list_any (bytes_eq name) names) ≡ false → filter (λ o. not (bytes_eq name o)) names ≡ names
        → cond (not b) (other ∷ filter (λ o. not (bytes_eq name o)) names) (filter (λ o. not (bytes_eq name o)) names) ≡ other ∷ names
    go true f more = absurd cc
    go false f more = ap (λ (l : List (List ℕ)). other ∷ l) more

-- one name less
less-one : (p : List ℕ → Bool) (name : List ℕ) (names : List (List ℕ)) → p name ≡ true → IsApart bytes_eq names → list_any (bytes_eq name) names ≡ true
    → length (filter p names) ≡ suc (length (filter p (filter (λ other. not (bytes_eq name other)) names)))
less-one p name [] pass apart there = absurd cc
less-one p name (other ∷ names) pass apart there = go (bytes_eq name other) refl there (less-one p name names pass apart.1) where
  second : (b : Bool) → length (filter p names) ≡ suc (length (filter p (filter (λ o. not (bytes_eq name o)) names)))
      → length (cond b (other ∷ filter p names) (filter p names))
      ≡ suc (length (cond b (other ∷ filter p (filter (λ o. not (bytes_eq name o)) names)) (filter p (filter (λ o. not (bytes_eq name o)) names))))
  second true e = ap suc e
  second false e = e

  go : (b : Bool) → bytes_eq name other ≡ b → (b || list_any (bytes_eq name) names) ≡ true
      → (list_any (bytes_eq name) names ≡ true → length (filter p names) ≡ suc (length (filter p (filter (λ o. not (bytes_eq name o)) names))))
      → length (cond (p other) (other ∷ filter p names) (filter p names))
      ≡ suc (length (filter p (cond (not b) (other ∷ filter (λ o. not (bytes_eq name o)) names) (filter (λ o. not (bytes_eq name o)) names))))
  go true is f more =
      let same : name ≡ other = bytes_eq-is name other is in
      let alone : list_any (bytes_eq name) names ≡ false = subst (λ (n : List ℕ). list_any (bytes_eq n) names ≡ false) (sym same) apart.0 in
      let passed : p other ≡ true = ap p (sym same) ∙ pass in
      ap (λ b. length (cond b (other ∷ filter p names) (filter p names))) passed
      ∙ ap (λ (l : List (List ℕ)). suc (length (filter p l))) (sym (others-stay name names alone))
  go false is f more = second (p other) (more f)

-- what is asked of the names that pass
abbrev HaveSame : (List ℕ → Bool) → List (List ℕ) → List (List ℕ) → Type 0
HaveSame p xs ys = (name : List ℕ) → p name ≡ true → list_any (bytes_eq name) xs ≡ list_any (bytes_eq name) ys

-- the same names pass in both
pub same-count : (p : List ℕ → Bool) (xs ys : List (List ℕ)) → IsApart bytes_eq xs → IsApart bytes_eq ys → HaveSame p xs ys → length (filter p xs) ≡ length (filter p ys)
same-count p [] ys ax ay same = sym (ap (λ (l : List (List ℕ)). length l) (none-pass p ys (λ name pass. sym (same name pass))))
same-count p (x ∷ xs) ys ax ay same = go (p x) refl (λ zs az. same-count p xs zs ax.1 az) where
  without : (name : List ℕ) → p name ≡ true → (b : Bool) → bytes_eq x name ≡ b → list_any (bytes_eq name) xs ≡ (not b && list_any (bytes_eq name) ys)
  without name passed true is = ap (λ (n : List ℕ). list_any (bytes_eq n) xs) (sym (bytes_eq-is x name is)) ∙ ax.0
  without name passed false is = ap (λ b. b || list_any (bytes_eq name) xs) (sym (nat_list_eq_equiv.symm name x ∙ is)) ∙ same name passed

  fails-apart : (name : List ℕ) → p name ≡ true → p x ≡ false → (b : Bool) → bytes_eq name x ≡ b → bytes_eq name x ≡ false
  fails-apart name passed fails true is = absurd (cc (ap p (bytes_eq-is name x is), passed, fails))
  fails-apart name passed fails false is = is

  go : (b : Bool) → p x ≡ b → ((zs : List (List ℕ)) → IsApart bytes_eq zs → HaveSame p xs zs → length (filter p xs) ≡ length (filter p zs))
      → length (cond b (x ∷ filter p xs) (filter p xs)) ≡ length (filter p ys)
  go true pass more =
      ap suc (more (filter (λ other. not (bytes_eq x other)) ys) (filter-apart (λ other. not (bytes_eq x other)) ys ay)
      (λ name passed. without name passed (bytes_eq x name) refl ∙ sym (filter-any (λ other. not (bytes_eq x other)) name ys)))
      ∙ sym (less-one p x ys pass ay (sym (same x pass) ∙ itself-any x xs))
  go false fails more =
      more ys ay (λ name passed. ap (λ b. b || list_any (bytes_eq name) xs) (sym (fails-apart name passed fails (bytes_eq name x) refl)) ∙ same name passed)
