-- Lists that are cut at the items that pass a test, and texts of one line.
use Rattle.std.proofs.Common.{◌≡◌, ◌∙◌, ap, ap₂, refl, ℕ, Bool, true, false, ◌||◌, cond, List, [], ◌∷◌, ◌++◌, inl, inr}
use Rattle.std.proofs.lemmas.Bool.{cases_Bool, and_from}
use Rattle.std.proofs.lemmas.List.Folds.{list_any-append}
use Rattle.std.proofs.lemmas.List.Sums.{take_while-cons}
use Rattle.std.specs.List.{slice_split, onto_first, list_any, list_all, take_while}
use Rattle.deb_text.specs.Lines.{is_line_feed, IsOneLine}

-- items that do not pass, and then one that does or the end
pub slice_split-run : {X : Type 0} (test : X → Bool) (xs : List X) (y : X) (ys : List X) → list_any test xs ≡ false → test y ≡ true
    → slice_split test (xs ++ y ∷ ys) ≡ xs ∷ slice_split test ys
slice_split-run test [] y ys none one = rw one refl
slice_split-run test (x ∷ xs) y ys none one = elim (cases_Bool (test x)) [
  | inl t ↦ absurd (cc (rw t at none))
  | inr f ↦ rw f (ap (onto_first x) (slice_split-run test xs y ys (rw f at none) one))
]

pub slice_split-end : {X : Type 0} (test : X → Bool) (xs : List X) → list_any test xs ≡ false → slice_split test xs ≡ xs ∷ []
slice_split-end test [] none = refl
slice_split-end test (x ∷ xs) none = elim (cases_Bool (test x)) [
  | inl t ↦ absurd (cc (rw t at none))
  | inr f ↦ rw f (ap (onto_first x) (slice_split-end test xs (rw f at none)))
]

take_while-passes-at : (t : ℕ → Bool) (c : ℕ) (cs : List ℕ) (b : Bool) → t c ≡ b
    → list_all t (take_while t cs) ≡ true
    → list_all t (cond b (c ∷ take_while t cs) []) ≡ true
take_while-passes-at t c cs true e h = and_from (t c) (list_all t (take_while t cs)) e h
take_while-passes-at t c cs false e h = refl

pub take_while-passes : (t : ℕ → Bool) (cs : List ℕ) → list_all t (take_while t cs) ≡ true
take_while-passes t [] = refl
take_while-passes t (c ∷ cs) = ap (list_all t) (take_while-cons t c cs) ∙ take_while-passes-at t c cs (t c) refl (take_while-passes t cs)

-- a text behind another
pub IsOneLine-append : (xs ys : List ℕ) → IsOneLine xs → IsOneLine ys → IsOneLine (xs ++ ys)
IsOneLine-append xs ys h k = list_any-append is_line_feed xs ys ∙ ap₂ (λ a b. a || b) h k
