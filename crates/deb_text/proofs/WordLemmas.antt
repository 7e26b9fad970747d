-- The words of a text, which spaces and tabs part.
use Rattle.std.proofs.Common.{◌≡◌, ℕ, ◌<◌, Bool, true, false, not, eqb, ne_eqb, List, [], ◌∷◌, ◌++◌, length, refl, sym, ap, ◌∙◌, arith}
use Rattle.std.specs.List.{slice_split, flat_map, onto_first}
use Rattle.std.proofs.lemmas.List.Splits.{length-slice_split, slice_split-cons_yes, slice_split-cons_no}
use Rattle.deb_text.specs.Lines.{is_blank}
use Rattle.deb_text.specs.Lists.{is_nonempty}

-- the parts of a text between spaces
abbrev pub spaces : List ℕ → List (List ℕ)
spaces text = slice_split (λ c. eqb c 32) text

-- the parts of a text between tabs
abbrev pub tabs : List ℕ → List (List ℕ)
tabs text = slice_split (λ c. eqb c 9) text

onto_first-append : (c : ℕ) (xs ys : List (List ℕ)) → 0 < length xs → onto_first c (xs ++ ys) ≡ onto_first c xs ++ ys
onto_first-append c [] ys h = absurd (omega arith)
onto_first-append c (x ∷ xs) ys h = refl

tabs-not_tab : (c : ℕ) (parts : List (List ℕ)) → 0 < length parts → eqb c 9 ≡ false
    → flat_map tabs (onto_first c parts) ≡ onto_first c (flat_map tabs parts)
tabs-not_tab c [] h e = absurd (omega arith)
tabs-not_tab c (p ∷ ps) h e =
    ap (λ xs. xs ++ flat_map tabs ps) (slice_split-cons_no (λ b. eqb b 9) c p e)
    ∙ sym (onto_first-append c (tabs p) (flat_map tabs ps) (omega (arith, length-slice_split (λ b. eqb b 9) p)))

tabs-tab : (c : ℕ) (parts : List (List ℕ)) → 0 < length parts → eqb c 9 ≡ true
    → flat_map tabs (onto_first c parts) ≡ [] ∷ flat_map tabs parts
tabs-tab c [] h e = absurd (omega arith)
tabs-tab c (p ∷ ps) h e = ap (λ xs. xs ++ flat_map tabs ps) (slice_split-cons_yes (λ b. eqb b 9) c p e)

cut_one : (c : ℕ) (cs : List ℕ) (a b : Bool) → eqb c 32 ≡ a → eqb c 9 ≡ b
    → flat_map tabs (spaces cs) ≡ slice_split is_blank cs
    → flat_map tabs (spaces (c ∷ cs)) ≡ slice_split is_blank (c ∷ cs)
cut_one c cs true b s t before = rw (s) (ap (λ xs. [] ∷ xs) before)
cut_one c cs false true s t before =
    rw (s, t) (tabs-tab c (spaces cs) (omega (arith, length-slice_split (λ b. eqb b 32) cs)) t ∙ ap (λ xs. [] ∷ xs) before)
cut_one c cs false false s t before =
    rw (s, t) (tabs-not_tab c (spaces cs) (omega (arith, length-slice_split (λ b. eqb b 32) cs)) t ∙ ap (onto_first c) before)

-- a text that is cut at spaces, and its parts at tabs, is cut at both
pub tabs-spaces : (text : List ℕ) → flat_map tabs (spaces text) ≡ slice_split is_blank text
tabs-spaces [] = refl
tabs-spaces (c ∷ cs) = cut_one c cs (eqb c 32) (eqb c 9) refl refl (tabs-spaces cs)

-- a text that is not empty has a character
pub is_nonempty-length : (text : List ℕ) → not (eqb (length text) 0) ≡ is_nonempty text
is_nonempty-length [] = refl
is_nonempty-length (c ∷ cs) = ap not (ne_eqb (length (c ∷ cs)) 0 (λ h. omega (arith, h)))
