-- Texts that are cut at a character.
use Rattle.std.proofs.Common.{◌≡◌, ◌≢◌, ℕ, ◌<◌, Bool, true, false, cond, not, ◌&&◌, eqb, List, [], ◌∷◌, ◌++◌, length, refl, ap, subst, ◌∙◌, arith, Option, Some, None, length-append, eq-eqb}
use Rattle.std.specs.List.{list_all, slice_split, onto_first}
use Rattle.std.proofs.lemmas.Bool.Decides.{nat_tests}
use Rattle.deb_relations.specs.Reader.{strip, cut, onto_front}

eqb-same : (x c : ℕ) → eqb x c ≡ true → x ≡ c
eqb-same x c h = grind (arith, nat_tests)

strip-join-at : (x c : ℕ) (xs b : List ℕ) (v : Bool) → eqb x c ≡ v → cond v (Some xs) None ≡ Some b → x ∷ xs ≡ c ∷ b
strip-join-at x c xs b true e h =
    let same : x ≡ c = eqb-same x c e in
    let rest : xs ≡ b = cc in
    cc
strip-join-at x c xs b false e h = absurd (cc)

-- a text from which a first character was taken
pub strip-join : (c : ℕ) (t b : List ℕ) → strip c t ≡ Some b → t ≡ c ∷ b
strip-join c [] b h = absurd (cc)
strip-join c (x ∷ xs) b h = strip-join-at x c xs b (eqb x c) refl h

pub strip-here : (c : ℕ) (b : List ℕ) → strip c (c ∷ b) ≡ Some b
strip-here c b = ap (λ v. cond v (Some b) None) (eq-eqb c c refl)

pub strip-other : (c : ℕ) (t : List ℕ) → ((b : List ℕ) → t ≢ c ∷ b) → strip c t ≡ None
strip-other c [] h = refl
strip-other c (x ∷ xs) h =
    elim (eqb x c) as (λ v. eqb x c ≡ v → cond v (Some xs) None ≡ None) [
      | true ↦ λ e. absurd (h xs (ap (λ y. y ∷ xs) (eqb-same x c e)))
      | false ↦ λ e. refl
    ] refl

abbrev pub Halves : Type 0
Halves = List ℕ × List ℕ

pub record IsCut (c : ℕ) (t : List ℕ) (p : Halves) : Type 0 where
  pub join : t ≡ p.0 ++ (c ∷ p.1)
  pub step : slice_split (λ b. eqb b c) t ≡ p.0 ∷ slice_split (λ b. eqb b c) p.1

cut-behind : (c x : ℕ) (xs : List ℕ) (o : Option Halves) → ((q : Halves) → o ≡ Some q → IsCut c xs q) → (p : Halves) → eqb x c ≡ false → onto_front x o ≡ Some p → IsCut c (x ∷ xs) p
cut-behind c x xs None f p e h = absurd (cc)
cut-behind c x xs (Some q) f p e h =
    let made : ◌≡◌ {A = Halves} (x ∷ q.0, q.1) p = cc in
    let here = f q refl in
    subst (λ (r : Halves). IsCut c (x ∷ xs) r) made (record {
      join = ap (λ ys. x ∷ ys) here.join;
      step = ap (λ v. cond v ([] ∷ slice_split (λ b. eqb b c) xs) (onto_first x (slice_split (λ b. eqb b c) xs))) e ∙ ap (onto_first x) here.step;
    })

cut-first : (c x : ℕ) (xs : List ℕ) (v : Bool) → eqb x c ≡ v → ((q : Halves) → cut c xs ≡ Some q → IsCut c xs q) → (p : Halves) → cond v (Some ([], xs)) (onto_front x (cut c xs)) ≡ Some p → IsCut c (x ∷ xs) p
cut-first c x xs true e f p h =
    let made : ◌≡◌ {A = Halves} ([], xs) p = cc in
    let same : x ≡ c = eqb-same x c e in
    subst (λ (r : Halves). IsCut c (x ∷ xs) r) made (record {
      join = ap (λ y. y ∷ xs) same;
      step = ap (λ v. cond v ([] ∷ slice_split (λ b. eqb b c) xs) (onto_first x (slice_split (λ b. eqb b c) xs))) e;
    })
cut-first c x xs false e f p h = cut-behind c x xs (cut c xs) f p e h

-- a text that was cut is its halves round the character, and its pieces are the first half and the pieces of the second
pub cut-is : (c : ℕ) (t : List ℕ) (p : Halves) → cut c t ≡ Some p → IsCut c t p
cut-is c [] p h = absurd (cc)
cut-is c (x ∷ xs) p h = cut-first c x xs (eqb x c) refl (cut-is c xs) p h

pub cut-shorter : (c : ℕ) (t : List ℕ) (p : Halves) → cut c t ≡ Some p → length p.1 < length t
cut-shorter c t p h = rw (cut-is c t p h).join (simp length-append (omega arith))

-- a text that is not cut is its one piece
last-behind : (c x : ℕ) (xs : List ℕ) (o : Option Halves) → onto_front x o ≡ None → o ≡ None
last-behind c x xs None h = refl
last-behind c x xs (Some q) h = absurd (cc)

last-first : (c x : ℕ) (xs : List ℕ) (v : Bool) → eqb x c ≡ v → (cut c xs ≡ None → slice_split (λ b. eqb b c) xs ≡ xs ∷ []) → cond v (Some ([], xs)) (onto_front x (cut c xs)) ≡ None → slice_split (λ b. eqb b c) (x ∷ xs) ≡ (x ∷ xs) ∷ []
last-first c x xs true e f h = absurd (cc)
last-first c x xs false e f h =
    ap (λ v. cond v ([] ∷ slice_split (λ b. eqb b c) xs) (onto_first x (slice_split (λ b. eqb b c) xs))) e
    ∙ ap (onto_first x) (f (last-behind c x xs (cut c xs) h))

pub split-last : (c : ℕ) (t : List ℕ) → cut c t ≡ None → slice_split (λ b. eqb b c) t ≡ t ∷ []
split-last c [] h = refl
split-last c (x ∷ xs) h = last-first c x xs (eqb x c) refl (split-last c xs) h

-- a text without the character, the character, and the rest
pub cut-here : (c : ℕ) (xs ys : List ℕ) → list_all (λ x. not (eqb x c)) xs ≡ true → cut c (xs ++ (c ∷ ys)) ≡ Some (xs, ys)
cut-here c [] ys h = ap (λ v. cond v (Some ([], ys)) (onto_front c (cut c ys))) (eq-eqb c c refl)
cut-here c (x ∷ xs) ys h =
    elim (eqb x c) as (λ v. (not v && list_all (λ x. not (eqb x c)) xs) ≡ true → cond v (Some ([], xs ++ (c ∷ ys))) (onto_front x (cut c (xs ++ (c ∷ ys)))) ≡ Some (x ∷ xs, ys)) [
      | true ↦ λ k. absurd (cc)
      | false ↦ λ k. ap (onto_front x) (cut-here c xs ys k)
    ] h

pub split-here : (c : ℕ) (xs ys : List ℕ) → list_all (λ x. not (eqb x c)) xs ≡ true → slice_split (λ b. eqb b c) (xs ++ (c ∷ ys)) ≡ xs ∷ slice_split (λ b. eqb b c) ys
split-here c xs ys h = (cut-is c (xs ++ (c ∷ ys)) (xs, ys) (cut-here c xs ys h)).step

-- a text without the character
pub cut-none : (c : ℕ) (xs : List ℕ) → list_all (λ x. not (eqb x c)) xs ≡ true → cut c xs ≡ None
cut-none c [] h = refl
cut-none c (x ∷ xs) h =
    elim (eqb x c) as (λ v. (not v && list_all (λ x. not (eqb x c)) xs) ≡ true → cond v (Some ([], xs)) (onto_front x (cut c xs)) ≡ None) [
      | true ↦ λ k. absurd (cc)
      | false ↦ λ k. ap (onto_front x) (cut-none c xs k)
    ] h

pub split-none : (c : ℕ) (xs : List ℕ) → list_all (λ x. not (eqb x c)) xs ≡ true → slice_split (λ b. eqb b c) xs ≡ xs ∷ []
split-none c xs h = split-last c xs (cut-none c xs h)

-- the front of a text that was cut has no such character
clear-behind : (c x : ℕ) (xs : List ℕ) (o : Option Halves) → ((q : Halves) → o ≡ Some q → list_all (λ b. not (eqb b c)) q.0 ≡ true) → (p : Halves) → eqb x c ≡ false → onto_front x o ≡ Some p → list_all (λ b. not (eqb b c)) p.0 ≡ true
clear-behind c x xs None f p e h = absurd (cc)
clear-behind c x xs (Some q) f p e h =
    let made : ◌≡◌ {A = Halves} (x ∷ q.0, q.1) p = cc in
    subst (λ (r : Halves). list_all (λ b. not (eqb b c)) r.0 ≡ true) made (ap (λ v. not v && list_all (λ b. not (eqb b c)) q.0) e ∙ f q refl)

clear-first : (c x : ℕ) (xs : List ℕ) (v : Bool) → eqb x c ≡ v → ((q : Halves) → cut c xs ≡ Some q → list_all (λ b. not (eqb b c)) q.0 ≡ true) → (p : Halves) → cond v (Some ([], xs)) (onto_front x (cut c xs)) ≡ Some p → list_all (λ b. not (eqb b c)) p.0 ≡ true
clear-first c x xs true e f p h =
    let made : ◌≡◌ {A = Halves} ([], xs) p = cc in
    subst (λ (r : Halves). list_all (λ b. not (eqb b c)) r.0 ≡ true) made refl
clear-first c x xs false e f p h = clear-behind c x xs (cut c xs) f p e h

pub cut-clear : (c : ℕ) (t : List ℕ) (p : Halves) → cut c t ≡ Some p → list_all (λ b. not (eqb b c)) p.0 ≡ true
cut-clear c [] p h = absurd (cc)
cut-clear c (x ∷ xs) p h = clear-first c x xs (eqb x c) refl (cut-clear c xs) p h
