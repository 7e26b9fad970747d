-- The longest front of a text whose characters pass a test, and what follows it.
use Rattle.std.proofs.Common.{◌≡◌, ℕ, suc, ◌<◌, ◌≤◌, Bool, true, false, cond, List, [], ◌∷◌, ◌++◌, length, take, drop, get_or, refl, sym, ap, ◌∙◌, arith, subst, ◌+◌, take-append-drop}
use Rattle.std.specs.List.{list_all, take_while, prefix_len}
use Rattle.deb_relations.specs.Reader.{skip}
use Rattle.std.proofs.lemmas.List.Sums.{take_while-cons, prefix_len_is}
use Rattle.std.proofs.lemmas.Bool.{and_parts, and_from}

-- an empty text, or one whose first character does not pass
abbrev pub stops : (ℕ → Bool) → List ℕ → Type 0
stops t [] = Unit {0}
stops t (c ∷ cs) = t c ≡ false

-- an empty text, or one whose first character passes
abbrev pub opens : (ℕ → Bool) → List ℕ → Type 0
opens t [] = Unit {0}
opens t (c ∷ cs) = t c ≡ true

pub take_while-skip : (t : ℕ → Bool) (cs : List ℕ) → cs ≡ take_while t cs ++ skip t cs
take_while-skip t cs = sym (take-append-drop (prefix_len t cs) cs)

pub skip-cons : (t : ℕ → Bool) (c : ℕ) (cs : List ℕ) → skip t (c ∷ cs) ≡ cond (t c) (skip t cs) (c ∷ cs)
skip-cons t c cs =
    elim (t c) as (λ v. drop (cond v (1 + prefix_len t cs) 0) (c ∷ cs) ≡ cond v (skip t cs) (c ∷ cs)) [
      | true ↦ let one : 1 + prefix_len t cs ≡ suc (prefix_len t cs) = omega arith in ap (λ (k : ℕ). drop k (c ∷ cs)) one
      | false ↦ refl
    ]

skip-stops-at : (t : ℕ → Bool) (c : ℕ) (cs : List ℕ) (b : Bool) → t c ≡ b → stops t (skip t cs) → stops t (cond b (skip t cs) (c ∷ cs))
skip-stops-at t c cs true e h = h
skip-stops-at t c cs false e h = e

pub skip-stops : (t : ℕ → Bool) (cs : List ℕ) → stops t (skip t cs)
skip-stops t [] = tt
skip-stops t (c ∷ cs) = subst (stops t) (sym (skip-cons t c cs)) (skip-stops-at t c cs (t c) refl (skip-stops t cs))

take_while-none : (t : ℕ → Bool) (cs : List ℕ) → stops t cs → take_while t cs ≡ []
take_while-none t [] s = refl
take_while-none t (c ∷ cs) s = take_while-cons t c cs ∙ ap (λ b. cond b (c ∷ take_while t cs) []) s

pub skip-none : (t : ℕ → Bool) (cs : List ℕ) → stops t cs → skip t cs ≡ cs
skip-none t [] s = refl
skip-none t (c ∷ cs) s = skip-cons t c cs ∙ ap (λ b. cond b (skip t cs) (c ∷ cs)) s

pub take_while-all : (t : ℕ → Bool) (xs rest : List ℕ) → list_all t xs ≡ true → stops t rest → take_while t (xs ++ rest) ≡ xs
take_while-all t [] rest h s = take_while-none t rest s
take_while-all t (x ∷ xs) rest h s =
    let two : (t x ≡ true) × (list_all t xs ≡ true) = and_parts (t x) (list_all t xs) h in
    take_while-cons t x (xs ++ rest) ∙ ap (λ b. cond b (x ∷ take_while t (xs ++ rest)) []) two.0 ∙ ap (λ ys. x ∷ ys) (take_while-all t xs rest two.1 s)

pub skip-front : (t : ℕ → Bool) (xs rest : List ℕ) → list_all t xs ≡ true → skip t (xs ++ rest) ≡ skip t rest
skip-front t [] rest h = refl
skip-front t (x ∷ xs) rest h =
    let two : (t x ≡ true) × (list_all t xs ≡ true) = and_parts (t x) (list_all t xs) h in
    skip-cons t x (xs ++ rest) ∙ ap (λ b. cond b (skip t (xs ++ rest)) (x ∷ (xs ++ rest))) two.0 ∙ skip-front t xs rest two.1

pub skip-all : (t : ℕ → Bool) (xs rest : List ℕ) → list_all t xs ≡ true → stops t rest → skip t (xs ++ rest) ≡ rest
skip-all t xs rest h s = skip-front t xs rest h ∙ skip-none t rest s

pub opens-stops : (p q : ℕ → Bool) (cs : List ℕ) → ((c : ℕ) → p c ≡ true → q c ≡ false) → opens p cs → stops q cs
opens-stops p q [] f h = tt
opens-stops p q (c ∷ cs) f h = f c h

pub opens-weaker : (p q : ℕ → Bool) (cs : List ℕ) → ((c : ℕ) → p c ≡ true → q c ≡ true) → opens p cs → opens q cs
opens-weaker p q [] f h = tt
opens-weaker p q (c ∷ cs) f h = f c h

pub all-weaker : (p q : ℕ → Bool) → ((c : ℕ) → p c ≡ true → q c ≡ true) → (xs : List ℕ) → list_all p xs ≡ true → list_all q xs ≡ true
all-weaker p q f [] h = refl
all-weaker p q f (x ∷ xs) h =
    let two : (p x ≡ true) × (list_all p xs ≡ true) = and_parts (p x) (list_all p xs) h in
    and_from (q x) (list_all q xs) (f x two.0) (all-weaker p q f xs two.1)

pub all-both : (p : ℕ → Bool) (xs ys : List ℕ) → list_all p xs ≡ true → list_all p ys ≡ true → list_all p (xs ++ ys) ≡ true
all-both p [] ys h k = k
all-both p (x ∷ xs) ys h k =
    let two : (p x ≡ true) × (list_all p xs ≡ true) = and_parts (p x) (list_all p xs) h in
    and_from (p x) (list_all p (xs ++ ys)) two.0 (all-both p xs ys two.1 k)

-- a front of a list that passes, up to its end or to an item that does not, is the longest
pub front-is : (t : ℕ → Bool) (cs : List ℕ) (n : ℕ) → n ≤ length cs
    → ((k : ℕ) → k < n → t (get_or cs k 0) ≡ true) → (n < length cs → t (get_or cs n 0) ≡ false)
    → (take n cs ≡ take_while t cs) × (drop n cs ≡ skip t cs)
front-is t cs n h p s =
    let same : n ≡ prefix_len t cs = sym (prefix_len_is t cs n 0 h p s) in
    (ap (λ (k : ℕ). take k cs) same, ap (λ (k : ℕ). drop k cs) same)
