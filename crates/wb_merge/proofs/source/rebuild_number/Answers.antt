use Rattle.std.proofs.Common.{◌≡◌, ◌∙◌, sym, ap, cond, ℕ, reverse, List, ◌∷◌, ◌+◌, ◌*◌, ◌-◌, arith}
use Rattle.wb_merge.specs.Backwards.{begins_plus_b}
use Rattle.wb_merge.proofs.SourceLemmas.{number-none, number-one, number-two, number-three, number-more}
use Rattle.wb_merge.proofs.source.rebuild_number.Goals as goal

-- a number behind a text, where another is equal to it
number_at : (rest : List ℕ) (m n : ℕ) → m ≡ n → cond (begins_plus_b rest) m 0 ≡ cond (begins_plus_b rest) n 0
number_at rest m n e = ap (λ (k : ℕ). cond (begins_plus_b rest) k 0) e

-- a text that ends in one byte, then in two
more : (text : List ℕ) (a : ℕ) (front rest : List ℕ) → text ≡ a ∷ front → front ≡ rest → text ≡ a ∷ rest
more text a front rest e f = e ∙ ap (λ (xs : List ℕ). a ∷ xs) f

pub returns-in_default : goal.returns-in_default
returns-in_default c = sym (number-none c.args.version.now (rw c.as_bytes.ensures.value at c.in_default.ensures.none))

pub returns-in_default-last_digit : goal.returns-in_default-last_digit
returns-in_default-last_digit c =
    let one : reverse c.args.version.now ≡ c.in-Some.ones ∷ reverse c.in-Some.front.now = ap reverse (sym c.as_bytes.ensures.value) ∙ c.in-Some.ensures.rest in
    c.number_behind.ensures
    ∙ number_at (reverse c.in-Some.front.now) _ (c.in-Some.ones - 48) c.from-number.ensures
    ∙ sym (number-one c.in-Some.ones (reverse c.in-Some.front.now) c.args.version.now one c.in-Some.ensures.digit c.in_default-last_digit.ensures.none)

pub returns-in_default-last_digit-2 : goal.returns-in_default-last_digit-2
returns-in_default-last_digit-2 c =
    let one : reverse c.args.version.now ≡ c.in-Some.ones ∷ reverse c.in-Some.front.now = ap reverse (sym c.as_bytes.ensures.value) ∙ c.in-Some.ensures.rest in
    c.number_behind-in_default-last_digit-2.ensures
    ∙ number_at (reverse c.in-Some-last_digit.before_tens.now) _ ((c.in-Some-last_digit.tens - 48) * 10 + (c.in-Some.ones - 48)) (omega (arith, c.from.ensures, c.from-number.ensures))
    ∙ sym (number-two c.in-Some.ones c.in-Some-last_digit.tens (reverse c.in-Some-last_digit.before_tens.now) c.args.version.now
    (more _ c.in-Some.ones _ _ one c.in-Some-last_digit.ensures.rest)
    c.in-Some.ensures.digit c.in-Some-last_digit.ensures.digit c.in_default-last_digit-2.ensures.none)

pub returns-in-Some-last_digit-3 : goal.returns-in-Some-last_digit-3
returns-in-Some-last_digit-3 c =
    let one : reverse c.args.version.now ≡ c.in-Some.ones ∷ reverse c.in-Some.front.now = ap reverse (sym c.as_bytes.ensures.value) ∙ c.in-Some.ensures.rest in
    let three : reverse c.in-Some.front.now ≡ c.in-Some-last_digit.tens ∷ c.in-Some-last_digit-2.hundreds ∷ reverse c.in-Some-last_digit-2.before_hundreds.now =
    more _ c.in-Some-last_digit.tens _ _ c.in-Some-last_digit.ensures.rest c.in-Some-last_digit-2.ensures.rest in
    sym (number-more c.in-Some.ones c.in-Some-last_digit.tens c.in-Some-last_digit-2.hundreds c.in-Some-last_digit-3.field-0.0 (reverse c.in-Some-last_digit-3.field-0.1.now) c.args.version.now
    (more _ c.in-Some.ones _ _ one (three ∙ ap (λ (xs : List ℕ). c.in-Some-last_digit.tens ∷ c.in-Some-last_digit-2.hundreds ∷ xs) c.in-Some-last_digit-3.ensures.rest))
    c.in-Some.ensures.digit c.in-Some-last_digit.ensures.digit c.in-Some-last_digit-2.ensures.digit c.in-Some-last_digit-3.ensures.digit)

pub returns-in-None : goal.returns-in-None
returns-in-None c =
    let one : reverse c.args.version.now ≡ c.in-Some.ones ∷ reverse c.in-Some.front.now = ap reverse (sym c.as_bytes.ensures.value) ∙ c.in-Some.ensures.rest in
    let three : reverse c.in-Some.front.now ≡ c.in-Some-last_digit.tens ∷ c.in-Some-last_digit-2.hundreds ∷ reverse c.in-Some-last_digit-2.before_hundreds.now =
    more _ c.in-Some-last_digit.tens _ _ c.in-Some-last_digit.ensures.rest c.in-Some-last_digit-2.ensures.rest in
    c.number_behind-in-None.ensures
    ∙ number_at (reverse c.in-Some-last_digit-2.before_hundreds.now) _
    ((c.in-Some-last_digit-2.hundreds - 48) * 100 + ((c.in-Some-last_digit.tens - 48) * 10 + (c.in-Some.ones - 48))) (omega (arith, c.from.ensures, c.from-2.ensures, c.from-number.ensures))
    ∙ sym (number-three c.in-Some.ones c.in-Some-last_digit.tens c.in-Some-last_digit-2.hundreds (reverse c.in-Some-last_digit-2.before_hundreds.now) c.args.version.now
    (more _ c.in-Some.ones _ _ one three)
    c.in-Some.ensures.digit c.in-Some-last_digit.ensures.digit c.in-Some-last_digit-2.ensures.digit c.in-None.ensures.none)
