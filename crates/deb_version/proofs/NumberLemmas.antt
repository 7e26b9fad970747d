-- Lemmas on the number that decimal digits write.
use Rattle.std.proofs.Common.{◌≢◌, true, sym, length, get_or, take, drop, ap, ◌∙◌, ◌≡◌, ℕ, ◌+◌, ◌-◌, ◌*◌, ◌<◌, ◌≤◌, List, [], ◌∷◌, refl, arith}
use Rattle.std.specs.List.{list_all}
use Rattle.std.specs.Char.{is_ascii_digit}
use Rattle.std.proofs.lemmas.List.{take_all}
use Rattle.std.proofs.lemmas.Bool.Decides.{nat_tests}
use Rattle.std.specs.declared.cmp.Ordering.{Ordering}
use Rattle.std.specs.declared.cmp.Ordering.TheVariants.{Less, Equal, Greater}
use Rattle.std.specs.Ordering.{ordering_then, nat_cmp}
use Rattle.std.specs.Cmp.Lexicographic.{slice_cmp}
use Rattle.std.proofs.lemmas.Cmp.{by_ranked, ranked}
use Rattle.std.proofs.lemmas.Bool.{and_parts}
use Rattle.deb_version.specs.Syntax.{with_digit, value_after, value_of}

-- a digit more makes no number smaller
with_digit-ge : (n c : ℕ) → n ≤ with_digit n c
unfolding with_digit
with_digit-ge n c = omega arith

-- nor do more digits
pub value_after_grows : (n : ℕ) (digits : List ℕ) → n ≤ value_after n digits
value_after_grows n [] = omega arith
value_after_grows n (c ∷ cs) = omega (arith, with_digit-ge n c, value_after_grows (with_digit n c) cs)

pub value_of-is : (digits : List ℕ) → value_of digits ≡ value_after 0 digits
unfolding value_of
value_of-is digits = refl

pub with_digit-is : (n c : ℕ) → with_digit n c ≡ n * 10 + (c - 48)
unfolding with_digit
with_digit-is n c = refl

-- the first digit of a text of digits, and the digits after it
pub record DigitStep (n : ℕ) (digits : List ℕ) : Type 0 where
  pub value : value_after (n * 10 + (get_or digits 0 0 - 48)) (take (length digits - 1) (drop 1 digits)) ≡ value_after n digits
  pub others : list_all is_ascii_digit (take (length digits - 1) (drop 1 digits)) ≡ true
  pub low : 48 ≤ get_or digits 0 0
  pub high : get_or digits 0 0 ≤ 57
  pub next : with_digit n (get_or digits 0 0) ≤ value_after n digits

all-taken : (x : ℕ) (xs : List ℕ) → take (length (x ∷ xs) - 1) xs ≡ xs
all-taken x xs = take_all (length (x ∷ xs) - 1) xs (omega arith)

pub digit_step : (n : ℕ) (digits : List ℕ) → 1 ≤ length digits → list_all is_ascii_digit digits ≡ true → DigitStep n digits
digit_step n [] h d = absurd (omega arith)
digit_step n (c ∷ cs) h d =
    let two = and_parts (is_ascii_digit c) (list_all is_ascii_digit cs) d in
    let one : is_ascii_digit c ≡ true = two.0 in
    record {
      value = ap (value_after (n * 10 + (c - 48))) (all-taken c cs) ∙ ap (λ m. value_after m cs) (sym (with_digit-is n c));
      others = ap (list_all is_ascii_digit) (all-taken c cs) ∙ two.1;
      low = grind (arith, nat_tests);
      high = grind (arith, nat_tests);
      next = value_after_grows (with_digit n c) cs;
    }

-- a zero before other digits says nothing
pub value_of-zero : (digits : List ℕ) → value_of (48 ∷ digits) ≡ value_of digits
unfolding value_of with_digit
value_of-zero digits = refl

pub record ZeroStep (digits : List ℕ) : Type 0 where
  pub value : value_of (take (length digits - 1) (drop 1 digits)) ≡ value_of digits
  pub others : list_all is_ascii_digit digits ≡ true → list_all is_ascii_digit (take (length digits - 1) (drop 1 digits)) ≡ true

pub zero_step : (digits : List ℕ) → 1 ≤ length digits → get_or digits 0 0 ≡ 48 → ZeroStep digits
zero_step [] h e = absurd (omega arith)
zero_step (c ∷ cs) h e = record {
  value = ap value_of (all-taken c cs) ∙ sym (value_of-zero cs) ∙ ap (λ d. value_of (d ∷ cs)) (sym e);
  others = λ d. ap (list_all is_ascii_digit) (all-taken c cs) ∙ (and_parts (is_ascii_digit c) (list_all is_ascii_digit cs) d).1;
}

then-equal : (o : Ordering) → o ≡ ordering_then o Equal
then-equal Less = refl
then-equal Equal = refl
then-equal Greater = refl

digit-high : (c : ℕ) → is_ascii_digit c ≡ true → c ≤ 57
digit-high c e = grind (arith, nat_tests)

digit-low : (c : ℕ) → is_ascii_digit c ≡ true → 48 ≤ c
digit-low c e = grind (arith, nat_tests)

-- fewer digits after a smaller number write a smaller number
pub value_after-below : (m n : ℕ) (xs ys : List ℕ) → m < n → length xs ≤ length ys → list_all is_ascii_digit xs ≡ true → value_after m xs < value_after n ys
value_after-below m n [] ys h l d = omega (arith, value_after_grows n ys)
value_after-below m n (x ∷ xs) [] h l d = absurd (omega arith)
value_after-below m n (x ∷ xs) (y ∷ ys) h l d =
    let two = and_parts (is_ascii_digit x) (list_all is_ascii_digit xs) d in
    let high : x ≤ 57 = digit-high x two.0 in
    value_after-below (with_digit m x) (with_digit n y) xs ys (omega (arith, with_digit-is m x, with_digit-is n y)) (omega arith) two.1

ordering_then-assoc : (a b c : Ordering) → ordering_then (ordering_then a b) c ≡ ordering_then a (ordering_then b c)
ordering_then-assoc Less b c = refl
ordering_then-assoc Equal b c = refl
ordering_then-assoc Greater b c = refl

-- one digit more: the numbers before decide, and then the digits
digit-cmp : (m n x y : ℕ) → 48 ≤ x → x ≤ 57 → 48 ≤ y → y ≤ 57 → nat_cmp (with_digit m x) (with_digit n y) ≡ ordering_then (nat_cmp m n) (nat_cmp x y)
unfolding with_digit
digit-cmp m n x y a b c d =
    by_ranked (m < n) (m ≡ n) (n < m) (nat_cmp m n) (ranked m n (nat_cmp m n) refl)
    (λ e lt. rw e (grind (arith, nat_tests)))
    (λ e eq. rw e (grind (arith, nat_tests)))
    (λ e gt. rw e (grind (arith, nat_tests)))

-- numbers of equally many digits compare as their digits do
pub value_after-same_length : (m n : ℕ) (xs ys : List ℕ) → length xs ≡ length ys → list_all is_ascii_digit xs ≡ true → list_all is_ascii_digit ys ≡ true
    → nat_cmp (value_after m xs) (value_after n ys) ≡ ordering_then (nat_cmp m n) (slice_cmp nat_cmp xs ys)
value_after-same_length m n [] [] l d e = then-equal (nat_cmp m n)
value_after-same_length m n [] (y ∷ ys) l d e = absurd (omega arith)
value_after-same_length m n (x ∷ xs) [] l d e = absurd (omega arith)
value_after-same_length m n (x ∷ xs) (y ∷ ys) l d e =
    let left = and_parts (is_ascii_digit x) (list_all is_ascii_digit xs) d in
    let right = and_parts (is_ascii_digit y) (list_all is_ascii_digit ys) e in
    value_after-same_length (with_digit m x) (with_digit n y) xs ys (omega arith) left.1 right.1
    ∙ ap (λ o. ordering_then o (slice_cmp nat_cmp xs ys)) (digit-cmp m n x y (digit-low x left.0) (digit-high x left.0) (digit-low y right.0) (digit-high y right.0))
    ∙ ordering_then-assoc (nat_cmp m n) (nat_cmp x y) (slice_cmp nat_cmp xs ys)

shorter-below : (xs ys : List ℕ) → length xs < length ys → list_all is_ascii_digit xs ≡ true → list_all is_ascii_digit ys ≡ true → get_or ys 0 0 ≢ 48 → value_of xs < value_of ys
unfolding value_of
shorter-below xs [] l d e z = absurd (omega arith)
shorter-below xs (y ∷ ys) l d e z =
    let low : 48 ≤ y = digit-low y (and_parts (is_ascii_digit y) (list_all is_ascii_digit ys) e).0 in
    value_after-below 0 (with_digit 0 y) xs ys (omega (arith, with_digit-is 0 y)) (omega arith) d

same-length : (xs ys : List ℕ) → length xs ≡ length ys → list_all is_ascii_digit xs ≡ true → list_all is_ascii_digit ys ≡ true → nat_cmp (value_of xs) (value_of ys) ≡ slice_cmp nat_cmp xs ys
unfolding value_of
same-length xs ys l d e = value_after-same_length 0 0 xs ys l d e

-- numbers without zeros before their digits compare by the lengths of their digits, and then by the digits
pub value_of-cmp : (xs ys : List ℕ) → list_all is_ascii_digit xs ≡ true → list_all is_ascii_digit ys ≡ true → get_or xs 0 0 ≢ 48 → get_or ys 0 0 ≢ 48
    → nat_cmp (value_of xs) (value_of ys) ≡ ordering_then (nat_cmp (length xs) (length ys)) (slice_cmp nat_cmp xs ys)
value_of-cmp xs ys d e x y =
    let m : ℕ = length xs in
    let n : ℕ = length ys in
    by_ranked (m < n) (m ≡ n) (n < m) (nat_cmp m n) (ranked m n (nat_cmp m n) refl)
    (λ o lt. let less = shorter-below xs ys lt d e y in rw o (grind (arith, nat_tests)))
    (λ o eq. rw o (same-length xs ys eq d e))
    (λ o gt. let less = shorter-below ys xs gt e d x in rw o (grind (arith, nat_tests)))

-- an answer that decides stays, whatever comes next
pub then-decided : (o p : Ordering) → (o ≡ Equal → ⊥) → o ≡ ordering_then o p
then-decided Less p h = refl
then-decided Equal p h = absurd (h refl)
then-decided Greater p h = refl
