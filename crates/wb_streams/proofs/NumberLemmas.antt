-- Lemmas on the numbers that digits write.
use Rattle.std.proofs.Common.{◌≡◌, ◌∙◌, ◌⊎◌, inl, inr, refl, ap, ap₂, sym, ℕ, zero, suc, ◌+◌, ◌-◌, ◌*◌, ◌<◌, ◌≤◌, true, ◌==◌, List, [], ◌∷◌, length, get_or, arith}
use Rattle.std.specs.Char.{digit_value, is_ascii_digit}
use Rattle.std.specs.List.{list_all}
use Rattle.std.specs.Str.{bytes_eq}
use Rattle.std.specs.Str.Parse.{digits_value, digits_value_after}
use Rattle.std.proofs.lemmas.Bool.{and_parts, cases_Bool, cases_lt, eqb-true, eq-eqb}
use Rattle.std.proofs.lemmas.Bool.Decides.{nat_tests, same_from_decides}
use Rattle.std.proofs.lemmas.Slice.Eq.{bytes_eq-Decides}
use Rattle.std.proofs.lemmas.Str.{digit_value_digit}
use Rattle.wb_streams.specs.Fields.{without_zeros}

-- a digit has its value
pub digit_value-is : (c : ℕ) → is_ascii_digit c ≡ true → (48 ≤ c) × (c ≤ 57) × (digit_value c + 48 ≡ c)
digit_value-is c d =
    let low : 48 ≤ c = grind (arith, nat_tests) in
    let high : c ≤ 57 = grind (arith, nat_tests) in
    (low, high, digit_value_digit c (low, high))

-- as many digits after two numbers write one number only if the numbers are the same, and the digits
pub same_digits : (n m : ℕ) (xs ys : List ℕ) → length xs ≡ length ys
    → list_all is_ascii_digit xs ≡ true → list_all is_ascii_digit ys ≡ true
    → digits_value_after 10 n xs ≡ digits_value_after 10 m ys → (n ≡ m) × (xs ≡ ys)
same_digits n m [] [] long dx dy same = (same, refl)
same_digits n m [] (y ∷ ys) long dx dy same = absurd (omega arith)
same_digits n m (x ∷ xs) [] long dx dy same = absurd (omega arith)
same_digits n m (x ∷ xs) (y ∷ ys) long dx dy same =
    let px = and_parts (is_ascii_digit x) (list_all is_ascii_digit xs) dx in
    let py = and_parts (is_ascii_digit y) (list_all is_ascii_digit ys) dy in
    let rest = same_digits (n * 10 + digit_value x) (m * 10 + digit_value y) xs ys (omega arith) px.1 py.1 same in
    let vx = digit_value-is x px.0 in
    let vy = digit_value-is y py.0 in
    (omega arith, ap₂ (λ c cs. c ∷ cs) (omega arith) rest.1)

-- zeros before digits
abbrev padded : ℕ → List ℕ → List ℕ
padded zero ys = ys
padded (suc k) ys = 48 ∷ padded k ys

length-padded : (k : ℕ) (ys : List ℕ) → length (padded k ys) ≡ k + length ys
length-padded zero ys = omega arith
length-padded (suc k) ys = omega (arith, length-padded k ys)

value-padded : (k : ℕ) (ys : List ℕ) → digits_value_after 10 0 (padded k ys) ≡ digits_value_after 10 0 ys
value-padded zero ys = refl
value-padded (suc k) ys = value-padded k ys

digits-padded : (k : ℕ) (ys : List ℕ) → list_all is_ascii_digit ys ≡ true → list_all is_ascii_digit (padded k ys) ≡ true
digits-padded zero ys d = d
digits-padded (suc k) ys d = digits-padded k ys d

-- digits that do not begin with a zero
abbrev IsStripped : List ℕ → Type 0
IsStripped [] = Unit {0}
IsStripped (c ∷ cs) = ¬ (c ≡ 48)

IsStripped-without_zeros : (ds : List ℕ) → IsStripped (without_zeros ds)
IsStripped-without_zeros [] = tt
IsStripped-without_zeros (d ∷ ds) = elim (cases_Bool (d == 48)) [
  | inl t ↦ rw t (IsStripped-without_zeros ds)
  | inr f ↦ rw f (grind (arith, nat_tests))
]

digits-without_zeros : (ds : List ℕ) → list_all is_ascii_digit ds ≡ true → list_all is_ascii_digit (without_zeros ds) ≡ true
digits-without_zeros [] all = refl
digits-without_zeros (d ∷ ds) all = elim (cases_Bool (d == 48)) [
  | inl t ↦ rw t (digits-without_zeros ds (and_parts (is_ascii_digit d) (list_all is_ascii_digit ds) all).1)
  | inr f ↦ rw f all
]

value-without_zeros : (ds : List ℕ) → digits_value 10 (without_zeros ds) ≡ digits_value 10 ds
value-without_zeros [] = refl
value-without_zeros (d ∷ ds) = elim (cases_Bool (d == 48)) [
  | inl t ↦ let zero_digit : d ≡ 48 = grind (arith, nat_tests) in rw t (value-without_zeros ds ∙ ap (λ c. digits_value 10 (c ∷ ds)) (sym zero_digit))
  | inr f ↦ rw f refl
]

shorter : (c : ℕ) (cs ys : List ℕ) → ¬ (c ≡ 48) → list_all is_ascii_digit (c ∷ cs) ≡ true → list_all is_ascii_digit ys ≡ true
    → length ys < length (c ∷ cs) → digits_value 10 (c ∷ cs) ≡ digits_value 10 ys → ⊥
shorter c cs ys first dx dy less same =
    let gap = length cs - length ys in
    let long : length (c ∷ cs) ≡ length (48 ∷ padded gap ys) = omega (arith, length-padded gap ys) in
    let all = same_digits 0 0 (c ∷ cs) (48 ∷ padded gap ys) long dx (digits-padded gap ys dy) (same ∙ sym (value-padded gap ys)) in
    let heads : get_or (c ∷ cs) 0 0 ≡ get_or (48 ∷ padded gap ys) 0 0 = ap (λ l. get_or l 0 0) all.1 in
    first heads

same_stripped-by : (xs ys : List ℕ) → IsStripped xs → IsStripped ys → list_all is_ascii_digit xs ≡ true → list_all is_ascii_digit ys ≡ true
    → digits_value 10 xs ≡ digits_value 10 ys → (length xs < length ys) ⊎ (length ys ≤ length xs) → xs ≡ ys
same_stripped-by xs [] sx sy dx dy same (inl less) = absurd (omega arith)
same_stripped-by xs (y ∷ ys) sx sy dx dy same (inl less) = absurd (shorter y ys xs sy dy dx less (sym same))
same_stripped-by [] ys sx sy dx dy same (inr more) = (same_digits 0 0 [] ys (omega arith) dx dy same).1
same_stripped-by (x ∷ xs) ys sx sy dx dy same (inr more) = elim (cases_lt (length ys) (length (x ∷ xs))) [
  | inl less ↦ absurd (shorter x xs ys sx dx dy less same)
  | inr equal ↦ (same_digits 0 0 (x ∷ xs) ys (omega arith) dx dy same).1
]

-- two texts of digits write one number exactly if they are the same without the zeros that they begin with
pub same_number : (xs ys : List ℕ) → list_all is_ascii_digit xs ≡ true → list_all is_ascii_digit ys ≡ true
    → bytes_eq (without_zeros xs) (without_zeros ys) ≡ (digits_value 10 xs == digits_value 10 ys)
same_number xs ys dx dy =
    let vx = value-without_zeros xs in
    let vy = value-without_zeros ys in
    let one : digits_value 10 xs ≡ digits_value 10 ys → without_zeros xs ≡ without_zeros ys = λ same.
    same_stripped-by (without_zeros xs) (without_zeros ys) (IsStripped-without_zeros xs) (IsStripped-without_zeros ys)
    (digits-without_zeros xs dx) (digits-without_zeros ys dy) (vx ∙ same ∙ sym vy) (cases_lt (length (without_zeros xs)) (length (without_zeros ys))) in
    let other : without_zeros xs ≡ without_zeros ys → digits_value 10 xs ≡ digits_value 10 ys = λ same. sym vx ∙ ap (digits_value 10) same ∙ vy in
    same_from_decides {P = without_zeros xs ≡ without_zeros ys} (bytes_eq (without_zeros xs) (without_zeros ys)) (digits_value 10 xs == digits_value 10 ys)
    (bytes_eq-Decides (without_zeros xs) (without_zeros ys))
    (λ e. one (eqb-true (digits_value 10 xs) (digits_value 10 ys) e), λ p. eq-eqb (digits_value 10 xs) (digits_value 10 ys) (other p))

-- each of a text of digits is one
pub digit_at : (ds : List ℕ) (i : ℕ) → list_all is_ascii_digit ds ≡ true → i < length ds
    → (48 ≤ get_or ds i 0) × (get_or ds i 0 ≤ 57) × (digit_value (get_or ds i 0) + 48 ≡ get_or ds i 0)
digit_at [] i all within = absurd (omega arith)
digit_at (d ∷ ds) zero all within = digit_value-is d (and_parts (is_ascii_digit d) (list_all is_ascii_digit ds) all).0
digit_at (d ∷ ds) (suc i) all within = digit_at ds i (and_parts (is_ascii_digit d) (list_all is_ascii_digit ds) all).1 (omega arith)
