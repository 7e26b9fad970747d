-- The number that a build's version is given is the one that is read from it.
use Rattle.std.proofs.Common.{◌≡◌, ℕ, ◌+◌, ◌*◌, ◌-◌, ◌/◌, ◌%◌, ◌^◌, ◌≤◌, ◌<◌, Bool, true, false, cond, ◌&&◌, List, [], ◌∷◌, ◌++◌, length, reverse, nat_eq, refl, ap, ◌∙◌, arith}
use Rattle.std.specs.Prelude.{codes}
use Rattle.std.specs.List.{list_all}
use Rattle.std.specs.Char.{is_ascii_digit}
use Rattle.std.specs.Fmt.{decimal}
use Rattle.std.proofs.lemmas.Bool.Decides.{nat_tests}
use Rattle.std.proofs.lemmas.Fmt.{decimal_by_steps, decimal_nonempty, length-decimal-le}
use Rattle.std.proofs.lemmas.List.{reverse-append}
use Rattle.std.proofs.lemmas.List.Folds.{list_all-append}
use Rattle.std.proofs.lemmas.List.Sums.{fold-append}
use Rattle.std.proofs.lemmas.Bool.{and_parts}
use Rattle.deb_version.specs.Syntax.{value_of, with_digit}
use Rattle.wb_states.specs.declared.record.Record.{Record}
use Rattle.wb_states.specs.Moves.{build_text_of}
use Rattle.wb_merge.specs.Rows.{rebuild_number}
use Rattle.wb_merge.proofs.SourceLemmas.{number-one, number-two, number-three}

-- ---- one to three digits behind `+b`

-- a text that ends in `+b` and digits, read backwards
backwards : (front digits : List ℕ) → reverse ((front ++ codes "+b") ++ digits) ≡ reverse digits ++ (98 ∷ 43 ∷ reverse front)
backwards front digits =
    reverse-append (front ++ codes "+b") digits ∙ ap (λ (xs : List ℕ). reverse digits ++ xs) (reverse-append front (codes "+b"))

pub rebuild_number-ends : (front digits : List ℕ) → 1 ≤ length digits → length digits ≤ 3 → list_all is_ascii_digit digits ≡ true
    → rebuild_number ((front ++ codes "+b") ++ digits) ≡ value_of digits
unfolding value_of with_digit
rebuild_number-ends front [] some few all = absurd (omega arith)
rebuild_number-ends front (a ∷ []) some few all =
    let one = and_parts (is_ascii_digit a) true all in
    number-one a (98 ∷ 43 ∷ reverse front) ((front ++ codes "+b") ++ (a ∷ [])) (backwards front (a ∷ [])) one.0 refl
    ∙ omega arith
rebuild_number-ends front (a ∷ b ∷ []) some few all =
    let one = and_parts (is_ascii_digit a) (is_ascii_digit b && true) all in
    let two = and_parts (is_ascii_digit b) true one.1 in
    number-two b a (98 ∷ 43 ∷ reverse front) ((front ++ codes "+b") ++ (a ∷ b ∷ [])) (backwards front (a ∷ b ∷ [])) two.0 one.0 refl
    ∙ omega arith
rebuild_number-ends front (a ∷ b ∷ c ∷ []) some few all =
    let one = and_parts (is_ascii_digit a) (is_ascii_digit b && (is_ascii_digit c && true)) all in
    let two = and_parts (is_ascii_digit b) (is_ascii_digit c && true) one.1 in
    let three = and_parts (is_ascii_digit c) true two.1 in
    number-three c b a (98 ∷ 43 ∷ reverse front) ((front ++ codes "+b") ++ (a ∷ b ∷ c ∷ [])) (backwards front (a ∷ b ∷ c ∷ [])) three.0 two.0 one.0 refl
    ∙ omega arith
rebuild_number-ends front (a ∷ b ∷ c ∷ d ∷ more) some few all = absurd (omega arith)

-- ---- the digits that a number is printed as

record Prints (n : ℕ) (digits : List ℕ) : Type 0 where
  all : list_all is_ascii_digit digits ≡ true
  value : value_of digits ≡ n

digit-is : (n : ℕ) → n < 10 → is_ascii_digit (48 + n) ≡ true
digit-is n low = grind (arith, nat_tests)

value-last : (digits : List ℕ) (c : ℕ) → value_of (digits ++ (c ∷ [])) ≡ value_of digits * 10 + (c - 48)
unfolding value_of with_digit
value-last digits c = fold-append with_digit 0 digits (c ∷ [])

prints-one : (n : ℕ) → n < 10 → Prints n ((48 + n) ∷ [])
unfolding value_of with_digit
prints-one n low = record { all = ap (λ (b : Bool). b && true) (digit-is n low); value = omega arith }

prints-more : (n : ℕ) (digits : List ℕ) → 10 ≤ n → Prints (n / 10) digits → Prints n (digits ++ ((48 + n % 10) ∷ []))
prints-more n digits high h =
    let last : n % 10 < 10 = omega arith in
    record {
      all = list_all-append is_ascii_digit digits ((48 + n % 10) ∷ [])
          ∙ (λ i. h.all i && (digit-is (n % 10) last i && true));
      value = value-last digits (48 + n % 10) ∙ ap (λ (m : ℕ). m * 10 + (48 + n % 10 - 48)) h.value ∙ omega arith;
    }

prints-decimal : (n : ℕ) → n < 2 ^ 64 → Prints n (decimal n)
prints-decimal n small = decimal_by_steps Prints prints-one prints-more n small

-- ---- what a build is named

numbered : (current : Record) → 1 ≤ current.number → build_text_of current ≡ (current.version ++ codes "+b") ++ decimal current.number
numbered current some =
    ap (λ (b : Bool). cond b current.version ((current.version ++ codes "+b") ++ decimal current.number)) (there current.number some)
  where
    there : (n : ℕ) → 1 ≤ n → nat_eq n 0 ≡ false
    there n some = grind (arith, nat_tests)

pub rebuild_number-build_text_of : (current : Record) → 1 ≤ current.number → current.number ≤ 999 → rebuild_number (build_text_of current) ≡ current.number
rebuild_number-build_text_of current some few =
    let n = current.number in
    let small : n < 2 ^ 64 = omega arith in
    let prints = prints-decimal n small in
    ap rebuild_number (numbered current some)
    ∙ rebuild_number-ends current.version (decimal n) (decimal_nonempty n small) (length-decimal-le 3 n (omega arith) (omega arith) small) prints.all
    ∙ prints.value
