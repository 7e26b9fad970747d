-- The text that names a source package, and the number at the end of a version.
use Rattle.std.proofs.Common.{◌≡◌, ◌≢◌, ◌+◌, ◌*◌, ◌-◌, ℕ, suc, true, false, cond, eqb, length, reverse, List, [], ◌∷◌, ◌++◌, Bor, MatchOption, Option, Some, None, option_copied, refl, sym, ap, ◌∙◌, arith, ltb, Bool, drop, take}
use Rattle.std.specs.Prelude.{codes, bytes_eq, nat_le, nat_eq}
use Rattle.std.specs.List.{list_any, position_or_len, take_while, ends_with, starts_with}
use Rattle.std.specs.Char.{is_ascii_digit}
use Rattle.std.proofs.lemmas.Bool.Decides.{nat_tests, Decides-eqb}
use Rattle.std.proofs.lemmas.List.{reverse-append, reverse-reverse, length-reverse}
use Rattle.deb_version.specs.Syntax.{value_of, with_digit}
use Rattle.deb_version.proofs.CutLemmas.{list_any-first}
use Rattle.wb_merge.specs.Rows.{is_space, in_brackets, last_digits, rebuild_number}
use Rattle.wb_merge.specs.Backwards.{begins_plus_b}
use Rattle.std.proofs.lemmas.List.Sums.{take_while-cons}
use Rattle.deb_text.specs.Lists.{begins}
use Rattle.std.proofs.lemmas.Slice.Eq.{starts_is, ends_is}

-- ---- the space and the brackets

before_end : (m n : ℕ) → m ≡ n → ltb m n ≡ false
before_end m n e = grind (arith, nat_tests)

pub no_space : (text : List ℕ) → position_or_len (λ b. eqb b 32) text ≡ length text → list_any is_space text ≡ false
no_space text none = list_any-first is_space text ∙ before_end _ _ none

bracket_test : (c : ℕ) → c ≢ 40 → bytes_eq (c ∷ []) (codes "(") ≡ false
bracket_test c other = grind (arith, nat_tests)

closing_test : (c : ℕ) → c ≢ 41 → bytes_eq (c ∷ []) (codes ")") ≡ false
closing_test c other = grind (arith, nat_tests)

-- a text that begins with no bracket
pub not_opened : (text : List ℕ) → ((rest : List ℕ) → text ≢ 40 ∷ rest) → in_brackets text ≡ None
not_opened [] none = refl
not_opened (c ∷ cs) none = rw (bracket_test c (λ e. none cs (ap (λ (x : ℕ). x ∷ cs) e))) refl

-- a text that ends with this character, read backwards
pub last_is : (text : List ℕ) (c : ℕ) (rest : List ℕ) → reverse text ≡ c ∷ rest → text ≡ reverse rest ++ c ∷ []
last_is text c rest is = sym (reverse-reverse text) ∙ (ap reverse is ∙ reverse-append (c ∷ []) rest)

-- what stands behind the bracket, read backwards, does not begin with the closing one
not_closed : (inner backwards : List ℕ) → reverse inner ≡ backwards → ((front : List ℕ) → inner ≢ front ++ 41 ∷ []) → in_brackets (40 ∷ inner) ≡ None
not_closed inner [] e none = rw e refl
not_closed inner (c ∷ cs) e none =
    rw e (rw (closing_test c (λ s. none (reverse cs) (last_is inner c cs e ∙ ap (λ (x : ℕ). reverse cs ++ x ∷ []) s))) refl)

pub closed : (inner front : List ℕ) → inner ≡ front ++ 41 ∷ [] → in_brackets (40 ∷ inner) ≡ Some front
closed inner front e = rw (e, reverse-append front (41 ∷ [])) (ap (λ (x : List ℕ). Some x) (reverse-reverse front))

pub opened : (text inner : List ℕ) (r : Option (Bor (List ℕ))) → text ≡ 40 ∷ inner
    → MatchOption r ((front : List ℕ) → inner ≢ front ++ 41 ∷ []) (λ x. inner ≡ x.now ++ 41 ∷ []) → option_copied r ≡ in_brackets text
opened text inner None e none = sym (ap in_brackets e ∙ not_closed inner (reverse inner) refl none)
opened text inner (Some x) e is = sym (ap in_brackets e ∙ closed inner x.now is)

-- ---- the number at the end of a version

no_more : (rest : List ℕ) → begins is_ascii_digit rest ≡ false → take_while is_ascii_digit rest ≡ []
no_more [] none = refl
no_more (c ∷ cs) none = take_while-cons is_ascii_digit c cs ∙ ap (λ (b : Bool). cond b (c ∷ take_while is_ascii_digit cs) []) none

-- a digit, and the digits behind it
one_more : (c : ℕ) (rest : List ℕ) → is_ascii_digit c ≡ true → take_while is_ascii_digit (c ∷ rest) ≡ c ∷ take_while is_ascii_digit rest
one_more c rest is = take_while-cons is_ascii_digit c rest ∙ ap (λ (b : Bool). cond b (c ∷ take_while is_ascii_digit rest) []) is

-- no digit at the end
pub number-none : (version : List ℕ) → begins is_ascii_digit (reverse version) ≡ false → rebuild_number version ≡ 0
unfolding rebuild_number last_digits
number-none version none = rw (no_more (reverse version) none) refl

-- what stands before one, two or three digits at the end
eqb-refl : (c : ℕ) → eqb c c ≡ true
eqb-refl c = grind (arith, nat_tests)

-- a text ends in what it begins with when both are read from their ends
same-test : (a b : Bool) → (a ≡ true → b ≡ true) → (b ≡ true → a ≡ true) → a ≡ b
same-test true b there back = sym (there refl)
same-test false true there back = back refl
same-test false false there back = refl

ends_with-reverse : (text end : List ℕ) → ends_with nat_eq text end ≡ starts_with nat_eq (reverse text) (reverse end)
ends_with-reverse text end =
    let ends = ends_is Decides-eqb text end (ends_with nat_eq text end) refl in
    let starts = starts_is Decides-eqb (reverse text) (reverse end) (starts_with nat_eq (reverse text) (reverse end)) refl in
    same-test (ends_with nat_eq text end) (starts_with nat_eq (reverse text) (reverse end))
    (λ e. starts.1 _ (ap reverse (ends.0 e) ∙ reverse-append (take (length text - length end) text) end))
    (λ e. ends.1 (reverse (drop (length (reverse end)) (reverse text)))
    (sym (reverse-reverse text) ∙ ap reverse (starts.0 e) ∙ reverse-append (reverse end) (drop (length (reverse end)) (reverse text))
    ∙ ap (λ (x : List ℕ). reverse (drop (length (reverse end)) (reverse text)) ++ x) (reverse-reverse end)))

starts-one : (a : ℕ) (rest : List ℕ) → starts_with nat_eq (a ∷ rest) (a ∷ 98 ∷ 43 ∷ []) ≡ begins_plus_b rest
starts-one a [] = rw (eqb-refl a) refl
starts-one a (c ∷ []) = rw (eqb-refl a) (grind (arith, nat_tests))
starts-one a (c ∷ d ∷ rest) = rw (eqb-refl a) (grind (arith, nat_tests))

starts-two : (a b : ℕ) (rest : List ℕ) → starts_with nat_eq (a ∷ b ∷ rest) (a ∷ b ∷ 98 ∷ 43 ∷ []) ≡ begins_plus_b rest
starts-two a b [] = rw (eqb-refl a, eqb-refl b) refl
starts-two a b (c ∷ []) = rw (eqb-refl a, eqb-refl b) (grind (arith, nat_tests))
starts-two a b (c ∷ d ∷ rest) = rw (eqb-refl a, eqb-refl b) (grind (arith, nat_tests))

starts-three : (a b d : ℕ) (rest : List ℕ) → starts_with nat_eq (a ∷ b ∷ d ∷ rest) (a ∷ b ∷ d ∷ 98 ∷ 43 ∷ []) ≡ begins_plus_b rest
starts-three a b d [] = rw (eqb-refl a, eqb-refl b, eqb-refl d) refl
starts-three a b d (x ∷ []) = rw (eqb-refl a, eqb-refl b, eqb-refl d) (grind (arith, nat_tests))
starts-three a b d (x ∷ y ∷ rest) = rw (eqb-refl a, eqb-refl b, eqb-refl d) (grind (arith, nat_tests))

behind-one : (a : ℕ) (rest version : List ℕ) → reverse version ≡ a ∷ rest → ends_with nat_eq version (codes "+b" ++ (a ∷ [])) ≡ begins_plus_b rest
behind-one a rest version e =
    ends_with-reverse version (codes "+b" ++ (a ∷ [])) ∙ ap (λ (x : List ℕ). starts_with nat_eq x (a ∷ 98 ∷ 43 ∷ [])) e ∙ starts-one a rest

behind-two : (a b : ℕ) (rest version : List ℕ) → reverse version ≡ a ∷ b ∷ rest → ends_with nat_eq version (codes "+b" ++ (b ∷ a ∷ [])) ≡ begins_plus_b rest
behind-two a b rest version e =
    ends_with-reverse version (codes "+b" ++ (b ∷ a ∷ [])) ∙ ap (λ (x : List ℕ). starts_with nat_eq x (a ∷ b ∷ 98 ∷ 43 ∷ [])) e ∙ starts-two a b rest

behind-three : (a b d : ℕ) (rest version : List ℕ) → reverse version ≡ a ∷ b ∷ d ∷ rest → ends_with nat_eq version (codes "+b" ++ (d ∷ b ∷ a ∷ [])) ≡ begins_plus_b rest
behind-three a b d rest version e =
    ends_with-reverse version (codes "+b" ++ (d ∷ b ∷ a ∷ [])) ∙ ap (λ (x : List ℕ). starts_with nat_eq x (a ∷ b ∷ d ∷ 98 ∷ 43 ∷ [])) e ∙ starts-three a b d rest

-- the numbers that they write
pub number-one : (a : ℕ) (rest version : List ℕ) → reverse version ≡ a ∷ rest → is_ascii_digit a ≡ true → begins is_ascii_digit rest ≡ false
    → rebuild_number version ≡ cond (begins_plus_b rest) (a - 48) 0
unfolding rebuild_number last_digits value_of with_digit
number-one a rest version e da none =
    rw (e, one_more a rest da, no_more rest none, behind-one a rest version e) (ap (λ (n : ℕ). cond (begins_plus_b rest) n 0) (omega arith))

pub number-two : (a b : ℕ) (rest version : List ℕ) → reverse version ≡ a ∷ b ∷ rest → is_ascii_digit a ≡ true → is_ascii_digit b ≡ true → begins is_ascii_digit rest ≡ false
    → rebuild_number version ≡ cond (begins_plus_b rest) ((b - 48) * 10 + (a - 48)) 0
unfolding rebuild_number last_digits value_of with_digit
number-two a b rest version e da db none =
    rw (e, one_more a (b ∷ rest) da, one_more b rest db, no_more rest none, behind-two a b rest version e) (ap (λ (n : ℕ). cond (begins_plus_b rest) n 0) (omega arith))

pub number-three : (a b c : ℕ) (rest version : List ℕ) → reverse version ≡ a ∷ b ∷ c ∷ rest → is_ascii_digit a ≡ true → is_ascii_digit b ≡ true → is_ascii_digit c ≡ true
    → begins is_ascii_digit rest ≡ false
    → rebuild_number version ≡ cond (begins_plus_b rest) ((c - 48) * 100 + ((b - 48) * 10 + (a - 48))) 0
unfolding rebuild_number last_digits value_of with_digit
number-three a b c rest version e da db dc none =
    rw (e, one_more a (b ∷ c ∷ rest) da, one_more b (c ∷ rest) db, one_more c rest dc, no_more rest none, behind-three a b c rest version e) (ap (λ (n : ℕ). cond (begins_plus_b rest) n 0) (omega arith))

some : (n : ℕ) → nat_le 1 (suc n) ≡ true
some n = grind (arith, nat_tests)

too_many : (n : ℕ) → nat_le (suc (suc (suc (suc n)))) 3 ≡ false
too_many n = grind (arith, nat_tests)

-- four digits and more
pub number-more : (a b c d : ℕ) (rest version : List ℕ) → reverse version ≡ a ∷ b ∷ c ∷ d ∷ rest
    → is_ascii_digit a ≡ true → is_ascii_digit b ≡ true → is_ascii_digit c ≡ true → is_ascii_digit d ≡ true → rebuild_number version ≡ 0
unfolding rebuild_number last_digits
number-more a b c d rest version e da db dc dd =
    rw (e, one_more a (b ∷ c ∷ d ∷ rest) da, one_more b (c ∷ d ∷ rest) db, one_more c (d ∷ rest) dc, one_more d rest dd, length-reverse) (rw (some (suc (suc (suc (length (take_while is_ascii_digit rest))))), too_many (length (take_while is_ascii_digit rest))) refl)
