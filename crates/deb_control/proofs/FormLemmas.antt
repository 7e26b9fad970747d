-- What a good line has: a name, a colon and a value, and what that tells of the tests of a line.
use Rattle.std.proofs.Common.{◌≡◌, ◌∙◌, sym, ap, refl, ℕ, suc, ◌+◌, ◌<◌, Bool, true, false, length, take, drop, get_or, List, [], ◌∷◌, ◌++◌, arith, Option, None, Some, append_assoc}
use Rattle.std.specs.Prelude.{if◌then◌else◌, not, ◌==◌, nat_lt}
use Rattle.std.specs.List.{position_or_len, before_first, after_first, list_all}
use Rattle.std.proofs.lemmas.Bool.{and_parts}
use Rattle.std.proofs.lemmas.Bool.Decides.{nat_tests}
use Rattle.std.proofs.lemmas.List.{take_at, drop_at, length_push, length-append}
use Rattle.std.proofs.lemmas.List.Sums.{split_at_first, prefix_len_stops}
use Rattle.std.specs.Option.{option_or}
use Rattle.deb_control.specs.declared.fault.ControlFaultKind.{ControlFaultKind}
use Rattle.deb_control.specs.declared.fault.ControlFaultKind.TheVariants.{NoColon, BadName, Duplicate}
use Rattle.deb_control.specs.Lines.{is_blank, is_continuation, trim}
use Rattle.std.specs.Str.{str_to_ascii_lowercase}
use Rattle.deb_control.specs.Fields.{is_colon, is_name_char, begins_name, is_name, has_colon, name_of, first_of, is_among, form_fault, line_fault, names_after}

one_more : (n : ℕ) → 1 + n ≡ suc n
one_more n = omega arith

is_colon-char : (c : ℕ) → is_colon c ≡ true → c ≡ 58
is_colon-char c is = grind (arith, nat_tests)

test_below : (a b : ℕ) → nat_lt a b ≡ true → a < b
test_below a b less = grind (arith, nat_tests)

below_test : (a b : ℕ) → a < b → nat_lt a b ≡ true
below_test a b less = grind (arith, nat_tests)

-- a line with a colon is its name, a colon and what stands behind it
pub line-name : (line : List ℕ) → has_colon line ≡ true → line ≡ name_of line ++ (58 ∷ after_first is_colon line)
unfolding has_colon name_of
line-name line has =
    let within : position_or_len is_colon line < length line = test_below _ _ has in
    split_at_first is_colon line 0 within
    ∙ ap (λ (c : ℕ). before_first is_colon line ++ (c ∷ after_first is_colon line)) (is_colon-char _ (passes line within))
  where
    negated : (b : Bool) → not b ≡ false → b ≡ true
    negated true h = refl
    negated false h = sym h

    passes : (line : List ℕ) → position_or_len is_colon line < length line → is_colon (get_or line (position_or_len is_colon line) 0) ≡ true
    passes line within = negated _ (prefix_len_stops (λ c. not (is_colon c)) line 0 within)

-- a character of a name is no colon and no blank
name_char-colon : (c : ℕ) → is_name_char c ≡ true → is_colon c ≡ false
unfolding is_name_char
name_char-colon c is = grind (arith, nat_tests)

name_char-blank : (c : ℕ) → is_name_char c ≡ true → is_blank c ≡ false
unfolding is_name_char
name_char-blank c is = grind (arith, nat_tests)

-- the first colon behind the characters of a name
position-name : (name value : List ℕ) → list_all is_name_char name ≡ true → position_or_len is_colon (name ++ (58 ∷ value)) ≡ length name
position-name [] value all = refl
position-name (c ∷ cs) value all =
    let parts : (is_name_char c ≡ true) × (list_all is_name_char cs ≡ true) = and_parts (is_name_char c) (list_all is_name_char cs) all in
    let other : is_colon c ≡ false = name_char-colon c parts.0 in
    rw other (ap (λ (k : ℕ). 1 + k) (position-name cs value parts.1) ∙ one_more (length cs))

-- what a name in front of a colon tells of a line
pub record Named (name first line : List ℕ) : Type 0 where
  pub plain : is_continuation line ≡ false
  pub colon : has_colon line ≡ true
  pub name_is : name_of line ≡ name
  pub first_is : first_of line ≡ first

pub named : (name value first line : List ℕ) → is_name name ≡ true → line ≡ name ++ (58 ∷ value) → first ≡ trim value → Named name first line
unfolding is_name begins_name has_colon name_of first_of
named [] value first line form is trimmed = cc
named (c ∷ cs) value first line form is trimmed =
    let all : list_all is_name_char (c ∷ cs) ≡ true = (and_parts _ (list_all is_name_char (c ∷ cs)) form).1 in
    let at : position_or_len is_colon line ≡ length (c ∷ cs) = ap (position_or_len is_colon) is ∙ position-name (c ∷ cs) value all in
    let longer : length line ≡ length (c ∷ cs) + suc (length value) = ap length is ∙ length-append (c ∷ cs) (58 ∷ value) in
    record {
      plain = ap is_continuation is ∙ name_char-blank c (and_parts (is_name_char c) (list_all is_name_char cs) all).0;
      colon = below_test _ _ (omega arith);
      name_is = ap (λ (k : ℕ). take k line) at ∙ ap (take (length (c ∷ cs))) is ∙ take_at (c ∷ cs) (58 ∷ value) (length (c ∷ cs)) refl;
      first_is =
          ap (λ (k : ℕ). trim (drop (k + 1) line)) at
          ∙ ap (λ (v : List ℕ). trim (drop (length (c ∷ cs) + 1) v)) (is ∙ sym (append_assoc (c ∷ cs) (58 ∷ []) value))
          ∙ ap trim (drop_at ((c ∷ cs) ++ 58 ∷ []) value (length (c ∷ cs) + 1) (length_push (c ∷ cs) 58))
          ∙ sym trimmed;
    }

pub option_or-none : (a b : Option ControlFaultKind) → option_or a b ≡ None → (a ≡ None) × (b ≡ None)
option_or-none None b none = (refl, none)
option_or-none (Some kind) b none = cc

line_cases : (colon name among : Bool)
    → option_or (if colon then (if name then None else Some BadName) else Some NoColon) (if among then Some Duplicate else None) ≡ None
    → (colon ≡ true) × (name ≡ true) × (among ≡ false)
line_cases true true false none = (refl, refl, refl)
line_cases true true true none = cc
line_cases true false among none = cc
line_cases false name among none = cc

-- what a line that is no continuation has where nothing is wrong with it
pub good_line : (names : List (List ℕ)) (line : List ℕ) → is_continuation line ≡ false → line_fault names line ≡ None
    → (has_colon line ≡ true) × (is_name (name_of line) ≡ true) × (is_among (str_to_ascii_lowercase (name_of line)) names ≡ false)
unfolding line_fault form_fault
good_line names line plain good =
    line_cases (has_colon line) (is_name (name_of line)) (is_among (str_to_ascii_lowercase (name_of line)) names) (rw plain at good)

pub line_good : (names : List (List ℕ)) (line : List ℕ) → is_continuation line ≡ false → has_colon line ≡ true → is_name (name_of line) ≡ true
    → is_among (str_to_ascii_lowercase (name_of line)) names ≡ false → line_fault names line ≡ None
unfolding line_fault form_fault
line_good names line plain colon name among = rw plain (rw colon (rw name (rw among refl)))

-- a continuation line behind a name has no fault
no_names : (names : List (List ℕ)) → 0 < length names → (length names == 0) ≡ false
no_names names some = grind (arith, nat_tests)

pub continuation_good : (names : List (List ℕ)) (line : List ℕ) → 0 < length names → is_continuation line ≡ true → line_fault names line ≡ None
unfolding line_fault
continuation_good names line some is = rw is (rw (no_names names some) refl)

pub names_after-continuation : (names : List (List ℕ)) (line : List ℕ) → is_continuation line ≡ true → names_after names line ≡ names
unfolding names_after
names_after-continuation names line is = rw is refl

pub names_after-other : (names : List (List ℕ)) (line : List ℕ) → is_continuation line ≡ false → names_after names line ≡ names ++ str_to_ascii_lowercase (name_of line) ∷ []
unfolding names_after
names_after-other names line other = rw other refl
