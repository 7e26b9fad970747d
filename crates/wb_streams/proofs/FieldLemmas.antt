-- Lemmas on the fields of a name and their values.
use Rattle.std.proofs.Common.{◌<◌, ◌≤◌, ◌-◌, arith, get_or, nat_lt, length, take, drop, subst, if◌then◌else◌, ◌==◌, None, Some, Ok, Err, ◌≡◌, ◌∙◌, inl, inr, refl, ap, sym, ℕ, Bool, true, false, not, ◌||◌, ◌&&◌, List, [], ◌∷◌, map, option_map}
use Rattle.std.specs.List.{find, list_all, list_any}
use Rattle.std.proofs.lemmas.Bool.{and_parts, cases_Bool}
use Rattle.std.proofs.lemmas.Bool.Decides.{nat_tests}
use Rattle.std.proofs.lemmas.List.{take_all}
use Rattle.std.specs.Char.{is_ascii_digit}
use Rattle.std.specs.Str.Parse.{digits_value}
use Rattle.httparse.specs.declared.borrowed.Header.{Header}
use Rattle.httparse.specs.Borrowed.{header_parts}
use Rattle.deb_text.specs.Lists.{first_of}
use Rattle.wb_streams.specs.declared.fault.Fault.TheVariants.{NoLength, BadLength, BodyTooLarge}
use Rattle.wb_streams.specs.Fields.{NameAndValue, body_limit, has_field, is_named, is_number, is_same_number, length_stated, limited, only_of, values_of}

pub list_any-map : {X Y : Type 0} (test : X → Bool) (f : Y → X) (ys : List Y) → list_any test (map f ys) ≡ list_any (λ y. test (f y)) ys
list_any-map test f [] = refl
list_any-map test f (y ∷ ys) = ap (λ b. test (f y) || b) (list_any-map test f ys)

-- the value of the first field of a name
pub first_of-values_of : (name : List ℕ) (fields : List Header)
    → first_of (values_of name (map header_parts fields)) ≡ option_map (λ h. h.value.now) (find (λ h. is_named name (header_parts h)) fields)
first_of-values_of name [] = refl
first_of-values_of name (x ∷ xs) = elim (cases_Bool (is_named name (header_parts x))) [
  | inl t ↦ rw t refl
  | inr f ↦ rw f (first_of-values_of name xs)
]

-- what holds of each value of a name
pub list_all-values_of : (test : List ℕ → Bool) (name : List ℕ) (fields : List Header)
    → list_all test (values_of name (map header_parts fields)) ≡ list_all (λ h. not (is_named name (header_parts h)) || test h.value.now) fields
list_all-values_of test name [] = refl
list_all-values_of test name (x ∷ xs) = elim (cases_Bool (is_named name (header_parts x))) [
  | inl t ↦ rw t (ap (λ b. test x.value.now && b) (list_all-values_of test name xs))
  | inr f ↦ rw f (list_all-values_of test name xs)
]

-- ---- the only value of a name

-- a field of a name, and no other behind it
pub only_of-one : (name value : List ℕ) (fields : List NameAndValue) → has_field name fields ≡ false
    → Some value ≡ only_of (value ∷ values_of name fields)
only_of-one name value [] none = refl
only_of-one name value (x ∷ xs) none = elim (cases_Bool (is_named name x)) [
  | inl t ↦ absurd (cc)
  | inr f ↦ rw f (only_of-one name value xs (sym (ap (λ b. b || has_field name xs) f) ∙ none))
]

-- a field of a name, and another behind it
pub only_of-more : (name value : List ℕ) (fields : List NameAndValue) → has_field name fields ≡ true
    → None ≡ only_of (value ∷ values_of name fields)
only_of-more name value [] some = absurd (cc)
only_of-more name value (x ∷ xs) some = elim (cases_Bool (is_named name x)) [
  | inl t ↦ rw t refl
  | inr f ↦ rw f (only_of-more name value xs (sym (ap (λ b. b || has_field name xs) f) ∙ some))
]

-- a list that is not empty is its first field and the others
abbrev Others : List Header → List Header
Others fields = take (length fields - 1) (drop 1 fields)

pub only_of-first : (name : List ℕ) (d : Header) (fields : List Header) → 1 ≤ length fields
    → true ≡ is_named name (header_parts (get_or fields 0 d))
    → false ≡ has_field name (map header_parts (Others fields))
    → Some (get_or fields 0 d).value.now ≡ only_of (values_of name (map header_parts fields))
only_of-first name d [] some named none = absurd (omega arith)
only_of-first name d (x ∷ xs) some named none =
    let rest : Others (x ∷ xs) ≡ xs = take_all (length (x ∷ xs) - 1) xs (omega arith) in
    rw (sym named) (only_of-one name x.value.now (map header_parts xs)
    (sym (none ∙ ap (λ fields. has_field name (map header_parts fields)) rest)))

pub only_of-second : (name : List ℕ) (d : Header) (fields : List Header) → 1 ≤ length fields
    → true ≡ is_named name (header_parts (get_or fields 0 d))
    → true ≡ has_field name (map header_parts (Others fields))
    → None ≡ only_of (values_of name (map header_parts fields))
only_of-second name d [] some named more = absurd (omega arith)
only_of-second name d (x ∷ xs) some named more =
    let rest : Others (x ∷ xs) ≡ xs = take_all (length (x ∷ xs) - 1) xs (omega arith) in
    rw (sym named) (only_of-more name x.value.now (map header_parts xs)
    (sym (more ∙ ap (λ fields. has_field name (map header_parts fields)) rest)))

-- ---- the length that values state

pub limited-large : (n : ℕ) → body_limit < n → limited n ≡ Err BodyTooLarge
unfolding limited
limited-large n h = let t : nat_lt body_limit n ≡ true = grind (arith, nat_tests) in rw t refl

pub limited-small : (n : ℕ) → n ≤ body_limit → limited n ≡ Ok n
unfolding limited
limited-small n h = let f : nat_lt body_limit n ≡ false = grind (arith, nat_tests) in rw f refl

pub length_stated-none : (values : List (List ℕ)) → first_of values ≡ None → length_stated values ≡ Err NoLength
unfolding length_stated
length_stated-none [] none = refl
length_stated-none (v ∷ vs) none = absurd (cc)

pub length_stated-some : (values : List (List ℕ)) (first : List ℕ) (agree : Bool) → first_of values ≡ Some first → list_all (is_same_number first) values ≡ agree
    → length_stated values ≡ (if agree then limited (digits_value 10 first) else Err BadLength)
unfolding length_stated
length_stated-some [] first agree some all = absurd (cc)
length_stated-some (v ∷ vs) first agree some all =
    let same : v ≡ first = cc in
    let here : list_all (is_same_number v) (v ∷ vs) ≡ agree = subst (λ w. list_all (is_same_number w) (v ∷ vs) ≡ agree) (sym same) all in
    ap (λ b. if b then limited (digits_value 10 v) else Err BadLength) here ∙ ap (λ w. if agree then limited (digits_value 10 w) else Err BadLength) same

pub first_is_digits : (values : List (List ℕ)) (first : List ℕ) → first_of values ≡ Some first → list_all (is_same_number first) values ≡ true
    → list_all is_ascii_digit first ≡ true
unfolding is_same_number
first_is_digits [] first some all = absurd (cc)
first_is_digits (v ∷ vs) first some all =
    let same : v ≡ first = cc in
    let one = (and_parts (is_same_number first v) (list_all (is_same_number first) vs) all).0 in
    let both = (and_parts (is_number first && is_number v) (digits_value 10 first == digits_value 10 v) one).0 in
    let number = (and_parts (is_number first) (is_number v) both).0 in
    (and_parts (nat_lt 0 (length first)) (list_all is_ascii_digit first) number).1
