-- The fault of lines and the relation that says it: each follows from the other.
use Rattle.std.proofs.Common.{◌≡◌, ◌∙◌, sym, ap, subst, refl, ℕ, suc, ◌≤◌, ◌<◌, Bool, true, false, length, map, List, [], ◌∷◌, ◌++◌, ◌⊎◌, inl, inr, arith, Option, None, Some, Err, append_assoc}
use Rattle.std.specs.Prelude.{if◌then◌else◌, ◌==◌, nat_lt, IsUtf8}
use Rattle.std.specs.List.{concat}
use Rattle.std.specs.Str.{is_utf8}
use Rattle.std.proofs.lemmas.Bool.{cases_Bool, cond-true, cond-false, false_from_ne_true}
use Rattle.std.proofs.lemmas.Bool.Decides.{nat_tests}
use Rattle.std.proofs.lemmas.List.{append-nil}
use Rattle.std.proofs.lemmas.Str.{IsUtf8-from_is_utf8, is_utf8-from_IsUtf8}
use Rattle.std.specs.Option.{option_or}
use Rattle.deb_control.specs.declared.fault.ControlFaultKind.{ControlFaultKind}
use Rattle.deb_control.specs.declared.fault.ControlFaultKind.TheVariants.{TooLarge, NotUtf8, Orphan, NoColon, BadName, Duplicate, Read, Memory, Ended}
use Rattle.deb_control.specs.Lines.{is_continuation, body_of}
use Rattle.std.specs.Str.{str_to_ascii_lowercase}
use Rattle.deb_control.specs.Fields.{FieldText, Reads, HaveDistinctNames, IsLineFault, HasBadLine, IsFault, has_colon, is_name, name_of, field_of, fields_of, is_among, names_in, form_fault, line_fault, names_after, first_fault, paragraph_limit, fault_of, outcome, reading_of}
use Rattle.deb_control.proofs.NameLemmas.{is_among-names_in}
use Rattle.deb_control.proofs.FormLemmas.{option_or-none}
use Rattle.deb_control.proofs.GrammarLemmas.{Reads-first_fault, first_fault-Reads}

-- what a fault says of the tests of a line
abbrev FaultByTests : ControlFaultKind → Bool → Bool → Bool → Bool → Bool → Type 0
FaultByTests Orphan continues none colon name among = (continues ≡ true) × (none ≡ true)
FaultByTests NoColon continues none colon name among = (continues ≡ false) × (colon ≡ false)
FaultByTests BadName continues none colon name among = (continues ≡ false) × (colon ≡ true) × (name ≡ false)
FaultByTests Duplicate continues none colon name among = (continues ≡ false) × (colon ≡ true) × (name ≡ true) × (among ≡ true)
FaultByTests _ continues none colon name among = ⊥

-- the fault of a line, by tests, and what the relation says of it
line_cases : (continues none colon name among : Bool) (kind : ControlFaultKind)
    → (if continues then (if none then Some Orphan else None) else option_or (if colon then (if name then None else Some BadName) else Some NoColon) (if among then Some Duplicate else None)) ≡ Some kind
    → FaultByTests kind continues none colon name among
line_cases true true colon name among kind is = let same : Orphan ≡ kind = cc in subst (λ (k : ControlFaultKind). FaultByTests k true true colon name among) same (refl, refl)
line_cases true false colon name among kind is = cc
line_cases false none false name among kind is = let same : NoColon ≡ kind = cc in subst (λ (k : ControlFaultKind). FaultByTests k false none false name among) same (refl, refl)
line_cases false none true false among kind is = let same : BadName ≡ kind = cc in subst (λ (k : ControlFaultKind). FaultByTests k false none true false among) same (refl, refl, refl)
line_cases false none true true true kind is = let same : Duplicate ≡ kind = cc in subst (λ (k : ControlFaultKind). FaultByTests k false none true true true) same (refl, refl, refl, refl)
line_cases false none true true false kind is = cc

tests_fault : (kind : ControlFaultKind) (continues none colon name among : Bool) → FaultByTests kind continues none colon name among
    → (if continues then (if none then Some Orphan else None) else option_or (if colon then (if name then None else Some BadName) else Some NoColon) (if among then Some Duplicate else None)) ≡ Some kind
tests_fault Orphan continues none colon name among f = rw f.0 (rw f.1 refl)
tests_fault NoColon continues none colon name among f = rw f.0 (rw f.1 refl)
tests_fault BadName continues none colon name among f = rw f.0 (rw f.1 (rw f.2 refl))
tests_fault Duplicate continues none colon name among f = rw f.0 (rw f.1 (rw f.2 (rw f.3 refl)))
tests_fault TooLarge continues none colon name among f = absurd f
tests_fault NotUtf8 continues none colon name among f = absurd f
tests_fault Read continues none colon name among f = absurd f
tests_fault Memory continues none colon name among f = absurd f
tests_fault Ended continues none colon name among f = absurd f

suc_zero : (n : ℕ) → (suc n == 0) ≡ true → ⊥
suc_zero n none = grind (arith, nat_tests)

-- no names where there are no fields
no_fields : (fields : List FieldText) → (length (names_in fields) == 0) ≡ true → fields ≡ []
no_fields [] none = refl
no_fields (field ∷ fields) none = absurd (suc_zero (length (names_in fields)) none)

no_names : (fields : List FieldText) → fields ≡ [] → (length (names_in fields) == 0) ≡ true
no_names fields none = rw none refl

-- the fault of a line behind the names of fields, and the relation
line_fault-is : (kind : ControlFaultKind) (fields : List FieldText) (line : List ℕ) → line_fault (names_in fields) line ≡ Some kind → IsLineFault kind fields line
unfolding line_fault form_fault
line_fault-is kind fields line is =
    by_tests kind fields line (line_cases (is_continuation line) (length (names_in fields) == 0) (has_colon line) (is_name (name_of line)) (is_among (str_to_ascii_lowercase (name_of line)) (names_in fields)) kind is)
  where
    by_tests : (kind : ControlFaultKind) (fields : List FieldText) (line : List ℕ)
        → FaultByTests kind (is_continuation line) (length (names_in fields) == 0) (has_colon line) (is_name (name_of line)) (is_among (str_to_ascii_lowercase (name_of line)) (names_in fields))
        → IsLineFault kind fields line
    by_tests Orphan fields line f = (f.0, no_fields fields f.1)
    by_tests NoColon fields line f = f
    by_tests BadName fields line f = f
    by_tests Duplicate fields line f = (f.0, f.1, f.2, sym (is_among-names_in (name_of line) fields) ∙ f.3)
    by_tests TooLarge fields line f = absurd f
    by_tests NotUtf8 fields line f = absurd f
    by_tests Read fields line f = absurd f
    by_tests Memory fields line f = absurd f
    by_tests Ended fields line f = absurd f

line_fault-from : (kind : ControlFaultKind) (fields : List FieldText) (line : List ℕ) → IsLineFault kind fields line → line_fault (names_in fields) line ≡ Some kind
unfolding line_fault form_fault
line_fault-from kind fields line f =
    tests_fault kind (is_continuation line) (length (names_in fields) == 0) (has_colon line) (is_name (name_of line)) (is_among (str_to_ascii_lowercase (name_of line)) (names_in fields)) (to_tests kind fields line f)
  where
    to_tests : (kind : ControlFaultKind) (fields : List FieldText) (line : List ℕ) → IsLineFault kind fields line
        → FaultByTests kind (is_continuation line) (length (names_in fields) == 0) (has_colon line) (is_name (name_of line)) (is_among (str_to_ascii_lowercase (name_of line)) (names_in fields))
    to_tests Orphan fields line f = (f.0, no_names fields f.1)
    to_tests NoColon fields line f = f
    to_tests BadName fields line f = f
    to_tests Duplicate fields line f = (f.0, f.1, f.2, is_among-names_in (name_of line) fields ∙ f.3)
    to_tests TooLarge fields line f = absurd f
    to_tests NotUtf8 fields line f = absurd f
    to_tests Read fields line f = absurd f
    to_tests Memory fields line f = absurd f
    to_tests Ended fields line f = absurd f

-- the names behind good lines
names_behind : (names : List (List ℕ)) (line : List ℕ) (lines : List (List ℕ)) → names ++ names_in (fields_of (line ∷ lines)) ≡ names_after names line ++ names_in (fields_of lines)
unfolding names_after field_of
names_behind names line lines = elim (cases_Bool (is_continuation line)) [
  | inl is ↦ rw is refl
  | inr other ↦ rw other (sym (append_assoc names (str_to_ascii_lowercase (name_of line) ∷ []) (names_in (fields_of lines))))
]

-- behind good lines the fault is that of the others
first_fault-append : (names good more : List (List ℕ)) → first_fault names good ≡ None → first_fault names (good ++ more) ≡ first_fault (names ++ names_in (fields_of good)) more
first_fault-append names [] more none = ap (λ (v : List (List ℕ)). first_fault v more) (sym (append-nil names))
first_fault-append names (line ∷ good) more none =
    let parts : (line_fault names line ≡ None) × (first_fault (names_after names line) good ≡ None) = option_or-none _ _ none in
    ap (λ (v : Option ControlFaultKind). option_or v (first_fault (names_after names line) (good ++ more))) parts.0
    ∙ first_fault-append (names_after names line) good more parts.1
    ∙ ap (λ (v : List (List ℕ)). first_fault v more) (sym (names_behind names line good))

-- the first bad line, with the good ones before it
record FirstBad (names lines : List (List ℕ)) (kind : ControlFaultKind) : Type 0 where
  good : List (List ℕ)
  bad : List ℕ
  rest : List (List ℕ)
  cut : lines ≡ good ++ (bad ∷ rest)
  none : first_fault names good ≡ None
  fault : line_fault (names ++ names_in (fields_of good)) bad ≡ Some kind

none_or_some : (o : Option ControlFaultKind) → (o ≡ None) ⊎ ((kind : ControlFaultKind) × (o ≡ Some kind))
none_or_some None = inl refl
none_or_some (Some kind) = inr (kind, refl)

first_bad : (names lines : List (List ℕ)) (kind : ControlFaultKind) → first_fault names lines ≡ Some kind → FirstBad names lines kind
first_bad names [] kind is = cc
first_bad names (line ∷ lines) kind is = elim (none_or_some (line_fault names line)) [
  | inl good ↦
      let later : first_fault (names_after names line) lines ≡ Some kind =
      sym (ap (λ (v : Option ControlFaultKind). option_or v (first_fault (names_after names line) lines)) good) ∙ is in
      let found : FirstBad (names_after names line) lines kind = first_bad (names_after names line) lines kind later in
      record {
        good = line ∷ found.good;
        bad = found.bad;
        rest = found.rest;
        cut = ap (λ (v : List (List ℕ)). line ∷ v) found.cut;
        none = ap (λ (v : Option ControlFaultKind). option_or v (first_fault (names_after names line) found.good)) good ∙ found.none;
        fault = ap (λ (v : List (List ℕ)). line_fault v found.bad) (names_behind names line found.good) ∙ found.fault;
      }
  | inr bad ↦
      record {
        good = [];
        bad = line;
        rest = lines;
        cut = refl;
        none = refl;
        fault =
            ap (λ (v : List (List ℕ)). line_fault v line) (append-nil names)
            ∙ bad.1
            ∙ (sym (ap (λ (v : Option ControlFaultKind). option_or v (first_fault (names_after names line) lines)) bad.1) ∙ is);
      }
]

HasBadLine-from : (lines : List (List ℕ)) (kind : ControlFaultKind) → first_fault [] lines ≡ Some kind → HasBadLine kind lines
HasBadLine-from lines kind is =
    let found : FirstBad [] lines kind = first_bad [] lines kind is in
    let read : Reads found.good (fields_of found.good) × HaveDistinctNames (fields_of found.good) = Reads-first_fault found.good found.none in
    record {
      good = found.good;
      bad = found.bad;
      rest = found.rest;
      fields = fields_of found.good;
      cut = found.cut;
      read = read.0;
      names = read.1;
      fault = line_fault-is kind (fields_of found.good) found.bad found.fault;
    }

first_fault-HasBadLine : (lines : List (List ℕ)) (kind : ControlFaultKind) → HasBadLine kind lines → first_fault [] lines ≡ Some kind
first_fault-HasBadLine lines kind h =
    let read : (first_fault [] h.good ≡ None) × (fields_of h.good ≡ h.fields) = first_fault-Reads h.good h.fields h.read h.names in
    ap (first_fault []) h.cut
    ∙ first_fault-append [] h.good (h.bad ∷ h.rest) read.0
    ∙ ap (λ (v : List FieldText). first_fault (names_in v) (h.bad ∷ h.rest)) read.1
    ∙ ap (λ (v : Option ControlFaultKind). option_or v (first_fault (names_after (names_in h.fields) h.bad) h.rest)) (line_fault-from kind h.fields h.bad h.fault)

-- a number is below another or not, as a test
below_test : (a b : ℕ) → a < b → nat_lt a b ≡ true
below_test a b less = grind (arith, nat_tests)

not_below_test : (a b : ℕ) → b ≤ a → nat_lt a b ≡ false
not_below_test a b more = grind (arith, nat_tests)

test_below : (a b : ℕ) → nat_lt a b ≡ true → a < b
test_below a b less = grind (arith, nat_tests)

test_not_below : (a b : ℕ) → nat_lt a b ≡ false → b ≤ a
test_not_below a b less = grind (arith, nat_tests)

outcome_err : (fault : Option ControlFaultKind) (fields : List FieldText) (kind : ControlFaultKind) → outcome fault fields ≡ Err kind → fault ≡ Some kind
outcome_err None fields kind is = cc
outcome_err (Some other) fields kind is = let same : other ≡ kind = cc in ap (λ (k : ControlFaultKind). Some k) same

-- a small text in UTF-8 with a bad line
bad_line : (kind : ControlFaultKind) (lines : List (List ℕ)) → length (concat lines) ≤ paragraph_limit → IsUtf8 (concat lines) → HasBadLine kind (map body_of lines) → IsFault kind lines
bad_line TooLarge lines size text h = absurd h.fault
bad_line NotUtf8 lines size text h = absurd h.fault
bad_line Orphan lines size text h = (size, text, h)
bad_line NoColon lines size text h = (size, text, h)
bad_line BadName lines size text h = (size, text, h)
bad_line Duplicate lines size text h = (size, text, h)
bad_line Read lines size text h = (size, text, h)
bad_line Memory lines size text h = (size, text, h)
bad_line Ended lines size text h = (size, text, h)

not_utf8 : (text : List ℕ) → is_utf8 text ≡ false → IsUtf8 text → ⊥
not_utf8 text other utf8 = absurd (cc (sym other ∙ is_utf8-from_IsUtf8 text utf8))

-- a fault is what the relation says, and the other way round
pub IsFault-from_reading_of : (lines : List (List ℕ)) (kind : ControlFaultKind) → reading_of lines ≡ Err kind → IsFault kind lines
unfolding reading_of fault_of
IsFault-from_reading_of lines kind is = by_size (outcome_err (fault_of lines) (fields_of (map body_of lines)) kind is)
  where
    some : {a b : ControlFaultKind} → Some a ≡ Some b → a ≡ b
    some e = cc

    by_size : (if nat_lt paragraph_limit (length (concat lines)) then Some TooLarge else if is_utf8 (concat lines) then first_fault [] (map body_of lines) else Some NotUtf8) ≡ Some kind → IsFault kind lines
    by_size fault = elim (cases_Bool (nat_lt paragraph_limit (length (concat lines)))) [
      | inl large ↦ subst (λ (k : ControlFaultKind). IsFault k lines) (some (sym (cond-true _ _ _ large) ∙ fault)) (test_below _ _ large)
      | inr small ↦
          let text_fault : (if is_utf8 (concat lines) then first_fault [] (map body_of lines) else Some NotUtf8) ≡ Some kind = sym (cond-false _ _ _ small) ∙ fault in
          elim (cases_Bool (is_utf8 (concat lines))) [
            | inl utf8 ↦
                bad_line kind lines (test_not_below _ _ small) (IsUtf8-from_is_utf8 (concat lines) utf8)
                (HasBadLine-from (map body_of lines) kind (sym (cond-true _ _ _ utf8) ∙ text_fault))
            | inr other ↦
                subst (λ (k : ControlFaultKind). IsFault k lines) (some (sym (cond-false _ _ _ other) ∙ text_fault)) (test_not_below _ _ small, not_utf8 (concat lines) other)
          ]
    ]

fault_of-bad : (lines : List (List ℕ)) (kind : ControlFaultKind) → length (concat lines) ≤ paragraph_limit → IsUtf8 (concat lines) → HasBadLine kind (map body_of lines) → fault_of lines ≡ Some kind
unfolding fault_of
fault_of-bad lines kind size text h =
    cond-false _ _ _ (not_below_test _ _ size) ∙ cond-true _ _ _ (is_utf8-from_IsUtf8 (concat lines) text) ∙ first_fault-HasBadLine (map body_of lines) kind h

fault_of-IsFault : (kind : ControlFaultKind) (lines : List (List ℕ)) → IsFault kind lines → fault_of lines ≡ Some kind
unfolding fault_of
fault_of-IsFault TooLarge lines f = cond-true _ _ _ (below_test _ _ f)
fault_of-IsFault NotUtf8 lines f =
    cond-false _ _ _ (not_below_test _ _ f.0) ∙ cond-false _ _ _ (false_from_ne_true (is_utf8 (concat lines)) (λ e. f.1 (IsUtf8-from_is_utf8 (concat lines) e)))
fault_of-IsFault Orphan lines f = fault_of-bad lines Orphan f.0 f.1 f.2
fault_of-IsFault NoColon lines f = fault_of-bad lines NoColon f.0 f.1 f.2
fault_of-IsFault BadName lines f = fault_of-bad lines BadName f.0 f.1 f.2
fault_of-IsFault Duplicate lines f = fault_of-bad lines Duplicate f.0 f.1 f.2
fault_of-IsFault Read lines f = fault_of-bad lines Read f.0 f.1 f.2
fault_of-IsFault Memory lines f = fault_of-bad lines Memory f.0 f.1 f.2
fault_of-IsFault Ended lines f = fault_of-bad lines Ended f.0 f.1 f.2

pub reading_of-IsFault : (lines : List (List ℕ)) (kind : ControlFaultKind) → IsFault kind lines → reading_of lines ≡ Err kind
unfolding reading_of
reading_of-IsFault lines kind f = ap (λ (v : Option ControlFaultKind). outcome v (fields_of (map body_of lines))) (fault_of-IsFault kind lines f)

-- so no reading is refused for memory, for a read, or since one was refused before
pub reading_of-Memory : (lines : List (List ℕ)) → reading_of lines ≡ Err Memory → ⊥
reading_of-Memory lines is = (IsFault-from_reading_of lines Memory is).2.fault

pub reading_of-Read : (lines : List (List ℕ)) → reading_of lines ≡ Err Read → ⊥
reading_of-Read lines is = (IsFault-from_reading_of lines Read is).2.fault

pub reading_of-Ended : (lines : List (List ℕ)) → reading_of lines ≡ Err Ended → ⊥
reading_of-Ended lines is = (IsFault-from_reading_of lines Ended is).2.fault
