-- Reading line by line: the fault and the fields of a text, by its first line and what stands behind it.
use Rattle.std.proofs.Common.{◌≡◌, ◌∙◌, sym, ap, refl, ℕ, ◌<◌, ◌≤◌, true, false, length, map, List, [], ◌∷◌, ◌++◌, inl, inr, append_assoc, arith, Option, None, Some, Ok, Err}
use Rattle.std.specs.Prelude.{nat_lt, if◌then◌else◌, IsUtf8}
use Rattle.std.specs.Str.{is_utf8}
use Rattle.std.proofs.lemmas.Str.{IsUtf8-from_is_utf8, is_utf8-from_IsUtf8}
use Rattle.std.proofs.lemmas.Bool.Decides.{nat_tests}
use Rattle.std.specs.Option.{option_or}
use Rattle.deb_control.specs.declared.fault.ControlFaultKind.TheVariants.{TooLarge, NotUtf8}
use Rattle.std.specs.List.{before_first, after_first}
use Rattle.std.proofs.lemmas.Bool.{cases_Bool, cond-true, cond-false, false_from_ne_true}
use Rattle.std.proofs.lemmas.List.{append-nil, map-append}
use Rattle.deb_control.specs.declared.fault.ControlFaultKind.{ControlFaultKind}
use Rattle.deb_control.specs.Lines.{is_line_feed, is_continuation, lines_of, body_of, lines_in}
use Rattle.std.specs.Str.{str_to_ascii_lowercase}
use Rattle.deb_control.specs.Fields.{FieldText, field_of, fields_of, fields_at, names_in, names_after, line_fault, first_fault, paragraph_limit, fault_of, outcome, reading_of}
use Rattle.deb_control.proofs.LineLemmas.{lines_in-front, concat-lines_of}

-- the lines of a text that is not empty
pub lines_in-split : (text line rest : List ℕ) → 0 < length text → line ≡ before_first is_line_feed text → rest ≡ after_first is_line_feed text → lines_in text ≡ line ∷ lines_in rest
lines_in-split [] line rest some front behind = absurd (omega arith)
lines_in-split (c ∷ cs) line rest some front behind =
    lines_in-front c cs ∙ ap (λ (v : List ℕ). v ∷ lines_in (after_first is_line_feed (c ∷ cs))) (sym front) ∙ ap (λ (v : List ℕ). line ∷ lines_in v) (sym behind)

-- the names once the field at a line was added
names_in-fields_at : (fields : List FieldText) (line rest : List ℕ) → names_in (fields ++ fields_at line rest) ≡ names_after (names_in fields) line
unfolding fields_at names_after field_of
names_in-fields_at fields line rest = elim (cases_Bool (is_continuation line)) [
  | inl is ↦ rw is (ap names_in (append-nil fields))
  | inr other ↦ rw other (map-append (λ (field : FieldText). str_to_ascii_lowercase field.name) fields (field_of line (lines_in rest) ∷ []))
]

-- the fields of lines, by the first line
fields_of-fields_at : (line rest : List ℕ) → fields_of (line ∷ lines_in rest) ≡ fields_at line rest ++ fields_of (lines_in rest)
unfolding fields_at
fields_of-fields_at line rest = elim (cases_Bool (is_continuation line)) [
  | inl is ↦ rw is refl
  | inr other ↦ rw other refl
]

-- a bad first line is the fault of the text
pub first_fault-line : (names : List (List ℕ)) (text line rest : List ℕ) (kind : ControlFaultKind) → 0 < length text → line ≡ before_first is_line_feed text → rest ≡ after_first is_line_feed text
    → line_fault names line ≡ Some kind → first_fault names (lines_in text) ≡ Some kind
first_fault-line names text line rest kind some front behind fault =
    ap (first_fault names) (lines_in-split text line rest some front behind)
    ∙ ap (λ (v : Option ControlFaultKind). option_or v (first_fault (names_after names line) (lines_in rest))) fault

-- a good first line leaves the fault to what stands behind it
pub first_fault-behind : (fields after : List FieldText) (text line rest : List ℕ) → 0 < length text → line ≡ before_first is_line_feed text → rest ≡ after_first is_line_feed text
    → line_fault (names_in fields) line ≡ None → after ≡ fields ++ fields_at line rest
    → first_fault (names_in after) (lines_in rest) ≡ first_fault (names_in fields) (lines_in text)
first_fault-behind fields after text line rest some front behind good is =
    ap (λ (v : List (List ℕ)). first_fault v (lines_in rest)) (ap names_in is ∙ names_in-fields_at fields line rest)
    ∙ sym (ap (first_fault (names_in fields)) (lines_in-split text line rest some front behind)
    ∙ ap (λ (v : Option ControlFaultKind). option_or v (first_fault (names_after (names_in fields) line) (lines_in rest))) good)

pub fields_of-behind : (fields after : List FieldText) (text line rest : List ℕ) → 0 < length text → line ≡ before_first is_line_feed text → rest ≡ after_first is_line_feed text
    → after ≡ fields ++ fields_at line rest
    → after ++ fields_of (lines_in rest) ≡ fields ++ fields_of (lines_in text)
fields_of-behind fields after text line rest some front behind is =
    ap (λ (v : List FieldText). v ++ fields_of (lines_in rest)) is
    ∙ append_assoc fields (fields_at line rest) (fields_of (lines_in rest))
    ∙ ap (λ (v : List FieldText). fields ++ v) (sym (fields_of-fields_at line rest))
    ∙ ap (λ (v : List (List ℕ)). fields ++ fields_of v) (sym (lines_in-split text line rest some front behind))

-- nothing is left of the empty text
pub first_fault-end : (names : List (List ℕ)) (text : List ℕ) → length text ≡ 0 → first_fault names (lines_in text) ≡ None
unfolding lines_in
first_fault-end names [] none = refl
first_fault-end names (c ∷ cs) none = absurd (omega arith)

pub fields_of-end : (fields : List FieldText) (text : List ℕ) → length text ≡ 0 → fields ++ fields_of (lines_in text) ≡ fields
unfolding lines_in
fields_of-end fields [] none = append-nil fields
fields_of-end fields (c ∷ cs) none = absurd (omega arith)

below_test : (a b : ℕ) → a < b → nat_lt a b ≡ true
below_test a b less = grind (arith, nat_tests)

not_below_test : (a b : ℕ) → b ≤ a → nat_lt a b ≡ false
not_below_test a b more = grind (arith, nat_tests)

-- the fault of the lines of a text, by the text
fault_of-text : (text : List ℕ) → fault_of (lines_of text)
    ≡ (if nat_lt paragraph_limit (length text) then Some TooLarge else if is_utf8 text then first_fault [] (lines_in text) else Some NotUtf8)
unfolding fault_of lines_in
fault_of-text text =
    ap (λ (v : List ℕ). if nat_lt paragraph_limit (length v) then Some TooLarge else if is_utf8 v then first_fault [] (lines_in text) else Some NotUtf8)
    (concat-lines_of text)

fault_of-large : (text : List ℕ) → paragraph_limit < length text → fault_of (lines_of text) ≡ Some TooLarge
fault_of-large text large = fault_of-text text ∙ cond-true (nat_lt paragraph_limit (length text)) _ _ (below_test paragraph_limit (length text) large)

fault_of-small : (text : List ℕ) → length text ≤ paragraph_limit → fault_of (lines_of text) ≡ (if is_utf8 text then first_fault [] (lines_in text) else Some NotUtf8)
fault_of-small text small = fault_of-text text ∙ cond-false (nat_lt paragraph_limit (length text)) _ _ (not_below_test paragraph_limit (length text) small)

-- the reading of a text that is too large, that is no UTF-8, and of any other
pub reading_of-large : (text : List ℕ) → paragraph_limit < length text → reading_of (lines_of text) ≡ Err TooLarge
unfolding reading_of
reading_of-large text large = ap (λ (v : Option ControlFaultKind). outcome v (fields_of (map body_of (lines_of text)))) (fault_of-large text large)

pub reading_of-not_utf8 : (text : List ℕ) → length text ≤ paragraph_limit → (IsUtf8 text → ⊥) → reading_of (lines_of text) ≡ Err NotUtf8
unfolding reading_of
reading_of-not_utf8 text small other =
    ap (λ (v : Option ControlFaultKind). outcome v (fields_of (map body_of (lines_of text))))
    (fault_of-small text small ∙ cond-false (is_utf8 text) _ _ (false_from_ne_true (is_utf8 text) (λ e. other (IsUtf8-from_is_utf8 text e))))

reading_of-small : (text : List ℕ) → length text ≤ paragraph_limit → IsUtf8 text → reading_of (lines_of text) ≡ outcome (first_fault [] (lines_in text)) (fields_of (lines_in text))
unfolding reading_of lines_in
reading_of-small text small utf8 =
    ap (λ (v : Option ControlFaultKind). outcome v (fields_of (map body_of (lines_of text))))
    (fault_of-small text small ∙ cond-true (is_utf8 text) _ _ (is_utf8-from_IsUtf8 text utf8))

pub reading_of-fault : (bytes text : List ℕ) (kind : ControlFaultKind) → length bytes ≤ paragraph_limit → (text ≡ bytes) × IsUtf8 bytes → first_fault [] (lines_in text) ≡ Some kind → reading_of (lines_of bytes) ≡ Err kind
reading_of-fault bytes text kind small utf8 fault =
    reading_of-small bytes small utf8.1
    ∙ ap (λ (v : Option ControlFaultKind). outcome v (fields_of (lines_in bytes))) (ap (λ (v : List ℕ). first_fault [] (lines_in v)) (sym utf8.0) ∙ fault)

pub reading_of-fields : (bytes text : List ℕ) (fields : List FieldText) → length bytes ≤ paragraph_limit → (text ≡ bytes) × IsUtf8 bytes → first_fault [] (lines_in text) ≡ None → fields ≡ fields_of (lines_in text) → reading_of (lines_of bytes) ≡ Ok fields
reading_of-fields bytes text fields small utf8 good is =
    reading_of-small bytes small utf8.1
    ∙ ap (λ (v : Option ControlFaultKind). outcome v (fields_of (lines_in bytes))) (ap (λ (v : List ℕ). first_fault [] (lines_in v)) (sym utf8.0) ∙ good)
    ∙ ap (λ (v : List FieldText). Ok v) (ap (λ (v : List ℕ). fields_of (lines_in v)) (sym utf8.0) ∙ sym is)
