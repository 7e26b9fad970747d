-- The fields of a text that a paragraph owns.
use Rattle.std.proofs.Common.{◌≡◌, ◌∙◌, sym, ap, refl, ℕ, ◌+◌, ◌<◌, ◌≤◌, true, false, length, map, List, [], ◌∷◌, arith, Option, None, Some, Ok, drop_of_length-le}
use Rattle.std.specs.Prelude.{nat_lt}
use Rattle.std.specs.List.{position_or_len, before_first, after_first}
use Rattle.std.proofs.lemmas.Bool.Decides.{nat_tests}
use Rattle.std.proofs.lemmas.List.{take_all}
use Rattle.deb_control.specs.declared.fault.ControlFaultKind.{ControlFaultKind}
use Rattle.deb_control.specs.Lines.{is_line_feed, is_continuation, lines_of, body_of, lines_in, trim, trim_end}
use Rattle.deb_control.specs.Fields.{FieldText, is_colon, has_colon, name_of, first_of, field_of, fields_of, fault_of, outcome, reading_of, entry, continuations}
use Rattle.deb_control.proofs.ReadLemmas.{lines_in-split}

at_end : (n len : ℕ) → nat_lt n len ≡ false → len ≤ n
at_end n len other = grind (arith, nat_tests)

pub trim-nil : trim [] ≡ []
unfolding trim trim_end
trim-nil = refl

-- a line without a colon is all name
no_colon : (line : List ℕ) → has_colon line ≡ false → (name_of line ≡ line) × (first_of line ≡ [])
unfolding has_colon name_of first_of
no_colon line other =
    let most : length line ≤ position_or_len is_colon line = at_end (position_or_len is_colon line) (length line) other in (
      take_all (position_or_len is_colon line) line most,
      ap trim (drop_of_length-le line {i = position_or_len is_colon line + 1} (omega (arith, most))) ∙ trim-nil,
    )

pub field_of-none : (line rest first : List ℕ) → has_colon line ≡ false → first ≡ [] → entry line first rest ≡ field_of line (lines_in rest)
unfolding field_of continuations
field_of-none line rest first other none =
    let is = no_colon line other in
    rw (is.0, is.1, none) refl

-- the fields of a text that begins with a line that continues none
pub fields_of-more : (text line rest : List ℕ) → 0 < length text → line ≡ before_first is_line_feed text → rest ≡ after_first is_line_feed text
    → is_continuation line ≡ true → fields_of (lines_in rest) ≡ fields_of (lines_in text)
fields_of-more text line rest some front behind is = sym (ap fields_of (lines_in-split text line rest some front behind) ∙ rw is refl)

pub fields_of-first : (text line rest : List ℕ) → 0 < length text → line ≡ before_first is_line_feed text → rest ≡ after_first is_line_feed text
    → is_continuation line ≡ false → fields_of (lines_in text) ≡ field_of line (lines_in rest) ∷ fields_of (lines_in rest)
fields_of-first text line rest some front behind other = ap fields_of (lines_in-split text line rest some front behind) ∙ rw other refl

pub fields_of-none : (text : List ℕ) → length text ≡ 0 → fields_of (lines_in text) ≡ []
unfolding lines_in
fields_of-none [] none = refl
fields_of-none (c ∷ cs) none = absurd (omega arith)

outcome-own : (fault : Option ControlFaultKind) (fields found : List FieldText) → outcome fault fields ≡ Ok found → outcome fault fields ≡ Ok fields
outcome-own None fields found is = refl
outcome-own (Some kind) fields found is = absurd cc

-- a reading is that of the fields of the lines
pub reading_of-own : (bytes : List ℕ) (found : List FieldText) → reading_of (lines_of bytes) ≡ Ok found → reading_of (lines_of bytes) ≡ Ok (fields_of (lines_in bytes))
unfolding reading_of lines_in
reading_of-own bytes found is = outcome-own (fault_of (lines_of bytes)) (fields_of (map body_of (lines_of bytes))) found is
