-- Where memory is wanted: the first line of a paragraph is then that of a field.
use Rattle.std.proofs.Common.{◌≡◌, ◌∙◌, sym, ap, ℕ, ◌<◌, ◌≤◌, true, length, map, List, [], ◌⊎◌, inl, inr, arith, None}
use Rattle.std.specs.Prelude.{nat_lt, not, IsUtf8, is_none}
use Rattle.std.specs.List.{before_first, after_first, concat}
use Rattle.std.specs.Str.{is_utf8}
use Rattle.std.proofs.lemmas.Str.{is_utf8-from_IsUtf8}
use Rattle.std.proofs.lemmas.Bool.Decides.{nat_tests}
use Rattle.std.proofs.lemmas.Bool.{and_from}
use Rattle.deb_control.specs.Lines.{is_line_feed, lines_of, body_of, lines_in}
use Rattle.deb_control.specs.Fields.{FieldText, names_in, line_fault, paragraph_limit, begin_with_field, takes_memory}
use Rattle.deb_control.proofs.LineLemmas.{concat-lines_of}
use Rattle.deb_control.proofs.ReadLemmas.{lines_in-split}

-- no line was read yet, or the text begins with a field
abbrev pub HasBegun : List FieldText → List ℕ → List ℕ → Type 0
HasBegun fields left text = ((fields ≡ []) × (left ≡ text)) ⊎ (begin_with_field (lines_in text) ≡ true)

pub begins-at : (fields : List FieldText) (left text line rest : List ℕ) → HasBegun fields left text → 0 < length left
    → line ≡ before_first is_line_feed left → rest ≡ after_first is_line_feed left → line_fault [] line ≡ None → begin_with_field (lines_in text) ≡ true
unfolding begin_with_field
begins-at fields left text line rest (inl first) some front behind good =
    ap (λ xs. begin_with_field (lines_in xs)) (sym first.1)
    ∙ ap begin_with_field (lines_in-split left line rest some front behind)
    ∙ ap is_none good
begins-at fields left text line rest (inr begun) some front behind good = begun

pub begins-behind : (fields : List FieldText) (left text line rest : List ℕ) → HasBegun fields left text → 0 < length left
    → line ≡ before_first is_line_feed left → rest ≡ after_first is_line_feed left → line_fault (names_in fields) line ≡ None → begin_with_field (lines_in text) ≡ true
begins-behind fields left text line rest (inl first) some front behind good =
    begins-at fields left text line rest (inl first) some front behind (ap (λ xs. line_fault (names_in xs) line) (sym first.0) ∙ good)
begins-behind fields left text line rest (inr begun) some front behind good = begun

not_less : (m n : ℕ) → n ≤ m → not (nat_lt m n) ≡ true
not_less m n h = grind (arith, nat_tests)

-- a text that is small enough, is UTF-8 and begins with a field
pub takes_memory-of : (bytes text : List ℕ) → length bytes ≤ paragraph_limit → (text ≡ bytes) × IsUtf8 bytes
    → begin_with_field (lines_in text) ≡ true → takes_memory (lines_of bytes) ≡ true
unfolding takes_memory lines_in
takes_memory-of bytes text small utf8 begun =
    let whole : concat (lines_of bytes) ≡ bytes = concat-lines_of bytes in
    and_from _ _ (ap (λ xs. not (nat_lt paragraph_limit (length xs))) whole ∙ not_less paragraph_limit (length bytes) small)
    (and_from _ _ (ap is_utf8 whole ∙ is_utf8-from_IsUtf8 bytes utf8.1) (ap (λ xs. begin_with_field (map body_of (lines_of xs))) (sym utf8.0) ∙ begun))
