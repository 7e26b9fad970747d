-- Where the fields of a paragraph begin, found line by line and asked by name.
use Rattle.std.proofs.Common.{◌≡◌, ◌∙◌, sym, ap, subst, refl, ℕ, ◌+◌, ◌-◌, zero, suc, ◌<◌, ◌≤◌, Bool, true, false, cond, ◌&&◌, not, List, [], ◌∷◌, ◌++◌, length, map, take, drop, append_assoc, append-nil, Option, Some, None, Ok, arith}
use Rattle.std.specs.Prelude.{nat_lt, IsUtf8, is_none}
use Rattle.std.specs.Option.{option_or}
use Rattle.std.specs.List.{AllByRecursion, before_first, after_first, concat, position_or_len}
use Rattle.std.specs.Str.{IsCharBoundary, is_utf8}
use Rattle.std.specs.Char.{to_ascii_lowercase}
use Rattle.std.proofs.Math.Seq.{drop-append_seam}
use Rattle.std.proofs.lemmas.List.{map-append, length-map, take-append-drop, length-append}
use Rattle.std.proofs.lemmas.Slice.Eq.{bytes_eq-Decides}
use Rattle.std.proofs.lemmas.Str.{IsCharBoundary-at_seam}
use Rattle.deb_control.specs.declared.fault.ControlFaultKind.{ControlFaultKind}
use Rattle.deb_control.specs.Lines.{is_line_feed, is_continuation, is_nonempty, lines_in, lines_of, body_of}
use Rattle.deb_control.specs.Fields.{FieldText, is_colon, name_of, field_of, fields_of, has_name, first_fault, line_fault, fault_of, outcome, reading_of, begin_with_field, takes_memory, paragraph_limit}
use Rattle.deb_control.specs.Index.{IsIndex, field_from, first_field}
use Rattle.deb_control.proofs.OwnedLemmas.{fields_of-first, fields_of-more, fields_of-none}

-- ---- the places, found line by line

-- the fields before what is left are found, and that is a back of the text
pub record IsHalfIndexed (text left : List ℕ) (starts : List ℕ) : Type 0 where
  pub front : List ℕ
  pub is : text ≡ front ++ left
  pub fields : map (field_from text) starts ++ fields_of (lines_in left) ≡ fields_of (lines_in text)
  pub places : AllByRecursion (IsCharBoundary text) starts

all-behind : {X : Type 0} (P : X → Type 0) (xs : List X) (x : X) → AllByRecursion P xs → P x → AllByRecursion P (xs ++ x ∷ [])
all-behind P [] x all here = (here, tt)
all-behind P (first ∷ xs) x all here = (all.0, all-behind P xs x all.1 here)

-- the front of a text before a line's end and what stands after it
further : (text front left rest : List ℕ) → text ≡ front ++ left → rest ≡ after_first is_line_feed left → (more : List ℕ) × (text ≡ more ++ rest)
further text front left rest is behind =
    let n = position_or_len is_line_feed left + 1 in
    (front ++ take n left, is ∙ ap (λ (l : List ℕ). front ++ l) (sym (take-append-drop n left)) ∙ sym (append_assoc front (take n left) (drop n left)) ∙ ap (λ (l : List ℕ). (front ++ take n left) ++ l) (sym behind))

pub half-indexed-more : (text left line rest starts : List ℕ) → IsHalfIndexed text left starts → 0 < length left → line ≡ before_first is_line_feed left → rest ≡ after_first is_line_feed left
    → is_continuation line ≡ true → IsHalfIndexed text rest starts
half-indexed-more text left line rest starts half some front behind is =
    let more = further text half.front left rest half.is behind in
    record {
      front = more.0;
      is = more.1;
      fields = ap (λ (l : List FieldText). map (field_from text) starts ++ l) (fields_of-more left line rest some front behind is) ∙ half.fields;
      places = half.places;
    }

start-of : (text front left : List ℕ) → text ≡ front ++ left → length text - length left ≡ length front
start-of text front left is = omega (arith, ap length is ∙ length-append front left)

left-of : (text front left : List ℕ) → text ≡ front ++ left → drop (length text - length left) text ≡ left
left-of text front left is = (λ i. drop (start-of text front left is i) (is i)) ∙ drop-append_seam front left

pub half-indexed-field : (text left line rest starts : List ℕ) (start : ℕ) → IsHalfIndexed text left starts → IsUtf8 left → 0 < length left → start ≡ length text - length left
    → line ≡ before_first is_line_feed left → rest ≡ after_first is_line_feed left → is_continuation line ≡ false → IsHalfIndexed text rest (starts ++ start ∷ [])
half-indexed-field text left line rest starts start half utf8 some at front behind other =
    let more = further text half.front left rest half.is behind in
    let left_is : drop start text ≡ left = ap (λ n. drop n text) at ∙ left-of text half.front left half.is in
    let field : field_from text start ≡ field_of line (lines_in rest) =
    (λ i. field_of (before_first is_line_feed (left_is i)) (lines_in (after_first is_line_feed (left_is i)))) ∙ (λ i. field_of (sym front i) (lines_in (sym behind i))) in
    record {
      front = more.0;
      is = more.1;
      fields = ap (λ (l : List FieldText). l ++ fields_of (lines_in rest)) (map-append (field_from text) starts (start ∷ []))
          ∙ append_assoc (map (field_from text) starts) (field_from text start ∷ []) (fields_of (lines_in rest))
          ∙ ap (λ (f : FieldText). map (field_from text) starts ++ f ∷ fields_of (lines_in rest)) field
          ∙ ap (λ (l : List FieldText). map (field_from text) starts ++ l) (sym (fields_of-first left line rest some front behind other))
          ∙ half.fields;
      places = all-behind (IsCharBoundary text) starts start half.places
          (subst (IsCharBoundary text) (sym (at ∙ start-of text half.front left half.is)) (IsCharBoundary-at_seam text half.front left half.is utf8));
    }

pub half-indexed-done : (text left starts : List ℕ) → IsHalfIndexed text left starts → length left ≡ 0 → IsIndex text starts
half-indexed-done text left starts half none = record {
  fields = sym (append-nil (map (field_from text) starts)) ∙ ap (λ (l : List FieldText). map (field_from text) starts ++ l) (sym (fields_of-none left none)) ∙ half.fields;
  places = half.places;
}

nonempty-behind : {X : Type 0} (xs : List X) (y : X) (ys : List X) → is_nonempty (xs ++ y ∷ ys) ≡ true
nonempty-behind [] y ys = refl
nonempty-behind (x ∷ xs) y ys = refl

-- a place is added only if there is a field
pub half-indexed-some : (text left line rest starts : List ℕ) → IsHalfIndexed text left starts → 0 < length left → line ≡ before_first is_line_feed left → rest ≡ after_first is_line_feed left
    → is_continuation line ≡ false → is_nonempty (fields_of (lines_in text)) ≡ true
half-indexed-some text left line rest starts half some front behind other =
    ap is_nonempty (sym half.fields ∙ ap (λ (l : List FieldText). map (field_from text) starts ++ l) (fields_of-first left line rest some front behind other))
    ∙ nonempty-behind (map (field_from text) starts) (field_of line (lines_in rest)) (fields_of (lines_in rest))

-- ---- memory for the places is memory for a paragraph

or-none : (a b : Option ControlFaultKind) → option_or a b ≡ None → a ≡ None
or-none None b e = refl
or-none (Some kind) b e = absurd cc

begun-with : (lines : List (List ℕ)) → first_fault [] lines ≡ None → is_nonempty (fields_of lines) ≡ true → begin_with_field lines ≡ true
unfolding begin_with_field
begun-with [] good some = absurd cc
begun-with (line ∷ lines) good some = ap is_none (or-none (line_fault [] line) _ good)

outcome-good : (fault : Option ControlFaultKind) (fields found : List FieldText) → outcome fault fields ≡ Ok found → fault ≡ None
outcome-good None fields found is = refl
outcome-good (Some kind) fields found is = absurd cc

pub takes_memory-read : (lines : List (List ℕ)) (found : List FieldText) → reading_of lines ≡ Ok found → is_nonempty (fields_of (map body_of lines)) ≡ true → takes_memory lines ≡ true
unfolding reading_of fault_of takes_memory
takes_memory-read lines found is some =
    go (nat_lt paragraph_limit (length (concat lines))) (is_utf8 (concat lines)) (first_fault [] (map body_of lines)) (outcome-good _ _ found is) (λ good. begun-with (map body_of lines) good some)
  where
    go : (large utf8 : Bool) (fault : Option ControlFaultKind) → cond large (Some ControlFaultKind.TooLarge) (cond utf8 fault (Some ControlFaultKind.NotUtf8)) ≡ None
        → (fault ≡ None → begin_with_field (map body_of lines) ≡ true) → (not large && (utf8 && begin_with_field (map body_of lines))) ≡ true
    go true utf8 fault e begun = absurd cc
    go false false fault e begun = absurd cc
    go false true fault e begun = begun e

-- ---- a text that begins with a name

take-le : (n : ℕ) (text : List ℕ) → length (take n text) ≤ length text
take-le zero text = omega arith
take-le (suc n) [] = omega arith
take-le (suc n) (c ∷ text) = omega (arith, take-le n text)

take-whole : (q p : ℕ) (text : List ℕ) → take q (take p text) ≡ take (length (take q (take p text))) text
take-whole zero p text = refl
take-whole (suc q) zero text = refl
take-whole (suc q) (suc p) [] = refl
take-whole (suc q) (suc p) (c ∷ text) = ap (λ (l : List ℕ). c ∷ l) (take-whole q p text)

take-twice-le : (q p : ℕ) (text : List ℕ) → length (take q (take p text)) ≤ length text
take-twice-le q p text = omega (arith, take-le q (take p text), take-le p text)

-- a field's name is what its line begins with
pub begins-named : (name text : List ℕ) → has_name name (first_field text) ≡ true
    → (length name ≤ length text) × (map to_ascii_lowercase (take (length name) text) ≡ map to_ascii_lowercase name)
unfolding field_of name_of
begins-named name text same =
    let p = position_or_len is_line_feed text in
    let q = position_or_len is_colon (take p text) in
    let lower : map to_ascii_lowercase (take q (take p text)) ≡ map to_ascii_lowercase name = (bytes_eq-Decides _ _).0 same in
    let long : length (take q (take p text)) ≡ length name = sym (length-map (take q (take p text)) to_ascii_lowercase) ∙ ap length lower ∙ length-map name to_ascii_lowercase in (
      subst (λ n. n ≤ length text) long (take-twice-le q p text),
      ap (map to_ascii_lowercase) ((λ i. take (sym long i) text) ∙ sym (take-whole q p text)) ∙ lower,
    )

pub takes_memory-text : (text other bytes : List ℕ) (found : List FieldText) → text ≡ bytes → other ≡ bytes → reading_of (lines_of text) ≡ Ok found
    → is_nonempty (fields_of (lines_in other)) ≡ true → takes_memory (lines_of bytes) ≡ true
unfolding lines_in
takes_memory-text text other bytes found is other_is read some =
    takes_memory-read (lines_of bytes) found (ap (λ (t : List ℕ). reading_of (lines_of t)) (sym is) ∙ read)
    (ap (λ (t : List ℕ). is_nonempty (fields_of (map body_of (lines_of t)))) (sym other_is) ∙ some)
