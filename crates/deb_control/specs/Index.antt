-- Where the fields of a paragraph begin in its text.
use Rattle.std.specs.Prelude.{◌≡◌, ℕ, List, map, drop}
use Rattle.std.specs.List.{AllByRecursion, before_first, after_first}
use Rattle.std.specs.Str.{IsCharBoundary}
use Rattle.deb_control.specs.Lines.{is_line_feed, lines_in}
use Rattle.deb_control.specs.Fields.{FieldText, field_of, fields_of}

-- the field of the first line of a text, and of the lines after it (Policy 5.1)
abbrev pub first_field : List ℕ → FieldText
first_field text = field_of (before_first is_line_feed text) (lines_in (after_first is_line_feed text))

-- the field of the line that begins at a place of a text, and of the lines after it (Policy 5.1)
abbrev pub field_from : List ℕ → ℕ → FieldText
field_from text start = first_field (drop start text)

-- the places of a text at which its fields begin, in their order (Policy 5.1)
pub record IsIndex (text : List ℕ) (starts : List ℕ) : Type 0 where
  pub fields : map (field_from text) starts ≡ fields_of (lines_in text)
  pub places : AllByRecursion (IsCharBoundary text) starts
