-- Lines that stop before a paragraph has ended, after Debian Policy 5.1.
use Rattle.std.specs.Prelude.{◌≡◌, ℕ, ◌+◌, ◌≤◌, true, false, List, ◌++◌, length, ◌⊎◌}
use Rattle.std.specs.List.{list_any, list_all, concat}
use Rattle.deb_control.specs.Lines.{is_line_feed, is_blank, is_separator, lines_of}
use Rattle.deb_control.specs.Fields.{paragraph_limit}

-- so many bytes are no too large paragraph, nor are they with a piece of a line after them, unless that is blank so far (Policy 5.1)
abbrev pub IsSmall : ℕ → List ℕ → Type 0
IsSmall size piece = (size ≤ paragraph_limit) × ((list_all is_blank piece ≡ true) ⊎ (size + length piece ≤ paragraph_limit))

-- lines that stop before a paragraph has ended: separators, lines of a paragraph and a piece of a line, which are not too large (Policy 5.1)
pub record IsUnfinished (front : List (List ℕ)) : Type 0 where
  pub before : List (List ℕ)
  pub lines : List (List ℕ)
  pub piece : List ℕ
  pub cut : front ≡ before ++ (lines ++ lines_of piece)
  pub separators : list_all is_separator before ≡ true
  pub plain : list_any is_separator lines ≡ false
  pub begun : list_any is_line_feed piece ≡ false
  pub small : IsSmall (length (concat lines)) piece

-- a text was read up to a place before which no paragraph has ended
abbrev pub StopsUnfinished : List ℕ → List ℕ → Type 0
StopsUnfinished text rest = (front : List ℕ) × (text ≡ front ++ rest) × IsUnfinished (lines_of front)
