-- The lines of control data and the runs of lines that are its paragraphs, after Debian Policy 5.1.
use Rattle.std.specs.Prelude.{◌≡◌, ℕ, ◌+◌, Bool, true, false, not, ◌||◌, ◌==◌, if◌then◌else◌, List, [], ◌∷◌, ◌++◌, map, filter, reverse, take, drop, length, ◌<◌, ◌⊎◌, codes}
use Prim.Native.Char.{code}
use Rattle.std.specs.List.{before_first, position_or_len, prefix_len, slice_split, onto_first, list_all, list_any, slice_get}
use Rattle.std.specs.Option.{option_map_or}

-- a line feed (Policy 5.1)
abbrev pub is_line_feed : ℕ → Bool
is_line_feed c = c == code "\n"

-- a space or a tab (Policy 5.1; that a carriage return is none is this project's own)
abbrev pub is_blank : ℕ → Bool
is_blank c = c == code " " || c == code "\t"

-- whether a line begins with a space or a tab, and so continues the field before it (Policy 5.1)
abbrev pub is_continuation : List ℕ → Bool
is_continuation line = option_map_or is_blank (slice_get line 0) false

-- the lines of a text, each with its line feed, which the last may lack (Policy 5.1)
abbrev pub lines_of : List ℕ → List (List ℕ)
lines_of [] = []
lines_of (c ∷ cs) = if is_line_feed c then (c ∷ []) ∷ lines_of cs else onto_first c (lines_of cs)

-- a line, after which this text stands: no line feed but one at its end, which a line that is not empty may lack if nothing stands after it (Policy 5.1)
pub record IsLine (line rest : List ℕ) : Type 0 where
  pub body : List ℕ
  pub free : list_any is_line_feed body ≡ false
  pub ended : (line ≡ body ++ codes "\n") ⊎ ((line ≡ body) × (0 < length body) × (rest ≡ []))

-- a text that is these lines, one after the other (Policy 5.1)
abbrev pub HaveLines : List ℕ → List (List ℕ) → Type 0
HaveLines text [] = text ≡ []
HaveLines text (line ∷ lines) = (rest : List ℕ) × (text ≡ line ++ rest) × IsLine line rest × HaveLines rest lines

-- a line without its line feed (Policy 5.1)
unfoldable pub body_of : List ℕ → List ℕ
body_of line = before_first is_line_feed line

-- the lines of a text, each without its line feed (Policy 5.1)
unfoldable pub lines_in : List ℕ → List (List ℕ)
lines_in text = map body_of (lines_of text)

-- the first line of a text, with its line feed (Policy 5.1)
unfoldable pub front_line : List ℕ → List ℕ
front_line text = take (position_or_len is_line_feed text + 1) text

-- whether a line separates paragraphs, being empty or of spaces and tabs alone (Policy 5.1; that a carriage return is no blank is this project's own)
unfoldable pub is_separator : List ℕ → Bool
is_separator line = list_all is_blank (body_of line)

-- whether a list has an item, or a text a character
abbrev pub is_nonempty : {X : Type 0} → List X → Bool
is_nonempty [] = false
is_nonempty (_ ∷ _) = true

-- the paragraphs, which are the longest runs of lines that are no separators (Policy 5.1)
unfoldable pub paragraphs_in : List (List ℕ) → List (List (List ℕ))
paragraphs_in lines = filter is_nonempty (slice_split is_separator lines)

-- whether a text begins with a separator (Policy 5.1)
unfoldable pub begins_separator : List ℕ → Bool
begins_separator [] = false
begins_separator (c ∷ cs) = is_separator (front_line (c ∷ cs))

-- whether a text begins with a line of a paragraph (Policy 5.1)
unfoldable pub begins_paragraph : List ℕ → Bool
begins_paragraph [] = false
begins_paragraph (c ∷ cs) = not (is_separator (front_line (c ∷ cs)))

-- the first paragraph of a text, and what stands after it (Policy 5.1)
abbrev pub IsFirstParagraph : List ℕ → List ℕ → List ℕ → Type 0
IsFirstParagraph text first rest = paragraphs_in (lines_of text) ≡ lines_of first ∷ paragraphs_in (lines_of rest)

-- whether the first of some lines is a separator, or there are no lines (Policy 5.1)
abbrev pub begin_no_paragraph : List (List ℕ) → Bool
begin_no_paragraph [] = true
begin_no_paragraph (line ∷ _) = is_separator line

-- lines of which these are the paragraphs: longest runs of lines that are no separators, with separators alone round them (Policy 5.1)
abbrev pub HaveParagraphs : List (List ℕ) → List (List (List ℕ)) → Type 0
HaveParagraphs lines [] = list_all is_separator lines ≡ true
HaveParagraphs lines (paragraph ∷ paragraphs) =
    (before : List (List ℕ)) × (after : List (List ℕ)) × (lines ≡ before ++ (paragraph ++ after)) × (list_all is_separator before ≡ true)
    × (is_nonempty paragraph ≡ true) × (list_any is_separator paragraph ≡ false) × (begin_no_paragraph after ≡ true) × HaveParagraphs after paragraphs

-- a text without the spaces and tabs at its start (Policy 5.1)
abbrev pub trim_start : List ℕ → List ℕ
trim_start text = drop (prefix_len is_blank text) text

-- a text without the spaces and tabs at its end (Policy 5.1)
unfoldable pub trim_end : List ℕ → List ℕ
trim_end text = reverse (trim_start (reverse text))

-- a text without the spaces and tabs round it (Policy 5.1)
unfoldable pub trim : List ℕ → List ℕ
trim text = trim_end (trim_start text)
