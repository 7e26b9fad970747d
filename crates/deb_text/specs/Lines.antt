-- Lines, the blanks in them, and the words that blanks separate.
use Rattle.std.specs.Prelude.{◌≡◌, ℕ, Bool, false, ◌||◌, ◌==◌, List, filter}
use Prim.Native.Char.{code}
use Rattle.std.specs.List.{list_all, list_any, slice_split}
use Rattle.deb_text.specs.Lists.{is_nonempty}

-- a line feed
abbrev pub is_line_feed : ℕ → Bool
is_line_feed c = c == code "\n"

-- a space or a tab
abbrev pub is_blank : ℕ → Bool
is_blank c = c == code " " || c == code "\t"

-- a line of spaces and tabs alone
abbrev pub is_blank_line : List ℕ → Bool
is_blank_line line = list_all is_blank line

-- a text without a line feed
abbrev pub IsOneLine : List ℕ → Type 0
IsOneLine text = list_any is_line_feed text ≡ false

-- the words of a text, separated by spaces and tabs
unfoldable pub words_in : List ℕ → List (List ℕ)
words_in text = filter is_nonempty (slice_split is_blank text)
