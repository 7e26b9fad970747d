-- Which lines of an input are answered, and how many lines an output has.
use Rattle.std.specs.Prelude.{◌≡◌, ℕ, Bool, not, ◌||◌, List, length}
use Rattle.std.specs.List.{AllByRecursion}
use Rattle.deb_text.specs.Lines.{IsOneLine, is_blank_line}
use Rattle.wb_streams.specs.Line.{is_long, with_line_feeds}

-- a line that is answered: it is too long, or it has more than spaces and tabs
abbrev pub is_answered : List ℕ → Bool
is_answered line = is_long line || not (is_blank_line line)

-- a text of this many lines, each ended by its line feed
pub record HasLines (number : ℕ) (text : List ℕ) : Type 0 where
  pub lines : List (List ℕ)
  pub joined : text ≡ with_line_feeds lines
  pub each : AllByRecursion IsOneLine lines
  pub count : length lines ≡ number
