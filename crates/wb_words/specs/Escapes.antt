-- How words are read of which the last is a negative build priority: as if `--` stood before it.
use Rattle.std.specs.Prelude.{◌==◌, ◌&&◌, ◌-◌, ℕ, Bool, false, not, List, [], ◌∷◌, length, codes, nat_lt, slice_get}
use Rattle.std.specs.Prelude.{if◌then◌else◌}
use Rattle.std.specs.Char.{is_ascii_digit}
use Rattle.std.specs.List.{insert, list_all, list_any}
use Rattle.std.specs.Option.{option_map_or}
use Rattle.std.specs.Str.{bytes_eq}
use Rattle.clap.specs.Words.{Text}
use Prim.Native.Char.{code}

-- decimal digits, at least one
abbrev pub is_digits : List ℕ → Bool
is_digits text = nat_lt 0 (length text) && list_all is_ascii_digit text

-- a minus sign with decimal digits after it
abbrev pub is_negative : Text → Bool
is_negative [] = false
is_negative (sign ∷ digits) = sign == code "-" && is_digits digits

-- one of the words is `--`
abbrev pub has_escape : List Text → Bool
has_escape words = list_any (λ word. bytes_eq word (codes "--")) words

-- the last of the words is a minus sign with decimal digits after it
abbrev pub end_in_negative : List Text → Bool
end_in_negative words = option_map_or is_negative (slice_get words (length words - 1)) false

-- the subcommand is `build-priority`, the last word is a negative number, and no word is `--`
unfoldable pub has_negative_value : List Text → Bool
has_negative_value [] = false
has_negative_value (name ∷ given) = bytes_eq name (codes "build-priority") && (not (has_escape given) && end_in_negative given)

-- the words with `--` before the last of them
abbrev pub escaped : List Text → List Text
escaped words = insert words (length words - 1) (codes "--")

-- the words of a line, as they are read
abbrev pub line_words : List Text → List Text
line_words words = if has_negative_value words then escaped words else words
