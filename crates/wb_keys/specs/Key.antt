-- The form of a key (RFC 6750, section 2.1).
use Rattle.std.specs.Prelude.{ℕ, Bool, ◌&&◌, ◌||◌, ◌==◌, List, drop}
use Prim.Native.Char.{code}
use Rattle.std.specs.Char.{is_ascii_alphanumeric}
use Rattle.std.specs.List.{list_all, prefix_len}
use Rattle.deb_text.specs.Lists.{begins}
use Rattle.wb_states.specs.Names.{has_length}

-- a byte of a key before the `=` at its end: a letter, a digit, `-`, `.`, `_`, `~`, `+` or `/` (RFC 6750, section 2.1)
abbrev pub is_key_char : ℕ → Bool
is_key_char c = is_ascii_alphanumeric c
    || (c == code "-" || (c == code "." || (c == code "_" || (c == code "~" || (c == code "+" || c == code "/")))))

-- an equals sign
abbrev pub is_equals : ℕ → Bool
is_equals c = c == code "="

-- a text without the bytes at its front that may stand before the `=`
abbrev pub after_key_chars : List ℕ → List ℕ
after_key_chars text = drop (prefix_len is_key_char text) text

-- a key: 20 to 200 bytes, one or more that may stand before the `=`, and then `=` alone (RFC 6750, section 2.1; the
-- limits are this project's own)
unfoldable pub is_key_text : List ℕ → Bool
is_key_text text =
    has_length 20 200 text && (begins is_key_char text && list_all is_equals (after_key_chars text))
