-- The forms of names: architectures and their words, builders, priorities and sections.
use Rattle.std.specs.Prelude.{ℕ, Bool, not, ◌&&◌, ◌||◌, List, length, nat_le, nat_eq, codes, bytes_eq}
use Prim.Native.Char.{code}
use Rattle.std.specs.Char.{is_ascii_alphanumeric, is_ascii_graphic}
use Rattle.std.specs.List.{list_all}
use Rattle.deb_relations.specs.Names.{is_lower_or_digit, is_arch_word, is_package_name}
use Rattle.deb_text.specs.Lists.{begins}

-- a text of this many bytes, both ends included
abbrev pub has_length : ℕ → ℕ → List ℕ → Bool
has_length least most text = nat_le least (length text) && nat_le (length text) most

-- one of the words that name no single architecture (Debian Policy 5.6.8)
abbrev pub is_no_single_arch : List ℕ → Bool
is_no_single_arch text = bytes_eq text (codes "all") || (bytes_eq text (codes "any") || bytes_eq text (codes "source"))

-- the name of an architecture: 1 to 40 lower-case letters, digits and `-`, the first no `-`, and none of the words that
-- name no single one (this project's own)
unfoldable pub is_arch_name : List ℕ → Bool
is_arch_name text =
    has_length 1 40 text && (is_arch_word text && not (is_no_single_arch text))

-- the word of an operating system or a processor: 1 to 20 lower-case letters and digits, and not `any` (this project's
-- own)
unfoldable pub is_os_cpu_word : List ℕ → Bool
is_os_cpu_word text = has_length 1 20 text && (list_all is_lower_or_digit text && not (bytes_eq text (codes "any")))

-- a byte of a builder's name: a letter, a digit, `.`, `_` or `-`
abbrev pub is_builder_char : ℕ → Bool
is_builder_char c = is_ascii_alphanumeric c || (nat_eq c (code ".") || (nat_eq c (code "_") || nat_eq c (code "-")))

-- the name of a builder: 1 to 64 of these bytes, the first a letter or a digit
unfoldable pub is_builder_name : List ℕ → Bool
is_builder_name text = has_length 1 64 text && (begins is_ascii_alphanumeric text && list_all is_builder_char text)

-- a priority or a section: 1 to 64 bytes that can be seen, from `!` to `~` (Debian Policy 2.5 and 2.4; the form is this
-- project's own)
unfoldable pub is_label_text : List ℕ → Bool
is_label_text text = has_length 1 64 text && list_all is_ascii_graphic text

-- an architecture and a source package, of which one is malformed
abbrev pub has_bad_key : List ℕ → List ℕ → Bool
has_bad_key arch source = not (is_arch_name arch && is_package_name source)
