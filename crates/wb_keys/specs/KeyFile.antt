-- What a key file means: its lines with a key, the line for requests without one, or its first malformed line.
use Rattle.std.specs.Prelude.{ℕ, ◌+◌, ◌-◌, Bool, not, ◌&&◌, ◌||◌, nat_le, ◌==◌, List, [], ◌∷◌, ◌++◌, length, take, find}
use Rattle.std.specs.Prelude.{codes, bytes_eq, Option, Some, None, is_some, Result, Ok, Err, if◌then◌else◌}
use Prim.Native.Char.{code}
use Rattle.std.specs.List.{list_all, list_any, before_first, after_first, slice_get, slice_split}
use Rattle.std.specs.Option.{option_map, option_and_then}
use Rattle.std.specs.Result.{result_ok}
use Rattle.std.specs.Str.{is_utf8}
use Rattle.deb_text.specs.Lines.{is_line_feed, words_in}
use Rattle.deb_text.specs.Lists.{begins}
use Rattle.hex.specs.Hex.{decode_sized}
use Rattle.wb_states.specs.Names.{is_arch_name, is_builder_name}
use Rattle.wb_keys.specs.Key.{is_equals}
use Rattle.wb_keys.specs.declared.fault.LineFault.{LineFault}
use Rattle.wb_keys.specs.declared.fault.LineFault.TheVariants as fault
use Rattle.wb_keys.specs.declared.fault.BadLine.{BadLine}
use Rattle.wb_keys.specs.declared.key_file.Line.{Line}
use Rattle.wb_keys.specs.declared.key_file.Line.TheVariants.{Skipped, Anyone, Keyed}
use Rattle.wb_keys.specs.declared.keys.KeyLine.{KeyLine}
use Rattle.wb_keys.specs.declared.keys.Keys.{Keys}
use Rattle.wb_keys.specs.declared.right.Right.{Right}
use Rattle.wb_keys.specs.declared.right.Right.TheVariants.{Read, Build, Port, Operate}

-- the most lines with a key
abbrev pub key_limit : ℕ
key_limit = 1000

-- ---- the words of a line

-- `build=BUILDER`, with the name of a builder
abbrev pub builder_right : List ℕ → Result Right LineFault
builder_right name = if is_builder_name name then Ok (Build name) else Err fault.BadBuilder

-- `port=ARCH`, with the name of an architecture
abbrev pub porter_right : List ℕ → Result Right LineFault
porter_right name = if is_arch_name name then Ok (Port name) else Err fault.BadArch

-- a right with a name, by what stands before the first equals sign and after it
abbrev pub named_right : List ℕ → List ℕ → Result Right LineFault
named_right before name =
    if bytes_eq before (codes "build") then builder_right name
    else if bytes_eq before (codes "port") then porter_right name
    else Err fault.UnknownRight

-- the right that a word names
unfoldable pub right_of : List ℕ → Result Right LineFault
right_of word =
    if bytes_eq word (codes "read") then Ok Read
    else if bytes_eq word (codes "operate") then Ok Operate
    else if list_any is_equals word then named_right (before_first is_equals word) (after_first is_equals word)
    else Err fault.UnknownRight

-- a right before others; the first that is at fault counts
abbrev pub right_before : Result Right LineFault → Result (List Right) LineFault → Result (List Right) LineFault
right_before (Err wrong) later = Err wrong
right_before (Ok right) (Err wrong) = Err wrong
right_before (Ok right) (Ok later) = Ok (right ∷ later)

-- the rights that words name, perhaps none
abbrev pub all_rights : List (List ℕ) → Result (List Right) LineFault
all_rights [] = Ok []
all_rights (word ∷ words) = right_before (right_of word) (all_rights words)

-- the rights of a line, one or more
abbrev pub rights_in : List (List ℕ) → Result (List Right) LineFault
rights_in [] = Err fault.NoRight
rights_in (word ∷ words) = all_rights (word ∷ words)

-- a lower-case hexadecimal digit
abbrev pub is_hash_digit : ℕ → Bool
is_hash_digit c = (nat_le (code "0") c && nat_le c (code "9")) || (nat_le (code "a") c && nat_le c (code "f"))

-- the 32 bytes that a word of 64 lower-case hexadecimal digits writes
unfoldable pub hash_of : List ℕ → Option (List ℕ)
hash_of word = if list_all is_hash_digit word then result_ok (decode_sized word 32) else None

-- ---- a line

-- the words but the last
abbrev pub front_of : List (List ℕ) → List (List ℕ)
front_of words = take (length words - 1) words

-- the hash that the last word writes
abbrev pub last_hash : List (List ℕ) → Option (List ℕ)
last_hash words = option_and_then hash_of (slice_get words (length words - 1))

-- what a line says by its rights, unless one is at fault
abbrev pub said : (List Right → Line) → Result (List Right) LineFault → Result Line LineFault
said line (Err wrong) = Err wrong
said line (Ok rights) = Ok (line rights)

-- the line of a name by its hash, if it has one, and its rights
abbrev pub line_by : List ℕ → Option (List ℕ) → Result (List Right) LineFault → Result Line LineFault
line_by name None rights = Err fault.BadHash
line_by name (Some hash) rights = said (λ held. Keyed (record { name = name; rights = held; hash = hash })) rights

-- `NAME RIGHT.. HASH`, by the words after the name
abbrev pub keyed_line : List ℕ → List (List ℕ) → Result Line LineFault
keyed_line name words = line_by name (last_hash words) (rights_in (front_of words))

-- `* RIGHT..`, by the words after the `*`
abbrev pub anyone_line : List (List ℕ) → Result Line LineFault
anyone_line words = if is_some (last_hash words) then Err fault.AnyoneWithHash else said Anyone (rights_in words)

-- a line by its first word and the others
abbrev pub line_with : List ℕ → List (List ℕ) → Result Line LineFault
line_with name words =
    if bytes_eq name (codes "*") then anyone_line words
    else if is_builder_name name then keyed_line name words
    else Err fault.BadName

-- a line by its words, which spaces and tabs separate
abbrev pub line_of_words : List (List ℕ) → Result Line LineFault
line_of_words [] = Ok Skipped
line_of_words (name ∷ words) = line_with name words

-- a number sign
abbrev pub is_number_sign : ℕ → Bool
is_number_sign c = c == code "#"

-- what a line says; one that begins with `#` says nothing
unfoldable pub line_of : List ℕ → Result Line LineFault
line_of line =
    if not (is_utf8 line) then Err fault.NotText
    else if begins is_number_sign line then Ok Skipped
    else line_of_words (words_in line)

-- ---- a file

-- no line
abbrev pub no_keys : Keys
no_keys = record { lines = []; anyone = None }

-- a line has this name
abbrev pub has_name : List ℕ → KeyLine → Bool
has_name name line = bytes_eq line.name name

-- a line has this hash, all of its bytes
abbrev pub has_hash : List ℕ → KeyLine → Bool
has_hash hash line = bytes_eq line.hash hash

-- lines, and one more with a key: there are not too many, and none before it has its name or its hash
abbrev pub with_key : Keys → KeyLine → Result Keys LineFault
with_key keys line =
    if nat_le key_limit (length keys.lines) then Err fault.TooMany
    else if list_any (has_name line.name) keys.lines then Err fault.NameTwice
    else if list_any (has_hash line.hash) keys.lines then Err fault.HashTwice
    else Ok (record keys { lines = keys.lines ++ line ∷ [] })

-- lines, and one more for requests without a key: there is none before it
abbrev pub with_anyone : Keys → List Right → Result Keys LineFault
with_anyone keys rights =
    if is_some keys.anyone then Err fault.AnyoneTwice else Ok (record keys { anyone = Some rights })

-- lines, and one more by what it says
abbrev pub with_said : Keys → Line → Result Keys LineFault
with_said keys Skipped = Ok keys
with_said keys (Anyone rights) = with_anyone keys rights
with_said keys (Keyed line) = with_key keys line

-- lines, and one more by what it says, unless it is malformed
abbrev pub with_line : Keys → Result Line LineFault → Result Keys LineFault
with_line keys (Err wrong) = Err wrong
with_line keys (Ok line) = with_said keys line

-- what the lines after one come to, or that this one, of this number, is malformed
abbrev pub go_on : ℕ → Result Keys LineFault → (Keys → Result Keys BadLine) → Result Keys BadLine
go_on number (Err wrong) later = Err (record { line = number; fault = wrong })
go_on number (Ok keys) later = later keys

-- what lines come to after others, the first of them of this number; the first that is malformed counts
abbrev pub keys_after : Keys → ℕ → List (List ℕ) → Result Keys BadLine
keys_after keys number [] = Ok keys
keys_after keys number (line ∷ lines) = go_on number (with_line keys (line_of line))
    (λ more. keys_after more (number + 1) lines)

-- what a key file means, or its first malformed line: line feeds separate its lines, which are counted from 1
unfoldable pub keys_of : List ℕ → Result Keys BadLine
keys_of file = keys_after no_keys 1 (slice_split is_line_feed file)

-- ---- whose key it is

-- the line with this hash, all of its bytes
unfoldable pub line_by_hash : Keys → List ℕ → Option KeyLine
line_by_hash keys hash = find (has_hash hash) keys.lines

-- the rights of the line with this hash
abbrev pub rights_by_hash : Keys → List ℕ → Option (List Right)
rights_by_hash keys hash = option_map (λ (line : KeyLine). line.rights) (line_by_hash keys hash)
