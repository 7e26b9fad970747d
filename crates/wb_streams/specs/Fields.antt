-- The fields of a head (RFC 9112, section 5), and the length of the body that they state (RFC 9112, section 6).
use Rattle.std.specs.Prelude.{ℕ, Bool, ◌&&◌, ◌||◌, not, codes, ◌==◌, nat_lt, List, [], ◌∷◌, length, map, filter, take, drop}
use Rattle.std.specs.Prelude.{if◌then◌else◌, Option, None, Some, Result, Ok, Err}
use Prim.Native.Char.{code}
use Rattle.std.specs.Char.{is_ascii_digit, to_ascii_lowercase}
use Rattle.std.specs.List.{list_all, list_any}
use Rattle.std.specs.Option.{option_and_then}
use Rattle.std.specs.Str.{bytes_eq}
use Rattle.std.specs.Str.Parse.{digits_value}
use Rattle.deb_text.specs.Lists.{begins}
use Rattle.wb_streams.specs.declared.fault.Fault.{Fault}
use Rattle.wb_streams.specs.declared.fault.Fault.TheVariants.{NoLength, BadLength, BodyTooLarge}

-- a field: its name, and its value without the white space around it
abbrev pub NameAndValue : Type 0
NameAndValue = List ℕ × List ℕ

-- the greatest length of a body
abbrev pub body_limit : ℕ
body_limit = 16777216

-- whether a field has this name, in whatever letters (RFC 9110, section 5.1)
abbrev pub is_named : List ℕ → NameAndValue → Bool
is_named name field = bytes_eq (map to_ascii_lowercase field.0) (map to_ascii_lowercase name)

-- whether a field of this name is there
abbrev pub has_field : List ℕ → List NameAndValue → Bool
has_field name fields = list_any (is_named name) fields

-- whether a field says that a web page had the request sent: it is an Origin (RFC 6454, section 7), or a Sec-Fetch-Site
-- with another value than `none` (Fetch Metadata Request Headers, section 2.3)
abbrev pub is_of_page : NameAndValue → Bool
is_of_page field = is_named (codes "origin") field
    || (is_named (codes "sec-fetch-site") field && not (bytes_eq field.1 (codes "none")))

-- whether the fields are those of a request that a web page had sent
abbrev pub is_from_browser : List NameAndValue → Bool
is_from_browser fields = list_any is_of_page fields

-- the values of the fields of this name
abbrev pub values_of : List ℕ → List NameAndValue → List (List ℕ)
values_of name fields = map (λ field. field.1) (filter (is_named name) fields)

-- ---- credentials

-- the name of the field that shows a key (RFC 9110, section 11.6.2)
abbrev pub authorization : List ℕ
authorization = codes "authorization"

-- a space
abbrev pub is_space : ℕ → Bool
is_space byte = byte == code " "

-- a text without the spaces that it begins with
abbrev pub without_spaces : List ℕ → List ℕ
without_spaces [] = []
without_spaces (byte ∷ text) = if is_space byte then without_spaces text else byte ∷ text

-- the scheme of bearer tokens, in whatever letters (RFC 9110, section 11.1; RFC 6750, section 2.1)
abbrev pub is_bearer : List ℕ → Bool
is_bearer scheme = bytes_eq (map to_ascii_lowercase scheme) (codes "bearer")

-- what stands in credentials behind the scheme of bearer tokens and one space or more
unfoldable pub token_of : List ℕ → Option (List ℕ)
token_of value = if is_bearer (take 6 value) && begins is_space (drop 6 value)
    then Some (without_spaces (drop 6 value)) else None

-- the only value of these, or none if there is none or more than one
abbrev pub only_of : List (List ℕ) → Option (List ℕ)
only_of [] = None
only_of (value ∷ []) = Some value
only_of (value ∷ other ∷ values) = None

-- the bearer token that fields show (RFC 6750, section 2.1): it stands in their only field for it
abbrev pub bearer_token : List NameAndValue → Option (List ℕ)
bearer_token fields = option_and_then token_of (only_of (values_of authorization fields))

-- ---- the length of the body

-- a number: one digit or more, and nothing else (RFC 9110, section 8.6)
abbrev pub is_number : List ℕ → Bool
is_number value = nat_lt 0 (length value) && list_all is_ascii_digit value

-- whether two texts are numbers, and the same number, whatever zeros they begin with
unfoldable pub is_same_number : List ℕ → List ℕ → Bool
is_same_number one other = (is_number one && is_number other) && (digits_value 10 one == digits_value 10 other)

-- a length that a body may have
unfoldable pub limited : ℕ → Result ℕ Fault
limited length = if nat_lt body_limit length then Err BodyTooLarge else Ok length

-- the name of the field that states the length of the body (RFC 9112, section 6.2)
abbrev pub content_length : List ℕ
content_length = codes "content-length"

-- whether a field states no length, or the same as this one
abbrev pub agrees : List ℕ → NameAndValue → Bool
agrees first field = not (is_named content_length field) || is_same_number first field.1

-- the length that values state, if they all state the same (RFC 9112, section 6.3)
unfoldable pub length_stated : List (List ℕ) → Result ℕ Fault
length_stated [] = Err NoLength
length_stated (value ∷ values) = if list_all (is_same_number value) (value ∷ values)
    then limited (digits_value 10 value) else Err BadLength

-- a number without the zeros that it begins with
abbrev pub without_zeros : List ℕ → List ℕ
without_zeros [] = []
without_zeros (digit ∷ digits) = if digit == code "0" then without_zeros digits else digit ∷ digits
