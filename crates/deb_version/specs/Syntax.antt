-- The text of a version: its cuts, its three parts and its faults (Debian Policy 5.6.12).
use Rattle.std.specs.Prelude.{◌≡◌, ℕ, ◌+◌, ◌-◌, ◌*◌, Bool, not, ◌||◌, List, [], ◌++◌, length, if◌then◌else◌, nat_lt, ◌==◌, codes}
use Prim.Native.Char.{code}
use Rattle.std.specs.Prelude.{Option, None, Some, is_none, Result, Ok, Err}
use Rattle.std.specs.Char.{is_ascii_alphanumeric, is_ascii_digit}
use Rattle.std.specs.List.{list_any, list_all, fold, before_first, after_first, before_last, after_last, position}
use Rattle.std.specs.Option.{option_map, option_or}
use Rattle.deb_version.specs.declared.fault.VersionFault.{VersionFault}
use Rattle.deb_version.specs.declared.fault.VersionFault.TheVariants.{Empty, EpochEmpty, EpochNotNumber, EpochTooLarge, UpstreamEmpty, UpstreamBad, RevisionEmpty, RevisionBad, TooLong}

-- an epoch, an upstream version, and a revision if one is written (Policy 5.6.12)
pub record Parts : Type 0 where
  pub epoch : ℕ
  pub upstream : List ℕ
  pub revision : Option (List ℕ)

-- the colon that ends an epoch (Policy 5.6.12)
abbrev pub is_colon : ℕ → Bool
is_colon c = c == code ":"

-- the hyphen that begins a revision (Policy 5.6.12)
abbrev pub is_hyphen : ℕ → Bool
is_hyphen c = c == code "-"

-- letters, digits and `.` `+` `~`, of which a revision is made (Policy 5.6.12)
unfoldable pub is_revision_char : ℕ → Bool
is_revision_char c = is_ascii_alphanumeric c || (c == code "." || (c == code "+" || c == code "~"))

-- letters, digits and `.` `+` `~` `-` `:`, of which an upstream version is made (Policy 5.6.12, the colon this project's own)
unfoldable pub is_upstream_char : ℕ → Bool
is_upstream_char c = is_revision_char c || (is_hyphen c || is_colon c)

-- whether an epoch is written: whether the text has a colon (Policy 5.6.12)
unfoldable pub has_epoch : List ℕ → Bool
has_epoch text = list_any is_colon text

-- what stands before the first colon (Policy 5.6.12)
unfoldable pub epoch_text : List ℕ → List ℕ
epoch_text text = before_first is_colon text

-- what stands after the first colon, or the whole text if it has none (Policy 5.6.12)
unfoldable pub rest_of : List ℕ → List ℕ
rest_of text = if has_epoch text then after_first is_colon text else text

-- whether a revision is written: whether the rest has a hyphen (Policy 5.6.12)
unfoldable pub has_revision : List ℕ → Bool
has_revision text = list_any is_hyphen (rest_of text)

-- what stands before the last hyphen of the rest, or all of it if it has none (Policy 5.6.12)
unfoldable pub upstream_text : List ℕ → List ℕ
upstream_text text = if has_revision text then before_last is_hyphen (rest_of text) else rest_of text

-- what stands after the last hyphen of the rest (Policy 5.6.12)
unfoldable pub revision_text : List ℕ → List ℕ
revision_text text = after_last is_hyphen (rest_of text)

-- the place in the whole text where the upstream version begins
unfoldable pub upstream_start : List ℕ → ℕ
upstream_start text = if has_epoch text then length (epoch_text text) + 1 else 0

-- the place in the whole text where the upstream version ends
unfoldable pub upstream_end : List ℕ → ℕ
upstream_end text = upstream_start text + length (upstream_text text)

-- whether a text is made of digits alone
abbrev pub all_digits : List ℕ → Bool
all_digits text = list_all is_ascii_digit text

-- a number with one more decimal digit at its end
unfoldable pub with_digit : ℕ → ℕ → ℕ
with_digit n c = n * 10 + (c - code "0")

-- the number that decimal digits write after those of n
abbrev pub value_after : ℕ → List ℕ → ℕ
value_after n digits = fold with_digit n digits

-- the number that decimal digits write
unfoldable pub value_of : List ℕ → ℕ
value_of digits = value_after 0 digits

-- the epoch, which is 0 if none is written (Policy 5.6.12)
unfoldable pub epoch_of : List ℕ → ℕ
epoch_of text = if has_epoch text then value_of (epoch_text text) else 0

-- the three parts of a text, by its cuts (Policy 5.6.12)
unfoldable pub parts_of : List ℕ → Parts
parts_of text = record {
  epoch = epoch_of text;
  upstream = upstream_text text;
  revision = if has_revision text then Some (revision_text text) else None;
}

-- how many bytes the text of a version may have
abbrev pub version_limit : ℕ
version_limit = 1000

-- how large an epoch may be
abbrev pub epoch_limit : ℕ
epoch_limit = 2147483647

-- no text, or one above the limit (this project's own)
unfoldable pub length_fault : List ℕ → Option VersionFault
length_fault text = if length text == 0 then Some Empty else (if nat_lt version_limit (length text) then Some TooLong else None)

-- what is wrong with the text of an epoch: one or more digits, up to the limit (Policy 5.6.12, the limit this project's own)
unfoldable pub number_fault : List ℕ → Option VersionFault
number_fault digits =
    if length digits == 0 then Some EpochEmpty
    else (if not (all_digits digits) then Some EpochNotNumber
    else (if nat_lt epoch_limit (value_of digits) then Some EpochTooLarge else None))

-- what is wrong with an upstream version that begins at the place start of the whole text (Policy 5.6.12; that any of its characters may be the first is this project's own)
unfoldable pub upstream_part_fault : ℕ → List ℕ → Option VersionFault
upstream_part_fault start part =
    if length part == 0 then Some UpstreamEmpty
    else option_map (λ place. UpstreamBad (start + place)) (position (λ c. not (is_upstream_char c)) part)

-- what is wrong with a revision that begins at the place start of the whole text (Policy 5.6.12)
unfoldable pub revision_part_fault : ℕ → List ℕ → Option VersionFault
revision_part_fault start part =
    if length part == 0 then Some RevisionEmpty
    else option_map (λ place. RevisionBad (start + place)) (position (λ c. not (is_revision_char c)) part)

-- what is wrong with the epoch, if one is written (Policy 5.6.12)
unfoldable pub epoch_fault : List ℕ → Option VersionFault
epoch_fault text = if has_epoch text then number_fault (epoch_text text) else None

-- what is wrong with the upstream version (Policy 5.6.12)
unfoldable pub upstream_fault : List ℕ → Option VersionFault
upstream_fault text = upstream_part_fault (upstream_start text) (upstream_text text)

-- what is wrong with the revision, if one is written (Policy 5.6.12)
unfoldable pub revision_fault : List ℕ → Option VersionFault
revision_fault text = if has_revision text then revision_part_fault (upstream_end text + 1) (revision_text text) else None

-- what is wrong with what follows the epoch: its upstream version, then its revision (Policy 5.6.12)
unfoldable pub rest_fault : List ℕ → Option VersionFault
rest_fault text = option_or (upstream_fault text) (revision_fault text)

-- the first fault of a text in the order of the checks: its length, its epoch, its upstream version, its revision
unfoldable pub fault_of : List ℕ → Option VersionFault
fault_of text = option_or (length_fault text) (option_or (epoch_fault text) (rest_fault text))

-- whether a text is a version (Policy 5.6.12)
unfoldable pub is_version_text : List ℕ → Bool
is_version_text text = is_none (fault_of text)

-- the value, unless there is a fault
abbrev pub ok_unless : {X E : Type 0} → Option E → X → Result X E
ok_unless None value = Ok value
ok_unless (Some fault) value = Err fault

-- the reading of a text: its parts if nothing is wrong with it, else its first fault (Policy 5.6.12)
unfoldable pub reading_of : List ℕ → Result Parts VersionFault
reading_of text = ok_unless (fault_of text) (parts_of text)

-- a text is its parts, joined by the colon and the hyphen that cut them: `[epoch:]upstream[-revision]` (Policy 5.6.12)
abbrev pub TextIsItsParts : Type 0
TextIsItsParts = (text : List ℕ)
    → text
    ≡ (if has_epoch text then epoch_text text ++ codes ":" else [])
    ++ (upstream_text text ++ (if has_revision text then codes "-" ++ revision_text text else []))

-- a number and two places that are the epoch and the ends of the upstream version of a text with a reading
pub record HasCuts (text : List ℕ) (epoch start end : ℕ) : Type 0 where
  pub faultless : fault_of text ≡ None
  pub number : epoch ≡ epoch_of text
  pub from : start ≡ upstream_start text
  pub to : end ≡ upstream_end text
