-- What the arguments of a subcommand are, by the rows that `clap` found.
use Rattle.std.specs.Prelude.{ℕ, ◌==◌, ℤ, pos, neg_ℤ, Bool, List, [], Option, Some, None, codes}
use Rattle.std.specs.Prelude.{if◌then◌else◌, length, nat_lt, option_and_then, option_map, unwrap_or}
use Rattle.std.specs.List.{after_first, before_first, join_by, position_or_len}
use Rattle.std.specs.Str.Parse.{digits_value, signed_digits_value, without_leading_plus}
use Rattle.clap.specs.Words.{Row, Text, all_of, first_of}
use Rattle.clap.specs.ValueTests.{is_signed_in, is_unsigned_in}
use Rattle.deb_text.specs.Options.{all_some}
use Rattle.wb_words.specs.declared.argument.NamedSource.{NamedSource}
use Rattle.wb_lists.specs.declared.names.PartNames.{PartNames}

-- ---- words and numbers

-- the word that was given for an argument
unfoldable pub word_of : Text → List Row → Option Text
word_of id rows = first_of id rows

-- words with one space between each two
abbrev pub joined : List Text → Text
joined words = join_by (λ word. word) (codes " ") words

-- the words that were given for an argument, none if it was not given
abbrev pub all_words_of : Text → List Row → List Text
all_words_of id rows = unwrap_or (all_of id rows) []

-- the words that were given for an argument, joined
unfoldable pub words_of : Text → List Row → Text
words_of id rows = joined (all_words_of id rows)

-- the greatest number that is read, 2^64 - 1
abbrev pub number_limit : ℕ
number_limit = 18446744073709551615

-- the whole number that a text writes in decimal digits, one plus sign before them allowed
unfoldable pub number_in : Text → Option ℕ
number_in text = if is_unsigned_in 0 number_limit text
    then Some (digits_value 10 (without_leading_plus text)) else None

-- the number that was given for an argument
unfoldable pub number_of : Text → List Row → Option ℕ
number_of id rows = option_and_then number_in (word_of id rows)

-- the number that was given for an argument, if a word was given
abbrev pub number_if : Option Text → Option (Option ℕ)
number_if None = Some None
number_if (Some text) = option_map (λ number. Some number) (number_in text)

-- the number that may be left out, as it was given for an argument
unfoldable pub optional_number_of : Text → List Row → Option (Option ℕ)
optional_number_of id rows = number_if (word_of id rows)

-- the least integer that is read, -2^63
abbrev pub least_integer : ℤ
least_integer = neg_ℤ (pos 9223372036854775808)

-- the greatest integer that is read, 2^63 - 1
abbrev pub greatest_integer : ℤ
greatest_integer = pos 9223372036854775807

-- the integer that a text writes in decimal digits, one plus or minus sign before them allowed
unfoldable pub integer_in : Text → Option ℤ
integer_in text = if is_signed_in least_integer greatest_integer text
    then Some (signed_digits_value 10 text) else None

-- the integer that was given for an argument
unfoldable pub integer_of : Text → List Row → Option ℤ
integer_of id rows = option_and_then integer_in (word_of id rows)

-- the source package that the arguments name
unfoldable pub named_source_of : List Row → Option NamedSource
named_source_of rows = option_and_then (λ arch. option_and_then (λ source. option_map (λ version.
    record { arch = arch; source = source; version = version })
    (word_of (codes "version") rows)) (word_of (codes "source") rows))
    (word_of (codes "arch") rows)

-- ---- the parts of a merge

-- the character =
abbrev pub is_equals_sign : ℕ → Bool
is_equals_sign c = c == 61

-- the part that a word names: the architecture before its first =, and the file after it
unfoldable pub part_in : Text → Option PartNames
part_in word = if nat_lt (position_or_len is_equals_sign word) (length word)
    then Some (record {
      arch = before_first is_equals_sign word;
      packages = after_first is_equals_sign word;
    }) else None

-- the parts that the words name, if each of them names one
abbrev pub parts_in : List Text → Option (List PartNames)
parts_in words = all_some part_in words

-- the parts that were given for an argument
unfoldable pub parts_of : Text → List Row → Option (List PartNames)
parts_of id rows = parts_in (all_words_of id rows)
