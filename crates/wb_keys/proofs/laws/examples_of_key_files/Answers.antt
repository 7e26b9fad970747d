-- Each example computes.
use Rattle.std.proofs.Common.{refl}
use Rattle.std.specs.Str.{is_utf8, chars}
use Rattle.deb_relations.specs.Names.{is_arch_char, is_arch_word, is_lower_or_digit}
use Rattle.deb_text.specs.Lines.{words_in}
use Rattle.hex.specs.Hex.{decode_pairs}
use Rattle.wb_states.specs.Names.{is_arch_name, is_builder_name}
use Rattle.wb_keys.specs.KeyFile.{hash_of, keys_of, line_of, right_of}
use Rattle.wb_keys.proofs.laws.examples_of_key_files.Goals as goal

pub returns-clause-skipped : goal.returns-clause-skipped
unfolding is_utf8 chars lib.Utf8.encode keys_of line_of words_in right_of hash_of decode_pairs is_builder_name is_arch_name is_arch_word is_arch_char is_lower_or_digit
returns-clause-skipped c = refl

pub returns-clause-anyone : goal.returns-clause-anyone
unfolding is_utf8 chars lib.Utf8.encode keys_of line_of words_in right_of hash_of decode_pairs is_builder_name is_arch_name is_arch_word is_arch_char is_lower_or_digit
returns-clause-anyone c = refl

pub returns-clause-keyed : goal.returns-clause-keyed
unfolding is_utf8 chars lib.Utf8.encode keys_of line_of words_in right_of hash_of decode_pairs is_builder_name is_arch_name is_arch_word is_arch_char is_lower_or_digit
returns-clause-keyed c = refl

pub returns-clause-no_hash : goal.returns-clause-no_hash
unfolding is_utf8 chars lib.Utf8.encode keys_of line_of words_in right_of hash_of decode_pairs is_builder_name is_arch_name is_arch_word is_arch_char is_lower_or_digit
returns-clause-no_hash c = refl

pub returns-clause-no_right : goal.returns-clause-no_right
unfolding is_utf8 chars lib.Utf8.encode keys_of line_of words_in right_of hash_of decode_pairs is_builder_name is_arch_name is_arch_word is_arch_char is_lower_or_digit
returns-clause-no_right c = refl

pub returns-clause-unknown : goal.returns-clause-unknown
unfolding is_utf8 chars lib.Utf8.encode keys_of line_of words_in right_of hash_of decode_pairs is_builder_name is_arch_name is_arch_word is_arch_char is_lower_or_digit
returns-clause-unknown c = refl

pub returns-clause-builder : goal.returns-clause-builder
unfolding is_utf8 chars lib.Utf8.encode keys_of line_of words_in right_of hash_of decode_pairs is_builder_name is_arch_name is_arch_word is_arch_char is_lower_or_digit
returns-clause-builder c = refl

pub returns-clause-arch : goal.returns-clause-arch
unfolding is_utf8 chars lib.Utf8.encode keys_of line_of words_in right_of hash_of decode_pairs is_builder_name is_arch_name is_arch_word is_arch_char is_lower_or_digit
returns-clause-arch c = refl

pub returns-clause-name : goal.returns-clause-name
unfolding is_utf8 chars lib.Utf8.encode keys_of line_of words_in right_of hash_of decode_pairs is_builder_name is_arch_name is_arch_word is_arch_char is_lower_or_digit
returns-clause-name c = refl

pub returns-clause-name_twice : goal.returns-clause-name_twice
unfolding is_utf8 chars lib.Utf8.encode keys_of line_of words_in right_of hash_of decode_pairs is_builder_name is_arch_name is_arch_word is_arch_char is_lower_or_digit
returns-clause-name_twice c = refl

pub returns-clause-hash_twice : goal.returns-clause-hash_twice
unfolding is_utf8 chars lib.Utf8.encode keys_of line_of words_in right_of hash_of decode_pairs is_builder_name is_arch_name is_arch_word is_arch_char is_lower_or_digit
returns-clause-hash_twice c = refl

pub returns-clause-anyone_twice : goal.returns-clause-anyone_twice
unfolding is_utf8 chars lib.Utf8.encode keys_of line_of words_in right_of hash_of decode_pairs is_builder_name is_arch_name is_arch_word is_arch_char is_lower_or_digit
returns-clause-anyone_twice c = refl

pub returns-clause-anyone_with_hash : goal.returns-clause-anyone_with_hash
unfolding is_utf8 chars lib.Utf8.encode keys_of line_of words_in right_of hash_of decode_pairs is_builder_name is_arch_name is_arch_word is_arch_char is_lower_or_digit
returns-clause-anyone_with_hash c = refl
