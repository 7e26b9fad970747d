-- Names, labels and versions are ASCII, and so they are UTF-8.
use Rattle.std.proofs.Common.{◌≡◌, ℕ, ◌<◌, Bool, true, ◌||◌, List, [], ◌∷◌, refl, sym, subst, Option, Some, None, Result, Ok, Err, arith}
use Rattle.std.specs.Prelude.{IsUtf8, IsTrue, IsOk, IfSome}
use Rattle.std.specs.Char.{is_ascii_digit, is_ascii_graphic}
use Rattle.std.specs.List.{list_all}
use Rattle.std.specs.Str.{IsAscii}
use Rattle.std.proofs.lemmas.Bool.{and_parts}
use Rattle.std.proofs.lemmas.Bool.Decides.{nat_tests}
use Rattle.std.proofs.lemmas.Str.{IsUtf8-append, IsUtf8-from_ascii, IsUtf8-nil}
use Rattle.std.proofs.lemmas.Str.Ascii.{IsAscii-cons, IsAscii-nil}
use Rattle.deb_version.specs.declared.fault.VersionFault.{VersionFault}
use Rattle.deb_version.specs.Grammar.{IsEpoch, IsRevision, IsVersion, epoch_part, revision_part}
use Rattle.deb_version.specs.Syntax.{Parts, is_revision_char, is_upstream_char, reading_of}
use Rattle.deb_version.proofs.VersionGrammarLemmas.{versions-is}
use Rattle.deb_relations.specs.Names.{is_arch_char, is_arch_word, is_lower_or_digit, is_package_char, is_package_name, begins_with_lower_or_digit}
use Rattle.deb_text.specs.Text.{is_empty_text}
use Rattle.wb_states.specs.Names.{has_length, is_arch_name, is_builder_char, is_builder_name, is_label_text, is_os_cpu_word}

-- bytes that pass a test which only ASCII passes
ascii : (test : ℕ → Bool) → ((c : ℕ) → test c ≡ true → c < 128) → (text : List ℕ) → list_all test text ≡ true → IsAscii text
ascii test low [] h = IsAscii-nil
ascii test low (c ∷ cs) h =
    let two = and_parts (test c) (list_all test cs) h in
    IsAscii-cons c cs (low c two.0) (ascii test low cs two.1)

utf8 : (test : ℕ → Bool) → ((c : ℕ) → test c ≡ true → c < 128) → (text : List ℕ) → list_all test text ≡ true → IsUtf8 text
utf8 test low text h = IsUtf8-from_ascii text (ascii test low text h)

-- ---- bytes

graphic-low : (c : ℕ) → is_ascii_graphic c ≡ true → c < 128
graphic-low c h = grind (arith, nat_tests)

digit-low : (c : ℕ) → is_ascii_digit c ≡ true → c < 128
digit-low c h = grind (arith, nat_tests)

builder-low : (c : ℕ) → is_builder_char c ≡ true → c < 128
builder-low c h = grind (arith, nat_tests)

word-low : (c : ℕ) → is_lower_or_digit c ≡ true → c < 128
unfolding is_lower_or_digit
word-low c h = grind (arith, nat_tests)

arch-low : (c : ℕ) → is_arch_char c ≡ true → c < 128
unfolding is_arch_char is_lower_or_digit
arch-low c h = grind (arith, nat_tests)

package-low : (c : ℕ) → is_package_char c ≡ true → c < 128
unfolding is_package_char is_lower_or_digit
package-low c h = grind (arith, nat_tests)

upstream-low : (c : ℕ) → is_upstream_char c ≡ true → c < 128
unfolding is_upstream_char is_revision_char
upstream-low c h = grind (arith, nat_tests)

revision-low : (c : ℕ) → is_revision_char c ≡ true → c < 128
unfolding is_revision_char
revision-low c h = grind (arith, nat_tests)

-- ---- names

pub label-utf8 : (text : List ℕ) → IsTrue (is_empty_text text || is_label_text text) → IsUtf8 text
unfolding is_label_text
label-utf8 [] h = IsUtf8-nil
label-utf8 (c ∷ cs) h = utf8 is_ascii_graphic graphic-low (c ∷ cs) (and_parts (has_length 1 64 (c ∷ cs)) (list_all is_ascii_graphic (c ∷ cs)) h).1

pub builder-utf8 : (text : List ℕ) → IsTrue (is_builder_name text) → IsUtf8 text
unfolding is_builder_name
builder-utf8 text h = utf8 is_builder_char builder-low text (and_parts _ (list_all is_builder_char text) (and_parts (has_length 1 64 text) _ h).1).1

pub word-utf8 : (text : List ℕ) → IsTrue (is_os_cpu_word text) → IsUtf8 text
unfolding is_os_cpu_word
word-utf8 text h = utf8 is_lower_or_digit word-low text (and_parts (list_all is_lower_or_digit text) _ (and_parts (has_length 1 20 text) _ h).1).0

pub arch-utf8 : (text : List ℕ) → IsTrue (is_arch_name text) → IsUtf8 text
unfolding is_arch_name is_arch_word
arch-utf8 text h =
    utf8 is_arch_char arch-low text (and_parts (begins_with_lower_or_digit text) (list_all is_arch_char text)
    (and_parts (is_arch_word text) _ (and_parts (has_length 1 40 text) _ h).1).0).1

pub package-utf8 : (text : List ℕ) → IsTrue (is_package_name text) → IsUtf8 text
unfolding is_package_name
package-utf8 text h =
    utf8 is_package_char package-low text (and_parts (list_all is_package_char text) _ (and_parts (begins_with_lower_or_digit text) _ h).1).0

-- ---- versions

epoch-utf8 : (written : Option (List ℕ)) (number : ℕ) → IsEpoch written number → IsUtf8 (epoch_part written)
epoch-utf8 None number h = IsUtf8-nil
epoch-utf8 (Some digits) number h =
    IsUtf8-append digits (58 ∷ []) (utf8 is_ascii_digit digit-low digits h.1) (IsUtf8-from_ascii (58 ∷ []) (IsAscii-cons 58 [] (omega arith) IsAscii-nil))

revision-utf8 : (revision : Option (List ℕ)) → IfSome revision IsRevision → IsUtf8 (revision_part revision)
revision-utf8 None h = IsUtf8-nil
revision-utf8 (Some revision) h =
    IsUtf8-append (45 ∷ []) revision (IsUtf8-from_ascii (45 ∷ []) (IsAscii-cons 45 [] (omega arith) IsAscii-nil)) (utf8 is_revision_char revision-low revision h.1)

parts-utf8 : (text : List ℕ) (parts : Parts) → IsVersion text parts → IsUtf8 text
parts-utf8 text parts h =
    subst (λ (t : List ℕ). IsUtf8 t) (sym h.joined)
    (IsUtf8-append _ _ (epoch-utf8 h.written parts.epoch h.epoch)
    (IsUtf8-append _ _ (utf8 is_upstream_char upstream-low parts.upstream h.upstream.1) (revision-utf8 parts.revision h.revision)))

read-utf8 : (text : List ℕ) (read : Result Parts VersionFault) → reading_of text ≡ read → IsOk read → IsUtf8 text
read-utf8 text (Ok parts) e h = parts-utf8 text parts (versions-is text parts e)
read-utf8 text (Err fault) e h = absurd (cc)

pub version-utf8 : (text : List ℕ) → IsOk (reading_of text) → IsUtf8 text
version-utf8 text h = read-utf8 text (reading_of text) refl h
