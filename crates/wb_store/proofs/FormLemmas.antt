-- The records of a consistent office can be read from their rows.
use Rattle.std.proofs.Common.{◌≡◌, ◌⊎◌, inl, inr, ℕ, zero, suc, ◌<◌, ℤ, Bool, true, false, ◌||◌, List, [], ◌∷◌, Option, None, Some, IfSome, IsUtf8, IsAscii, FitsSigned, refl, ◌∙◌, subst, arith, is_some}
use Rattle.std.specs.Int.{w16}
use Rattle.std.specs.List.{list_all}
use Rattle.std.specs.FinMap as finite
use Rattle.std.specs.FinSet as set
use Rattle.std.specs.Char.{is_ascii_alphanumeric, is_ascii_graphic}
use Rattle.std.proofs.lemmas.Bool.{and_parts}
use Rattle.std.proofs.lemmas.Bool.Decides.{nat_tests}
use Rattle.std.proofs.lemmas.Int.{ints}
use Rattle.std.proofs.lemmas.Str.{IsUtf8-from_ascii, IsUtf8-nil}
use Rattle.deb_text.specs.Lists.{IsIn}
use Rattle.deb_text.specs.Text.{is_empty_text, IsTextWithin}
use Rattle.deb_relations.specs.Names.{is_lower_or_digit, is_package_char, is_package_name, is_arch_char, is_arch_word}
use Rattle.wb_states.specs.declared.arch.OsCpu.{OsCpu}
use Rattle.wb_states.specs.Limits.{is_build_priority, relations_limit}
use Rattle.wb_states.specs.Machine.{Key, Machine, IsConsistent, IsRecord, IsArch, IsBuilder}
use Rattle.wb_states.specs.Names.{has_length, is_arch_name, is_os_cpu_word, is_builder_char, is_builder_name, is_label_text}
use Rattle.wb_states.specs.Queue.{Entry}
use Rattle.wb_states.proofs.QueueLemmas.{IsIn-entries}
use Rattle.deb_text.proofs.KeyLemmas.{text_cmp_total, text_cmp-same}
use Rattle.deb_text.proofs.SortedLemmas.{IsIn-find}
use Rattle.wb_rows.specs.Reading.{IsReadable}
use Rattle.wb_store.specs.Lookups.{IsReadableArch, IsReadablePair}
use Rattle.wb_store.specs.Checks.{HasForms}

-- a text of bytes that pass a test, which only ASCII passes
ascii_all : (p : ℕ → Bool) → ((c : ℕ) → p c ≡ true → c < 128) → (text : List ℕ) → list_all p text ≡ true → IsAscii text
ascii_all p low [] all i = omega arith
ascii_all p low (c ∷ cs) all zero = low c (and_parts (p c) (list_all p cs) all).0
ascii_all p low (c ∷ cs) all (suc i) = ascii_all p low cs (and_parts (p c) (list_all p cs) all).1 i

utf8_all : (p : ℕ → Bool) → ((c : ℕ) → p c ≡ true → c < 128) → (text : List ℕ) → list_all p text ≡ true → IsUtf8 text
utf8_all p low text all = IsUtf8-from_ascii text (ascii_all p low text all)

lower_or_digit_low : (c : ℕ) → is_lower_or_digit c ≡ true → c < 128
unfolding is_lower_or_digit
lower_or_digit_low c is = grind (arith, nat_tests)

either : (a b : Bool) → (a || b) ≡ true → (a ≡ true) ⊎ (b ≡ true)
either true b e = inl refl
either false b e = inr e

arch_char_low : (c : ℕ) → is_arch_char c ≡ true → c < 128
unfolding is_arch_char
arch_char_low c is = elim (either (is_lower_or_digit c) _ is) [ inl lower ↦ lower_or_digit_low c lower | inr dash ↦ grind (arith, nat_tests) ]

package_char_low : (c : ℕ) → is_package_char c ≡ true → c < 128
unfolding is_package_char
package_char_low c is = elim (either (is_lower_or_digit c) _ is) [ inl lower ↦ lower_or_digit_low c lower | inr sign ↦ grind (arith, nat_tests) ]

graphic_low : (c : ℕ) → is_ascii_graphic c ≡ true → c < 128
graphic_low c is = grind (arith, nat_tests)

builder_char_low : (c : ℕ) → is_builder_char c ≡ true → c < 128
builder_char_low c is = elim (either (is_ascii_alphanumeric c) _ is) [ inl letter ↦ grind (arith, nat_tests) | inr sign ↦ grind (arith, nat_tests) ]

pub arch_utf8 : (name : List ℕ) → is_arch_name name ≡ true → IsUtf8 name
unfolding is_arch_name is_arch_word
arch_utf8 name is =
    let word = (and_parts _ _ (and_parts (has_length 1 40 name) _ is).1).0 in
    utf8_all is_arch_char arch_char_low name (and_parts _ _ word).1

package_utf8 : (name : List ℕ) → is_package_name name ≡ true → IsUtf8 name
unfolding is_package_name
package_utf8 name is = utf8_all is_package_char package_char_low name (and_parts _ _ (and_parts _ _ is).1).0

pub builder_utf8 : (name : List ℕ) → is_builder_name name ≡ true → IsUtf8 name
unfolding is_builder_name
builder_utf8 name is = utf8_all is_builder_char builder_char_low name (and_parts _ _ (and_parts (has_length 1 64 name) _ is).1).1

label_utf8 : (text : List ℕ) → is_label_text text ≡ true → IsUtf8 text
unfolding is_label_text
label_utf8 text is = utf8_all is_ascii_graphic graphic_low text (and_parts (has_length 1 64 text) _ is).1

optional_label_utf8 : (text : List ℕ) → (is_empty_text text || is_label_text text) ≡ true → IsUtf8 text
optional_label_utf8 [] is = IsUtf8-nil
optional_label_utf8 (c ∷ cs) is = label_utf8 (c ∷ cs) is

if_some : {X : Type 0} (P Q : X → Type 0) → ((x : X) → P x → Q x) → (found : Option X) → IfSome found P → IfSome found Q
if_some P Q follows None h = tt
if_some P Q follows (Some x) h = follows x h

priority_fits : (value : ℤ) → is_build_priority value ≡ true → FitsSigned w16 value
priority_fits value is = grind (arith, ints)

pub arch_known : (machine : Machine) → IsConsistent machine → (name : List ℕ) → is_some (finite.get machine.archs name) ≡ true → is_arch_name name ≡ true
arch_known machine sound name known = go (finite.get machine.archs name) (sound.archs name) known
  where
    go : (found : Option OsCpu) → IfSome found (IsArch name) → is_some found ≡ true → is_arch_name name ≡ true
    go None is there = absurd cc
    go (Some words) is there = is.name

-- a record whose names and fields have their forms can be read
pub formed_readable : (entry : Entry) → HasForms entry → IsReadable entry
formed_readable entry is =
    let most = is.fields.number in
    record {
      arch = arch_utf8 entry.0.0 is.arch;
      source = package_utf8 entry.0.1 is.source;
      version = is.fields.version;
      priority = optional_label_utf8 entry.1.priority is.fields.priority;
      section = optional_label_utf8 entry.1.section is.fields.section;
      number = omega (arith, most);
      holder = if_some _ IsUtf8 (λ name. builder_utf8 name) entry.1.holder is.fields.builder;
      waits = is.fields.waits.utf8;
      depends = if_some (IsTextWithin relations_limit) IsUtf8 (λ text within. within.utf8) entry.1.depends is.fields.depends;
      note = is.fields.note.utf8;
      message = is.fields.message.utf8;
      build_priority = priority_fits entry.1.build_priority is.fields.build_priority;
    }

-- a record that a consistent office keeps is one that can be read
pub kept_readable : (machine : Machine) → IsConsistent machine → (entry : Entry) → IsIn entry (finite.entries machine.records) → IsReadable entry
kept_readable machine sound entry within =
    let is : IsRecord machine entry.0.0 entry.0.1 entry.1 =
    subst (λ found. IfSome found (IsRecord machine entry.0.0 entry.0.1)) ((IsIn-entries machine entry).0 within) (sound.records entry.0.0 entry.0.1) in
    formed_readable entry (record { arch = arch_known machine sound entry.0.0 is.known; source = is.name; fields = is.fields })

word_utf8 : (word : List ℕ) → is_os_cpu_word word ≡ true → IsUtf8 word
unfolding is_os_cpu_word
word_utf8 word is = utf8_all is_lower_or_digit lower_or_digit_low word (and_parts _ _ (and_parts (has_length 1 20 word) _ is).1).0

-- an architecture with its forms can be read
pub formed_arch_readable : (arch : List ℕ × OsCpu) → IsArch arch.0 arch.1 → IsReadableArch arch
formed_arch_readable arch is = record { name = arch_utf8 arch.0 is.name; os = word_utf8 arch.1.os is.os; cpu = word_utf8 arch.1.cpu is.cpu }

-- an architecture that a consistent office keeps has its forms
pub kept_arch_formed : (machine : Machine) → IsConsistent machine → (entry : List ℕ × OsCpu) → IsIn entry (finite.entries machine.archs) → IsArch entry.0 entry.1
kept_arch_formed machine sound entry within =
    let found = (IsIn-find text_cmp_total text_cmp-same entry (finite.entries machine.archs) (finite.entries_sorted machine.archs)).0 within in
    subst (λ o. IfSome o (IsArch entry.0)) (finite.get-entries machine.archs entry.0 ∙ found) (sound.archs entry.0)

-- so is an architecture
pub kept_arch_readable : (machine : Machine) → IsConsistent machine → (entry : List ℕ × OsCpu) → IsIn entry (finite.entries machine.archs) → IsReadableArch entry
kept_arch_readable machine sound entry within = formed_arch_readable entry (kept_arch_formed machine sound entry within)

-- so are a builder and an architecture for which it was added
pub kept_pair_readable : (machine : Machine) → IsConsistent machine → (pair : Key) → set.contains machine.builders pair ≡ true → IsReadablePair pair
kept_pair_readable machine sound pair there =
    let is : IsBuilder machine pair.0 pair.1 = sound.builders pair.0 pair.1 there in
    let known : is_some (finite.get machine.archs pair.1) ≡ true = is.known in
    record { builder = builder_utf8 pair.0 is.name; arch = arch_utf8 pair.1 (arch_known machine sound pair.1 known) }
