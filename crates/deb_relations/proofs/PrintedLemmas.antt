-- What is printed of relations is ASCII, and so it is UTF-8.
use Rattle.std.proofs.Common.{◌≡◌, ℕ, Bool, true, false, cond, nat_lt, List, [], ◌∷◌, ◌++◌, refl, Option, Some, None, Ok, arith}
use Rattle.std.specs.Prelude.{codes}
use Rattle.std.specs.List.{list_all, flat_map, AllByRecursion, join_by}
use Rattle.std.specs.Str.{IsUtf8, IsAscii}
use Rattle.std.proofs.lemmas.Bool.Decides.{nat_tests}
use Rattle.std.proofs.lemmas.Str.{IsUtf8-from_ascii}
use Rattle.std.proofs.lemmas.Str.Ascii.{IsAscii-nil, IsAscii-cons}
use Rattle.std.proofs.lemmas.Bool.{and_parts}
use Rattle.deb_version.specs.declared.operator.Op.{Op}
use Rattle.deb_version.specs.declared.operator.Op.TheVariants.{Earlier, EarlierOrEqual, Equal, LaterOrEqual, Later}
use Rattle.deb_version.specs.Syntax.{fault_of, is_upstream_char, is_revision_char}
use Rattle.deb_relations.specs.declared.arch.ArchWords.{ArchWords}
use Rattle.deb_relations.specs.declared.relations.Kind.{Kind}
use Rattle.deb_relations.specs.declared.relations.Kind.TheVariants.{Arch, Profile}
use Rattle.deb_relations.specs.declared.relations.Term.{Term}
use Rattle.deb_relations.specs.declared.relations.Restriction.{Restriction}
use Rattle.deb_relations.specs.declared.relations.Alternative.{Alternative}
use Rattle.deb_relations.specs.Printing.{term_text, op_text, qualifier_text, restriction_text, terms_text, archs_text, profile_text, profiles_text, alternative_text, group_text, printed}
use Rattle.deb_relations.specs.Reduction.{reduced}
use Rattle.deb_text.specs.Lists.{is_nonempty}
use Rattle.deb_relations.specs.Grammar.{is_profile_char, is_qualifier, is_word, Reads}
use Rattle.deb_relations.specs.Names.{is_lower_or_digit, is_package_char, is_arch_char, is_package_name, begins_with_lower_or_digit}
use Rattle.deb_relations.specs.Reading.{reading_of}
use Rattle.deb_relations.proofs.FrontLemmas.{all-weaker, all-both}
use Rattle.deb_relations.proofs.CompleteLemmas.{word-chars}
use Rattle.deb_relations.proofs.ReadingLemmas.{reading-reads}
use Rattle.deb_relations.proofs.ReadBackLemmas.{Good, AllGood, AllGroups, reads-good, reduced-good}
use Rattle.deb_relations.proofs.VersionFormLemmas.{version-form}

-- an ASCII byte
abbrev is_low : ℕ → Bool
is_low c = nat_lt c 128

-- a text of ASCII bytes
abbrev IsLow : List ℕ → Type 0
IsLow text = list_all is_low text ≡ true

low-ascii : (text : List ℕ) → IsLow text → IsAscii text
low-ascii [] h = IsAscii-nil
low-ascii (c ∷ cs) h =
    let two = and_parts (is_low c) (list_all is_low cs) h in
    let here : is_low c ≡ true = two.0 in
    IsAscii-cons c cs (grind (arith, nat_tests)) (low-ascii cs two.1)

package-low : (c : ℕ) → is_package_char c ≡ true → is_low c ≡ true
unfolding is_package_char is_lower_or_digit
package-low c h = grind (arith, nat_tests)

arch-low : (c : ℕ) → is_arch_char c ≡ true → is_low c ≡ true
unfolding is_arch_char is_lower_or_digit
arch-low c h = grind (arith, nat_tests)

profile-low : (c : ℕ) → is_profile_char c ≡ true → is_low c ≡ true
unfolding is_profile_char
profile-low c h = grind (arith, nat_tests)

version-low : (c : ℕ) → is_upstream_char c ≡ true → is_low c ≡ true
unfolding is_upstream_char is_revision_char
version-low c h = grind (arith, nat_tests)

name-low : (name : List ℕ) → is_package_name name ≡ true → IsLow name
unfolding is_package_name
name-low name h =
    all-weaker is_package_char is_low package-low name (and_parts _ _ (and_parts (begins_with_lower_or_digit name) _ h).1).0

-- ---- the parts of an alternative

abbrev HasQualifier : Option (List ℕ) → Type 0
HasQualifier None = Unit {0}
HasQualifier (Some word) = is_qualifier word ≡ true

qualifier-low : (qualifier : Option (List ℕ)) → HasQualifier qualifier → IsLow (qualifier_text qualifier)
unfolding is_qualifier
qualifier-low None h = refl
qualifier-low (Some word) h = all-weaker is_arch_char is_low arch-low word (and_parts (is_nonempty word) _ h).1

abbrev HasRestriction : Option Restriction → Type 0
HasRestriction None = Unit {0}
HasRestriction (Some asked) = fault_of asked.version ≡ None

op-low : (op : Op) → IsLow (op_text op)
op-low Earlier = refl
op-low EarlierOrEqual = refl
op-low Equal = refl
op-low LaterOrEqual = refl
op-low Later = refl

restriction-low : (restriction : Option Restriction) → HasRestriction restriction → IsLow (restriction_text restriction)
restriction-low None h = refl
restriction-low (Some asked) h =
    all-both is_low (op_text asked.op) _ (op-low asked.op)
    (all-both is_low asked.version (codes ")") (all-weaker is_upstream_char is_low version-low asked.version (version-form asked.version h)) refl)

flat-low : {X : Type 0} (text : X → List ℕ) (xs : List X) → AllByRecursion (λ x. IsLow (text x)) xs → IsLow (flat_map text xs)
flat-low text [] h = refl
flat-low text (x ∷ xs) h = all-both is_low (text x) (flat_map text xs) h.0 (flat-low text xs h.1)

between-low : {X : Type 0} (text : X → List ℕ) (between : List ℕ) → IsLow between → (xs : List X) → AllByRecursion (λ x. IsLow (text x)) xs
    → AllByRecursion (λ x. IsLow (between ++ text x)) xs
between-low text between low [] h = tt
between-low text between low (x ∷ xs) h = (all-both is_low between (text x) low h.0, between-low text between low xs h.1)

join-low : {X : Type 0} (text : X → List ℕ) (between : List ℕ) → IsLow between → (xs : List X) → AllByRecursion (λ x. IsLow (text x)) xs
    → IsLow (join_by text between xs)
join-low text between low [] h = refl
join-low text between low (x ∷ xs) h =
    all-both is_low (text x) _ h.0 (flat-low (λ y. between ++ text y) xs (between-low text between low xs h.1))

term-low : (kind : Kind) (term : Term) → is_word kind term.word ≡ true → IsLow (term_text term)
term-low kind term h =
    let chars : IsLow term.word = all-weaker is_profile_char is_low profile-low term.word (word-chars kind term.word h) in
    elim term.negated as (λ v. IsLow (cond v (33 ∷ term.word) term.word)) [ true ↦ chars | false ↦ chars ]

each-term-low : (kind : Kind) (terms : List Term) → list_all (λ term. is_word kind term.word) terms ≡ true → AllByRecursion (λ term. IsLow (term_text term)) terms
each-term-low kind [] h = tt
each-term-low kind (term ∷ terms) h =
    let two = and_parts (is_word kind term.word) (list_all (λ term. is_word kind term.word) terms) h in
    (term-low kind term two.0, each-term-low kind terms two.1)

terms-low : (kind : Kind) (terms : List Term) → list_all (λ term. is_word kind term.word) terms ≡ true → IsLow (terms_text terms)
unfolding terms_text
terms-low kind terms h = join-low term_text (codes " ") refl terms (each-term-low kind terms h)

archs-low : (terms : List Term) → list_all (λ term. is_word Arch term.word) terms ≡ true → IsLow (archs_text terms)
archs-low [] h = refl
archs-low (term ∷ terms) h = all-both is_low (terms_text (term ∷ terms)) (codes "]") (terms-low Arch (term ∷ terms) h) refl

abbrev HasProfiles : List (List Term) → Type 0
HasProfiles [] = Unit {0}
HasProfiles (terms ∷ more) = (is_nonempty terms ≡ true) × ((list_all (λ term. is_word Profile term.word) terms ≡ true) × HasProfiles more)

profiles-low : (lists : List (List Term)) → HasProfiles lists → IsLow (profiles_text lists)
profiles-low [] h = refl
profiles-low (terms ∷ more) h =
    all-both is_low (profile_text terms) (profiles_text more)
    (all-both is_low (terms_text terms) (codes ">") (terms-low Profile terms h.1.0) refl) (profiles-low more h.1.1)

-- ---- the whole

alternative-low : (a : Alternative) → Good a → IsLow (alternative_text a)
unfolding alternative_text
alternative-low a h =
    all-both is_low a.name _ (name-low a.name h.name)
    (all-both is_low (qualifier_text a.qualifier) _ (qualifier-low a.qualifier h.qualifier)
    (all-both is_low (restriction_text a.restriction) _ (restriction-low a.restriction h.restriction)
    (all-both is_low (archs_text a.archs) _ (archs-low a.archs h.archs) (profiles-low a.profiles h.profiles))))

each-alternative-low : (group : List Alternative) → AllGood group → AllByRecursion (λ a. IsLow (alternative_text a)) group
each-alternative-low [] h = tt
each-alternative-low (a ∷ more) h = (alternative-low a h.0, each-alternative-low more h.1)

group-low : (group : List Alternative) → AllGood group → IsLow (group_text group)
unfolding group_text
group-low group h = join-low alternative_text (codes " | ") refl group (each-alternative-low group h)

each-group-low : (groups : List (List Alternative)) → AllGroups groups → AllByRecursion (λ group. IsLow (group_text group)) groups
each-group-low [] h = tt
each-group-low (group ∷ groups) h = (group-low group h.1.0, each-group-low groups h.1.1)

printed-low : (groups : List (List Alternative)) → AllGroups groups → IsLow (printed groups)
unfolding printed
printed-low groups h = join-low group_text (codes ", ") refl groups (each-group-low groups h)

-- what was read is UTF-8 when it is reduced and printed
pub reduced-utf8 : (text : List ℕ) (groups : List (List Alternative)) (arch : ArchWords) → Reads text groups → IsUtf8 (printed (reduced arch groups))
reduced-utf8 text groups arch h =
    IsUtf8-from_ascii (printed (reduced arch groups)) (low-ascii (printed (reduced arch groups)) (printed-low (reduced arch groups) (reduced-good arch groups (reads-good text groups h))))

-- a reading is one of the grammar
pub reading_of-reads : (text : List ℕ) (groups : List (List Alternative)) → reading_of text ≡ Ok groups → Reads text groups
reading_of-reads = reading-reads
