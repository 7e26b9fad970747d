-- What is printed reads back as the same.
use Rattle.std.proofs.Common.{◌≡◌, ℕ, ◌≤◌, Bool, true, false, cond, not, ◌&&◌, eqb, List, [], ◌∷◌, ◌++◌, map, filter, length, refl, sym, ap, subst, ◌∙◌, arith, append_assoc, append-nil, Option, Some, None}
use Rattle.std.specs.Prelude.{codes}
use Rattle.std.specs.List.{list_all, slice_split, flat_map, AllZip, take_while}
use Rattle.std.proofs.lemmas.Bool.Decides.{nat_tests}
use Rattle.std.proofs.lemmas.Bool.{and_parts}
use Rattle.deb_version.specs.declared.operator.Op.{Op}
use Rattle.deb_version.specs.declared.operator.Op.TheVariants.{Earlier, EarlierOrEqual, Equal, LaterOrEqual, Later}
use Rattle.deb_version.specs.Syntax.{fault_of, is_upstream_char, is_revision_char}
use Rattle.deb_relations.specs.declared.arch.ArchWords.{ArchWords}
use Rattle.deb_relations.specs.declared.relations.Kind.{Kind}
use Rattle.deb_relations.specs.declared.relations.Kind.TheVariants.{Arch, Profile}
use Rattle.deb_relations.specs.declared.relations.Term.{Term}
use Rattle.deb_relations.specs.declared.relations.Restriction.{Restriction}
use Rattle.deb_relations.specs.declared.relations.Alternative.{Alternative}
use Rattle.deb_relations.specs.Printing.{term_text, op_text, qualifier_text, restriction_text, terms_text, archs_text, profile_text, profiles_text, alternative_text, group_text, printed}
use Rattle.deb_relations.specs.Reduction.{is_kept, without_lists, reduced_group, reduced}
use Rattle.deb_text.specs.Lists.{is_nonempty}
use Rattle.deb_relations.specs.Grammar.{is_white, is_blank_text, is_profile_char, is_qualifier, is_word, is_not_blank, op_of, words, are_alike, TakesQualifier, TakesRestriction, ReadsTerms, TakesArchs, ReadsProfiles, ReadsAlternative, ReadsGroup, Reads, relations_limit}
use Rattle.deb_relations.specs.Names.{is_lower_or_digit, is_package_char, is_arch_char, begins_with_lower_or_digit, is_package_name, is_arch_word}
use Rattle.deb_relations.specs.Reader.{skip, is_solid}
use Rattle.deb_relations.proofs.FrontLemmas.{stops, take_while-all, skip-all, all-weaker, all-both}
use Rattle.deb_relations.proofs.CutLemmas.{split-here, split-none}
use Rattle.deb_relations.proofs.TurnLemmas.{words-first, words-skip, words-white, split-has}
use Rattle.deb_relations.proofs.CompleteLemmas.{lower-not-white, other, word-chars}
use Rattle.deb_relations.proofs.VersionFormLemmas.{version-form}

-- the forms of the parts of an alternative
abbrev GoodQualifier : Option (List ℕ) → Type 0
GoodQualifier None = Unit {0}
GoodQualifier (Some word) = is_qualifier word ≡ true

abbrev GoodRestriction : Option Restriction → Type 0
GoodRestriction None = Unit {0}
GoodRestriction (Some asked) = fault_of asked.version ≡ None

abbrev AreWords : Kind → List Term → Type 0
AreWords kind terms = list_all (λ term. is_word kind term.word) terms ≡ true

abbrev GoodProfiles : List (List Term) → Type 0
GoodProfiles [] = Unit {0}
GoodProfiles (terms ∷ more) = (is_nonempty terms ≡ true) × (AreWords Profile terms × GoodProfiles more)

pub record Good (a : Alternative) : Type 0 where
  pub name : is_package_name a.name ≡ true
  pub qualifier : GoodQualifier a.qualifier
  pub restriction : GoodRestriction a.restriction
  pub archs : AreWords Arch a.archs
  pub alike : are_alike a.archs ≡ true
  pub profiles : GoodProfiles a.profiles

abbrev pub AllGood : List Alternative → Type 0
AllGood [] = Unit {0}
AllGood (a ∷ more) = Good a × AllGood more

abbrev pub AllGroups : List (List Alternative) → Type 0
AllGroups [] = Unit {0}
AllGroups (g ∷ gs) = (is_nonempty g ≡ true) × (AllGood g × AllGroups gs)

good-qualifier : (t rest : List ℕ) (q : Option (List ℕ)) → TakesQualifier t q rest → GoodQualifier q
good-qualifier t rest None h = tt
good-qualifier t rest (Some word) h = h.1

good-restriction : (t rest : List ℕ) (r : Option Restriction) → TakesRestriction t r rest → GoodRestriction r
good-restriction t rest None h = tt
good-restriction t rest (Some asked) h = h.1.1.version

good-archs : (t rest : List ℕ) (terms : List Term) → TakesArchs t terms rest → AreWords Arch terms × (are_alike terms ≡ true)
good-archs t rest [] h = (refl, refl)
good-archs t rest (term ∷ terms) h = (h.1.1.0.forms, h.1.1.1)

good-profiles : (t : List ℕ) (lists : List (List Term)) → ReadsProfiles t lists → GoodProfiles lists
good-profiles t [] h = tt
good-profiles t (terms ∷ more) h = (h.1.1.1.0.filled, (h.1.1.1.0.forms, good-profiles h.1.0 more h.1.1.1.1))

good-alternative : (t : List ℕ) (a : Alternative) → ReadsAlternative t a → Good a
good-alternative t a h =
    let archs = good-archs h.after_restriction h.after_archs a.archs h.archs in
    record {
      name = h.name.form;
      qualifier = good-qualifier h.after_name h.after_qualifier a.qualifier h.qualifier;
      restriction = good-restriction h.after_qualifier h.after_restriction a.restriction h.restriction;
      archs = archs.0;
      alike = archs.1;
      profiles = good-profiles h.after_archs a.profiles h.profiles;
    }

good-each : (pieces : List (List ℕ)) (group : List Alternative) → AllZip ReadsAlternative pieces group → AllGood group
good-each [] [] h = tt
good-each [] (a ∷ more) h = absurd h
good-each (p ∷ ps) [] h = absurd h
good-each (p ∷ ps) (a ∷ more) h = (good-alternative p a h.0, good-each ps more h.1)

each-filled : (pieces : List (List ℕ)) (group : List Alternative) → is_nonempty pieces ≡ true → AllZip ReadsAlternative pieces group → is_nonempty group ≡ true
each-filled [] group f h = absurd (cc)
each-filled (p ∷ ps) [] f h = absurd h
each-filled (p ∷ ps) (a ∷ more) f h = refl

good-groups : (pieces : List (List ℕ)) (groups : List (List Alternative)) → AllZip ReadsGroup pieces groups → AllGroups groups
good-groups [] [] h = tt
good-groups [] (g ∷ gs) h = absurd h
good-groups (p ∷ ps) [] h = absurd h
good-groups (p ∷ ps) (g ∷ gs) h =
    (each-filled (slice_split (λ c. eqb c 124) p) g (split-has (λ c. eqb c 124) p) h.0, (good-each (slice_split (λ c. eqb c 124) p) g h.0, good-groups ps gs h.1))

-- what was read has the forms, and so has its reduction
pub reads-good : (t : List ℕ) (groups : List (List Alternative)) → Reads t groups → AllGroups groups
unfolding Reads
reads-good t groups h = good-groups (filter is_not_blank (slice_split (λ c. eqb c 44) t)) groups h.1

without-good : (a : Alternative) → Good a → Good (without_lists a)
without-good a h = record { name = h.name; qualifier = h.qualifier; restriction = h.restriction; archs = refl; alike = refl; profiles = tt }

kept-good : (arch : ArchWords) (group : List Alternative) → AllGood group → AllGood (map without_lists (filter (is_kept arch) group))
kept-good arch [] h = tt
kept-good arch (a ∷ more) h =
    elim (is_kept arch a) as (λ v. AllGood (map without_lists (cond v (a ∷ filter (is_kept arch) more) (filter (is_kept arch) more)))) [
      | true ↦ (without-good a h.0, kept-good arch more h.1)
      | false ↦ kept-good arch more h.1
    ]

filled-good : (g : List Alternative) (gs : List (List Alternative)) → AllGood g → AllGroups (filter is_nonempty gs) → AllGroups (filter is_nonempty (g ∷ gs))
filled-good [] gs h k = k
filled-good (a ∷ more) gs h k = (refl, (h, k))

pub reduced-good : (arch : ArchWords) (groups : List (List Alternative)) → AllGroups groups → AllGroups (reduced arch groups)
unfolding reduced reduced_group
reduced-good arch [] h = tt
reduced-good arch (g ∷ gs) h = filled-good (map without_lists (filter (is_kept arch) g)) (map (reduced_group arch) gs) (kept-good arch g h.1.0) (reduced-good arch gs h.1.1)

-- the words of a printed list
solid-profile : (c : ℕ) → is_profile_char c ≡ true → is_solid c ≡ true
unfolding is_solid is_white is_profile_char
solid-profile c h = grind (arith, nat_tests)

term-solid : (kind : Kind) (term : Term) → is_word kind term.word ≡ true → list_all is_solid (term_text term) ≡ true
unfolding is_solid is_white
term-solid kind term h =
    let chars : list_all is_solid term.word ≡ true = all-weaker is_profile_char is_solid solid-profile term.word (word-chars kind term.word h) in
    elim term.negated as (λ v. list_all is_solid (cond v (33 ∷ term.word) term.word) ≡ true) [ true ↦ chars | false ↦ chars ]

word-filled : (kind : Kind) (word : List ℕ) → is_word kind word ≡ true → is_nonempty word ≡ true
unfolding is_word is_arch_word
word-filled Arch [] h = absurd (cc)
word-filled Profile [] h = absurd (cc)
word-filled kind (c ∷ cs) h = refl

term-filled : (kind : Kind) (term : Term) → is_word kind term.word ≡ true → is_nonempty (term_text term) ≡ true
term-filled kind term h =
    elim term.negated as (λ v. is_nonempty (cond v (33 ∷ term.word) term.word) ≡ true) [ true ↦ refl | false ↦ word-filled kind term.word h ]

abbrev behind_terms : List Term → List ℕ
behind_terms terms = flat_map (λ y. codes " " ++ term_text y) terms

behind-stops : (terms : List Term) → stops is_solid (behind_terms terms)
unfolding is_solid is_white
behind-stops [] = tt
behind-stops (y ∷ ys) = refl

words-one : (kind : Kind) (term : Term) (rest : List ℕ) → is_word kind term.word ≡ true → stops is_solid rest → words (term_text term ++ rest) ≡ term_text term ∷ words rest
words-one kind term rest h s =
    let solid : list_all is_solid (term_text term) ≡ true = term-solid kind term h in
    let one : take_while is_solid (term_text term ++ rest) ≡ term_text term = take_while-all is_solid (term_text term) rest solid s in
    let two : skip is_solid (term_text term ++ rest) ≡ rest = skip-all is_solid (term_text term) rest solid s in
    words-first (term_text term ++ rest) (ap is_nonempty one ∙ term-filled kind term h)
    ∙ ap (λ x. x ∷ words (skip is_white (skip is_solid (term_text term ++ rest)))) one
    ∙ ap (λ x. term_text term ∷ words (skip is_white x)) two
    ∙ ap (λ x. term_text term ∷ x) (words-skip rest)

words-none : words [] ≡ []
unfolding words
words-none = refl

white-space : is_white 32 ≡ true
unfolding is_white
white-space = refl

words-behind : (kind : Kind) (terms : List Term) → AreWords kind terms → words (behind_terms terms) ≡ map term_text terms
words-behind kind [] h = words-none
words-behind kind (y ∷ ys) h =
    let two = and_parts (is_word kind y.word) (list_all (λ term. is_word kind term.word) ys) h in
    words-white 32 (term_text y ++ behind_terms ys) white-space
    ∙ words-one kind y (behind_terms ys) two.0 (behind-stops ys)
    ∙ ap (λ x. term_text y ∷ x) (words-behind kind ys two.1)

words-terms : (kind : Kind) (term : Term) (terms : List Term) → is_word kind term.word ≡ true → AreWords kind terms → words (term_text term ++ behind_terms terms) ≡ map term_text (term ∷ terms)
words-terms kind term terms h k =
    words-one kind term (behind_terms terms) h (behind-stops terms) ∙ ap (λ x. term_text term ∷ x) (words-behind kind terms k)

terms-read : (kind : Kind) (terms : List Term) → is_nonempty terms ≡ true → AreWords kind terms → ReadsTerms kind (terms_text terms) terms
unfolding terms_text
terms-read kind [] f h = absurd (cc)
terms-read kind (term ∷ terms) f h =
    let two = and_parts (is_word kind term.word) (list_all (λ term. is_word kind term.word) terms) h in
    record { written = words-terms kind term terms two.0 two.1; filled = refl; forms = h }

-- the parts of a printed alternative
qualifier-printed : (q : Option (List ℕ)) (rest : List ℕ) → GoodQualifier q → TakesQualifier (qualifier_text q ++ rest) q rest
qualifier-printed None rest h = refl
qualifier-printed (Some word) rest h = (refl, h)

op-printed : (op : Op) → op_of (op_text op) ≡ Some op
unfolding op_of
op-printed Earlier = refl
op-printed EarlierOrEqual = refl
op-printed Equal = refl
op-printed LaterOrEqual = refl
op-printed Later = refl

restriction-printed : (r : Option Restriction) (rest : List ℕ) → GoodRestriction r → TakesRestriction (restriction_text r ++ rest) r rest
unfolding is_white
restriction-printed None rest h = refl
restriction-printed (Some asked) rest h =
    let op : List ℕ = op_text asked.op in
    let v : List ℕ = asked.version in (
      op ++ (32 ∷ v),
      (
        record {
          gap = 32 ∷ [];
          split = ap (λ x. 32 ∷ (40 ∷ x)) (simp append_assoc);
          blank = refl;
        },
        record {
          back = [];
          operator = record {
            front = [];
            operator = op;
            middle = 32 ∷ [];
            split = ap (λ x. op ++ (32 ∷ x)) (sym (append-nil v));
            front_blank = refl;
            middle_blank = refl;
            means = op-printed asked.op;
          };
          back_blank = refl;
          version = h;
        },
      ),
    )

archs-printed : (terms : List Term) (rest : List ℕ) → AreWords Arch terms → are_alike terms ≡ true → TakesArchs (archs_text terms ++ rest) terms rest
unfolding is_white
archs-printed [] rest h k = refl
archs-printed (term ∷ terms) rest h k = (
  terms_text (term ∷ terms),
  (
    record {
      gap = 32 ∷ [];
      split = ap (λ x. 32 ∷ (91 ∷ x)) (append_assoc (terms_text (term ∷ terms)) (93 ∷ []) rest);
      blank = refl;
    },
    (terms-read Arch (term ∷ terms) refl h, k),
  ),
)

profiles-printed : (lists : List (List Term)) (after : List ℕ) → is_blank_text after ≡ true → GoodProfiles lists → ReadsProfiles (profiles_text lists ++ after) lists
unfolding is_white
profiles-printed [] after b h = b
profiles-printed (terms ∷ more) after b h = (
  terms_text terms,
  (
    profiles_text more ++ after,
    (
      record {
        gap = 32 ∷ [];
        split = ap (λ x. 32 ∷ (60 ∷ x)) (simp append_assoc);
        blank = refl;
      },
      (terms-read Profile terms h.0 h.1.0, profiles-printed more after b h.1.1),
    ),
  ),
)

alternative-printed : (gap after : List ℕ) (a : Alternative) → is_blank_text gap ≡ true → is_blank_text after ≡ true → Good a → ReadsAlternative (gap ++ (alternative_text a ++ after)) a
unfolding alternative_text
alternative-printed gap after a g b h =
    let pr : List ℕ = profiles_text a.profiles ++ after in
    let ar : List ℕ = archs_text a.archs ++ pr in
    let rt : List ℕ = restriction_text a.restriction ++ ar in
    let qt : List ℕ = qualifier_text a.qualifier ++ rt in
    record {
      after_name = qt;
      after_qualifier = rt;
      after_restriction = ar;
      after_archs = pr;
      name = record { gap = gap; split = ap (λ x. gap ++ x) (simp append_assoc); blank = g; form = h.name };
      qualifier = qualifier-printed a.qualifier rt h.qualifier;
      restriction = restriction-printed a.restriction ar h.restriction;
      archs = archs-printed a.archs pr h.archs h.alike;
      profiles = profiles-printed a.profiles after b h.profiles;
    }

-- no comma and no bar stands in an alternative
unfoldable pub is_inner : ℕ → Bool
is_inner c = other 44 c && other 124 c

inner-package : (c : ℕ) → is_package_char c ≡ true → is_inner c ≡ true
unfolding is_inner is_package_char is_lower_or_digit
inner-package c h = grind (arith, nat_tests)

inner-arch : (c : ℕ) → is_arch_char c ≡ true → is_inner c ≡ true
unfolding is_inner is_arch_char is_lower_or_digit
inner-arch c h = grind (arith, nat_tests)

inner-profile : (c : ℕ) → is_profile_char c ≡ true → is_inner c ≡ true
unfolding is_inner is_profile_char
inner-profile c h = grind (arith, nat_tests)

inner-version : (c : ℕ) → is_upstream_char c ≡ true → is_inner c ≡ true
unfolding is_inner is_upstream_char is_revision_char
inner-version c h = grind (arith, nat_tests)

inner-white : (c : ℕ) → is_white c ≡ true → is_inner c ≡ true
unfolding is_inner is_white
inner-white c h = grind (arith, nat_tests)

inner-term : (kind : Kind) (term : Term) → is_word kind term.word ≡ true → list_all is_inner (term_text term) ≡ true
unfolding is_inner
inner-term kind term h =
    let chars : list_all is_inner term.word ≡ true = all-weaker is_profile_char is_inner inner-profile term.word (word-chars kind term.word h) in
    elim term.negated as (λ v. list_all is_inner (cond v (33 ∷ term.word) term.word) ≡ true) [ true ↦ chars | false ↦ chars ]

inner-behind : (kind : Kind) (terms : List Term) → AreWords kind terms → list_all is_inner (behind_terms terms) ≡ true
unfolding is_inner
inner-behind kind [] h = refl
inner-behind kind (y ∷ ys) h =
    let two = and_parts (is_word kind y.word) (list_all (λ term. is_word kind term.word) ys) h in
    all-both is_inner (term_text y) (behind_terms ys) (inner-term kind y two.0) (inner-behind kind ys two.1)

inner-terms : (kind : Kind) (terms : List Term) → AreWords kind terms → list_all is_inner (terms_text terms) ≡ true
unfolding terms_text
inner-terms kind [] h = refl
inner-terms kind (term ∷ terms) h =
    let two = and_parts (is_word kind term.word) (list_all (λ term. is_word kind term.word) terms) h in
    all-both is_inner (term_text term) (behind_terms terms) (inner-term kind term two.0) (inner-behind kind terms two.1)

inner-qualifier : (q : Option (List ℕ)) → GoodQualifier q → list_all is_inner (qualifier_text q) ≡ true
unfolding is_inner is_qualifier
inner-qualifier None h = refl
inner-qualifier (Some word) h = all-weaker is_arch_char is_inner inner-arch word (and_parts (is_nonempty word) (list_all is_arch_char word) h).1

inner-op : (op : Op) → list_all is_inner (op_text op) ≡ true
unfolding is_inner
inner-op Earlier = refl
inner-op EarlierOrEqual = refl
inner-op Equal = refl
inner-op LaterOrEqual = refl
inner-op Later = refl

inner-restriction : (r : Option Restriction) → GoodRestriction r → list_all is_inner (restriction_text r) ≡ true
unfolding is_inner
inner-restriction None h = refl
inner-restriction (Some asked) h =
    let chars : list_all is_inner asked.version ≡ true = all-weaker is_upstream_char is_inner inner-version asked.version (version-form asked.version h) in
    let last : list_all is_inner (asked.version ++ codes ")") ≡ true = all-both is_inner asked.version (codes ")") chars refl in
    all-both is_inner (op_text asked.op) (32 ∷ (asked.version ++ codes ")")) (inner-op asked.op) last

inner-archs : (terms : List Term) → AreWords Arch terms → list_all is_inner (archs_text terms) ≡ true
unfolding is_inner
inner-archs [] h = refl
inner-archs (term ∷ terms) h = all-both is_inner (terms_text (term ∷ terms)) (codes "]") (inner-terms Arch (term ∷ terms) h) refl

inner-profiles : (lists : List (List Term)) → GoodProfiles lists → list_all is_inner (profiles_text lists) ≡ true
unfolding is_inner
inner-profiles [] h = refl
inner-profiles (terms ∷ more) h =
    let one : list_all is_inner (terms_text terms ++ codes ">") ≡ true = all-both is_inner (terms_text terms) (codes ">") (inner-terms Profile terms h.1.0) refl in
    all-both is_inner (profile_text terms) (profiles_text more) one (inner-profiles more h.1.1)

inner-alternative : (a : Alternative) → Good a → list_all is_inner (alternative_text a) ≡ true
unfolding alternative_text is_package_name
inner-alternative a h =
    let form = and_parts (begins_with_lower_or_digit a.name) _ h.name in
    let chars : list_all is_package_char a.name ≡ true = (and_parts (list_all is_package_char a.name) _ form.1).0 in
    let end : list_all is_inner (archs_text a.archs ++ profiles_text a.profiles) ≡ true = all-both is_inner (archs_text a.archs) (profiles_text a.profiles) (inner-archs a.archs h.archs) (inner-profiles a.profiles h.profiles) in
    let more : list_all is_inner (restriction_text a.restriction ++ (archs_text a.archs ++ profiles_text a.profiles)) ≡ true = all-both is_inner (restriction_text a.restriction) _ (inner-restriction a.restriction h.restriction) end in
    let tail : list_all is_inner (qualifier_text a.qualifier ++ (restriction_text a.restriction ++ (archs_text a.archs ++ profiles_text a.profiles))) ≡ true = all-both is_inner (qualifier_text a.qualifier) _ (inner-qualifier a.qualifier h.qualifier) more in
    all-both is_inner a.name _ (all-weaker is_package_char is_inner inner-package a.name chars) tail

inner-comma : (c : ℕ) → is_inner c ≡ true → other 44 c ≡ true
unfolding is_inner
inner-comma c h = (and_parts (other 44 c) (other 124 c) h).0

inner-bar : (c : ℕ) → is_inner c ≡ true → other 124 c ≡ true
unfolding is_inner
inner-bar c h = (and_parts (other 44 c) (other 124 c) h).1

abbrev behind_alternatives : List Alternative → List ℕ
behind_alternatives more = flat_map (λ y. codes " | " ++ alternative_text y) more

-- the alternatives of a printed group
alternatives-printed : (gap : List ℕ) (a : Alternative) (more : List Alternative) → is_blank_text gap ≡ true → Good a → AllGood more
    → AllZip ReadsAlternative (slice_split (λ c. eqb c 124) (gap ++ (alternative_text a ++ behind_alternatives more))) (a ∷ more)
unfolding is_white
alternatives-printed gap a [] g h k =
    let bars : list_all (other 124) (gap ++ (alternative_text a ++ [])) ≡ true =
    all-both (other 124) gap (alternative_text a ++ []) (all-weaker is_white (other 124) (λ c w. inner-bar c (inner-white c w)) gap g)
    (all-both (other 124) (alternative_text a) [] (all-weaker is_inner (other 124) inner-bar (alternative_text a) (inner-alternative a h)) refl) in
    subst (λ (ps : List (List ℕ)). AllZip ReadsAlternative ps (a ∷ [])) (sym (split-none 124 (gap ++ (alternative_text a ++ [])) bars))
    (alternative-printed gap [] a g refl h, tt)
alternatives-printed gap a (y ∷ ys) g h k =
    let piece : List ℕ = gap ++ (alternative_text a ++ (32 ∷ [])) in
    let rest : List ℕ = (32 ∷ []) ++ (alternative_text y ++ behind_alternatives ys) in
    let bars : list_all (other 124) piece ≡ true =
    all-both (other 124) gap (alternative_text a ++ (32 ∷ [])) (all-weaker is_white (other 124) (λ c w. inner-bar c (inner-white c w)) gap g)
    (all-both (other 124) (alternative_text a) (32 ∷ []) (all-weaker is_inner (other 124) inner-bar (alternative_text a) (inner-alternative a h)) refl) in
    let text : gap ++ (alternative_text a ++ behind_alternatives (y ∷ ys)) ≡ piece ++ (124 ∷ rest) = simp append_assoc in
    subst (λ (ps : List (List ℕ)). AllZip ReadsAlternative ps (a ∷ (y ∷ ys))) (sym (ap (slice_split (λ c. eqb c 124)) text ∙ split-here 124 piece rest bars))
    (alternative-printed gap (32 ∷ []) a g refl h, alternatives-printed (32 ∷ []) y ys refl k.0 k.1)

group-printed : (gap : List ℕ) (group : List Alternative) → is_blank_text gap ≡ true → is_nonempty group ≡ true → AllGood group → ReadsGroup (gap ++ group_text group) group
unfolding group_text
group-printed gap [] g f h = absurd (cc)
group-printed gap (a ∷ more) g f h = alternatives-printed gap a more g h.0 h.1

comma-behind : (more : List Alternative) → AllGood more → list_all (other 44) (behind_alternatives more) ≡ true
comma-behind [] h = refl
comma-behind (y ∷ ys) h =
    all-both (other 44) (alternative_text y) (behind_alternatives ys) (all-weaker is_inner (other 44) inner-comma (alternative_text y) (inner-alternative y h.0)) (comma-behind ys h.1)

comma-group : (group : List Alternative) → AllGood group → list_all (other 44) (group_text group) ≡ true
unfolding group_text
comma-group [] h = refl
comma-group (a ∷ more) h =
    all-both (other 44) (alternative_text a) (behind_alternatives more) (all-weaker is_inner (other 44) inner-comma (alternative_text a) (inner-alternative a h.0)) (comma-behind more h.1)

and-false : (b : Bool) → (b && false) ≡ false
and-false true = refl
and-false false = refl

not-blank : (xs ys zs : List ℕ) → begins_with_lower_or_digit ys ≡ true → is_blank_text (xs ++ (ys ++ zs)) ≡ false
not-blank [] [] zs h = absurd (cc)
not-blank [] (c ∷ cs) zs h = ap (λ v. v && is_blank_text (cs ++ zs)) (lower-not-white c h)
not-blank (x ∷ xs) ys zs h = ap (λ v. is_white x && v) (not-blank xs ys zs h) ∙ and-false (is_white x)

not_blank-alternative : (gap rest : List ℕ) (a : Alternative) → Good a → is_blank_text (gap ++ (alternative_text a ++ rest)) ≡ false
unfolding alternative_text is_package_name
not_blank-alternative gap rest a h =
    let tail : List ℕ = qualifier_text a.qualifier ++ (restriction_text a.restriction ++ (archs_text a.archs ++ profiles_text a.profiles)) in
    ap (λ x. is_blank_text (gap ++ x)) (append_assoc a.name tail rest) ∙ not-blank gap a.name (tail ++ rest) (and_parts (begins_with_lower_or_digit a.name) _ h.name).0

not_blank-group : (gap : List ℕ) (group : List Alternative) → is_nonempty group ≡ true → AllGood group → is_not_blank (gap ++ group_text group) ≡ true
unfolding is_not_blank group_text
not_blank-group gap [] f h = absurd (cc)
not_blank-group gap (a ∷ more) f h = ap not (not_blank-alternative gap (behind_alternatives more) a h.0)

abbrev behind_groups : List (List Alternative) → List ℕ
behind_groups gs = flat_map (λ y. codes ", " ++ group_text y) gs

keep-not_blank : (piece : List ℕ) (ps : List (List ℕ)) → is_not_blank piece ≡ true → filter is_not_blank (piece ∷ ps) ≡ piece ∷ filter is_not_blank ps
keep-not_blank piece ps h = ap (λ v. cond v (piece ∷ filter is_not_blank ps) (filter is_not_blank ps)) h

white-comma : (c : ℕ) → is_white c ≡ true → other 44 c ≡ true
white-comma c h = inner-comma c (inner-white c h)

groups-printed : (gap : List ℕ) (g : List Alternative) (gs : List (List Alternative)) → is_blank_text gap ≡ true → AllGroups (g ∷ gs)
    → AllZip ReadsGroup (filter is_not_blank (slice_split (λ c. eqb c 44) (gap ++ (group_text g ++ behind_groups gs)))) (g ∷ gs)
unfolding is_white
groups-printed gap g [] b h =
    let whole : gap ++ (group_text g ++ []) ≡ gap ++ group_text g = ap (λ x. gap ++ x) (append-nil (group_text g)) in
    let commas : list_all (other 44) (gap ++ group_text g) ≡ true = all-both (other 44) gap (group_text g) (all-weaker is_white (other 44) white-comma gap b) (comma-group g h.1.0) in
    let pieces : filter is_not_blank (slice_split (λ c. eqb c 44) (gap ++ (group_text g ++ []))) ≡ (gap ++ group_text g) ∷ [] =
    ap (λ x. filter is_not_blank (slice_split (λ c. eqb c 44) x)) whole ∙ ap (filter is_not_blank) (split-none 44 (gap ++ group_text g) commas) ∙ keep-not_blank (gap ++ group_text g) [] (not_blank-group gap g h.0 h.1.0) in
    subst (λ (ps : List (List ℕ)). AllZip ReadsGroup ps (g ∷ [])) (sym pieces) (group-printed gap g b h.0 h.1.0, tt)
groups-printed gap g (y ∷ ys) b h =
    let piece : List ℕ = gap ++ group_text g in
    let rest : List ℕ = (32 ∷ []) ++ (group_text y ++ behind_groups ys) in
    let text : gap ++ (group_text g ++ behind_groups (y ∷ ys)) ≡ piece ++ (44 ∷ rest) = simp append_assoc in
    let commas : list_all (other 44) piece ≡ true = all-both (other 44) gap (group_text g) (all-weaker is_white (other 44) white-comma gap b) (comma-group g h.1.0) in
    let pieces : filter is_not_blank (slice_split (λ c. eqb c 44) (gap ++ (group_text g ++ behind_groups (y ∷ ys)))) ≡ piece ∷ filter is_not_blank (slice_split (λ c. eqb c 44) rest) =
    ap (λ x. filter is_not_blank (slice_split (λ c. eqb c 44) x)) text ∙ ap (filter is_not_blank) (split-here 44 piece rest commas) ∙ keep-not_blank piece (slice_split (λ c. eqb c 44) rest) (not_blank-group gap g h.0 h.1.0) in
    subst (λ (ps : List (List ℕ)). AllZip ReadsGroup ps (g ∷ (y ∷ ys))) (sym pieces) (group-printed gap g b h.0 h.1.0, groups-printed (32 ∷ []) y ys refl h.1.1)

pub printed-reads : (groups : List (List Alternative)) → AllGroups groups → length (printed groups) ≤ relations_limit → Reads (printed groups) groups
unfolding Reads printed is_not_blank
printed-reads [] h l = (l, tt)
printed-reads (g ∷ gs) h l = (l, groups-printed [] g gs refl h)
