-- What has a reading in the grammar is read, and as that.
use Rattle.std.proofs.Common.{◌≡◌, ℕ, Bool, true, false, cond, not, ◌&&◌, ◌||◌, eqb, List, [], ◌∷◌, ◌++◌, map, filter, refl, sym, ap, subst, ◌∙◌, arith, append_assoc, Option, Some, None}
use Rattle.std.specs.List.{list_all, slice_split, onto_first, AllZip, take_while}
use Rattle.std.proofs.lemmas.Bool.Decides.{nat_tests}
use Rattle.std.proofs.lemmas.Slice.Eq.{bytes_eq-Decides}
use Rattle.std.specs.Prelude.{bytes_eq, codes}
use Rattle.std.specs.Option.{is_none, option_map}
use Rattle.std.proofs.lemmas.Bool.{and_parts, and_from}
use Rattle.deb_version.specs.declared.operator.Op.{Op}
use Rattle.deb_version.specs.Syntax.{fault_of, is_upstream_char, is_revision_char, is_version_text}
use Rattle.deb_relations.specs.declared.relations.Kind.{Kind}
use Rattle.deb_relations.specs.declared.relations.Kind.TheVariants.{Arch, Profile}
use Rattle.deb_relations.specs.declared.relations.Term.{Term}
use Rattle.deb_relations.specs.declared.relations.Restriction.{Restriction}
use Rattle.deb_relations.specs.declared.relations.Alternative.{Alternative}
use Rattle.deb_relations.specs.Printing.{term_text}
use Rattle.deb_text.specs.Lists.{is_nonempty}
use Rattle.deb_relations.specs.Grammar.{is_white, is_blank_text, is_profile_char, is_op_char, is_qualifier, is_word, is_not_blank, op_of, words, TakesName, TakesQualifier, InBrackets, IsRestriction, TakesRestriction, ReadsTerms, TakesArchs, ReadsProfiles, ReadsAlternative, ReadsGroup, Reads}
use Rattle.deb_relations.specs.Names.{is_lower_or_digit, is_package_char, is_arch_char, begins_with_lower_or_digit, is_package_name, is_arch_word}
use Rattle.deb_relations.specs.Reader.{skip, strip, is_solid, between, between_opened, read_between, with_rest}
use Rattle.deb_relations.specs.Reader.{read_name, read_behind_colon, read_qualifier, asked_of, asked_behind, asked_from}
use Rattle.deb_relations.specs.Reader.{restriction_of, asked_inside, read_restriction, term_behind, term_of}
use Rattle.deb_relations.specs.Reader.{filled_only, terms_of, alike_only, arch_terms_of, read_archs, profile_behind}
use Rattle.deb_relations.specs.Reader.{profile_of, lists_of, read_profiles, with_profiles, with_archs, with_asked}
use Rattle.deb_relations.specs.Reader.{with_qualifier, with_name, read_alternative, read_group, read_groups}
use Rattle.deb_text.specs.Options.{both, all_some}
use Rattle.deb_relations.proofs.FrontLemmas.{stops, opens, take_while-all, skip-all, opens-stops, opens-weaker, all-weaker, all-both, skip-cons}
use Rattle.deb_relations.proofs.CutLemmas.{strip-here, cut-here, split-here, split-none}
use Rattle.deb_relations.proofs.TurnLemmas.{lists-cons, split-has}
use Rattle.deb_relations.proofs.VersionFormLemmas.{version-form, version-filled}

-- a character that is not c
abbrev pub other : ℕ → ℕ → Bool
other c x = not (eqb x c)

-- what an alternative may go on with: after its lists of profiles began; its architectures; its restriction; white space; its colon
abbrev pub is_angle : ℕ → Bool
is_angle c = eqb c 60

abbrev pub is_square : ℕ → Bool
is_square c = eqb c 91 || eqb c 60

abbrev pub is_round : ℕ → Bool
is_round c = eqb c 40 || (eqb c 91 || eqb c 60)

unfoldable pub is_next : ℕ → Bool
is_next c = is_white c || is_round c

unfoldable pub is_behind_name : ℕ → Bool
is_behind_name c = eqb c 58 || is_next c

strip-not : (p : ℕ → Bool) (c : ℕ) (t : List ℕ) → opens p t → p c ≡ false → strip c t ≡ None
strip-not p c [] o h = refl
strip-not p c (x ∷ xs) o h =
    elim (eqb x c) as (λ v. eqb x c ≡ v → cond v (Some xs) None ≡ None) [
      | true ↦ λ e. let same : x ≡ c = grind (arith, nat_tests) in let no : p c ≡ true = subst (λ y. p y ≡ true) same o in absurd (cc)
      | false ↦ λ e. refl
    ] refl

-- behind white space, what opens
opens-next : (t : List ℕ) → opens is_round (skip is_white t) → opens is_next t
unfolding is_next
opens-next [] h = tt
opens-next (c ∷ cs) h =
    elim (is_white c) as (λ v. is_white c ≡ v → opens is_round (cond v (skip is_white cs) (c ∷ cs)) → (v || is_round c) ≡ true) [
      | true ↦ λ e k. refl
      | false ↦ λ e k. k
    ] refl (subst (opens is_round) (skip-cons is_white c cs) h)

bracket-opens : (p : ℕ → Bool) (l r : ℕ) (t inside rest : List ℕ) → InBrackets l r t inside rest → is_white l ≡ false → p l ≡ true → opens p (skip is_white t)
bracket-opens p l r t inside rest b w h =
    subst (opens p) (sym (ap (skip is_white) b.split ∙ skip-all is_white b.gap (l ∷ (inside ++ (r ∷ rest))) b.blank w)) h

blank-skip : (t : List ℕ) → is_blank_text t ≡ true → skip is_white t ≡ []
blank-skip [] h = refl
blank-skip (c ∷ cs) h =
    let two : (is_white c ≡ true) × (is_blank_text cs ≡ true) = and_parts _ _ h in
    skip-cons is_white c cs ∙ ap (λ v. cond v (skip is_white cs) (c ∷ cs)) two.0 ∙ blank-skip cs two.1

pub profiles-open : (t : List ℕ) (lists : List (List Term)) → ReadsProfiles t lists → opens is_angle (skip is_white t)
unfolding is_white
profiles-open t [] h = subst (opens is_angle) (sym (blank-skip t h)) tt
profiles-open t (terms ∷ more) h = bracket-opens is_angle 60 62 t h.0 h.1.0 h.1.1.0 refl refl

pub archs-open : (t : List ℕ) (terms : List Term) (rest : List ℕ) → TakesArchs t terms rest → opens is_angle (skip is_white rest) → opens is_square (skip is_white t)
unfolding is_white
archs-open t [] rest h o = subst (λ (x : List ℕ). opens is_square (skip is_white x)) (sym h) (opens-weaker is_angle is_square (skip is_white rest) (λ c k. grind (arith, nat_tests)) o)
archs-open t (term ∷ terms) rest h o = bracket-opens is_square 91 93 t h.0 rest h.1.0 refl refl

pub restriction-open : (t : List ℕ) (asked : Option Restriction) (rest : List ℕ) → TakesRestriction t asked rest → opens is_square (skip is_white rest) → opens is_round (skip is_white t)
unfolding is_white
restriction-open t None rest h o = subst (λ (x : List ℕ). opens is_round (skip is_white x)) (sym h) (opens-weaker is_square is_round (skip is_white rest) (λ c k. grind (arith, nat_tests)) o)
restriction-open t (Some asked) rest h o = bracket-opens is_round 40 41 t h.0 rest h.1.0 refl refl

pub qualifier-open : (t : List ℕ) (q : Option (List ℕ)) (rest : List ℕ) → TakesQualifier t q rest → opens is_next rest → opens is_behind_name t
unfolding is_behind_name
qualifier-open t None rest h o = subst (opens is_behind_name) (sym h) (opens-weaker is_next is_behind_name rest (λ c k. grind (arith, nat_tests)) o)
qualifier-open t (Some word) rest h o = subst (opens is_behind_name) (sym h.0) refl

-- the characters that may not follow
next-no-arch : (c : ℕ) → is_next c ≡ true → is_arch_char c ≡ false
unfolding is_next is_white is_arch_char is_lower_or_digit
next-no-arch c h = grind (arith, nat_tests)

behind-no-package : (c : ℕ) → is_behind_name c ≡ true → is_package_char c ≡ false
unfolding is_behind_name is_next is_white is_package_char is_lower_or_digit
behind-no-package c h = grind (arith, nat_tests)

pub lower-not-white : (c : ℕ) → is_lower_or_digit c ≡ true → is_white c ≡ false
unfolding is_white is_lower_or_digit
lower-not-white c h = grind (arith, nat_tests)

begins-stops : (name rest : List ℕ) → begins_with_lower_or_digit name ≡ true → stops is_white (name ++ rest)
begins-stops [] rest h = absurd (cc)
begins-stops (c ∷ cs) rest h = lower-not-white c h

pub name-complete : (t name rest : List ℕ) → TakesName t name rest → opens is_behind_name rest → read_name t ≡ Some (name, rest)
unfolding read_name is_package_name
name-complete t name rest h o =
    let form : (begins_with_lower_or_digit name ≡ true) × (_ ≡ true) = and_parts _ _ h.form in
    let chars : (list_all is_package_char name ≡ true) × (_ ≡ true) = and_parts _ _ form.1 in
    let front : skip is_white t ≡ name ++ rest = ap (skip is_white) h.split ∙ skip-all is_white h.gap (name ++ rest) h.blank (begins-stops name rest form.0) in
    let end : stops is_package_char rest = opens-stops is_behind_name is_package_char rest behind-no-package o in
    let one : take_while is_package_char (skip is_white t) ≡ name = ap (take_while is_package_char) front ∙ take_while-all is_package_char name rest chars.0 end in
    let two : skip is_package_char (skip is_white t) ≡ rest = ap (skip is_package_char) front ∙ skip-all is_package_char name rest chars.0 end in
    rw (one, two, h.form) refl

colon-not-next : is_next 58 ≡ false
unfolding is_next is_white
colon-not-next = refl

pub qualifier-complete : (t : List ℕ) (q : Option (List ℕ)) (rest : List ℕ) → TakesQualifier t q rest → opens is_next rest → read_qualifier t ≡ Some (q, rest)
unfolding read_qualifier is_qualifier
qualifier-complete t None rest h o =
    let none : strip 58 t ≡ None = ap (strip 58) h ∙ strip-not is_next 58 rest o colon-not-next in
    ap (read_behind_colon t) none ∙ ap (λ x. Some (None, x)) h
qualifier-complete t (Some word) rest h o =
    let two : (is_nonempty word ≡ true) × (list_all is_arch_char word ≡ true) = and_parts _ _ h.1 in
    let end : stops is_arch_char rest = opens-stops is_next is_arch_char rest next-no-arch o in
    let some : strip 58 t ≡ Some (word ++ rest) = ap (strip 58) h.0 ∙ strip-here 58 (word ++ rest) in
    let one : take_while is_arch_char (word ++ rest) ≡ word = take_while-all is_arch_char word rest two.1 end in
    let more : skip is_arch_char (word ++ rest) ≡ rest = skip-all is_arch_char word rest two.1 end in
    ap (read_behind_colon t) some ∙ rw (one, more, two.0) refl

between-complete : (l r : ℕ) (t inside rest : List ℕ) → InBrackets l r t inside rest → is_white l ≡ false → list_all (other r) inside ≡ true → between l r t ≡ Some (Some (inside, rest))
unfolding between
between-complete l r t inside rest b w h =
    let front : skip is_white t ≡ l ∷ (inside ++ (r ∷ rest)) = ap (skip is_white) b.split ∙ skip-all is_white b.gap (l ∷ (inside ++ (r ∷ rest))) b.blank w in
    ap (λ x. between_opened r (strip l x)) front ∙ ap (between_opened r) (strip-here l (inside ++ (r ∷ rest))) ∙ ap (option_map Some) (cut-here r inside rest h)

between-none : (p : ℕ → Bool) (l r : ℕ) (t : List ℕ) → opens p (skip is_white t) → p l ≡ false → between l r t ≡ Some None
unfolding between
between-none p l r t o h = ap (between_opened r) (strip-not p l (skip is_white t) o h)

op-not-white : (c : ℕ) → is_op_char c ≡ true → is_white c ≡ false
unfolding is_op_char is_white
op-not-white c h = grind (arith, nat_tests)

version-not-white : (c : ℕ) → is_upstream_char c ≡ true → is_white c ≡ false
unfolding is_upstream_char is_revision_char is_white
version-not-white c h = grind (arith, nat_tests)

version-not-op : (c : ℕ) → is_upstream_char c ≡ true → is_op_char c ≡ false
unfolding is_upstream_char is_revision_char is_op_char
version-not-op c h = grind (arith, nat_tests)

version-solid : (c : ℕ) → is_upstream_char c ≡ true → is_solid c ≡ true
unfolding is_solid
version-solid c h = ap not (version-not-white c h)

white-not-solid : (c : ℕ) → is_white c ≡ true → is_solid c ≡ false
unfolding is_solid
white-not-solid c h = ap not h

white-not-op : (c : ℕ) → is_white c ≡ true → is_op_char c ≡ false
unfolding is_op_char is_white
white-not-op c h = grind (arith, nat_tests)

white-other : (c : ℕ) → is_white c ≡ true → other 41 c ≡ true
unfolding is_white
white-other c h = grind (arith, nat_tests)

op-other : (c : ℕ) → is_op_char c ≡ true → other 41 c ≡ true
unfolding is_op_char
op-other c h = grind (arith, nat_tests)

version-other : (c : ℕ) → is_upstream_char c ≡ true → other 41 c ≡ true
unfolding is_upstream_char is_revision_char
version-other c h = grind (arith, nat_tests)

all-opens : (p : ℕ → Bool) (xs : List ℕ) → list_all p xs ≡ true → opens p xs
all-opens p [] h = tt
all-opens p (x ∷ xs) h = (and_parts (p x) (list_all p xs) h).0

-- the first of two texts opens, where it is filled
front-stops : (p q : ℕ → Bool) (xs rest : List ℕ) → ((c : ℕ) → p c ≡ true → q c ≡ false) → list_all p xs ≡ true → stops q rest → stops q (xs ++ rest)
front-stops p q [] rest f h s = s
front-stops p q (x ∷ xs) rest f h s = f x (and_parts (p x) (list_all p xs) h).0

filled-stops : (p q : ℕ → Bool) (xs rest : List ℕ) → ((c : ℕ) → p c ≡ true → q c ≡ false) → list_all p xs ≡ true → is_nonempty xs ≡ true → stops q (xs ++ rest)
filled-stops p q [] rest f h k = absurd (cc)
filled-stops p q (x ∷ xs) rest f h k = f x (and_parts (p x) (list_all p xs) h).0

op-filled : (t : List ℕ) (op : Op) → op_of t ≡ Some op → is_nonempty t ≡ true
unfolding op_of
op-filled [] op h = absurd (cc)
op-filled (c ∷ cs) op h = refl

-- a word that writes an operator has its characters alone
op-case : (t word : List ℕ) → list_all is_op_char word ≡ true → (more : Type 0) → (bytes_eq t word ≡ false → list_all is_op_char t ≡ true) → list_all is_op_char t ≡ true
op-case t word h more f =
    elim (bytes_eq t word) as (λ v. bytes_eq t word ≡ v → list_all is_op_char t ≡ true) [
      | true ↦ λ e. ap (list_all is_op_char) ((bytes_eq-Decides t word).0 e) ∙ h
      | false ↦ λ e. f e
    ] refl

pub op-chars : (t : List ℕ) (op : Op) → op_of t ≡ Some op → list_all is_op_char t ≡ true
unfolding op_of is_op_char
op-chars t op h =
    op-case t (codes "<<") refl ℕ (λ a.
    op-case t (codes "<=") refl ℕ (λ b.
    op-case t (codes "<") refl ℕ (λ c.
    op-case t (codes "=") refl ℕ (λ d.
    op-case t (codes ">=") refl ℕ (λ e.
    op-case t (codes ">") refl ℕ (λ f.
    op-case t (codes ">>") refl ℕ (λ g.
    let none : op_of t ≡ None = rw (a, b, c, d, e, f, g) refl in absurd (cc))))))))

restriction-inside : (inside : List ℕ) (asked : Restriction) → IsRestriction inside asked → list_all (other 41) inside ≡ true
restriction-inside inside asked h =
    subst (λ (x : List ℕ). list_all (other 41) x ≡ true) (sym h.operator.split)
    (all-both (other 41) h.operator.front _ (all-weaker is_white (other 41) white-other h.operator.front h.operator.front_blank)
    (all-both (other 41) h.operator.operator _ (all-weaker is_op_char (other 41) op-other h.operator.operator (op-chars h.operator.operator asked.op h.operator.means))
    (all-both (other 41) h.operator.middle _ (all-weaker is_white (other 41) white-other h.operator.middle h.operator.middle_blank)
    (all-both (other 41) asked.version h.back (all-weaker is_upstream_char (other 41) version-other asked.version (version-form asked.version h.version))
    (all-weaker is_white (other 41) white-other h.back h.back_blank)))))

pub asked-complete : (inside : List ℕ) (asked : Restriction) → IsRestriction inside asked → restriction_of inside ≡ Some asked
unfolding restriction_of is_version_text
asked-complete inside asked h =
    let v : List ℕ = asked.version in
    let last : List ℕ = v ++ h.back in
    let chars : list_all is_upstream_char v ≡ true = version-form v h.version in
    let filled : is_nonempty v ≡ true = version-filled v h.version in
    let ops : list_all is_op_char h.operator.operator ≡ true = op-chars h.operator.operator asked.op h.operator.means in
    let s1 : stops is_white (h.operator.operator ++ (h.operator.middle ++ last)) = filled-stops is_op_char is_white h.operator.operator (h.operator.middle ++ last) op-not-white ops (op-filled h.operator.operator asked.op h.operator.means) in
    let s2 : stops is_white last = filled-stops is_upstream_char is_white v h.back version-not-white chars filled in
    let s3 : stops is_op_char last = filled-stops is_upstream_char is_op_char v h.back version-not-op chars filled in
    let s4 : stops is_op_char (h.operator.middle ++ last) = front-stops is_white is_op_char h.operator.middle last white-not-op h.operator.middle_blank s3 in
    let s5 : stops is_solid h.back = opens-stops is_white is_solid h.back white-not-solid (all-opens is_white h.back h.back_blank) in
    let solid : list_all is_solid v ≡ true = all-weaker is_upstream_char is_solid version-solid v chars in
    let e1 : skip is_white inside ≡ h.operator.operator ++ (h.operator.middle ++ last) = ap (skip is_white) h.operator.split ∙ skip-all is_white h.operator.front _ h.operator.front_blank s1 in
    let e2 : take_while is_op_char (h.operator.operator ++ (h.operator.middle ++ last)) ≡ h.operator.operator = take_while-all is_op_char h.operator.operator _ ops s4 in
    let e3 : skip is_white (skip is_op_char (h.operator.operator ++ (h.operator.middle ++ last))) ≡ last = ap (skip is_white) (skip-all is_op_char h.operator.operator _ ops s4) ∙ skip-all is_white h.operator.middle last h.operator.middle_blank s2 in
    let e4 : take_while is_solid last ≡ v = take_while-all is_solid v h.back solid s5 in
    let e5 : skip is_solid last ≡ h.back = skip-all is_solid v h.back solid s5 in
    ap asked_from e1
    ∙ ap (λ o. asked_behind o (skip is_white (skip is_op_char (h.operator.operator ++ (h.operator.middle ++ last))))) (ap op_of e2 ∙ h.operator.means)
    ∙ ap (asked_behind (Some asked.op)) e3
    ∙ ap (λ x. asked_of (Some asked.op) x (skip is_solid last)) e4
    ∙ ap (asked_of (Some asked.op) v) e5
    ∙ ap (λ b. cond b (Some (record { op = asked.op; version = v })) None) (and_from (is_none (fault_of v)) (is_blank_text h.back) (ap is_none h.version) h.back_blank)

pub restriction-complete : (t : List ℕ) (asked : Option Restriction) (rest : List ℕ) → TakesRestriction t asked rest → opens is_square (skip is_white rest) → read_restriction t ≡ Some (asked, rest)
unfolding read_restriction is_white
restriction-complete t None rest h o =
    let none : between 40 41 t ≡ Some None = between-none is_square 40 41 t (subst (λ (x : List ℕ). opens is_square (skip is_white x)) (sym h) o) refl in
    ap (read_between asked_inside None t) none ∙ ap (λ x. Some (None, x)) h
restriction-complete t (Some asked) rest h o =
    let found : between 40 41 t ≡ Some (Some (h.0, rest)) = between-complete 40 41 t h.0 rest h.1.0 refl (restriction-inside h.0 asked h.1.1) in
    ap (read_between asked_inside None t) found ∙ ap (λ x. with_rest rest (option_map Some x)) (asked-complete h.0 asked h.1.1)

module _ (p : ℕ → Bool) (white : (c : ℕ) → is_white c ≡ true → p c ≡ true) where
  onto-all : (c : ℕ) (ps : List (List ℕ)) → list_all (list_all p) (onto_first c ps) ≡ true → (list_all (list_all p) ps ≡ true) × ((is_nonempty ps ≡ true) → p c ≡ true)
  onto-all c [] h = (refl, λ k. absurd (cc))
  onto-all c (x ∷ ps) h =
      let two = and_parts (p c && list_all p x) (list_all (list_all p) ps) h in
      let one = and_parts (p c) (list_all p x) two.0 in
      (and_from (list_all p x) (list_all (list_all p) ps) one.1 two.1, λ k. one.0)

  parts-all : (t : List ℕ) → list_all (list_all p) (slice_split is_white t) ≡ true → list_all p t ≡ true
  parts-all [] h = refl
  parts-all (c ∷ cs) h =
      elim (is_white c) as (λ v. is_white c ≡ v → list_all (list_all p) (cond v ([] ∷ slice_split is_white cs) (onto_first c (slice_split is_white cs))) ≡ true → (p c && list_all p cs) ≡ true) [
        | true ↦ λ e k. and_from (p c) (list_all p cs) (white c e) (parts-all cs k)
        | false ↦ λ e k. let two = onto-all c (slice_split is_white cs) k in and_from (p c) (list_all p cs) (two.1 (split-has is_white cs)) (parts-all cs two.0)
      ] refl h

  filter-all : (ps : List (List ℕ)) → list_all (list_all p) (filter is_nonempty ps) ≡ true → list_all (list_all p) ps ≡ true
  filter-all [] h = refl
  filter-all ([] ∷ ps) h = filter-all ps h
  filter-all ((x ∷ xs) ∷ ps) h = let two = and_parts (list_all p (x ∷ xs)) (list_all (list_all p) (filter is_nonempty ps)) h in and_from (list_all p (x ∷ xs)) (list_all (list_all p) ps) two.0 (filter-all ps two.1)

  words-all : (t : List ℕ) → list_all (list_all p) (words t) ≡ true → list_all p t ≡ true
  unfolding words
  words-all t h = parts-all t (filter-all (slice_split is_white t) h)

arch-is-profile : (c : ℕ) → is_arch_char c ≡ true → is_profile_char c ≡ true
unfolding is_arch_char is_profile_char is_lower_or_digit
arch-is-profile c h = grind (arith, nat_tests)

pub word-chars : (kind : Kind) (word : List ℕ) → is_word kind word ≡ true → list_all is_profile_char word ≡ true
unfolding is_word is_arch_word
word-chars Arch word h = all-weaker is_arch_char is_profile_char arch-is-profile word (and_parts _ _ h).1
word-chars Profile word h = (and_parts _ _ h).1

profile-other : (r : ℕ) → is_profile_char r ≡ false → (c : ℕ) → is_profile_char c ≡ true → other r c ≡ true
profile-other r e c h =
    elim (eqb c r) as (λ v. eqb c r ≡ v → not v ≡ true) [
      | true ↦ λ k. let same : c ≡ r = grind (arith, nat_tests) in let no : is_profile_char r ≡ true = subst (λ x. is_profile_char x ≡ true) same h in absurd (cc)
      | false ↦ λ k. refl
    ] refl

term-inside : (kind : Kind) (r : ℕ) → is_profile_char r ≡ false → other r 33 ≡ true → (term : Term) → is_word kind term.word ≡ true → list_all (other r) (term_text term) ≡ true
term-inside kind r e m term h =
    let chars : list_all (other r) term.word ≡ true = all-weaker is_profile_char (other r) (profile-other r e) term.word (word-chars kind term.word h) in
    elim term.negated as (λ v. list_all (other r) (cond v (33 ∷ term.word) term.word) ≡ true) [ true ↦ and_from (other r 33) (list_all (other r) term.word) m chars | false ↦ chars ]

terms-texts : (kind : Kind) (r : ℕ) → is_profile_char r ≡ false → other r 33 ≡ true → (terms : List Term) → list_all (λ term. is_word kind term.word) terms ≡ true → list_all (list_all (other r)) (map term_text terms) ≡ true
terms-texts kind r e m [] h = refl
terms-texts kind r e m (term ∷ terms) h =
    let two = and_parts (is_word kind term.word) (list_all (λ term. is_word kind term.word) terms) h in
    and_from _ _ (term-inside kind r e m term two.0) (terms-texts kind r e m terms two.1)

terms-inside : (kind : Kind) (r : ℕ) → is_profile_char r ≡ false → other r 33 ≡ true → ((c : ℕ) → is_white c ≡ true → other r c ≡ true) → (inside : List ℕ) (terms : List Term) → ReadsTerms kind inside terms → list_all (other r) inside ≡ true
terms-inside kind r e m w inside terms h =
    words-all (other r) w inside (ap (list_all (list_all (other r))) h.written ∙ terms-texts kind r e m terms h.forms)

profile-not-mark : (c : ℕ) → is_profile_char c ≡ true → eqb c 33 ≡ false
unfolding is_profile_char
profile-not-mark c h = grind (arith, nat_tests)

strip-word : (word : List ℕ) → list_all is_profile_char word ≡ true → strip 33 word ≡ None
strip-word [] h = refl
strip-word (c ∷ cs) h = ap (λ v. cond v (Some cs) None) (profile-not-mark c (and_parts (is_profile_char c) (list_all is_profile_char cs) h).0)

term-at : (kind : Kind) (negated : Bool) (word : List ℕ) → is_word kind word ≡ true → term_of kind (cond negated (33 ∷ word) word) ≡ Some (record { negated = negated; word = word })
unfolding term_of
term-at kind true word h = ap (term_behind kind (33 ∷ word)) (strip-here 33 word) ∙ ap (λ v. cond v (Some (record { negated = true; word = word })) None) h
term-at kind false word h = ap (term_behind kind word) (strip-word word (word-chars kind word h)) ∙ ap (λ v. cond v (Some (record { negated = false; word = word })) None) h

terms-at : (kind : Kind) (terms : List Term) → list_all (λ term. is_word kind term.word) terms ≡ true → all_some (term_of kind) (map term_text terms) ≡ Some terms
terms-at kind [] h = refl
terms-at kind (term ∷ terms) h =
    let two = and_parts (is_word kind term.word) (list_all (λ term. is_word kind term.word) terms) h in
    ap (λ o. both o (all_some (term_of kind) (map term_text terms))) (term-at kind term.negated term.word two.0)
    ∙ ap (both (Some term)) (terms-at kind terms two.1)

filled-kept : (terms : List Term) → is_nonempty terms ≡ true → filled_only (Some terms) ≡ Some terms
filled-kept [] h = absurd (cc)
filled-kept (x ∷ xs) h = refl

pub terms-complete : (kind : Kind) (inside : List ℕ) (terms : List Term) → ReadsTerms kind inside terms → terms_of kind inside ≡ Some terms
unfolding terms_of
terms-complete kind inside terms h = ap (λ ws. filled_only (all_some (term_of kind) ws)) h.written ∙ ap filled_only (terms-at kind terms h.forms) ∙ filled-kept terms h.filled

white-square : (c : ℕ) → is_white c ≡ true → other 93 c ≡ true
unfolding is_white
white-square c h = grind (arith, nat_tests)

white-angle : (c : ℕ) → is_white c ≡ true → other 62 c ≡ true
unfolding is_white
white-angle c h = grind (arith, nat_tests)

pub archs-complete : (t : List ℕ) (terms : List Term) (rest : List ℕ) → TakesArchs t terms rest → opens is_angle (skip is_white rest) → read_archs t ≡ Some (terms, rest)
unfolding read_archs is_white arch_terms_of is_profile_char
archs-complete t [] rest h o =
    let none : between 91 93 t ≡ Some None = between-none is_angle 91 93 t (subst (λ (x : List ℕ). opens is_angle (skip is_white x)) (sym h) o) refl in
    ap (read_between arch_terms_of [] t) none ∙ ap (λ x. Some ([], x)) h
archs-complete t (term ∷ terms) rest h o =
    let inside : List ℕ = h.0 in
    let found : between 91 93 t ≡ Some (Some (inside, rest)) = between-complete 91 93 t inside rest h.1.0 refl (terms-inside Arch 93 refl refl white-square inside (term ∷ terms) h.1.1.0) in
    ap (read_between arch_terms_of [] t) found
    ∙ ap (λ x. with_rest rest (alike_only x)) (terms-complete Arch inside (term ∷ terms) h.1.1.0)
    ∙ ap (λ v. with_rest rest (cond v (Some (term ∷ terms)) None)) h.1.1.1

piece-complete : (gap inside : List ℕ) (terms : List Term) → is_blank_text gap ≡ true → ReadsTerms Profile inside terms → profile_of (gap ++ (60 ∷ inside)) ≡ Some terms
unfolding profile_of is_white
piece-complete gap inside terms b h =
    ap (λ x. profile_behind (strip 60 x)) (skip-all is_white gap (60 ∷ inside) b refl) ∙ ap profile_behind (strip-here 60 inside) ∙ terms-complete Profile inside terms h

piece-plain : (gap inside : List ℕ) (terms : List Term) → is_blank_text gap ≡ true → ReadsTerms Profile inside terms → list_all (other 62) (gap ++ (60 ∷ inside)) ≡ true
unfolding is_profile_char
piece-plain gap inside terms b h =
    all-both (other 62) gap (60 ∷ inside) (all-weaker is_white (other 62) white-angle gap b) (terms-inside Profile 62 refl refl white-angle inside terms h)

lists-complete : (t : List ℕ) (lists : List (List Term)) → ReadsProfiles t lists → lists_of (slice_split (λ c. eqb c 62) t) ≡ Some lists
lists-complete t [] h =
    ap lists_of (split-none 62 t (all-weaker is_white (other 62) white-angle t h)) ∙ ap (λ v. cond v (Some []) None) h
lists-complete t (terms ∷ more) h =
    let inside : List ℕ = h.0 in
    let rest : List ℕ = h.1.0 in
    let b : InBrackets 60 62 t inside rest = h.1.1.0 in
    let r : ReadsTerms Profile inside terms = h.1.1.1.0 in
    let piece : List ℕ = b.gap ++ (60 ∷ inside) in
    let text : t ≡ piece ++ (62 ∷ rest) = b.split ∙ sym (append_assoc b.gap (60 ∷ inside) (62 ∷ rest)) in
    let pieces : slice_split (λ c. eqb c 62) t ≡ piece ∷ slice_split (λ c. eqb c 62) rest = ap (slice_split (λ c. eqb c 62)) text ∙ split-here 62 piece rest (piece-plain b.gap inside terms b.blank r) in
    ap lists_of pieces ∙ lists-cons piece (slice_split (λ c. eqb c 62) rest) (split-has (λ c. eqb c 62) rest)
    ∙ ap (λ o. both o (lists_of (slice_split (λ c. eqb c 62) rest))) (piece-complete b.gap inside terms b.blank r)
    ∙ ap (both (Some terms)) (lists-complete rest more h.1.1.1.1)

pub profiles-complete : (t : List ℕ) (lists : List (List Term)) → ReadsProfiles t lists → read_profiles t ≡ Some lists
unfolding read_profiles
profiles-complete t lists h = lists-complete t lists h

pub alternative-complete : (t : List ℕ) (a : Alternative) → ReadsAlternative t a → read_alternative t ≡ Some a
unfolding read_alternative
alternative-complete t a h =
    let o1 : opens is_angle (skip is_white h.after_archs) = profiles-open h.after_archs a.profiles h.profiles in
    let o2 : opens is_square (skip is_white h.after_restriction) = archs-open h.after_restriction a.archs h.after_archs h.archs o1 in
    let o3 : opens is_round (skip is_white h.after_qualifier) = restriction-open h.after_qualifier a.restriction h.after_restriction h.restriction o2 in
    let o4 : opens is_next h.after_qualifier = opens-next h.after_qualifier o3 in
    let o5 : opens is_behind_name h.after_name = qualifier-open h.after_name a.qualifier h.after_qualifier h.qualifier o4 in
    ap with_name (name-complete t a.name h.after_name h.name o5)
    ∙ ap (with_qualifier a.name) (qualifier-complete h.after_name a.qualifier h.after_qualifier h.qualifier o4)
    ∙ ap (with_asked a.name a.qualifier) (restriction-complete h.after_qualifier a.restriction h.after_restriction h.restriction o2)
    ∙ ap (with_archs a.name a.qualifier a.restriction) (archs-complete h.after_restriction a.archs h.after_archs h.archs o1)
    ∙ ap (with_profiles a.name a.qualifier a.restriction a.archs) (profiles-complete h.after_archs a.profiles h.profiles)

module _ {X Y : Type 0} (f : X → Option Y) (R : X → Y → Type 0) (complete : (x : X) (y : Y) → R x y → f x ≡ Some y) where
  pub each-complete : (xs : List X) (ys : List Y) → AllZip R xs ys → all_some f xs ≡ Some ys
  each-complete [] [] h = refl
  each-complete [] (y ∷ ys) h = absurd h
  each-complete (x ∷ xs) [] h = absurd h
  each-complete (x ∷ xs) (y ∷ ys) h = ap (λ o. both o (all_some f xs)) (complete x y h.0) ∙ ap (both (Some y)) (each-complete xs ys h.1)

pub group-complete : (t : List ℕ) (group : List Alternative) → ReadsGroup t group → read_group t ≡ Some group
unfolding read_group
group-complete t group h = each-complete read_alternative ReadsAlternative alternative-complete (slice_split (λ c. eqb c 124) t) group h

pub reads-complete : (t : List ℕ) (groups : List (List Alternative)) → Reads t groups → read_groups t ≡ Some groups
unfolding read_groups Reads
reads-complete t groups h = each-complete read_group ReadsGroup group-complete (filter is_not_blank (slice_split (λ c. eqb c 44) t)) groups h.1
