-- What the reader gives is a reading in the grammar.
use Rattle.std.proofs.Common.{◌≡◌, ◌⊎◌, inl, inr, ℕ, ◌≤◌, Bool, true, false, cond, ◌&&◌, eqb, List, [], ◌∷◌, ◌++◌, map, filter, length, refl, sym, ap, subst, ◌∙◌, append_assoc, Option, Some, None}
use Rattle.std.specs.List.{list_all, slice_split, join_with_byte, AllZip, take_while}
use Rattle.std.proofs.lemmas.List.Splits.{join_with_byte-slice_split}
use Rattle.std.specs.Option.{is_none, option_map}
use Rattle.std.proofs.lemmas.Bool.{and_parts, and_from}
use Rattle.deb_version.specs.declared.fault.VersionFault.{VersionFault}
use Rattle.deb_version.specs.declared.operator.Op.{Op}
use Rattle.deb_version.specs.Syntax.{fault_of, is_version_text}
use Rattle.deb_relations.specs.declared.relations.Kind.{Kind}
use Rattle.deb_relations.specs.declared.relations.Kind.TheVariants.{Arch, Profile}
use Rattle.deb_relations.specs.declared.relations.Term.{Term}
use Rattle.deb_relations.specs.declared.relations.Restriction.{Restriction}
use Rattle.deb_relations.specs.declared.relations.Alternative.{Alternative}
use Rattle.deb_relations.specs.Printing.{term_text}
use Rattle.deb_text.specs.Lists.{is_nonempty}
use Rattle.deb_relations.specs.Grammar.{is_white, is_blank_text, is_op_char, is_qualifier, is_word, is_not_blank, op_of, words, are_alike, TakesName, TakesQualifier, InBrackets, IsRestriction, TakesRestriction, ReadsTerms, TakesArchs, ReadsProfiles, ReadsAlternative, ReadsGroup, Reads, relations_limit}
use Rattle.deb_relations.specs.Names.{is_package_char, is_arch_char, is_package_name}
use Rattle.deb_relations.specs.Reader.{skip, strip, cut, is_solid, between, between_opened, read_between, with_rest}
use Rattle.deb_relations.specs.Reader.{read_name, read_behind_colon, read_qualifier, asked_of, restriction_of}
use Rattle.deb_relations.specs.Reader.{asked_inside, read_restriction, term_behind, term_of, filled_only, terms_of}
use Rattle.deb_relations.specs.Reader.{alike_only, arch_terms_of, read_archs, profile_behind, profile_of, lists_of}
use Rattle.deb_relations.specs.Reader.{read_profiles, with_profiles, with_archs, with_asked, with_qualifier, with_name}
use Rattle.deb_relations.specs.Reader.{read_alternative, read_group, read_groups}
use Rattle.deb_text.specs.Options.{both, all_some}
use Rattle.deb_relations.proofs.FrontLemmas.{take_while-skip}
use Rattle.deb_text.proofs.ListLemmas.{take_while-passes}
use Rattle.deb_relations.proofs.CutLemmas.{strip-join, cut-is}

name-at : (t : List ℕ) (b : Bool) → is_package_name (take_while is_package_char (skip is_white t)) ≡ b → (p : List ℕ × List ℕ)
    → cond b (Some (take_while is_package_char (skip is_white t), skip is_package_char (skip is_white t))) None ≡ Some p
    → TakesName t p.0 p.1
name-at t true e p h =
    let made : ◌≡◌ {A = List ℕ × List ℕ} (take_while is_package_char (skip is_white t), skip is_package_char (skip is_white t)) p = cc in
    subst (λ (q : List ℕ × List ℕ). TakesName t q.0 q.1) made (record {
      gap = take_while is_white t;
      split = take_while-skip is_white t ∙ ap (λ xs. take_while is_white t ++ xs) (take_while-skip is_package_char (skip is_white t));
      blank = take_while-passes is_white t;
      form = e;
    })
name-at t false e p h = absurd (cc)

pub name-sound : (t : List ℕ) (p : List ℕ × List ℕ) → read_name t ≡ Some p → TakesName t p.0 p.1
unfolding read_name
name-sound t p h = name-at t (is_package_name (take_while is_package_char (skip is_white t))) refl p h

abbrev pub Qualified : Type 0
Qualified = Option (List ℕ) × List ℕ

qualifier-at : (t behind : List ℕ) → t ≡ 58 ∷ behind → (b : Bool) → is_nonempty (take_while is_arch_char behind) ≡ b → (p : Qualified)
    → cond b (Some (Some (take_while is_arch_char behind), skip is_arch_char behind)) None ≡ Some p
    → TakesQualifier t p.0 p.1
unfolding is_qualifier
qualifier-at t behind j true e p h =
    let made : ◌≡◌ {A = Qualified} (Some (take_while is_arch_char behind), skip is_arch_char behind) p = cc in
    subst (λ (q : Qualified). TakesQualifier t q.0 q.1) made
    (j ∙ ap (λ xs. 58 ∷ xs) (take_while-skip is_arch_char behind), and_from _ _ e (take_while-passes is_arch_char behind))
qualifier-at t behind j false e p h = absurd (cc)

qualifier-by : (t : List ℕ) (o : Option (List ℕ)) → strip 58 t ≡ o → (p : Qualified) → read_behind_colon t o ≡ Some p → TakesQualifier t p.0 p.1
qualifier-by t None e p h =
    let made : ◌≡◌ {A = Qualified} (None, t) p = cc in
    subst (λ (q : Qualified). TakesQualifier t q.0 q.1) made refl
qualifier-by t (Some behind) e p h = qualifier-at t behind (strip-join 58 t behind e) (is_nonempty (take_while is_arch_char behind)) refl p h

pub qualifier-sound : (t : List ℕ) (p : Qualified) → read_qualifier t ≡ Some p → TakesQualifier t p.0 p.1
unfolding read_qualifier
qualifier-sound t p h = qualifier-by t (strip 58 t) refl p h

abbrev pub Halves : Type 0
Halves = List ℕ × List ℕ

between-cut : (l r : ℕ) (t behind : List ℕ) → strip l (skip is_white t) ≡ Some behind → (o : Option Halves) → cut r behind ≡ o → (p : Halves) → option_map Some o ≡ Some (Some p) → InBrackets l r t p.0 p.1
between-cut l r t behind s None e p h = absurd (cc)
between-cut l r t behind s (Some q) e p h =
    let made : ◌≡◌ {A = Halves} q p = cc in
    subst (λ (x : Halves). InBrackets l r t x.0 x.1) made (record {
      gap = take_while is_white t;
      split = take_while-skip is_white t ∙ ap (λ xs. take_while is_white t ++ xs) (strip-join l (skip is_white t) behind s ∙ ap (λ xs. l ∷ xs) (cut-is r behind q e).join);
      blank = take_while-passes is_white t;
    })

between-by : (l r : ℕ) (t : List ℕ) (o : Option (List ℕ)) → strip l (skip is_white t) ≡ o → (p : Halves) → between_opened r o ≡ Some (Some p) → InBrackets l r t p.0 p.1
between-by l r t None e p h = absurd (cc)
between-by l r t (Some behind) e p h = between-cut l r t behind e (cut r behind) refl p h

pub between-sound : (l r : ℕ) (t : List ℕ) (p : Halves) → between l r t ≡ Some (Some p) → InBrackets l r t p.0 p.1
unfolding between
between-sound l r t p h = between-by l r t (strip l (skip is_white t)) refl p h

module _ {X : Type 0} (f : List ℕ → Option X) (none : X) where
  -- nothing was there, or a part in brackets that was read
  abbrev pub IsPart : ℕ → ℕ → List ℕ → X → List ℕ → Type 0
  IsPart l r t x rest = ((x ≡ none) × (t ≡ rest)) ⊎ ((inside : List ℕ) × (InBrackets l r t inside rest × (f inside ≡ Some x)))

  inside-by : (l r : ℕ) (t : List ℕ) (q : Halves) → InBrackets l r t q.0 q.1 → (o : Option X) → f q.0 ≡ o → (p : X × List ℕ) → with_rest q.1 o ≡ Some p → IsPart l r t p.0 p.1
  inside-by l r t q b None e p h = absurd (cc)
  inside-by l r t q b (Some x) e p h =
      let made : ◌≡◌ {A = X × List ℕ} (x, q.1) p = cc in
      subst (λ (y : X × List ℕ). IsPart l r t y.0 y.1) made (inr (q.0, (b, e)))

  part-by : (l r : ℕ) (t : List ℕ) (o : Option (Option Halves)) → between l r t ≡ o → (p : X × List ℕ) → read_between f none t o ≡ Some p → IsPart l r t p.0 p.1
  part-by l r t None e p h = absurd (cc)
  part-by l r t (Some None) e p h =
      let made : ◌≡◌ {A = X × List ℕ} (none, t) p = cc in
      subst (λ (y : X × List ℕ). IsPart l r t y.0 y.1) made (inl (refl, refl))
  part-by l r t (Some (Some q)) e p h = inside-by l r t q (between-sound l r t q e) (f q.0) refl p h

no-fault : (t : List ℕ) (o : Option VersionFault) → fault_of t ≡ o → is_none o ≡ true → fault_of t ≡ None
no-fault t None e h = e
no-fault t (Some fault) e h = absurd (cc)

pub version-sound : (t : List ℕ) → is_version_text t ≡ true → fault_of t ≡ None
unfolding is_version_text
version-sound t h = no-fault t (fault_of t) refl h

module _ (inside : List ℕ) where
  abbrev front : List ℕ
  front = skip is_white inside

  abbrev behind : List ℕ
  behind = skip is_op_char front

  abbrev version : List ℕ
  version = take_while is_solid (skip is_white behind)

  abbrev after : List ℕ
  after = skip is_solid (skip is_white behind)

  asked-at : (op : Op) → op_of (take_while is_op_char front) ≡ Some op → (b : Bool) → (is_version_text version && is_blank_text after) ≡ b → (asked : Restriction) → cond b (Some (record { op = op; version = version })) None ≡ Some asked → IsRestriction inside asked
  asked-at op o true e asked h =
      let made : ◌≡◌ {A = Restriction} (record { op = op; version = version }) asked = cc in
      let two : (is_version_text version ≡ true) × (is_blank_text after ≡ true) = and_parts _ _ e in
      subst (IsRestriction inside) made (record {
        back = after;
        operator = record {
          front = take_while is_white inside;
          operator = take_while is_op_char front;
          middle = take_while is_white behind;
          split = take_while-skip is_white inside ∙ ap (λ xs. take_while is_white inside ++ xs) (take_while-skip is_op_char front
              ∙ ap (λ xs. take_while is_op_char front ++ xs) (take_while-skip is_white behind ∙ ap (λ xs. take_while is_white behind ++ xs) (take_while-skip is_solid (skip is_white behind))));
          front_blank = take_while-passes is_white inside;
          middle_blank = take_while-passes is_white behind;
          means = o;
        };
        back_blank = two.1;
        version = version-sound version two.0;
      })
  asked-at op o false e asked h = absurd (cc)

  asked-by : (o : Option Op) → op_of (take_while is_op_char front) ≡ o → (asked : Restriction) → asked_of o version after ≡ Some asked → IsRestriction inside asked
  asked-by None e asked h = absurd (cc)
  asked-by (Some op) e asked h = asked-at op e (is_version_text version && is_blank_text after) refl asked h

pub asked-sound : (inside : List ℕ) (asked : Restriction) → restriction_of inside ≡ Some asked → IsRestriction inside asked
unfolding restriction_of
asked-sound inside asked h = asked-by inside (op_of (take_while is_op_char (skip is_white inside))) refl asked h

abbrev pub Asked : Type 0
Asked = Option Restriction × List ℕ

asked-inside-by : (t inside rest : List ℕ) → InBrackets 40 41 t inside rest → (o : Option Restriction) → restriction_of inside ≡ o → (x : Option Restriction) → option_map Some o ≡ Some x → TakesRestriction t x rest
asked-inside-by t inside rest b None e x h = absurd (cc)
asked-inside-by t inside rest b (Some asked) e x h =
    let made : ◌≡◌ {A = Option Restriction} (Some asked) x = cc in
    subst (λ (y : Option Restriction). TakesRestriction t y rest) made (inside, (b, asked-sound inside asked e))

restriction-by : (t : List ℕ) (x : Option Restriction) (rest : List ℕ) → IsPart asked_inside None 40 41 t x rest → TakesRestriction t x rest
restriction-by t x rest (inl two) = subst (λ (y : Option Restriction). TakesRestriction t y rest) (sym two.0) two.1
restriction-by t x rest (inr found) = asked-inside-by t found.0 rest found.1.0 (restriction_of found.0) refl x found.1.1

pub restriction-sound : (t : List ℕ) (p : Asked) → read_restriction t ≡ Some p → TakesRestriction t p.0 p.1
unfolding read_restriction
restriction-sound t p h = restriction-by t p.0 p.1 (part-by asked_inside None 40 41 t (between 40 41 t) refl p h)

-- the word of a term, with its sign, and its form
unfoldable pub IsTermOf : Kind → List ℕ → Term → Type 0
IsTermOf kind word term = (word ≡ term_text term) × (is_word kind term.word ≡ true)

signed-at : (kind : Kind) (negated : Bool) (word : List ℕ) (b : Bool) → is_word kind word ≡ b → (term : Term) → cond b (Some (record { negated = negated; word = word })) None ≡ Some term
    → (◌≡◌ {A = Term} (record { negated = negated; word = word }) term) × (is_word kind term.word ≡ true)
signed-at kind negated word true e term h =
    let made : ◌≡◌ {A = Term} (record { negated = negated; word = word }) term = cc in
    (made, subst (λ (x : Term). is_word kind x.word ≡ true) made e)
signed-at kind negated word false e term h = absurd (cc)

term-by : (kind : Kind) (word : List ℕ) (o : Option (List ℕ)) → strip 33 word ≡ o → (term : Term) → term_behind kind word o ≡ Some term → IsTermOf kind word term
unfolding IsTermOf
term-by kind word None e term h =
    let two = signed-at kind false word (is_word kind word) refl term h in (ap term_text two.0, two.1)
term-by kind word (Some behind) e term h =
    let two = signed-at kind true behind (is_word kind behind) refl term h in (strip-join 33 word behind e ∙ ap term_text two.0, two.1)

pub term-sound : (kind : Kind) (word : List ℕ) (term : Term) → term_of kind word ≡ Some term → IsTermOf kind word term
unfolding term_of
term-sound kind word term h = term-by kind word (strip 33 word) refl term h

module _ {X Y : Type 0} (f : X → Option Y) (R : X → Y → Type 0) (sound : (x : X) (y : Y) → f x ≡ Some y → R x y) where
  each-both : (x : X) (xs : List X) (o : Option Y) (more : Option (List Y)) → ((y : Y) → o ≡ Some y → R x y) → ((zs : List Y) → more ≡ Some zs → AllZip R xs zs) → (ys : List Y) → both o more ≡ Some ys → AllZip R (x ∷ xs) ys
  each-both x xs None more p q ys h = absurd (cc)
  each-both x xs (Some y) None p q ys h = absurd (cc)
  each-both x xs (Some y) (Some zs) p q ys h =
      let made : ◌≡◌ {A = List Y} (y ∷ zs) ys = cc in
      subst (λ (ws : List Y). AllZip R (x ∷ xs) ws) made (p y refl, q zs refl)

  pub each-sound : (xs : List X) (ys : List Y) → all_some f xs ≡ Some ys → AllZip R xs ys
  each-sound [] ys h =
      let made : ◌≡◌ {A = List Y} [] ys = cc in subst (λ (ws : List Y). AllZip R [] ws) made tt
  each-sound (x ∷ xs) ys h = each-both x xs (f x) (all_some f xs) (sound x) (each-sound xs) ys h

terms-written : (kind : Kind) (ws : List (List ℕ)) (terms : List Term) → AllZip (IsTermOf kind) ws terms → (ws ≡ map term_text terms) × (list_all (λ term. is_word kind term.word) terms ≡ true)
unfolding IsTermOf
terms-written kind [] [] e = (refl, refl)
terms-written kind [] (term ∷ terms) e = absurd e
terms-written kind (w ∷ ws) [] e = absurd e
terms-written kind (w ∷ ws) (term ∷ terms) e =
    let more = terms-written kind ws terms e.1 in
    (ap (λ x. x ∷ ws) e.0.0 ∙ ap (λ xs. term_text term ∷ xs) more.0, and_from _ _ e.0.1 more.1)

terms-by : (kind : Kind) (inside : List ℕ) (o : Option (List Term)) → all_some (term_of kind) (words inside) ≡ o → (terms : List Term) → filled_only o ≡ Some terms → ReadsTerms kind inside terms
terms-by kind inside None e terms h = absurd (cc)
terms-by kind inside (Some []) e terms h = absurd (cc)
terms-by kind inside (Some (x ∷ xs)) e terms h =
    let made : ◌≡◌ {A = List Term} (x ∷ xs) terms = cc in
    let two = terms-written kind (words inside) (x ∷ xs) (each-sound (term_of kind) (IsTermOf kind) (term-sound kind) (words inside) (x ∷ xs) e) in
    subst (ReadsTerms kind inside) made (record { written = two.0; filled = refl; forms = two.1 })

pub terms-sound : (kind : Kind) (inside : List ℕ) (terms : List Term) → terms_of kind inside ≡ Some terms → ReadsTerms kind inside terms
unfolding terms_of
terms-sound kind inside terms h = terms-by kind inside (all_some (term_of kind) (words inside)) refl terms h

alike-at : (inside : List ℕ) (xs : List Term) (b : Bool) → are_alike xs ≡ b → ReadsTerms Arch inside xs → (terms : List Term) → cond b (Some xs) None ≡ Some terms → ReadsTerms Arch inside terms × (are_alike terms ≡ true)
alike-at inside xs true e r terms h =
    let made : ◌≡◌ {A = List Term} xs terms = cc in
    subst (λ (ts : List Term). ReadsTerms Arch inside ts × (are_alike ts ≡ true)) made (r, e)
alike-at inside xs false e r terms h = absurd (cc)

alike-by : (inside : List ℕ) (o : Option (List Term)) → terms_of Arch inside ≡ o → (terms : List Term) → alike_only o ≡ Some terms → ReadsTerms Arch inside terms × (are_alike terms ≡ true)
alike-by inside None e terms h = absurd (cc)
alike-by inside (Some xs) e terms h = alike-at inside xs (are_alike xs) refl (terms-sound Arch inside xs e) terms h

archs_of-sound : (inside : List ℕ) (terms : List Term) → arch_terms_of inside ≡ Some terms → ReadsTerms Arch inside terms × (are_alike terms ≡ true)
unfolding arch_terms_of
archs_of-sound inside terms h = alike-by inside (terms_of Arch inside) refl terms h

archs-in : (t inside rest : List ℕ) → InBrackets 91 93 t inside rest → (terms : List Term) → ReadsTerms Arch inside terms × (are_alike terms ≡ true) → TakesArchs t terms rest
archs-in t inside rest b [] r = let none : false ≡ true = r.0.filled in absurd (cc)
archs-in t inside rest b (x ∷ xs) r = (inside, (b, (r.0, r.1)))

archs-by : (t : List ℕ) (x : List Term) (rest : List ℕ) → IsPart arch_terms_of [] 91 93 t x rest → TakesArchs t x rest
archs-by t x rest (inl two) = subst (λ (y : List Term). TakesArchs t y rest) (sym two.0) two.1
archs-by t x rest (inr found) = archs-in t found.0 rest found.1.0 x (archs_of-sound found.0 x found.1.1)

pub archs-sound : (t : List ℕ) (p : List Term × List ℕ) → read_archs t ≡ Some p → TakesArchs t p.0 p.1
unfolding read_archs
archs-sound t p h = archs-by t p.0 p.1 (part-by arch_terms_of [] 91 93 t (between 91 93 t) refl p h)

-- a piece before a closing angle bracket that was read
pub record IsProfile (piece : List ℕ) (terms : List Term) : Type 0 where
  pub gap : List ℕ
  pub inside : List ℕ
  pub split : piece ≡ gap ++ (60 ∷ inside)
  pub blank : is_blank_text gap ≡ true
  pub reads : ReadsTerms Profile inside terms

profile-by : (piece : List ℕ) (o : Option (List ℕ)) → strip 60 (skip is_white piece) ≡ o → (terms : List Term) → profile_behind o ≡ Some terms → IsProfile piece terms
profile-by piece None e terms h = absurd (cc)
profile-by piece (Some inside) e terms h = record {
  gap = take_while is_white piece;
  inside = inside;
  split = take_while-skip is_white piece ∙ ap (λ xs. take_while is_white piece ++ xs) (strip-join 60 (skip is_white piece) inside e);
  blank = take_while-passes is_white piece;
  reads = terms-sound Profile inside terms h;
}

profile-sound : (piece : List ℕ) (terms : List Term) → profile_of piece ≡ Some terms → IsProfile piece terms
unfolding profile_of
profile-sound piece terms h = profile-by piece (strip 60 (skip is_white piece)) refl terms h

last-at : (t : List ℕ) (b : Bool) → is_blank_text t ≡ b → (lists : List (List Term)) → cond b (Some []) None ≡ Some lists → ReadsProfiles t lists
last-at t true e lists h =
    let made : ◌≡◌ {A = List (List Term)} [] lists = cc in subst (ReadsProfiles t) made e
last-at t false e lists h = absurd (cc)

lists-both : (t piece rest : List ℕ) → t ≡ piece ++ (62 ∷ rest) → (o : Option (List Term)) (more : Option (List (List Term))) → ((x : List Term) → o ≡ Some x → IsProfile piece x) → ((xs : List (List Term)) → more ≡ Some xs → ReadsProfiles rest xs) → (lists : List (List Term)) → both o more ≡ Some lists → ReadsProfiles t lists
lists-both t piece rest j None more p q lists h = absurd (cc)
lists-both t piece rest j (Some x) None p q lists h = absurd (cc)
lists-both t piece rest j (Some x) (Some xs) p q lists h =
    let made : ◌≡◌ {A = List (List Term)} (x ∷ xs) lists = cc in
    let one = p x refl in
    subst (ReadsProfiles t) made (
      one.inside,
      (
        rest,
        (
          record {
            gap = one.gap;
            split = j ∙ ap (λ ys. ys ++ (62 ∷ rest)) one.split ∙ append_assoc one.gap (60 ∷ one.inside) (62 ∷ rest);
            blank = one.blank;
          },
          (one.reads, q xs refl),
        ),
      ),
    )

lists-sound : (pieces : List (List ℕ)) (t : List ℕ) → t ≡ join_with_byte 62 pieces → (lists : List (List Term)) → lists_of pieces ≡ Some lists → ReadsProfiles t lists
lists-sound [] t j lists h = absurd (cc)
lists-sound (last ∷ []) t j lists h = subst (λ (x : List ℕ). ReadsProfiles x lists) (sym j) (last-at last (is_blank_text last) refl lists h)
lists-sound (piece ∷ (next ∷ more)) t j lists h =
    lists-both t piece (join_with_byte 62 (next ∷ more)) j (profile_of piece) (lists_of (next ∷ more)) (profile-sound piece) (lists-sound (next ∷ more) (join_with_byte 62 (next ∷ more)) refl) lists h

pub profiles-sound : (t : List ℕ) (lists : List (List Term)) → read_profiles t ≡ Some lists → ReadsProfiles t lists
unfolding read_profiles
profiles-sound t lists h = lists-sound (slice_split (λ c. eqb c 62) t) t (sym (join_with_byte-slice_split 62 t)) lists h

module _ (t : List ℕ) where
  by-profiles : (n : List ℕ) (after_name : List ℕ) → TakesName t n after_name → (q : Option (List ℕ)) (after_q : List ℕ) → TakesQualifier after_name q after_q → (r : Option Restriction) (after_r : List ℕ) → TakesRestriction after_q r after_r → (s : List Term) (after_s : List ℕ) → TakesArchs after_r s after_s → (o : Option (List (List Term))) → read_profiles after_s ≡ o → (a : Alternative) → with_profiles n q r s o ≡ Some a → ReadsAlternative t a
  by-profiles n after_name tn q after_q tq r after_r tr s after_s ts None e a h = absurd (cc)
  by-profiles n after_name tn q after_q tq r after_r tr s after_s ts (Some lists) e a h =
      let made : ◌≡◌ {A = Alternative} (record { name = n; qualifier = q; restriction = r; archs = s; profiles = lists }) a = cc in
      subst (ReadsAlternative t) made (record {
        after_name = after_name;
        after_qualifier = after_q;
        after_restriction = after_r;
        after_archs = after_s;
        name = tn;
        qualifier = tq;
        restriction = tr;
        archs = ts;
        profiles = profiles-sound after_s lists e;
      })

  by-archs : (n : List ℕ) (after_name : List ℕ) → TakesName t n after_name → (q : Option (List ℕ)) (after_q : List ℕ) → TakesQualifier after_name q after_q → (r : Option Restriction) (after_r : List ℕ) → TakesRestriction after_q r after_r → (o : Option (List Term × List ℕ)) → read_archs after_r ≡ o → (a : Alternative) → with_archs n q r o ≡ Some a → ReadsAlternative t a
  by-archs n after_name tn q after_q tq r after_r tr None e a h = absurd (cc)
  by-archs n after_name tn q after_q tq r after_r tr (Some p) e a h = by-profiles n after_name tn q after_q tq r after_r tr p.0 p.1 (archs-sound after_r p e) (read_profiles p.1) refl a h

  by-asked : (n : List ℕ) (after_name : List ℕ) → TakesName t n after_name → (q : Option (List ℕ)) (after_q : List ℕ) → TakesQualifier after_name q after_q → (o : Option Asked) → read_restriction after_q ≡ o → (a : Alternative) → with_asked n q o ≡ Some a → ReadsAlternative t a
  by-asked n after_name tn q after_q tq None e a h = absurd (cc)
  by-asked n after_name tn q after_q tq (Some p) e a h = by-archs n after_name tn q after_q tq p.0 p.1 (restriction-sound after_q p e) (read_archs p.1) refl a h

  by-qualifier : (n : List ℕ) (after_name : List ℕ) → TakesName t n after_name → (o : Option Qualified) → read_qualifier after_name ≡ o → (a : Alternative) → with_qualifier n o ≡ Some a → ReadsAlternative t a
  by-qualifier n after_name tn None e a h = absurd (cc)
  by-qualifier n after_name tn (Some p) e a h = by-asked n after_name tn p.0 p.1 (qualifier-sound after_name p e) (read_restriction p.1) refl a h

  by-name : (o : Option (List ℕ × List ℕ)) → read_name t ≡ o → (a : Alternative) → with_name o ≡ Some a → ReadsAlternative t a
  by-name None e a h = absurd (cc)
  by-name (Some p) e a h = by-qualifier p.0 p.1 (name-sound t p e) (read_qualifier p.1) refl a h

pub alternative-sound : (t : List ℕ) (a : Alternative) → read_alternative t ≡ Some a → ReadsAlternative t a
unfolding read_alternative
alternative-sound t a h = by-name t (read_name t) refl a h

pub group-sound : (t : List ℕ) (group : List Alternative) → read_group t ≡ Some group → ReadsGroup t group
unfolding read_group
group-sound t group h = each-sound read_alternative ReadsAlternative alternative-sound (slice_split (λ c. eqb c 124) t) group h

pub reads-sound : (t : List ℕ) (groups : List (List Alternative)) → length t ≤ relations_limit → read_groups t ≡ Some groups → Reads t groups
unfolding read_groups Reads
reads-sound t groups l h = (l, each-sound read_group ReadsGroup group-sound (filter is_not_blank (slice_split (λ c. eqb c 44) t)) groups h)
