-- What the first fault of a text tells of it: none is want of memory or length, and the fault of a version is that of a text inside.
use Rattle.std.proofs.Common.{◌≡◌, ℕ, ◌-◌, Bool, true, false, not, ◌&&◌, ◌||◌, cond, eqb, List, [], ◌∷◌, ◌++◌, length, refl, sym, ap, subst, ◌∙◌, append_assoc, append-nil, Option, Some, None, is_some}
use Rattle.std.specs.List.{list_all, slice_split, join_with_byte, take_while}
use Rattle.std.proofs.lemmas.List.Folds.{list_all-append}
use Rattle.std.proofs.lemmas.List.Splits.{join_with_byte-slice_split}
use Rattle.deb_version.specs.declared.fault.VersionFault.{VersionFault}
use Rattle.deb_version.specs.declared.operator.Op.{Op}
use Rattle.deb_version.specs.Syntax.{fault_of}
use Rattle.deb_relations.specs.declared.fault.RelationFault.{RelationFault}
use Rattle.deb_relations.specs.declared.fault.RelationFault.TheVariants.{BadName, BadVersion, Mixed, Unclosed, EmptyAlternative, Stray, TooLong, Memory}
use Rattle.deb_relations.specs.declared.relations.Restriction.{Restriction}
use Rattle.deb_relations.specs.declared.relations.Kind.TheVariants.{Arch}
use Rattle.deb_relations.specs.declared.relations.Term.{Term}
use Rattle.deb_text.specs.Lists.{is_nonempty}
use Rattle.deb_relations.specs.Grammar.{is_white, is_op_char, op_of, TakesName, TakesQualifier, InBrackets}
use Rattle.deb_relations.specs.Reader.{skip, strip, cut, is_solid, between_opened, between, read_name, read_qualifier, read_restriction, terms_of, read_archs, profile_of}
use Rattle.deb_relations.specs.Reading.{place_of, end_before, span, name_fault, version_fault, fault_behind_operator, operator_fault, asked_fault, bracket_fault, restriction_fault, words_fault, archs_fault, list_fault, lists_fault, profiles_fault, or_behind, fault_behind_restriction, fault_behind_qualifier, fault_behind_name, alternative_fault, first_fault, is_alternative, group_fault, is_group_or_blank, groups_fault, is_asked_char, ends_asked, HasBadVersion}
use Rattle.deb_relations.proofs.FrontLemmas.{stops, take_while-skip, skip-stops}
use Rattle.deb_text.proofs.ListLemmas.{take_while-passes}
use Rattle.deb_relations.proofs.CutLemmas.{cut-clear}
use Rattle.deb_relations.proofs.SoundLemmas.{between-sound, name-sound, qualifier-sound}
use Rattle.std.specs.Option.{option_map}
use Rattle.std.proofs.lemmas.Bool.{and_parts, and_from}

-- a text that stands in another
pub record StandsIn (part text : List ℕ) : Type 0 where
  pub front : List ℕ
  pub back : List ℕ
  pub split : text ≡ front ++ (part ++ back)

stands-back : (t front part : List ℕ) → t ≡ front ++ part → StandsIn part t
stands-back t front part e = record { front = front; back = []; split = e ∙ ap (λ x. front ++ x) (sym (append-nil part)) }

-- what a fault tells of the text of which it is the first
abbrev pub Tells : List ℕ → RelationFault → Type 0
Tells text (BadVersion fault) = HasBadVersion text fault
Tells text TooLong = ⊥
Tells text Memory = ⊥
Tells text fault = Unit {0}

-- a fault that tells nothing
abbrev IsPlain : RelationFault → Type 0
IsPlain (BadVersion fault) = ⊥
IsPlain TooLong = ⊥
IsPlain Memory = ⊥
IsPlain fault = Unit {0}

plain-tells : (text : List ℕ) (fault : RelationFault) → IsPlain fault → Tells text fault
plain-tells text (BadVersion fault) h = absurd h
plain-tells text TooLong h = absurd h
plain-tells text Memory h = absurd h
plain-tells text _ h = tt

ended-more : (xs ys : List ℕ) → ends_asked xs ≡ true → ends_asked (xs ++ ys) ≡ true
ended-more [] ys h = absurd (cc)
ended-more (c ∷ cs) ys h = h

ended-here : (xs rest : List ℕ) → stops is_solid xs → ends_asked (xs ++ (41 ∷ rest)) ≡ true
unfolding is_solid is_white
ended-here [] rest s = refl
ended-here (c ∷ cs) rest s =
    elim (is_white c) as (λ v. not v ≡ false → (v || eqb c 41) ≡ true) [ true ↦ λ k. refl | false ↦ λ k. absurd (cc) ] s

-- the front and the back of a text whose characters pass
all-front : (p : ℕ → Bool) (xs ys : List ℕ) → list_all p (xs ++ ys) ≡ true → list_all p xs ≡ true
all-front p xs ys h = (and_parts (list_all p xs) (list_all p ys) (sym (list_all-append p xs ys) ∙ h)).0

all-back : (p : ℕ → Bool) (xs ys : List ℕ) → list_all p (xs ++ ys) ≡ true → list_all p ys ≡ true
all-back p xs ys h = (and_parts (list_all p xs) (list_all p ys) (sym (list_all-append p xs ys) ∙ h)).1

all-asked : (xs : List ℕ) → list_all is_solid xs ≡ true → list_all (λ b. not (eqb b 41)) xs ≡ true → list_all is_asked_char xs ≡ true
unfolding is_asked_char
all-asked [] s h = refl
all-asked (c ∷ cs) s h =
    let p : (is_solid c ≡ true) × (list_all is_solid cs ≡ true) = and_parts (is_solid c) (list_all is_solid cs) s in
    let q : (not (eqb c 41) ≡ true) × (list_all (λ b. not (eqb b 41)) cs ≡ true) = and_parts (not (eqb c 41)) (list_all (λ b. not (eqb b 41)) cs) h in
    and_from (is_solid c && not (eqb c 41)) (list_all is_asked_char cs) (and_from (is_solid c) (not (eqb c 41)) p.0 q.0) (all-asked cs p.1 q.1)

has-in : (part text : List ℕ) (fault : VersionFault) → StandsIn part text → HasBadVersion part fault → HasBadVersion text fault
has-in part text fault s h = record {
  front = s.front ++ h.front;
  inside = h.inside ++ s.back;
  op = h.op;
  word = h.word;
  back = h.back ++ s.back;
  split = s.split ∙ ap (λ x. s.front ++ (x ++ s.back)) h.split ∙ simp append_assoc;
  operator = record {
    front = h.operator.front;
    operator = h.operator.operator;
    middle = h.operator.middle;
    split = ap (λ x. x ++ s.back) h.operator.split ∙ simp append_assoc;
    front_blank = h.operator.front_blank;
    middle_blank = h.operator.middle_blank;
    means = h.operator.means;
  };
  whole = h.whole;
  ended = ended-more h.back s.back h.ended;
  version = h.version;
}

tells-in : (part text : List ℕ) → StandsIn part text → (fault : RelationFault) → Tells part fault → Tells text fault
tells-in part text s (BadVersion fault) h = has-in part text fault s h
tells-in part text s TooLong h = absurd h
tells-in part text s Memory h = absurd h
tells-in part text s _ h = tt

name-plain : (t : List ℕ) → IsPlain (name_fault t)
unfolding name_fault
name-plain t = elim (is_nonempty (skip is_white t)) as (λ b. IsPlain (cond b BadName EmptyAlternative)) [ true ↦ tt | false ↦ tt ]

module _ (text inside rest : List ℕ) (b : InBrackets 40 41 text inside rest) (clear : list_all (λ c. not (eqb c 41)) inside ≡ true) where
  abbrev front : List ℕ
  front = skip is_white inside

  abbrev behind : List ℕ
  behind = skip is_op_char front

  abbrev asked : List ℕ
  asked = skip is_white behind

  inside-is : inside ≡ take_while is_white inside ++ (take_while is_op_char front ++ (take_while is_white behind ++ (take_while is_solid asked ++ skip is_solid asked)))
  inside-is =
      take_while-skip is_white inside
      ∙ ap (λ x. take_while is_white inside ++ x) (take_while-skip is_op_char front ∙ ap (λ x. take_while is_op_char front ++ x) (take_while-skip is_white behind ∙ ap (λ x. take_while is_white behind ++ x) (take_while-skip is_solid asked)))

  version-whole : list_all is_asked_char (take_while is_solid asked) ≡ true
  version-whole =
      let all = subst (λ x. list_all (λ c. not (eqb c 41)) x ≡ true) inside-is clear in
      all-asked (take_while is_solid asked) (take_while-passes is_solid asked)
      (all-front _ (take_while is_solid asked) (skip is_solid asked) (all-back _ (take_while is_white behind) _ (all-back _ (take_while is_op_char front) _ (all-back _ (take_while is_white inside) _ all))))

  brackets-are : inside ++ (41 ∷ rest) ≡ take_while is_white inside ++ (take_while is_op_char front ++ (take_while is_white behind ++ (take_while is_solid asked ++ (skip is_solid asked ++ (41 ∷ rest)))))
  brackets-are = ap (λ x. x ++ (41 ∷ rest)) inside-is ∙ simp append_assoc

  version-tells : (op : Op) → op_of (take_while is_op_char front) ≡ Some op → (o : Option VersionFault) → fault_of (take_while is_solid asked) ≡ o → (place : ℕ) → Tells text (version_fault o place)
  version-tells op e None h place = tt
  version-tells op e (Some fault) h place = record {
    front = b.gap;
    inside = inside ++ (41 ∷ rest);
    op = op;
    word = take_while is_solid asked;
    back = skip is_solid asked ++ (41 ∷ rest);
    split = b.split;
    operator = record {
      front = take_while is_white inside;
      operator = take_while is_op_char front;
      middle = take_while is_white behind;
      split = brackets-are;
      front_blank = take_while-passes is_white inside;
      middle_blank = take_while-passes is_white behind;
      means = e;
    };
    whole = version-whole;
    ended = ended-here (skip is_solid asked) rest (skip-stops is_solid asked);
    version = h;
  }

  operator-tells : (end : ℕ) (o : Option Op) → op_of (take_while is_op_char front) ≡ o → Tells text (operator_fault o (fault_behind_operator end asked))
  unfolding fault_behind_operator
  operator-tells end None e = tt
  operator-tells end (Some op) e = version-tells op e (fault_of (take_while is_solid asked)) refl (place_of end (skip is_white (skip is_solid asked)))

  asked-tells : (end : ℕ) → Tells text (asked_fault end inside)
  unfolding asked_fault
  asked-tells end = operator-tells end (op_of (take_while is_op_char front)) refl

clear-cut : (r : ℕ) (behind : List ℕ) (o : Option (List ℕ × List ℕ)) → cut r behind ≡ o → (p : List ℕ × List ℕ) → option_map Some o ≡ Some (Some p) → list_all (λ c. not (eqb c r)) p.0 ≡ true
clear-cut r behind None e p h = absurd (cc)
clear-cut r behind (Some q) e p h =
    let made : ◌≡◌ {A = List ℕ × List ℕ} q p = cc in
    subst (λ (x : List ℕ × List ℕ). list_all (λ c. not (eqb c r)) x.0 ≡ true) made (cut-clear r behind q e)

clear-opened : (r : ℕ) (o : Option (List ℕ)) (p : List ℕ × List ℕ) → between_opened r o ≡ Some (Some p) → list_all (λ c. not (eqb c r)) p.0 ≡ true
clear-opened r None p h = absurd (cc)
clear-opened r (Some behind) p h = clear-cut r behind (cut r behind) refl p h

between-clear : (l r : ℕ) (t : List ℕ) (p : List ℕ × List ℕ) → between l r t ≡ Some (Some p) → list_all (λ c. not (eqb c r)) p.0 ≡ true
unfolding between
between-clear l r t p h = clear-opened r (strip l (skip is_white t)) p h

restriction-by : (end : ℕ) (t : List ℕ) (o : Option (Option (List ℕ × List ℕ))) → between 40 41 t ≡ o → Tells t (bracket_fault (λ inside behind. asked_fault (end_before end behind) inside) o)
restriction-by end t None e = tt
restriction-by end t (Some None) e = tt
restriction-by end t (Some (Some p)) e = asked-tells t p.0 p.1 (between-sound 40 41 t p e) (between-clear 40 41 t p e) (end_before end p.1)

restriction-tells : (end : ℕ) (t : List ℕ) → Tells t (restriction_fault end t)
unfolding restriction_fault
restriction-tells end t = restriction-by end t (between 40 41 t) refl

words-plain : (inside : List ℕ) → IsPlain (words_fault inside)
unfolding words_fault
words-plain inside = elim (is_some (terms_of Arch inside)) as (λ b. IsPlain (cond b Mixed BadName)) [ true ↦ tt | false ↦ tt ]

archs-by : (o : Option (Option (List ℕ × List ℕ))) → IsPlain (bracket_fault (λ inside behind. words_fault inside) o)
archs-by None = tt
archs-by (Some None) = tt
archs-by (Some (Some p)) = words-plain p.0

archs-plain : (t : List ℕ) → IsPlain (archs_fault t)
unfolding archs_fault
archs-plain t = archs-by (between 91 93 t)

list-plain : (fault : RelationFault) → IsPlain fault → (end : ℕ) (piece : List ℕ) → IsPlain (list_fault fault end piece)
unfolding list_fault
list-plain fault h end piece = elim (is_some (strip 60 (skip is_white piece))) as (λ b. IsPlain (cond b fault (Stray (place_of end (skip is_white piece))))) [ true ↦ h | false ↦ tt ]

lists-plain : (end : ℕ) (ps : List (List ℕ)) → IsPlain (lists_fault end ps)
lists-plain end [] = tt
lists-plain end (last ∷ []) = list-plain Unclosed tt end last
lists-plain end (piece ∷ (next ∷ more)) =
    elim (is_some (profile_of piece)) as (λ b. IsPlain (cond b (lists_fault end (next ∷ more)) (list_fault BadName (end - span (next ∷ more)) piece))) [
      | true ↦ lists-plain end (next ∷ more)
      | false ↦ list-plain BadName tt (end - span (next ∷ more)) piece
    ]

profiles-plain : (end : ℕ) (t : List ℕ) → IsPlain (profiles_fault end t)
unfolding profiles_fault
profiles-plain end t = lists-plain end (slice_split (λ c. eqb c 62) t)

restriction-behind : (end : ℕ) (t : List ℕ) (o : Option (List Term × List ℕ)) → IsPlain (or_behind (archs_fault t) (profiles_fault end) o)
restriction-behind end t None = archs-plain t
restriction-behind end t (Some p) = profiles-plain end p.1

qualifier-behind : (end : ℕ) (t : List ℕ) (o : Option (Option Restriction × List ℕ)) → Tells t (or_behind (restriction_fault end t) (fault_behind_restriction end) o)
qualifier-behind end t None = restriction-tells end t
qualifier-behind end t (Some p) = plain-tells t (fault_behind_restriction end p.1) (restriction-behind end p.1 (read_archs p.1))

stands-qualifier : (t : List ℕ) (q : Option (List ℕ)) (rest : List ℕ) → TakesQualifier t q rest → StandsIn rest t
stands-qualifier t None rest h = stands-back t [] rest h
stands-qualifier t (Some word) rest h = stands-back t (58 ∷ word) rest h.0

name-behind : (end : ℕ) (t : List ℕ) (o : Option (Option (List ℕ) × List ℕ)) → read_qualifier t ≡ o → Tells t (or_behind BadName (fault_behind_qualifier end) o)
name-behind end t None e = tt
name-behind end t (Some p) e =
    tells-in p.1 t (stands-qualifier t p.0 p.1 (qualifier-sound t p e)) (fault_behind_qualifier end p.1) (qualifier-behind end p.1 (read_restriction p.1))

stands-name : (t name rest : List ℕ) → TakesName t name rest → StandsIn rest t
stands-name t name rest n = stands-back t (n.gap ++ name) rest (n.split ∙ sym (append_assoc n.gap name rest))

alternative-by : (end : ℕ) (t : List ℕ) (o : Option (List ℕ × List ℕ)) → read_name t ≡ o → Tells t (or_behind (name_fault t) (fault_behind_name end) o)
alternative-by end t None e = plain-tells t (name_fault t) (name-plain t)
alternative-by end t (Some p) e =
    tells-in p.1 t (stands-name t p.0 p.1 (name-sound t p e)) (fault_behind_name end p.1) (name-behind end p.1 (read_qualifier p.1) refl)

alternative-tells : (end : ℕ) (t : List ℕ) → Tells t (alternative_fault end t)
unfolding alternative_fault
alternative-tells end t = alternative-by end t (read_name t) refl

module _ (c : ℕ) where
  stands-first : (piece : List ℕ) (more : List (List ℕ)) → StandsIn piece (join_with_byte c (piece ∷ more))
  stands-first piece [] = record { front = []; back = []; split = sym (append-nil piece) }
  stands-first piece (next ∷ more) = record { front = []; back = c ∷ join_with_byte c (next ∷ more); split = refl }

  stands-later : (piece next : List ℕ) (more : List (List ℕ)) → StandsIn (join_with_byte c (next ∷ more)) (join_with_byte c (piece ∷ (next ∷ more)))
  stands-later piece next more =
      stands-back (join_with_byte c (piece ∷ (next ∷ more))) (piece ++ (c ∷ [])) (join_with_byte c (next ∷ more)) (sym (append_assoc piece (c ∷ []) (join_with_byte c (next ∷ more))))

  module _ (passes : List ℕ → Bool) (fault : ℕ → List ℕ → RelationFault) (tells : (end : ℕ) (t : List ℕ) → Tells t (fault end t)) where
    later-tells : (end : ℕ) (piece : List ℕ) (more : List (List ℕ)) → Tells (join_with_byte c more) (first_fault passes fault end more) → Tells (join_with_byte c (piece ∷ more)) (first_fault passes fault end more)
    later-tells end piece [] h = tt
    later-tells end piece (next ∷ more) h = tells-in (join_with_byte c (next ∷ more)) (join_with_byte c (piece ∷ (next ∷ more))) (stands-later piece next more) (first_fault passes fault end (next ∷ more)) h

    first-tells : (end : ℕ) (ps : List (List ℕ)) → Tells (join_with_byte c ps) (first_fault passes fault end ps)
    first-tells end [] = tt
    first-tells end (piece ∷ more) =
        elim (passes piece) as (λ b. Tells (join_with_byte c (piece ∷ more)) (cond b (first_fault passes fault end more) (fault (end - span more) piece))) [
          | true ↦ later-tells end piece more (first-tells end more)
          | false ↦ tells-in piece (join_with_byte c (piece ∷ more)) (stands-first piece more) (fault (end - span more) piece) (tells (end - span more) piece)
        ]

    pieces-tell : (end : ℕ) (t : List ℕ) → Tells t (first_fault passes fault end (slice_split (λ b. eqb b c) t))
    pieces-tell end t = subst (λ x. Tells x (first_fault passes fault end (slice_split (λ b. eqb b c) t))) (join_with_byte-slice_split c t) (first-tells end (slice_split (λ b. eqb b c) t))

group-tells : (end : ℕ) (t : List ℕ) → Tells t (group_fault end t)
unfolding group_fault
group-tells end t = pieces-tell 124 is_alternative alternative_fault alternative-tells end t

pub groups-tell : (t : List ℕ) → Tells t (groups_fault t)
unfolding groups_fault
groups-tell t = pieces-tell 44 is_group_or_blank group_fault group-tells (length t) t
