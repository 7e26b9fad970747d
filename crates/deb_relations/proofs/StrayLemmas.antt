-- A fault that tells of a stray character has its place in the whole text.
use Rattle.std.proofs.Common.{◌≡◌, ℕ, suc, ◌+◌, ◌-◌, ◌<◌, Bool, true, false, ◌&&◌, cond, eqb, List, [], ◌∷◌, ◌++◌, length, get_or, refl, sym, ap, subst, ◌∙◌, arith, append_assoc, append-nil, length-append, Option, Some, None, is_some, Err}
use Rattle.std.specs.Prelude.{nat_lt}
use Rattle.std.specs.List.{list_all, slice_split, join_with_byte, take_while}
use Rattle.std.specs.Option.{ok_or, option_map}
use Rattle.std.proofs.Math.Seq.{get_or-append_seam}
use Rattle.std.proofs.lemmas.List.Splits.{join_with_byte-slice_split}
use Rattle.deb_version.specs.declared.fault.VersionFault.{VersionFault}
use Rattle.deb_version.specs.declared.operator.Op.{Op}
use Rattle.deb_version.specs.Syntax.{fault_of, is_version_text}
use Rattle.deb_relations.specs.declared.fault.RelationFault.{RelationFault}
use Rattle.deb_relations.specs.declared.fault.RelationFault.TheVariants.{BadName, Mixed, Unclosed, EmptyAlternative, Stray, TooLong}
use Rattle.deb_relations.specs.declared.relations.Restriction.{Restriction}
use Rattle.deb_relations.specs.declared.relations.Kind.TheVariants.{Arch}
use Rattle.deb_relations.specs.declared.relations.Term.{Term}
use Rattle.deb_relations.specs.declared.relations.Alternative.{Alternative}
use Rattle.deb_text.specs.Lists.{is_nonempty}
use Rattle.deb_relations.specs.Grammar.{is_white, is_blank_text, is_op_char, op_of, TakesQualifier, TakesRestriction, TakesArchs, InBrackets, relations_limit}
use Rattle.deb_relations.specs.Reader.{skip, strip, is_solid, asked_inside, with_rest, read_between, read_groups, restriction_of, asked_of, between, lists_of, with_qualifier, with_name, with_asked, with_archs, with_profiles, read_name, read_qualifier, read_restriction, terms_of, read_archs, read_profiles, profile_of, read_alternative}
use Rattle.deb_text.specs.Options.{both}
use Rattle.deb_relations.specs.Reading.{place_of, end_before, span, name_fault, version_fault, fault_behind_operator, operator_fault, asked_fault, bracket_fault, restriction_fault, words_fault, archs_fault, list_fault, lists_fault, profiles_fault, or_behind, fault_behind_restriction, fault_behind_qualifier, fault_behind_name, alternative_fault, first_fault, is_alternative, group_fault, is_group_or_blank, groups_fault, reading_of}
use Rattle.deb_relations.proofs.FrontLemmas.{stops, take_while-skip, skip-stops, skip-cons}
use Rattle.deb_relations.proofs.SoundLemmas.{between-sound, name-sound, qualifier-sound, restriction-sound, archs-sound}

-- a text that stands in the whole one and ends at a place of it
pub record EndsAt (whole part : List ℕ) (end : ℕ) : Type 0 where
  pub front : List ℕ
  pub back : List ℕ
  pub split : whole ≡ front ++ (part ++ back)
  pub place : end ≡ length front + length part

-- a fault that, where it tells of a stray character, tells its place in the whole text
abbrev pub StraysIn : List ℕ → RelationFault → Type 0
StraysIn whole (Stray place) = (place < length whole) × (is_white (get_or whole place 0) ≡ false)
StraysIn whole fault = Unit {0}

stands-at : (whole front rest : List ℕ) (c place : ℕ) → whole ≡ front ++ (c ∷ rest) → place ≡ length front → is_white c ≡ false → StraysIn whole (Stray place)
stands-at whole front rest c place e p other =
    let here : get_or whole place 0 ≡ c = ap (λ n. get_or whole n 0) p ∙ ap (λ xs. get_or xs (length front) 0) e ∙ get_or-append_seam front c rest 0 in
    (omega (arith, p, ap length e, length-append front (c ∷ rest)), ap is_white here ∙ other)

ends-behind : (whole part front rest : List ℕ) (end : ℕ) → EndsAt whole part end → part ≡ front ++ rest → EndsAt whole rest end
ends-behind whole part front rest end at e = record {
  front = at.front ++ front;
  back = at.back;
  split = at.split ∙ ap (λ x. at.front ++ (x ++ at.back)) e ∙ simp append_assoc;
  place = omega (arith, at.place, ap length e, length-append front rest, length-append at.front front);
}

ends-skipped : (test : ℕ → Bool) (whole part : List ℕ) (end : ℕ) → EndsAt whole part end → EndsAt whole (skip test part) end
ends-skipped test whole part end at = ends-behind whole part (take_while test part) (skip test part) end at (take_while-skip test part)

-- behind white space, of a text that has more than that
skipped-by : (whole part : List ℕ) (end : ℕ) (left : List ℕ) → EndsAt whole left end → stops is_white left → is_nonempty left ≡ true → StraysIn whole (Stray (place_of end left))
skipped-by whole part end [] at stop some = cc
skipped-by whole part end (c ∷ cs) at stop some =
    stands-at whole at.front (cs ++ at.back) c (end - length (c ∷ cs)) at.split (omega (arith, at.place)) stop

blank-by : (b : Bool) (c : ℕ) (cs : List ℕ) → (list_all is_white cs ≡ false → is_nonempty (skip is_white cs) ≡ true) → (b && list_all is_white cs) ≡ false
    → is_nonempty (cond b (skip is_white cs) (c ∷ cs)) ≡ true
blank-by true c cs f h = f h
blank-by false c cs f h = refl

blank-or : (part : List ℕ) → is_blank_text part ≡ false → is_nonempty (skip is_white part) ≡ true
blank-or [] h = cc
blank-or (c ∷ cs) h = ap is_nonempty (skip-cons is_white c cs) ∙ blank-by (is_white c) c cs (blank-or cs) h

pub skipped : (whole part : List ℕ) (end : ℕ) → EndsAt whole part end → is_blank_text part ≡ false → StraysIn whole (Stray (place_of end (skip is_white part)))
skipped whole part end at some =
    skipped-by whole part end (skip is_white part) (ends-skipped is_white whole part end at) (skip-stops is_white part) (blank-or part some)

other : is_white 62 ≡ false
unfolding is_white
other = refl

-- or of a text behind which a mark stands
marked-by : (whole part rest : List ℕ) (mark end : ℕ) (left : List ℕ) (at : EndsAt whole left end) → at.back ≡ mark ∷ rest → is_white mark ≡ false → stops is_white left
    → StraysIn whole (Stray (place_of end left))
marked-by whole part rest mark end [] at e other stop =
    stands-at whole at.front rest mark (end - 0) (at.split ∙ ap (λ x. at.front ++ x) e) (omega (arith, at.place)) other
marked-by whole part rest mark end (c ∷ cs) at e other stop =
    stands-at whole at.front (cs ++ at.back) c (end - length (c ∷ cs)) at.split (omega (arith, at.place)) stop

span-join : (c : ℕ) (piece : List ℕ) (more : List (List ℕ)) → span (piece ∷ more) ≡ suc (length (join_with_byte c (piece ∷ more)))
span-join c piece [] = omega arith
span-join c piece (next ∷ more) =
    omega (arith, span-join c next more, length-append piece (c ∷ join_with_byte c (next ∷ more)))

list-by : (whole : List ℕ) (b : Bool) (fault stray : RelationFault) → StraysIn whole fault → StraysIn whole stray → StraysIn whole (cond b fault stray)
list-by whole true fault stray h k = h
list-by whole false fault stray h k = k

-- the rest behind the first piece and its mark
ends-later : (c : ℕ) (whole piece next : List ℕ) (more : List (List ℕ)) (end : ℕ) → EndsAt whole (join_with_byte c (piece ∷ (next ∷ more))) end
    → EndsAt whole (join_with_byte c (next ∷ more)) end
ends-later c whole piece next more end at =
    ends-behind whole (join_with_byte c (piece ∷ (next ∷ more))) (piece ++ (c ∷ [])) (join_with_byte c (next ∷ more)) end at
    (sym (append_assoc piece (c ∷ []) (join_with_byte c (next ∷ more))))

-- the first piece
ends-first : (c : ℕ) (whole piece : List ℕ) (more : List (List ℕ)) (end : ℕ) → EndsAt whole (join_with_byte c (piece ∷ more)) end → EndsAt whole piece (end - span more)
ends-first c whole piece [] end at = record { front = at.front; back = at.back; split = at.split; place = omega (arith, at.place) }
ends-first c whole piece (next ∷ more) end at = record {
  front = at.front;
  back = c ∷ (join_with_byte c (next ∷ more) ++ at.back);
  split = at.split ∙ ap (λ x. at.front ++ x) (append_assoc piece (c ∷ join_with_byte c (next ∷ more)) at.back);
  place = omega (arith, at.place, span-join c next more, length-append piece (c ∷ join_with_byte c (next ∷ more)));
}

both-none : {X : Type 0} (o : Option X) (more : Option (List X)) → both o more ≡ None → is_some o ≡ true → more ≡ None
both-none None more e h = cc
both-none (Some x) None e h = refl
both-none (Some x) (Some xs) e h = cc

blank-no : (b : Bool) → ◌≡◌ {A = Option (List (List Term))} (cond b (Some []) None) None → b ≡ false
blank-no true e = cc
blank-no false e = refl

list-first : (whole : List ℕ) (end : ℕ) (piece next : List ℕ) (more : List (List ℕ)) → EndsAt whole (join_with_byte 62 (piece ∷ (next ∷ more))) end
    → StraysIn whole (list_fault BadName (end - span (next ∷ more)) piece)
unfolding list_fault ends-skipped ends-behind ends-first
list-first whole end piece next more at =
    let first = ends-first 62 whole piece (next ∷ more) end at in
    list-by whole (is_some (strip 60 (skip is_white piece))) BadName (Stray (place_of (end - span (next ∷ more)) (skip is_white piece))) tt
    (marked-by whole piece (join_with_byte 62 (next ∷ more) ++ at.back) 62 (end - span (next ∷ more)) (skip is_white piece)
    (ends-skipped is_white whole piece (end - span (next ∷ more)) first) refl other (skip-stops is_white piece))

list-last : (whole : List ℕ) (end : ℕ) (last : List ℕ) → EndsAt whole last end → is_blank_text last ≡ false → StraysIn whole (list_fault Unclosed end last)
unfolding list_fault
list-last whole end last at some =
    list-by whole (is_some (strip 60 (skip is_white last))) Unclosed (Stray (place_of end (skip is_white last))) tt (skipped whole last end at some)

lists-turn : (whole : List ℕ) (b : Bool) (fault first : RelationFault) → (b ≡ true → StraysIn whole fault) → StraysIn whole first → StraysIn whole (cond b fault first)
lists-turn whole true fault first h k = h refl
lists-turn whole false fault first h k = k

lists-strays : (whole : List ℕ) (end : ℕ) (ps : List (List ℕ)) → EndsAt whole (join_with_byte 62 ps) end → lists_of ps ≡ None → StraysIn whole (lists_fault end ps)
lists-strays whole end [] at e = tt
lists-strays whole end (last ∷ []) at e = list-last whole end last at (blank-no (is_blank_text last) e)
lists-strays whole end (piece ∷ (next ∷ more)) at e =
    lists-turn whole (is_some (profile_of piece)) (lists_fault end (next ∷ more)) (list_fault BadName (end - span (next ∷ more)) piece)
    (λ h. lists-strays whole end (next ∷ more) (ends-later 62 whole piece next more end at) (both-none (profile_of piece) (lists_of (next ∷ more)) e h))
    (list-first whole end piece next more at)

profiles-stray : (whole : List ℕ) (end : ℕ) (t : List ℕ) → EndsAt whole t end → read_profiles t ≡ None → StraysIn whole (profiles_fault end t)
unfolding profiles_fault read_profiles
profiles-stray whole end t at e =
    lists-strays whole end (slice_split (λ c. eqb c 62) t) (subst (λ x. EndsAt whole x end) (sym (join_with_byte-slice_split 62 t)) at) e

-- no fault of architectures tells of a stray character
words-none : (whole inside : List ℕ) → StraysIn whole (words_fault inside)
unfolding words_fault
words-none whole inside = list-by whole (is_some (terms_of Arch inside)) Mixed BadName tt tt

archs-by : (whole : List ℕ) (o : Option (Option (List ℕ × List ℕ))) → StraysIn whole (bracket_fault (λ inside behind. words_fault inside) o)
archs-by whole None = tt
archs-by whole (Some None) = tt
archs-by whole (Some (Some p)) = words-none whole p.0

archs-none : (whole t : List ℕ) → StraysIn whole (archs_fault t)
unfolding archs_fault
archs-none whole t = archs-by whole (between 91 93 t)

ends-archs : (whole t : List ℕ) (archs : List Term) (rest : List ℕ) (end : ℕ) → EndsAt whole t end → TakesArchs t archs rest → EndsAt whole rest end
ends-archs whole t [] rest end at h = ends-behind whole t [] rest end at h
ends-archs whole t (term ∷ terms) rest end at h =
    let b = h.1.0 in ends-behind whole t (b.gap ++ (91 ∷ (h.0 ++ (93 ∷ [])))) rest end at (b.split ∙ simp append_assoc)

profiles-none : (name : List ℕ) (qualifier : Option (List ℕ)) (asked : Option Restriction) (archs : List Term) (o : Option (List (List Term)))
    → with_profiles name qualifier asked archs o ≡ None → o ≡ None
profiles-none name qualifier asked archs None e = refl
profiles-none name qualifier asked archs (Some profiles) e = cc

behind-restriction : (whole : List ℕ) (end : ℕ) (t name : List ℕ) (qualifier : Option (List ℕ)) (asked : Option Restriction) (o : Option (List Term × List ℕ))
    → EndsAt whole t end → read_archs t ≡ o → with_archs name qualifier asked o ≡ None → StraysIn whole (or_behind (archs_fault t) (profiles_fault end) o)
behind-restriction whole end t name qualifier asked None at h e = archs-none whole t
behind-restriction whole end t name qualifier asked (Some p) at h e =
    profiles-stray whole end p.1 (ends-archs whole t p.0 p.1 end at (archs-sound t p h)) (profiles-none name qualifier asked p.0 (read_profiles p.1) e)

none-asked : (a b : Bool) (asked : Restriction) → a ≡ true → cond (a && b) (Some asked) None ≡ None → b ≡ false
none-asked true true asked h e = cc
none-asked true false asked h e = refl
none-asked false b asked h e = cc

-- an operator and a version, with more behind the version
asked-none : (op : Op) (version after : List ℕ) → is_version_text version ≡ true → asked_of (Some op) version after ≡ None → is_blank_text after ≡ false
asked-none op version after v e = none-asked (is_version_text version) (is_blank_text after) (record { op = op; version = version }) v e

version-good : (version : List ℕ) → fault_of version ≡ None → is_version_text version ≡ true
unfolding is_version_text
version-good version e = rw e refl

version-stray : (whole : List ℕ) (op : Op) (end : ℕ) (asked : List ℕ) → EndsAt whole asked end → asked_of (Some op) (take_while is_solid asked) (skip is_solid asked) ≡ None
    → (o : Option VersionFault) → fault_of (take_while is_solid asked) ≡ o → StraysIn whole (version_fault o (place_of end (skip is_white (skip is_solid asked))))
version-stray whole op end asked at e (Some fault) h = tt
version-stray whole op end asked at e None h =
    skipped whole (skip is_solid asked) end (ends-skipped is_solid whole asked end at)
    (asked-none op (take_while is_solid asked) (skip is_solid asked) (version-good (take_while is_solid asked) h) e)

operator-stray : (whole : List ℕ) (end : ℕ) (asked : List ℕ) (o : Option Op) → EndsAt whole asked end → asked_of o (take_while is_solid asked) (skip is_solid asked) ≡ None
    → StraysIn whole (operator_fault o (fault_behind_operator end asked))
unfolding fault_behind_operator
operator-stray whole end asked None at e = tt
operator-stray whole end asked (Some op) at e = version-stray whole op end asked at e (fault_of (take_while is_solid asked)) refl

asked-stray : (whole : List ℕ) (end : ℕ) (inside : List ℕ) → EndsAt whole inside end → restriction_of inside ≡ None → StraysIn whole (asked_fault end inside)
unfolding asked_fault restriction_of
asked-stray whole end inside at e =
    let front : List ℕ = skip is_white inside in
    operator-stray whole end (skip is_white (skip is_op_char front)) (op_of (take_while is_op_char front))
    (ends-skipped is_white whole (skip is_op_char front) end (ends-skipped is_op_char whole front end (ends-skipped is_white whole inside end at))) e

inside-none : (o : Option Restriction) (rest : List ℕ) → with_rest rest (option_map Some o) ≡ None → o ≡ None
inside-none None rest e = refl
inside-none (Some asked) rest e = cc

ends-inside : (whole t inside rest : List ℕ) (end : ℕ) → EndsAt whole t end → InBrackets 40 41 t inside rest → EndsAt whole inside (end_before end rest)
ends-inside whole t inside rest end at b = record {
  front = at.front ++ (b.gap ++ (40 ∷ []));
  back = 41 ∷ (rest ++ at.back);
  split = at.split ∙ ap (λ x. at.front ++ (x ++ at.back)) b.split ∙ simp append_assoc;
  place = omega (arith, at.place, ap length b.split, length-append b.gap (40 ∷ (inside ++ (41 ∷ rest))), length-append inside (41 ∷ rest), length-append at.front (b.gap ++ (40 ∷ [])), length-append b.gap (40 ∷ []));
}

restriction-by : (whole : List ℕ) (end : ℕ) (t : List ℕ) (o : Option (Option (List ℕ × List ℕ))) → EndsAt whole t end → between 40 41 t ≡ o
    → read_between asked_inside None t o ≡ None → StraysIn whole (bracket_fault (λ inside behind. asked_fault (end_before end behind) inside) o)
restriction-by whole end t None at h e = tt
restriction-by whole end t (Some None) at h e = tt
restriction-by whole end t (Some (Some p)) at h e =
    asked-stray whole (end_before end p.1) p.0 (ends-inside whole t p.0 p.1 end at (between-sound 40 41 t p h)) (inside-none (restriction_of p.0) p.1 e)

restriction-stray : (whole : List ℕ) (end : ℕ) (t : List ℕ) → EndsAt whole t end → read_restriction t ≡ None → StraysIn whole (restriction_fault end t)
unfolding restriction_fault read_restriction
restriction-stray whole end t at e = restriction-by whole end t (between 40 41 t) at refl e

ends-restriction : (whole t : List ℕ) (asked : Option Restriction) (rest : List ℕ) (end : ℕ) → EndsAt whole t end → TakesRestriction t asked rest → EndsAt whole rest end
ends-restriction whole t None rest end at h = ends-behind whole t [] rest end at h
ends-restriction whole t (Some asked) rest end at h =
    let b = h.1.0 in ends-behind whole t (b.gap ++ (40 ∷ (h.0 ++ (41 ∷ [])))) rest end at (b.split ∙ simp append_assoc)

behind-qualifier : (whole : List ℕ) (end : ℕ) (t name : List ℕ) (qualifier : Option (List ℕ)) (o : Option (Option Restriction × List ℕ))
    → EndsAt whole t end → read_restriction t ≡ o → with_asked name qualifier o ≡ None → StraysIn whole (or_behind (restriction_fault end t) (fault_behind_restriction end) o)
behind-qualifier whole end t name qualifier None at h e = restriction-stray whole end t at h
behind-qualifier whole end t name qualifier (Some p) at h e =
    behind-restriction whole end p.1 name qualifier p.0 (read_archs p.1) (ends-restriction whole t p.0 p.1 end at (restriction-sound t p h)) refl e

ends-qualifier : (whole t : List ℕ) (q : Option (List ℕ)) (rest : List ℕ) (end : ℕ) → EndsAt whole t end → TakesQualifier t q rest → EndsAt whole rest end
ends-qualifier whole t None rest end at h = ends-behind whole t [] rest end at h
ends-qualifier whole t (Some word) rest end at h = ends-behind whole t (58 ∷ word) rest end at h.0

behind-name : (whole : List ℕ) (end : ℕ) (t name : List ℕ) (o : Option (Option (List ℕ) × List ℕ)) → EndsAt whole t end → read_qualifier t ≡ o → with_qualifier name o ≡ None
    → StraysIn whole (or_behind BadName (fault_behind_qualifier end) o)
behind-name whole end t name None at h e = tt
behind-name whole end t name (Some p) at h e =
    behind-qualifier whole end p.1 name p.0 (read_restriction p.1) (ends-qualifier whole t p.0 p.1 end at (qualifier-sound t p h)) refl e

name-none : (whole t : List ℕ) → StraysIn whole (name_fault t)
unfolding name_fault
name-none whole t = list-by whole (is_nonempty (skip is_white t)) BadName EmptyAlternative tt tt

alternative-by : (whole : List ℕ) (end : ℕ) (t : List ℕ) (o : Option (List ℕ × List ℕ)) → EndsAt whole t end → read_name t ≡ o → with_name o ≡ None
    → StraysIn whole (or_behind (name_fault t) (fault_behind_name end) o)
alternative-by whole end t None at h e = name-none whole t
alternative-by whole end t (Some p) at h e =
    let n = name-sound t p h in
    behind-name whole end p.1 p.0 (read_qualifier p.1) (ends-behind whole t (n.gap ++ p.0) p.1 end at (n.split ∙ sym (append_assoc n.gap p.0 p.1))) refl e

some-none : (o : Option Alternative) → is_some o ≡ false → o ≡ None
some-none None e = refl
some-none (Some a) e = cc

alternative-stray : (whole : List ℕ) (end : ℕ) (t : List ℕ) → EndsAt whole t end → is_alternative t ≡ false → StraysIn whole (alternative_fault end t)
unfolding alternative_fault is_alternative read_alternative
alternative-stray whole end t at e = alternative-by whole end t (read_name t) at refl (some-none (with_name (read_name t)) e)

module _ (c : ℕ) (whole : List ℕ) (passes : List ℕ → Bool) (fault : ℕ → List ℕ → RelationFault)
    (strays : (end : ℕ) (t : List ℕ) → EndsAt whole t end → passes t ≡ false → StraysIn whole (fault end t)) where
  piece-by : (b : Bool) (end : ℕ) (piece : List ℕ) (more : List (List ℕ)) → EndsAt whole (join_with_byte c (piece ∷ more)) end → passes piece ≡ b
      → StraysIn whole (first_fault passes fault end more) → StraysIn whole (cond b (first_fault passes fault end more) (fault (end - span more) piece))
  piece-by true end piece more at h later = later
  piece-by false end piece more at h later = strays (end - span more) piece (ends-first c whole piece more end at) h

  pieces-stray : (end : ℕ) (ps : List (List ℕ)) → EndsAt whole (join_with_byte c ps) end → StraysIn whole (first_fault passes fault end ps)
  pieces-stray end [] at = tt
  pieces-stray end (piece ∷ []) at = piece-by (passes piece) end piece [] at refl tt
  pieces-stray end (piece ∷ (next ∷ more)) at =
      piece-by (passes piece) end piece (next ∷ more) at refl (pieces-stray end (next ∷ more) (ends-later c whole piece next more end at))

  split-stray : (end : ℕ) (t : List ℕ) → EndsAt whole t end → StraysIn whole (first_fault passes fault end (slice_split (λ b. eqb b c) t))
  split-stray end t at = pieces-stray end (slice_split (λ b. eqb b c) t) (subst (λ x. EndsAt whole x end) (sym (join_with_byte-slice_split c t)) at)

group-stray : (whole : List ℕ) (end : ℕ) (t : List ℕ) → EndsAt whole t end → is_group_or_blank t ≡ false → StraysIn whole (group_fault end t)
unfolding group_fault
group-stray whole end t at e = split-stray 124 whole is_alternative alternative_fault (alternative-stray whole) end t at

groups-stray : (text : List ℕ) → StraysIn text (groups_fault text)
unfolding groups_fault
groups-stray text =
    split-stray 44 text is_group_or_blank group_fault (group-stray text) (length text) text
    (record { front = []; back = []; split = sym (append-nil text); place = omega arith })

strays-end : (text : List ℕ) (place : ℕ) (o : Option (List (List Alternative))) → ok_or o (groups_fault text) ≡ Err (Stray place) → groups_fault text ≡ Stray place
strays-end text place None e = cc
strays-end text place (Some groups) e = cc

strays-by : (b : Bool) (text : List ℕ) (place : ℕ) → cond b (Err TooLong) (ok_or (read_groups text) (groups_fault text)) ≡ Err (Stray place) → groups_fault text ≡ Stray place
strays-by true text place e = cc
strays-by false text place e = strays-end text place (read_groups text) e

pub strays-stand : (text : List ℕ) (place : ℕ) → reading_of text ≡ Err (Stray place) → (place < length text) × (is_white (get_or text place 0) ≡ false)
unfolding reading_of
strays-stand text place e = subst (StraysIn text) (strays-by (nat_lt relations_limit (length text)) text place e) (groups-stray text)
