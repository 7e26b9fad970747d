-- One turn of each loop of the reader, as the first fault of the pieces sees it.
use Rattle.std.proofs.Common.{◌≡◌, ℕ, suc, ◌-◌, Bool, true, false, cond, not, ◌||◌, eqb, List, [], ◌∷◌, length, refl, sym, ap, ◌∙◌, arith, Option, Some, None, is_some}
use Rattle.std.specs.List.{slice_split, onto_first}
use Rattle.deb_relations.specs.declared.fault.RelationFault.{RelationFault}
use Rattle.deb_relations.specs.declared.fault.RelationFault.TheVariants.{BadName, Unclosed}
use Rattle.deb_relations.specs.declared.relations.Term.{Term}
use Rattle.deb_relations.specs.declared.relations.Alternative.{Alternative}
use Rattle.deb_text.specs.Lists.{is_nonempty}
use Rattle.deb_relations.specs.Grammar.{is_blank_text, is_not_blank}
use Rattle.deb_relations.specs.Reader.{cut, profile_of, read_alternative, read_group, push_group, with_group}
use Rattle.deb_relations.specs.Reading.{end_before, span, list_fault, lists_fault, first_fault, is_alternative, is_group_or_blank}
use Rattle.deb_relations.proofs.CutLemmas.{Halves, cut-is, split-last}
use Rattle.deb_relations.proofs.TurnLemmas.{Groups, split-has}

span-onto : (x : ℕ) (ps : List (List ℕ)) → is_nonempty ps ≡ true → span (onto_first x ps) ≡ suc (span ps)
span-onto x [] h = absurd (cc)
span-onto x (p ∷ ps) h = omega arith

span-split : (c : ℕ) (t : List ℕ) → span (slice_split (λ b. eqb b c) t) ≡ suc (length t)
span-split c [] = refl
span-split c (x ∷ xs) =
    let more : span (slice_split (λ b. eqb b c) xs) ≡ suc (length xs) = span-split c xs in
    elim (eqb x c) as (λ v. span (cond v ([] ∷ slice_split (λ b. eqb b c) xs) (onto_first x (slice_split (λ b. eqb b c) xs))) ≡ suc (length (x ∷ xs))) [
      | true ↦ omega arith
      | false ↦ span-onto x (slice_split (λ b. eqb b c) xs) (split-has (λ b. eqb b c) xs) ∙ ap suc more
    ]

-- where a piece ends that was cut off before the rest
end-split : (c end : ℕ) (behind : List ℕ) → end - span (slice_split (λ b. eqb b c) behind) ≡ end_before end behind
end-split c end behind = ap (λ n. end - n) (span-split c behind) ∙ omega arith

end-last : (end : ℕ) → end - 0 ≡ end
end-last end = omega arith

module _ (passes : List ℕ → Bool) (fault : ℕ → List ℕ → RelationFault) (c end : ℕ) where
  pub first-passed : (t : List ℕ) (p : Halves) → cut c t ≡ Some p → passes p.0 ≡ true
      → first_fault passes fault end (slice_split (λ b. eqb b c) p.1) ≡ first_fault passes fault end (slice_split (λ b. eqb b c) t)
  first-passed t p h e = sym (
      ap (first_fault passes fault end) (cut-is c t p h).step
      ∙ ap (λ v. cond v (first_fault passes fault end (slice_split (λ b. eqb b c) p.1)) (fault (end - span (slice_split (λ b. eqb b c) p.1)) p.0)) e
      )

  pub first-told : (t : List ℕ) (p : Halves) → cut c t ≡ Some p → passes p.0 ≡ false
      → first_fault passes fault end (slice_split (λ b. eqb b c) t) ≡ fault (end_before end p.1) p.0
  first-told t p h e =
      ap (first_fault passes fault end) (cut-is c t p h).step
      ∙ ap (λ v. cond v (first_fault passes fault end (slice_split (λ b. eqb b c) p.1)) (fault (end - span (slice_split (λ b. eqb b c) p.1)) p.0)) e
      ∙ ap (λ n. fault n p.0) (end-split c end p.1)

  pub last-told : (t : List ℕ) → cut c t ≡ None → passes t ≡ false → first_fault passes fault end (slice_split (λ b. eqb b c) t) ≡ fault end t
  last-told t h e =
      ap (first_fault passes fault end) (split-last c t h)
      ∙ ap (λ v. cond v (first_fault passes fault end []) (fault (end - 0) t)) e
      ∙ ap (λ n. fault n t) (end-last end)

pub is-read : (piece : List ℕ) (a : Alternative) → read_alternative piece ≡ Some a → is_alternative piece ≡ true
unfolding is_alternative
is-read piece a h = ap is_some h

pub not-read : (piece : List ℕ) → read_alternative piece ≡ None → is_alternative piece ≡ false
unfolding is_alternative
not-read piece h = ap is_some h

pushed-some : (made next : Groups) (o : Option (List Alternative)) → push_group made o ≡ Some next → is_some o ≡ true
pushed-some made next None h = absurd (cc)
pushed-some made next (Some g) h = refl

pushed-none : (made : Groups) (o : Option (List Alternative)) → push_group made o ≡ None → is_some o ≡ false
pushed-none made None h = refl
pushed-none made (Some g) h = absurd (cc)

pub is-group : (made next : Groups) (piece : List ℕ) → with_group made piece ≡ Some next → is_group_or_blank piece ≡ true
unfolding is_group_or_blank with_group is_not_blank
is-group made next piece h =
    elim (is_blank_text piece) as (λ v. cond (not v) (push_group made (read_group piece)) (Some made) ≡ Some next → (v || is_some (read_group piece)) ≡ true) [
      | true ↦ λ k. refl
      | false ↦ λ k. pushed-some made next (read_group piece) k
    ] h

pub no-group : (made : Groups) (piece : List ℕ) → with_group made piece ≡ None → is_group_or_blank piece ≡ false
unfolding is_group_or_blank with_group is_not_blank
no-group made piece h =
    elim (is_blank_text piece) as (λ v. cond (not v) (push_group made (read_group piece)) (Some made) ≡ None → (v || is_some (read_group piece)) ≡ false) [
      | true ↦ λ k. absurd (cc)
      | false ↦ λ k. pushed-none made (read_group piece) k
    ] h

lists-fault-cons : (end : ℕ) (piece : List ℕ) (ps : List (List ℕ)) → is_nonempty ps ≡ true
    → lists_fault end (piece ∷ ps) ≡ cond (is_some (profile_of piece)) (lists_fault end ps) (list_fault BadName (end - span ps) piece)
lists-fault-cons end piece [] h = absurd (cc)
lists-fault-cons end piece (p ∷ ps) h = refl

lists-fault-step : (end : ℕ) (t : List ℕ) (p : Halves) (o : Option (List Term)) → cut 62 t ≡ Some p → profile_of p.0 ≡ o
    → lists_fault end (slice_split (λ b. eqb b 62) t) ≡ cond (is_some o) (lists_fault end (slice_split (λ b. eqb b 62) p.1)) (list_fault BadName (end_before end p.1) p.0)
lists-fault-step end t p o h e =
    ap (lists_fault end) (cut-is 62 t p h).step
    ∙ lists-fault-cons end p.0 (slice_split (λ b. eqb b 62) p.1) (split-has (λ b. eqb b 62) p.1)
    ∙ ap (λ x. cond (is_some x) (lists_fault end (slice_split (λ b. eqb b 62) p.1)) (list_fault BadName (end - span (slice_split (λ b. eqb b 62) p.1)) p.0)) e
    ∙ ap (λ n. cond (is_some o) (lists_fault end (slice_split (λ b. eqb b 62) p.1)) (list_fault BadName n p.0)) (end-split 62 end p.1)

pub lists-passed : (end : ℕ) (t : List ℕ) (p : Halves) (terms : List Term) → cut 62 t ≡ Some p → profile_of p.0 ≡ Some terms
    → lists_fault end (slice_split (λ b. eqb b 62) p.1) ≡ lists_fault end (slice_split (λ b. eqb b 62) t)
lists-passed end t p terms h e = sym (lists-fault-step end t p (Some terms) h e)

pub list-told : (end : ℕ) (t : List ℕ) (p : Halves) → cut 62 t ≡ Some p → profile_of p.0 ≡ None
    → lists_fault end (slice_split (λ b. eqb b 62) t) ≡ list_fault BadName (end_before end p.1) p.0
list-told end t p h e = lists-fault-step end t p None h e

pub lists-end-told : (end : ℕ) (t : List ℕ) → cut 62 t ≡ None → lists_fault end (slice_split (λ b. eqb b 62) t) ≡ list_fault Unclosed end t
lists-end-told end t h = ap (lists_fault end) (split-last 62 t h)
