-- One turn of each loop of the reader.
use Rattle.std.proofs.Common.{◌≡◌, ℕ, suc, ◌<◌, ◌≤◌, Bool, true, false, cond, not, eqb, List, [], ◌∷◌, ◌++◌, filter, length, refl, sym, ap, subst, ◌∙◌, arith, append_assoc, append-nil, Option, Some, None, length-drop}
use Rattle.std.specs.List.{slice_split, onto_first, take_while, prefix_len}
use Rattle.std.proofs.lemmas.Bool.Decides.{nat_tests}
use Rattle.deb_relations.specs.declared.relations.Kind.{Kind}
use Rattle.deb_relations.specs.declared.relations.Term.{Term}
use Rattle.deb_relations.specs.declared.relations.Alternative.{Alternative}
use Rattle.deb_text.specs.Lists.{is_nonempty}
use Rattle.deb_relations.specs.Grammar.{is_white, is_blank_text, is_not_blank, words}
use Rattle.deb_relations.specs.Reader.{skip, cut, is_solid, term_of, profile_of, lists_of, read_group, push_group, with_group}
use Rattle.deb_text.specs.Options.{both, all_some}
use Rattle.deb_relations.proofs.FrontLemmas.{stops, skip-stops, skip-cons}
use Rattle.deb_relations.proofs.CutLemmas.{cut-is, split-last}
use Rattle.std.proofs.lemmas.List.Sums.{take_while-cons}

-- two halves, and none
abbrev pub some_pair : List ℕ → List ℕ → Option (List ℕ × List ℕ)
some_pair a b = Some (a, b)

abbrev pub no_pair : Option (List ℕ × List ℕ)
no_pair = None

length-not : (n : ℕ) → eqb (suc n) 0 ≡ false
length-not n = grind (arith, nat_tests)

pub filled-from : (t : List ℕ) (b : Bool) → b ≡ eqb (length t) 0 → b ≡ false → is_nonempty t ≡ true
filled-from [] b e h = absurd (cc)
filled-from (c ∷ cs) b e h = refl

pub not-filled : (t : List ℕ) (b : Bool) → b ≡ eqb (length t) 0 → b ≡ true → is_nonempty t ≡ false
not-filled [] b e h = refl
not-filled (c ∷ cs) b e h = let no : false ≡ true = sym (length-not (length cs)) ∙ sym e ∙ h in absurd (cc)

-- what was made, and what is still read behind it
abbrev pub onto : {X : Type 0} → List X → Option (List X) → Option (List X)
onto made None = None
onto made (Some more) = Some (made ++ more)

module _ {X : Type 0} where
  pub onto-start : (o : Option (List X)) → onto [] o ≡ o
  onto-start None = refl
  onto-start (Some xs) = refl

  onto-push : (made : List X) (x : X) (o : Option (List X)) → onto (made ++ x ∷ []) o ≡ onto made (both (Some x) o)
  onto-push made x None = refl
  onto-push made x (Some xs) = ap Some (append_assoc made (x ∷ []) xs)

  pub onto-end : (made : List X) → onto made (Some []) ≡ Some made
  onto-end made = ap Some (append-nil made)

-- the pieces behind the first one
abbrev later : List ℕ → List (List ℕ)
later [] = []
later (c ∷ cs) = slice_split is_white cs

split-first : (t : List ℕ) → slice_split is_white t ≡ take_while is_solid t ∷ later (skip is_solid t)
unfolding is_solid
split-first [] = refl
split-first (c ∷ cs) =
    (elim (is_white c) as (λ v. cond v ([] ∷ slice_split is_white cs) (onto_first c (slice_split is_white cs)) ≡ cond (not v) (c ∷ take_while is_solid cs) [] ∷ later (cond (not v) (skip is_solid cs) (c ∷ cs))) [
      | true ↦ refl
      | false ↦ ap (onto_first c) (split-first cs)
    ])
    ∙ sym (ap (λ x. x ∷ later (skip is_solid (c ∷ cs))) (take_while-cons is_solid c cs) ∙ ap (λ x. cond (is_solid c) (c ∷ take_while is_solid cs) [] ∷ later x) (skip-cons is_solid c cs))

pub words-white : (c : ℕ) (cs : List ℕ) → is_white c ≡ true → words (c ∷ cs) ≡ words cs
unfolding words
words-white c cs h = ap (λ v. filter is_nonempty (cond v ([] ∷ slice_split is_white cs) (onto_first c (slice_split is_white cs)))) h

pub words-skip : (t : List ℕ) → words (skip is_white t) ≡ words t
words-skip [] = refl
words-skip (c ∷ cs) =
    ap words (skip-cons is_white c cs)
    ∙ (elim (is_white c) as (λ v. is_white c ≡ v → words (cond v (skip is_white cs) (c ∷ cs)) ≡ words (c ∷ cs)) [
      | true ↦ λ e. words-skip cs ∙ sym (words-white c cs e)
      | false ↦ λ e. refl
    ] refl)

not-solid : (c : ℕ) → is_solid c ≡ false → is_white c ≡ true
unfolding is_solid
not-solid c h = elim (is_white c) as (λ v. not v ≡ false → v ≡ true) [ true ↦ λ e. refl | false ↦ λ e. absurd (cc) ] h

later-words : (s : List ℕ) → stops is_solid s → filter is_nonempty (later s) ≡ words s
unfolding words
later-words [] h = refl
later-words (c ∷ cs) h = sym (words-white c cs (not-solid c h))

-- a text that begins with a word
pub words-first : (t : List ℕ) → is_nonempty (take_while is_solid t) ≡ true → words t ≡ take_while is_solid t ∷ words (skip is_white (skip is_solid t))
unfolding words
words-first t h =
    ap (filter is_nonempty) (split-first t)
    ∙ ap (λ v. cond v (take_while is_solid t ∷ filter is_nonempty (later (skip is_solid t))) (filter is_nonempty (later (skip is_solid t)))) h
    ∙ ap (λ ws. take_while is_solid t ∷ ws) (later-words (skip is_solid t) (skip-stops is_solid t) ∙ sym (words-skip (skip is_solid t)))

pub word-filled : (t : List ℕ) → is_nonempty t ≡ true → stops is_white t → is_nonempty (take_while is_solid t) ≡ true
unfolding is_solid
word-filled [] h s = absurd (cc)
word-filled (c ∷ cs) h s = ap is_nonempty (take_while-cons is_solid c cs) ∙ ap (λ v. is_nonempty (cond (not v) (c ∷ take_while is_solid cs) [])) s

skip-shorter : (p : ℕ → Bool) (t : List ℕ) → length (skip p t) ≤ length t
skip-shorter p t = omega (arith, length-drop (prefix_len p t) t)

pub turn-shorter : (t : List ℕ) → is_nonempty t ≡ true → stops is_white t → length (skip is_white (skip is_solid t)) < length t
unfolding is_solid
turn-shorter [] h s = absurd (cc)
turn-shorter (c ∷ cs) h s =
    let one : length (skip is_white (skip is_solid cs)) ≤ length (skip is_solid cs) = skip-shorter is_white (skip is_solid cs) in
    let two : length (skip is_solid cs) ≤ length cs = skip-shorter is_solid cs in
    subst (λ (x : List ℕ). length (skip is_white x) < length (c ∷ cs)) (sym (skip-cons is_solid c cs))
    (subst (λ (v : Bool). length (skip is_white (cond (not v) (skip is_solid cs) (c ∷ cs))) < length (c ∷ cs)) (sym s) (omega arith))

-- a word is read, or has no reading
pub term-turn : (kind : Kind) (made : List Term) (t : List ℕ) (term : Term) → is_nonempty t ≡ true → stops is_white t → term_of kind (take_while is_solid t) ≡ Some term
    → onto (made ++ term ∷ []) (all_some (term_of kind) (words (skip is_white (skip is_solid t)))) ≡ onto made (all_some (term_of kind) (words t))
term-turn kind made t term h s e =
    onto-push made term (all_some (term_of kind) (words (skip is_white (skip is_solid t))))
    ∙ ap (λ o. onto made (both o (all_some (term_of kind) (words (skip is_white (skip is_solid t)))))) (sym e)
    ∙ ap (λ ws. onto made (all_some (term_of kind) ws)) (sym (words-first t (word-filled t h s)))

pub term-refused : (kind : Kind) (made : List Term) (t : List ℕ) → is_nonempty t ≡ true → stops is_white t → term_of kind (take_while is_solid t) ≡ None
    → onto made (all_some (term_of kind) (words t)) ≡ None
term-refused kind made t h s e =
    ap (λ ws. onto made (all_some (term_of kind) ws)) (words-first t (word-filled t h s))
    ∙ ap (λ o. onto made (both o (all_some (term_of kind) (words (skip is_white (skip is_solid t)))))) e

pub terms-end : (kind : Kind) (made : List Term) (t : List ℕ) → is_nonempty t ≡ false → onto made (all_some (term_of kind) (words t)) ≡ Some made
unfolding words
terms-end kind made [] h = onto-end made
terms-end kind made (c ∷ cs) h = absurd (cc)

onto-has : (c : ℕ) (ps : List (List ℕ)) → is_nonempty ps ≡ true → is_nonempty (onto_first c ps) ≡ true
onto-has c [] h = absurd (cc)
onto-has c (x ∷ ps) h = refl

pub split-has : (q : ℕ → Bool) (t : List ℕ) → is_nonempty (slice_split q t) ≡ true
split-has q [] = refl
split-has q (c ∷ cs) = elim (q c) as (λ v. is_nonempty (cond v ([] ∷ slice_split q cs) (onto_first c (slice_split q cs))) ≡ true) [ true ↦ refl | false ↦ onto-has c (slice_split q cs) (split-has q cs) ]

pub lists-cons : (piece : List ℕ) (ps : List (List ℕ)) → is_nonempty ps ≡ true → lists_of (piece ∷ ps) ≡ both (profile_of piece) (lists_of ps)
lists-cons piece [] h = absurd (cc)
lists-cons piece (p ∷ ps) h = refl

lists-step : (t : List ℕ) (p : List ℕ × List ℕ) → cut 62 t ≡ Some p → lists_of (slice_split (λ c. eqb c 62) t) ≡ both (profile_of p.0) (lists_of (slice_split (λ c. eqb c 62) p.1))
lists-step t p h = ap lists_of (cut-is 62 t p h).step ∙ lists-cons p.0 (slice_split (λ c. eqb c 62) p.1) (split-has (λ c. eqb c 62) p.1)

pub list-turn : (made : List (List Term)) (t : List ℕ) (p : List ℕ × List ℕ) (terms : List Term) → cut 62 t ≡ Some p → profile_of p.0 ≡ Some terms
    → onto (made ++ terms ∷ []) (lists_of (slice_split (λ c. eqb c 62) p.1)) ≡ onto made (lists_of (slice_split (λ c. eqb c 62) t))
list-turn made t p terms h e =
    onto-push made terms (lists_of (slice_split (λ c. eqb c 62) p.1))
    ∙ ap (λ o. onto made (both o (lists_of (slice_split (λ c. eqb c 62) p.1)))) (sym e)
    ∙ ap (onto made) (sym (lists-step t p h))

pub list-refused : (made : List (List Term)) (t : List ℕ) (p : List ℕ × List ℕ) → cut 62 t ≡ Some p → profile_of p.0 ≡ None → onto made (lists_of (slice_split (λ c. eqb c 62) t)) ≡ None
list-refused made t p h e = ap (onto made) (lists-step t p h) ∙ ap (λ o. onto made (both o (lists_of (slice_split (λ c. eqb c 62) p.1)))) e

pub lists-end : (made : List (List Term)) (t : List ℕ) → cut 62 t ≡ None → is_blank_text t ≡ true → onto made (lists_of (slice_split (λ c. eqb c 62) t)) ≡ Some made
lists-end made t h b = ap (λ ps. onto made (lists_of ps)) (split-last 62 t h) ∙ ap (λ v. onto made (cond v (Some []) None)) b ∙ onto-end made

pub lists-stray : (made : List (List Term)) (t : List ℕ) → cut 62 t ≡ None → is_blank_text t ≡ false → onto made (lists_of (slice_split (λ c. eqb c 62) t)) ≡ None
lists-stray made t h b = ap (λ ps. onto made (lists_of ps)) (split-last 62 t h) ∙ ap (λ v. onto made (cond v (Some []) None)) b

module _ {X : Type 0} (f : List ℕ → Option X) (c : ℕ) where
  pub piece-turn : (made : List X) (t : List ℕ) (p : List ℕ × List ℕ) (x : X) → cut c t ≡ Some p → f p.0 ≡ Some x
      → onto (made ++ x ∷ []) (all_some f (slice_split (λ b. eqb b c) p.1)) ≡ onto made (all_some f (slice_split (λ b. eqb b c) t))
  piece-turn made t p x h e =
      onto-push made x (all_some f (slice_split (λ b. eqb b c) p.1))
      ∙ ap (λ o. onto made (both o (all_some f (slice_split (λ b. eqb b c) p.1)))) (sym e)
      ∙ ap (λ ps. onto made (all_some f ps)) (sym (cut-is c t p h).step)

  pub piece-refused : (made : List X) (t : List ℕ) (p : List ℕ × List ℕ) → cut c t ≡ Some p → f p.0 ≡ None → onto made (all_some f (slice_split (λ b. eqb b c) t)) ≡ None
  piece-refused made t p h e =
      ap (λ ps. onto made (all_some f ps)) (cut-is c t p h).step ∙ ap (λ o. onto made (both o (all_some f (slice_split (λ b. eqb b c) p.1)))) e

  pub piece-end : (made : List X) (t : List ℕ) (x : X) → cut c t ≡ None → f t ≡ Some x → onto made (all_some f (slice_split (λ b. eqb b c) t)) ≡ Some (made ++ x ∷ [])
  piece-end made t x h e = ap (λ ps. onto made (all_some f ps)) (split-last c t h) ∙ ap (λ o. onto made (both o (Some []))) e

  pub last-refused : (made : List X) (t : List ℕ) → cut c t ≡ None → f t ≡ None → onto made (all_some f (slice_split (λ b. eqb b c) t)) ≡ None
  last-refused made t h e = ap (λ ps. onto made (all_some f ps)) (split-last c t h) ∙ ap (λ o. onto made (both o (Some []))) e

abbrev pub Groups : Type 0
Groups = List (List Alternative)

-- the groups of some pieces, behind those that were made
abbrev pub groups_behind : Groups → List (List ℕ) → Option Groups
groups_behind made pieces = onto made (all_some read_group (filter is_not_blank pieces))

pushed : (made next : Groups) (o : Option (List Alternative)) (more : Option Groups) → push_group made o ≡ Some next → onto next more ≡ onto made (both o more)
pushed made next None more h = absurd (cc)
pushed made next (Some g) more h = let here : ◌≡◌ {A = Groups} (made ++ g ∷ []) next = cc in ap (λ x. onto x more) (sym here) ∙ onto-push made g more

not-pushed : (made : Groups) (o : Option (List Alternative)) (more : Option Groups) → push_group made o ≡ None → onto made (both o more) ≡ None
not-pushed made None more h = refl
not-pushed made (Some g) more h = absurd (cc)

group-by : (made next : Groups) (piece : List ℕ) (pieces : List (List ℕ)) (b : Bool) → cond b (push_group made (read_group piece)) (Some made) ≡ Some next
    → groups_behind next pieces ≡ onto made (all_some read_group (cond b (piece ∷ filter is_not_blank pieces) (filter is_not_blank pieces)))
group-by made next piece pieces true h = pushed made next (read_group piece) (all_some read_group (filter is_not_blank pieces)) h
group-by made next piece pieces false h = let here : ◌≡◌ {A = Groups} made next = cc in ap (λ x. groups_behind x pieces) (sym here)

group-by-none : (made : Groups) (piece : List ℕ) (pieces : List (List ℕ)) (b : Bool) → cond b (push_group made (read_group piece)) (Some made) ≡ None
    → onto made (all_some read_group (cond b (piece ∷ filter is_not_blank pieces) (filter is_not_blank pieces))) ≡ None
group-by-none made piece pieces true h = not-pushed made (read_group piece) (all_some read_group (filter is_not_blank pieces)) h
group-by-none made piece pieces false h = absurd (cc)

pub group-turn : (made next : Groups) (t : List ℕ) (p : List ℕ × List ℕ) → cut 44 t ≡ Some p → with_group made p.0 ≡ Some next
    → groups_behind next (slice_split (λ b. eqb b 44) p.1) ≡ groups_behind made (slice_split (λ b. eqb b 44) t)
unfolding with_group
group-turn made next t p h e =
    group-by made next p.0 (slice_split (λ b. eqb b 44) p.1) (is_not_blank p.0) e ∙ ap (groups_behind made) (sym (cut-is 44 t p h).step)

pub group-refused : (made : Groups) (t : List ℕ) (p : List ℕ × List ℕ) → cut 44 t ≡ Some p → with_group made p.0 ≡ None → groups_behind made (slice_split (λ b. eqb b 44) t) ≡ None
unfolding with_group
group-refused made t p h e = ap (groups_behind made) (cut-is 44 t p h).step ∙ group-by-none made p.0 (slice_split (λ b. eqb b 44) p.1) (is_not_blank p.0) e

pub group-end : (made next : Groups) (t : List ℕ) → cut 44 t ≡ None → with_group made t ≡ Some next → groups_behind made (slice_split (λ b. eqb b 44) t) ≡ Some next
unfolding with_group
group-end made next t h e = ap (groups_behind made) (split-last 44 t h) ∙ sym (group-by made next t [] (is_not_blank t) e) ∙ onto-end next

pub last-group-refused : (made : Groups) (t : List ℕ) → cut 44 t ≡ None → with_group made t ≡ None → groups_behind made (slice_split (λ b. eqb b 44) t) ≡ None
unfolding with_group
last-group-refused made t h e = ap (groups_behind made) (split-last 44 t h) ∙ group-by-none made t [] (is_not_blank t) e
