-- Where memory is wanted: the first group that is not blank begins with a package name.
use Rattle.std.proofs.Common.{◌≡◌, ℕ, Bool, true, false, cond, eqb, List, [], ◌∷◌, filter, refl, sym, ap, ◌∙◌, ◌⊎◌, inl, inr, Option, None, Some, Result, Ok, Err}
use Rattle.std.specs.Prelude.{is_some, IfErr}
use Rattle.std.specs.List.{slice_split, take_while}
use Rattle.std.specs.Option.{option_map_or}
use Rattle.std.proofs.lemmas.Bool.{and_from}
use Rattle.deb_version.specs.Syntax.{is_version_text}
use Rattle.deb_relations.specs.declared.fault.RelationFault.{RelationFault}
use Rattle.deb_relations.specs.declared.fault.RelationFault.TheVariants.{Memory, Stray, Unclosed}
use Rattle.deb_relations.specs.declared.relations.Alternative.{Alternative}
use Rattle.deb_relations.specs.declared.relations.Kind.{Kind}
use Rattle.deb_relations.specs.declared.relations.Kind.TheVariants.{Profile}
use Rattle.deb_relations.specs.declared.relations.Term.{Term}
use Rattle.deb_relations.specs.Grammar.{is_not_blank, is_white, is_op_char, op_of, words}
use Rattle.deb_text.specs.Lists.{is_nonempty, begins}
use Rattle.deb_relations.specs.Reader.{cut, skip, strip, is_solid, filled_only, term_of, terms_of, profile_behind, profile_of, push_group, with_group, read_name, read_alternative, with_name, read_group}
use Rattle.deb_text.specs.Options.{both, all_some}
use Rattle.deb_relations.specs.Reading.{place_of, list_fault, begins_with_name, is_group_begun, takes_memory, begins_asked, begins_with_term, begins_profile}
use Rattle.deb_relations.proofs.CutLemmas.{Halves, cut-is, split-last}
use Rattle.deb_relations.proofs.FrontLemmas.{stops}
use Rattle.deb_relations.proofs.TurnLemmas.{split-has, words-first, word-filled}

name-by : (o : Option (List ℕ × List ℕ)) (a : Alternative) → with_name o ≡ Some a → is_some o ≡ true
name-by None a e = cc
name-by (Some found) a e = refl

-- an alternative that has a reading begins with a name
pub read-name : (text : List ℕ) (a : Alternative) → read_alternative text ≡ Some a → begins_with_name text ≡ true
unfolding read_alternative begins_with_name
read-name text a e = name-by (read_name text) a e

-- no alternative was read yet, or the group begins with a name
abbrev pub IsBegun : List ℕ → List ℕ → Type 0
IsBegun rest text = (rest ≡ text) ⊎ (is_group_begun text ≡ true)

pub begun-piece : (rest text : List ℕ) (p : Halves) → IsBegun rest text → cut 124 rest ≡ Some p → begins_with_name p.0 ≡ true → is_group_begun text ≡ true
unfolding is_group_begun
begun-piece rest text p (inl same) e named =
    ap (λ xs. begins begins_with_name (slice_split (λ c. eqb c 124) xs)) (sym same)
    ∙ ap (begins begins_with_name) (cut-is 124 rest p e).step ∙ named
begun-piece rest text p (inr begun) e named = begun

pub begun-last : (rest text : List ℕ) → IsBegun rest text → cut 124 rest ≡ None → begins_with_name rest ≡ true → is_group_begun text ≡ true
unfolding is_group_begun
begun-last rest text (inl same) e named =
    ap (λ xs. begins begins_with_name (slice_split (λ c. eqb c 124) xs)) (sym same)
    ∙ ap (begins begins_with_name) (split-last 124 rest e) ∙ named
begun-last rest text (inr begun) e named = begun

both-first : (o : Option Alternative) (more : Option (List Alternative)) (group : List Alternative) → both o more ≡ Some group → (a : Alternative) × (o ≡ Some a)
both-first None more group e = cc
both-first (Some a) more group e = (a, refl)

pieces-begun : (pieces : List (List ℕ)) (group : List Alternative) → is_nonempty pieces ≡ true → all_some read_alternative pieces ≡ Some group
    → begins begins_with_name pieces ≡ true
pieces-begun [] group some e = cc
pieces-begun (piece ∷ pieces) group some e =
    let first = both-first (read_alternative piece) (all_some read_alternative pieces) group e in read-name piece first.0 first.1

-- a group that has a reading begins with a name
pub group-begun : (text : List ℕ) (group : List Alternative) → read_group text ≡ Some group → is_group_begun text ≡ true
unfolding read_group is_group_begun
group-begun text group e = pieces-begun (slice_split (λ c. eqb c 124) text) group (split-has (λ c. eqb c 124) text) e

-- only blank groups were passed yet, or the first that is not blank begins with a name
abbrev pub HasBegun : List ℕ → List ℕ → Type 0
HasBegun rest text =
    (filter is_not_blank (slice_split (λ c. eqb c 44) rest) ≡ filter is_not_blank (slice_split (λ c. eqb c 44) text)) ⊎ (takes_memory text ≡ true)

pub groups-begun : (rest text : List ℕ) (p : Halves) → HasBegun rest text → cut 44 rest ≡ Some p → is_not_blank p.0 ≡ true → is_group_begun p.0 ≡ true → takes_memory text ≡ true
unfolding takes_memory
groups-begun rest text p (inl same) e not_blank named =
    ap (begins is_group_begun) (sym same)
    ∙ ap (λ xs. begins is_group_begun (filter is_not_blank xs)) (cut-is 44 rest p e).step
    ∙ ap (λ b. begins is_group_begun (cond b (p.0 ∷ filter is_not_blank (slice_split (λ c. eqb c 44) p.1)) (filter is_not_blank (slice_split (λ c. eqb c 44) p.1)))) not_blank
    ∙ named
groups-begun rest text p (inr begun) e not_blank named = begun

pub last-begun : (rest text : List ℕ) → HasBegun rest text → cut 44 rest ≡ None → is_not_blank rest ≡ true → is_group_begun rest ≡ true → takes_memory text ≡ true
unfolding takes_memory
last-begun rest text (inl same) e not_blank named =
    ap (begins is_group_begun) (sym same)
    ∙ ap (λ xs. begins is_group_begun (filter is_not_blank xs)) (split-last 44 rest e)
    ∙ ap (λ b. begins is_group_begun (cond b (rest ∷ []) [])) not_blank
    ∙ named
last-begun rest text (inr begun) e not_blank named = begun

pushed-begun : (made next : List (List Alternative)) (piece : List ℕ) (o : Option (List Alternative)) → o ≡ read_group piece → push_group made o ≡ Some next → is_group_begun piece ≡ true
pushed-begun made next piece None e h = cc
pushed-begun made next piece (Some group) e h = group-begun piece group (sym e)

behind-by : (b : Bool) (made next : List (List Alternative)) (rest text : List ℕ) (p : Halves) → HasBegun rest text → cut 44 rest ≡ Some p
    → is_not_blank p.0 ≡ b → cond b (push_group made (read_group p.0)) (Some made) ≡ Some next → HasBegun p.1 text
behind-by true made next rest text p begun e not_blank h = inr (groups-begun rest text p begun e not_blank (pushed-begun made next p.0 (read_group p.0) refl h))
behind-by false made next rest text p (inl same) e not_blank h =
    inl (sym (ap (λ b. cond b (p.0 ∷ filter is_not_blank (slice_split (λ c. eqb c 44) p.1)) (filter is_not_blank (slice_split (λ c. eqb c 44) p.1))) not_blank)
    ∙ sym (ap (filter is_not_blank) (cut-is 44 rest p e).step) ∙ same)
behind-by false made next rest text p (inr begun) e not_blank h = inr begun

-- behind a group that was read, or was blank
pub groups-behind : (made next : List (List Alternative)) (rest text : List ℕ) (p : Halves) → HasBegun rest text → cut 44 rest ≡ Some p
    → with_group made p.0 ≡ Some next → HasBegun p.1 text
unfolding with_group
groups-behind made next rest text p begun e h = behind-by (is_not_blank p.0) made next rest text p begun e refl h

-- no word of a list was read yet, or the first is a good one
abbrev pub HasTerm : Kind → List ℕ → List ℕ → Type 0
HasTerm kind rest inside = (words rest ≡ words inside) ⊎ (begins_with_term kind inside ≡ true)

pub term-begun : (kind : Kind) (rest inside : List ℕ) → HasTerm kind rest inside → is_nonempty rest ≡ true → stops is_white rest
    → is_some (term_of kind (take_while is_solid rest)) ≡ true → begins_with_term kind inside ≡ true
unfolding begins_with_term
term-begun kind rest inside (inl same) filled starts good =
    ap (begins (λ word. is_some (term_of kind word))) (sym same ∙ words-first rest (word-filled rest filled starts)) ∙ good
term-begun kind rest inside (inr begun) filled starts good = begun

first-term : (o : Option Term) (more : Option (List Term)) (terms : List Term) → filled_only (both o more) ≡ Some terms → is_some o ≡ true
first-term None more terms e = cc
first-term (Some term) more terms e = refl

words-begun : (kind : Kind) (ws : List (List ℕ)) (terms : List Term) → filled_only (all_some (term_of kind) ws) ≡ Some terms → begins (λ word. is_some (term_of kind word)) ws ≡ true
words-begun kind [] terms e = cc
words-begun kind (w ∷ ws) terms e = first-term (term_of kind w) (all_some (term_of kind) ws) terms e

-- a list that has a reading begins with a good word
pub terms-begun : (kind : Kind) (inside : List ℕ) (terms : List Term) → terms_of kind inside ≡ Some terms → begins_with_term kind inside ≡ true
unfolding terms_of begins_with_term
terms-begun kind inside terms e = words-begun kind (words inside) terms e

behind-angle : (o : Option (List ℕ)) (terms : List Term) → profile_behind o ≡ Some terms → option_map_or (begins_with_term Profile) o false ≡ true
behind-angle None terms e = cc
behind-angle (Some inside) terms e = terms-begun Profile inside terms e

-- a list of build profiles that has a reading begins with a good word
pub profile-good : (piece : List ℕ) (terms : List Term) → profile_of piece ≡ Some terms → begins_profile piece ≡ true
unfolding profile_of begins_profile
profile-good piece terms e = behind-angle (strip 60 (skip is_white piece)) terms e

-- no list of build profiles was read yet, or the first begins with a good word
abbrev pub HasProfile : List ℕ → List ℕ → Type 0
HasProfile rest text = (rest ≡ text) ⊎ (begins begins_profile (slice_split (λ c. eqb c 62) text) ≡ true)

pub profile-begun : (rest text : List ℕ) (p : Halves) → HasProfile rest text → cut 62 rest ≡ Some p → begins_profile p.0 ≡ true
    → begins begins_profile (slice_split (λ c. eqb c 62) text) ≡ true
profile-begun rest text p (inl same) e good =
    ap (λ xs. begins begins_profile (slice_split (λ c. eqb c 62) xs)) (sym same)
    ∙ ap (begins begins_profile) (cut-is 62 rest p e).step ∙ good
profile-begun rest text p (inr begun) e good = begun

-- what holds holds where memory was wanted
pub where-wanted : {T : Type 0} {Q : Type 0} (r : Result T RelationFault) → Q → IfErr r (λ fault. fault ≡ Memory → Q)
where-wanted (Ok x) q = tt
where-wanted (Err fault) q = λ memory. q

pub memory-to : {T : Type 0} {P Q : Type 0} (r : Result T RelationFault) → (P → Q) → IfErr r (λ fault. fault ≡ Memory → P) → IfErr r (λ fault. fault ≡ Memory → Q)
memory-to (Ok x) f h = tt
memory-to (Err fault) f h = λ memory. f (h memory)

-- an operator and a version that were read
pub asked-begun : (inside front word behind start version : List ℕ) → front ≡ skip is_white inside → word ≡ take_while is_op_char front
    → behind ≡ skip is_op_char front → start ≡ skip is_white behind → version ≡ take_while is_solid start
    → is_some (op_of word) ≡ true → is_version_text version ≡ true → begins_asked inside ≡ true
unfolding begins_asked
asked-begun inside front word behind start version f w b s v op good =
    and_from _ _
    (ap (λ x. is_some (op_of (take_while is_op_char x))) (sym f) ∙ ap (λ x. is_some (op_of x)) (sym w) ∙ op)
    (ap (λ x. is_version_text (take_while is_solid (skip is_white (skip is_op_char x)))) (sym f)
    ∙ ap (λ x. is_version_text (take_while is_solid (skip is_white x))) (sym b)
    ∙ ap (λ x. is_version_text (take_while is_solid x)) (sym s) ∙ ap is_version_text (sym v) ∙ good)

-- a list of build profiles, behind its opening bracket
pub profile-inside : (piece inside : List ℕ) → strip 60 (skip is_white piece) ≡ Some inside → begins_with_term Profile inside ≡ true → begins_profile piece ≡ true
unfolding begins_profile
profile-inside piece inside e good = ap (λ o. option_map_or (begins_with_term Profile) o false) e ∙ good

end-by : (b : Bool) (place : ℕ) → cond b Unclosed (Stray place) ≡ Memory → ⊥
end-by true place e = cc
end-by false place e = cc

-- what stands behind the last list takes no memory
pub end-told : (end : ℕ) (rest : List ℕ) → list_fault Unclosed end rest ≡ Memory → ⊥
unfolding list_fault
end-told end rest e = end-by (is_some (strip 60 (skip is_white rest))) (place_of end (skip is_white rest)) e
