-- What is available of some names is what is available of them among all rows.
use Rattle.std.proofs.Common.{◌≡◌, ◌↔◌, ◌⊎◌, ℕ, Bool, true, false, cond, List, [], ◌∷◌, ◌++◌, map, filter, bytes_eq, Ok, refl, sym, ap, subst, ◌∙◌, inl, inr}
use Rattle.std.specs.List.{AllByRecursion}
use Rattle.deb_text.specs.Lists.{IsIn}
use Rattle.deb_relations.specs.declared.relations.Alternative.{Alternative}
use Rattle.deb_relations.specs.Satisfaction.{HaveSamePairs, Offer, Pairs, names_of, no_pairs, satisfied, versions_of}
use Rattle.deb_relations.specs.Reading.{reading_of}
use Rattle.deb_relations.proofs.NamedLemmas.{satisfied-same}
use Rattle.wb_states.specs.declared.scratch.BinaryRow.{BinaryRow}
use Rattle.wb_merge.specs.Merge.{are_waits_met, is_reading_met}
use Rattle.wb_merge.specs.Scratch.{available_in, versions_in}
use Rattle.wb_merge.proofs.AvailableLemmas.{more-of, none-yet}
use Rattle.wb_merge.proofs.NameLemmas.{bytes_eq-is}
use Rattle.std.proofs.lemmas.Cmp.{nat_list_eq_equiv}
use Rattle.wb_archive.specs.Decides.{pairs_from, pairs_named, with_versions}

-- ---- lists

in-left : {X : Type 0} (x : X) (xs ys : List X) → IsIn x xs → IsIn x (xs ++ ys)
in-left x [] ys h = absurd h
in-left x (y ∷ xs) ys (inl e) = inl e
in-left x (y ∷ xs) ys (inr h) = inr (in-left x xs ys h)

in-right : {X : Type 0} (x : X) (xs ys : List X) → IsIn x ys → IsIn x (xs ++ ys)
in-right x [] ys h = h
in-right x (y ∷ xs) ys h = inr (in-right x xs ys h)

in-either : {X : Type 0} (x : X) (xs ys : List X) → IsIn x (xs ++ ys) → IsIn x xs ⊎ IsIn x ys
in-either x [] ys h = inr h
in-either x (y ∷ xs) ys (inl e) = inl (inl e)
in-either x (y ∷ xs) ys (inr h) = elim (in-either x xs ys h) [ inl a ↦ inl (inr a) | inr b ↦ inr b ]

-- a filter that asks nothing of the items
all-or-none : (b : Bool) (xs : List Offer) → map (λ x. x) (filter (λ _. b) xs) ≡ cond b xs []
all-or-none true [] = refl
all-or-none true (x ∷ xs) = ap (λ (l : List Offer). x ∷ l) (all-or-none true xs)
all-or-none false [] = refl
all-or-none false (x ∷ xs) = all-or-none false xs

-- ---- versions of names

versions-more : (pairs : Pairs) (name other : List ℕ) (versions : List Offer)
    → versions_of (with_versions pairs other versions) name ≡ versions_of pairs name ++ cond (bytes_eq name other) versions []
versions-more pairs name other versions =
    more-of (λ (_ : Offer). other) (λ (version : Offer). version) pairs name versions
    ∙ ap (λ (l : List Offer). versions_of pairs name ++ l) (all-or-none (bytes_eq name other) versions)

module _ (rows : List BinaryRow) where
  -- each version of a name in the pairs is one that the rows have of it
  abbrev IsSound : Pairs → Type 0
  IsSound pairs = (name : List ℕ) (version : Offer) → IsIn version (versions_of pairs name)
      → IsIn version (versions_in rows name)

  more-sound : (pairs : Pairs) (other : List ℕ) → IsSound pairs → IsSound (with_versions pairs other (versions_in rows other))
  more-sound pairs other sound name version there =
      elim (in-either version (versions_of pairs name) _ (subst (λ l. IsIn version l) (versions-more pairs name other (versions_in rows other)) there)) [
        | inl a ↦ sound name version a
        | inr b ↦ go (bytes_eq name other) refl b
      ]
    where
      go : (is : Bool) → bytes_eq name other ≡ is → IsIn version (cond is (versions_in rows other) []) → IsIn version (versions_in rows name)
      go true e h = subst (λ n. IsIn version (versions_in rows n)) (sym (bytes_eq-is name other e)) h
      go false e h = absurd h

  all-sound : (pairs : Pairs) (names : List (List ℕ)) → IsSound pairs → IsSound (pairs_from rows pairs names)
  all-sound pairs [] sound = sound
  all-sound pairs (name ∷ names) sound = all-sound (with_versions pairs name (versions_in rows name)) names (more-sound pairs name sound)

  -- what is there stays
  stays : (pairs : Pairs) (names : List (List ℕ)) (name : List ℕ) (version : Offer)
      → IsIn version (versions_of pairs name) → IsIn version (versions_of (pairs_from rows pairs names) name)
  stays pairs [] name version there = there
  stays pairs (other ∷ names) name version there =
      stays (with_versions pairs other (versions_in rows other)) names name version
      (subst (λ l. IsIn version l) (sym (versions-more pairs name other (versions_in rows other))) (in-left version (versions_of pairs name) _ there))

  here : (pairs : Pairs) (name : List ℕ) (version : Offer) → IsIn version (versions_in rows name)
      → IsIn version (versions_of (with_versions pairs name (versions_in rows name)) name)
  here pairs name version there =
      let same : cond (bytes_eq name name) (versions_in rows name) [] ≡ versions_in rows name = ap (λ b. cond b (versions_in rows name) []) (nat_list_eq_equiv.refl name) in
      subst (λ l. IsIn version l) (sym (versions-more pairs name name (versions_in rows name)))
      (in-right version (versions_of pairs name) _ (subst (λ l. IsIn version l) (sym same) there))

  each-named : (pairs : Pairs) (names : List (List ℕ)) → IsSound pairs
      → AllByRecursion (λ name. (version : Offer) → IsIn version (versions_of (pairs_from rows pairs names) name) ↔ IsIn
      version (versions_in rows name)) names
  each-named pairs [] sound = tt
  each-named pairs (name ∷ names) sound = (
    λ version. (
      all-sound (with_versions pairs name (versions_in rows name)) names (more-sound pairs name sound) name version,
      λ there. stays (with_versions pairs name (versions_in rows name)) names name version (here pairs name version there),
    ),
    each-named (with_versions pairs name (versions_in rows name)) names (more-sound pairs name sound),
  )

  none-sound : IsSound no_pairs
  none-sound name version there = absurd (subst (λ l. IsIn version l) (none-yet name) there)

  pub versions-available : (name : List ℕ) → versions_of (available_in rows) name ≡ versions_in rows name
  unfolding available_in versions_in
  versions-available name =
      more-of (λ (row : BinaryRow). row.name) (λ row. row.version) no_pairs name rows
      ∙ ap (λ (l : List Offer). l ++ map (λ (row : BinaryRow). row.version)
      (filter (λ row. bytes_eq name row.name) rows)) (none-yet name)

  turned : (pairs : Pairs) (names : List (List ℕ))
      → AllByRecursion (λ name. (version : Offer) → IsIn version (versions_of pairs name) ↔ IsIn version
      (versions_in rows name)) names
      → HaveSamePairs pairs (available_in rows) names
  turned pairs [] h = tt
  turned pairs (name ∷ names) h = (
    subst (λ l. (version : Offer) → IsIn version (versions_of pairs name) ↔ IsIn version l)
        (sym (versions-available name)) h.0,
    turned pairs names h.1,
  )

  -- whether relations are met is found by the versions of their names alone
  pub met-by-names : (groups : List (List Alternative)) → satisfied (pairs_named rows (names_of groups)) groups ≡ satisfied (available_in rows) groups
  met-by-names groups =
      satisfied-same (pairs_named rows (names_of groups)) (available_in rows) groups
      (turned (pairs_named rows (names_of groups)) (names_of groups) (each-named no_pairs (names_of groups) none-sound))

-- waits that were read are met as the versions of their names say
pub waits-met : (rows : List BinaryRow) (text : List ℕ) (groups : List (List Alternative)) (names : List (List ℕ)) (available : Pairs) (is_met : Bool)
    → reading_of text ≡ Ok groups → names ≡ names_of groups → available ≡ pairs_named rows names → is_met ≡ satisfied available groups
    → is_met ≡ are_waits_met (available_in rows) text
unfolding are_waits_met
waits-met rows text groups names available is_met read named found is =
    is ∙ ap (λ pairs. satisfied pairs groups) (found ∙ ap (pairs_named rows) named) ∙ met-by-names rows groups
    ∙ ap (is_reading_met (available_in rows)) (sym read)
