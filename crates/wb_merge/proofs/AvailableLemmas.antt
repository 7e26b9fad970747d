-- What is available of a name are the versions in which it is offered.
use Rattle.std.proofs.Common.{◌≡◌, ℕ, Bool, true, false, cond, List, [], ◌∷◌, ◌++◌, map, filter, bytes_eq, refl, sym, ap, ◌∙◌, Option, Some, unwrap_or, append_assoc}
use Rattle.std.specs.List.{fold}
use Rattle.std.proofs.lemmas.Map.Text.{is_eq-slice_cmp}
use Rattle.std.specs.FinMap as finite
use Rattle.deb_relations.specs.declared.arch.ArchWords.{ArchWords}
use Rattle.deb_text.specs.Text.{text_cmp}
use Rattle.deb_relations.specs.declared.provided.Provided.{Provided}
use Rattle.deb_relations.specs.Satisfaction.{Offer, Pairs, no_pairs, versions_of, with_pair}
use Rattle.deb_text.proofs.KeyLemmas.{text_cmp_total}
use Rattle.wb_merge.specs.Rows.{BinaryParagraph}
use Rattle.wb_merge.specs.Listing.{available_of, installable_versions, offers_on}
use Rattle.wb_merge.proofs.NameLemmas.{bytes_eq-is}

-- the versions of a name with one more, where it is of that name
one_more : (pairs : Pairs) (name other : List ℕ) (version : Offer) → versions_of (with_pair pairs other version) name
    ≡ cond (bytes_eq name other) (versions_of pairs name ++ version ∷ []) (versions_of pairs name)
unfolding versions_of with_pair
one_more pairs name other version =
    ap (λ (o : Option (List Offer)). unwrap_or o []) (finite.get-insert text_cmp_total pairs other (unwrap_or (finite.get pairs other) [] ++ version ∷ []) name)
    ∙ ap (λ (b : Bool). unwrap_or (cond b (Some (unwrap_or (finite.get pairs other) [] ++ version ∷ [])) (finite.get pairs name)) []) (is_eq-slice_cmp name other)
    ∙ elim (bytes_eq name other) as (λ b. bytes_eq name other ≡ b
    → unwrap_or (cond b (Some (unwrap_or (finite.get pairs other) [] ++ version ∷ [])) (finite.get pairs name)) []
    ≡ cond b (unwrap_or (finite.get pairs name) [] ++ version ∷ []) (unwrap_or (finite.get pairs name) [])) [
      | true ↦ λ is. ap (λ (key : List ℕ). unwrap_or (finite.get pairs key) [] ++ version ∷ []) (sym (bytes_eq-is name other is))
      | false ↦ λ _. refl
    ] refl

module _ {Row : Type 0} (name_of : Row → List ℕ) (version_of : Row → Offer) where
  -- the versions of a name, once the pairs of rows were added
  pub more-of : (pairs : Pairs) (name : List ℕ) (rows : List Row)
      → versions_of (fold (λ pairs row. with_pair pairs (name_of row) (version_of row)) pairs rows) name
      ≡ versions_of pairs name ++ map version_of (filter (λ row. bytes_eq name (name_of row)) rows)
  more-of pairs name [] = sym (append-nil (versions_of pairs name)) where
    append-nil : (xs : List Offer) → xs ++ [] ≡ xs
    append-nil [] = refl
    append-nil (x ∷ xs) = ap (λ (ys : List Offer). x ∷ ys) (append-nil xs)
  more-of pairs name (row ∷ rows) =
      let others = filter (λ (other : Row). bytes_eq name (name_of other)) rows in
      more-of (with_pair pairs (name_of row) (version_of row)) name rows
      ∙ ap (λ (xs : List Offer). xs ++ map version_of others) (one_more pairs name (name_of row) (version_of row))
      ∙ elim (bytes_eq name (name_of row)) as (λ b. cond b (versions_of pairs name ++ version_of row ∷ []) (versions_of pairs name) ++ map version_of others
      ≡ versions_of pairs name ++ map version_of (cond b (row ∷ others) others)) [
        | true ↦ append_assoc (versions_of pairs name) (version_of row ∷ []) (map version_of others)
        | false ↦ refl
      ]

pub none-yet : (name : List ℕ) → versions_of no_pairs name ≡ []
unfolding versions_of
none-yet name = ap (λ (o : Option (List Offer)). unwrap_or o []) (finite.get-empty text_cmp name)

pub versions_of-available_of : (arch : ArchWords) (rows : List BinaryParagraph) (name : List ℕ) → versions_of (available_of arch rows) name ≡ installable_versions arch rows name
unfolding available_of
versions_of-available_of arch rows name =
    more-of (λ (offer : Provided). offer.name) (λ offer. offer.version) no_pairs name (offers_on arch rows)
    ∙ ap (λ (xs : List Offer). xs ++ installable_versions arch rows name) (none-yet name)
