-- What rows give that are offered one after another: at each name the first greatest of what they list.
use Rattle.std.proofs.Common.{◌≡◌, ℕ, Bool, true, false, cond, ◌&&◌, List, [], ◌∷◌, map, filter, bytes_eq, Option, Some, None, refl, sym, ap, ◌∙◌}
use Rattle.std.specs.List.{list_any, fold}
use Rattle.std.specs.declared.cmp.Ordering.{Ordering}
use Rattle.std.specs.Ordering.{eq_by_cmp, is_gt}
use Rattle.std.specs.FinMap as finite
use Rattle.std.proofs.lemmas.Map.Text.{is_eq-slice_cmp}
use Rattle.std.proofs.lemmas.Bool.{or_parts}
use Rattle.deb_text.specs.Text.{text_cmp}
use Rattle.deb_text.proofs.KeyLemmas.{text_cmp_total, text_cmp-same}
use Rattle.wb_merge.specs.Listing.{better, best_from, map_at, is_better}
use Rattle.wb_merge.specs.Offers.{offered}
use Rattle.wb_merge.proofs.ListingLemmas.{map_at-get}
use Rattle.wb_merge.proofs.NameLemmas.{bytes_eq-is}

-- ---- the better of two

under-some : {X : Type 0} (b : Bool) (x y : X) → Some (cond b x y) ≡ cond b (Some x) (Some y)
under-some true x y = refl
under-some false x y = refl

module _ {X : Type 0} (R : X → X → Ordering) where
  better-is : (best : Option X) (next : X) → Some (better R best next) ≡ cond (is_better R best next) (Some next) best
  better-is None next = refl
  better-is (Some best) next = under-some (is_gt (R next best)) next best

  -- what is there at a name after an offer
  offered-at : (g b : Bool) (m : finite.FinMap text_cmp X) (k : List ℕ) (x : X) (name : List ℕ)
      → is_better R (finite.get m k) x ≡ g → bytes_eq name k ≡ b
      → finite.get (cond g (finite.insert m k x) m) name ≡ cond b (Some (better R (finite.get m name) x)) (finite.get m name)
  offered-at true true m k x name g e =
      finite.get-insert text_cmp_total m k x name ∙ ap (λ t. cond t (Some x) (finite.get m name)) (is_eq-slice_cmp name k ∙ e)
      ∙ sym (better-is (finite.get m name) x ∙ ap (λ t. cond t (Some x) (finite.get m name)) (ap (λ key. is_better R (finite.get m key) x) (bytes_eq-is name k e) ∙ g))
  offered-at true false m k x name g e =
      finite.get-insert text_cmp_total m k x name ∙ ap (λ t. cond t (Some x) (finite.get m name)) (is_eq-slice_cmp name k ∙ e)
  offered-at false true m k x name g e =
      sym (better-is (finite.get m name) x ∙ ap (λ t. cond t (Some x) (finite.get m name)) (ap (λ key. is_better R (finite.get m key) x) (bytes_eq-is name k e) ∙ g))
  offered-at false false m k x name g e = refl

  offered-get : (m : finite.FinMap text_cmp X) (k : List ℕ) (x : X) (name : List ℕ)
      → finite.get (offered R m k x) name ≡ cond (bytes_eq name k) (Some (better R (finite.get m name) x)) (finite.get m name)
  offered-get m k x name = offered-at (is_better R (finite.get m k) x) (bytes_eq name k) m k x name refl refl

-- ---- rows that take part, each with a name and what it lists

module _ {Row X : Type 0} (R : X → X → Ordering) (takes : Row → Bool) (key : Row → List ℕ) (item : Row → X) where
  -- one row more
  abbrev pub with_row : finite.FinMap text_cmp X → Row → finite.FinMap text_cmp X
  with_row m row = cond (takes row) (offered R m (key row) (item row)) m

  -- the rows of a name that take part
  abbrev pub is_of : List ℕ → Row → Bool
  is_of name row = bytes_eq name (key row) && takes row

  abbrev pub items_of : List ℕ → List Row → List X
  items_of name rows = map item (filter (is_of name) rows)

  one-row : (t b : Bool) (m : finite.FinMap text_cmp X) (row : Row) (rows : List Row) (name : List ℕ) → takes row ≡ t → bytes_eq name (key row) ≡ b
      → best_from R (finite.get (cond t (offered R m (key row) (item row)) m) name) (items_of name rows)
      ≡ best_from R (finite.get m name) (map item (cond (b && t) (row ∷ filter (is_of name) rows) (filter (is_of name) rows)))
  one-row true true m row rows name t b =
      ap (λ o. best_from R o (items_of name rows)) (offered-get R m (key row) (item row) name ∙ ap (λ x. cond x (Some (better R (finite.get m name) (item row))) (finite.get m name)) b)
  one-row true false m row rows name t b =
      ap (λ o. best_from R o (items_of name rows)) (offered-get R m (key row) (item row) name ∙ ap (λ x. cond x (Some (better R (finite.get m name) (item row))) (finite.get m name)) b)
  one-row false true m row rows name t b = refl
  one-row false false m row rows name t b = refl

  -- what is there at a name after all rows
  pub fold-get : (rows : List Row) (m : finite.FinMap text_cmp X) (name : List ℕ) → finite.get (fold with_row m rows) name ≡ best_from R (finite.get m name) (items_of name rows)
  fold-get [] m name = refl
  fold-get (row ∷ rows) m name = fold-get rows (with_row m row) name ∙ one-row (takes row) (bytes_eq name (key row)) m row rows name refl refl

  -- a name that no row has
  no-items : (rows : List Row) (name : List ℕ) → list_any (eq_by_cmp text_cmp name) (map key rows) ≡ false → items_of name rows ≡ []
  no-items [] name none = refl
  no-items (row ∷ rows) name none =
      let both = or_parts _ _ none in
      ap (λ b. map item (cond (b && takes row) (row ∷ filter (is_of name) rows) (filter (is_of name) rows))) (sym (is_eq-slice_cmp name (key row)) ∙ both.0) ∙ no-items rows name both.1

  at_names : (b : Bool) (rows : List Row) (name : List ℕ) → list_any (eq_by_cmp text_cmp name) (map key rows) ≡ b
      → cond b (best_from R None (items_of name rows)) None ≡ best_from R None (items_of name rows)
  at_names true rows name e = refl
  at_names false rows name e = sym (ap (best_from R None) (no-items rows name e))

  -- rows that are offered one after another make the map of the best at their names
  pub fold-map : (rows : List Row) → fold with_row finite.empty rows ≡ map_at {R = text_cmp} (λ name. best_from R None (items_of name rows)) (map key rows)
  fold-map rows = finite.same_map text_cmp_total text_cmp-same _ _ (λ name.
      fold-get rows finite.empty name
      ∙ ap (λ o. best_from R o (items_of name rows)) (finite.get-empty text_cmp name)
      ∙ sym (map_at-get text_cmp_total text_cmp-same (λ q. best_from R None (items_of q rows)) (map key rows) name
      ∙ at_names (list_any (eq_by_cmp text_cmp name) (map key rows)) rows name refl))

  -- what that map has at a name
  pub map-get : (rows : List Row) (name : List ℕ)
      → finite.get (map_at {R = text_cmp} (λ q. best_from R None (items_of q rows)) (map key rows)) name ≡ best_from R None (items_of name rows)
  map-get rows name =
      map_at-get text_cmp_total text_cmp-same (λ q. best_from R None (items_of q rows)) (map key rows) name
      ∙ at_names (list_any (eq_by_cmp text_cmp name) (map key rows)) rows name refl
