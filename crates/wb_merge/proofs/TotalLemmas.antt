-- The counts of a merge add up to the records before it and after it, and a second merge counts every record as kept.
use Rattle.std.proofs.Common.{◌≡◌, ℕ, ◌+◌, Bool, true, false, cond, not, ◌&&◌, ◌||◌, List, [], ◌∷◌, length, filter, bytes_eq, refl, sym, ap, ◌∙◌, Option, Some, None, is_some, arith}
use Rattle.std.specs.List.{AllByRecursion, IsDistinct, list_any}
use Rattle.std.proofs.lemmas.Map.Made.{length-from_same_keys}
use Rattle.std.proofs.lemmas.Cmp.{nat_list_eq_equiv}
use Rattle.std.specs.FinMap as finite
use Rattle.std.proofs.lemmas.Bool.{or_parts}
use Rattle.wb_states.specs.declared.record.Record.{Record}
use Rattle.wb_merge.specs.Listing.{ArchiveListing}
use Rattle.wb_merge.specs.declared.merge.Change.{Change}
use Rattle.wb_merge.specs.declared.merge.Change.TheVariants.{Changed, Kept}
use Rattle.wb_merge.specs.Merged.{Records, record_after_at, merged, names_of, is_added, is_changed, is_kept, is_removed, change_of, is_same_record, number_where, counts_over, merge_counts, all_kept, recorded_names}
use Rattle.wb_merge.specs.Steps.{Key}
use Rattle.wb_merge.proofs.NameLemmas.{IsApart, filter-any, filter-apart, keys-apart}
use Rattle.wb_merge.proofs.MergeLemmas.{merged-get, names-any, names-apart, recorded-apart, recorded-names-any, kept-unnamed, unnamed}
use Rattle.wb_merge.proofs.RecordLemmas.{same-record-is}
use Rattle.wb_merge.proofs.TwiceLemmas.{record_after_at-twice}

-- ---- lists of the same texts, each once, are of one length

none-equal : (text : List ℕ) (texts : List (List ℕ)) → list_any (bytes_eq text) texts ≡ false → AllByRecursion (λ other. bytes_eq text other ≡ false) texts
none-equal text [] e = tt
none-equal text (first ∷ texts) e =
    let parts = or_parts (bytes_eq text first) (list_any (bytes_eq text) texts) e in
    (parts.0, none-equal text texts parts.1)

distinct : (texts : List (List ℕ)) → IsApart bytes_eq texts → IsDistinct bytes_eq texts
unfolding IsDistinct
distinct [] apart = tt
distinct (text ∷ texts) apart = (none-equal text texts apart.0, distinct texts apart.1)

pub same-length : (xs ys : List (List ℕ)) → IsApart bytes_eq xs → IsApart bytes_eq ys
    → ((name : List ℕ) → list_any (bytes_eq name) xs ≡ list_any (bytes_eq name) ys) → length xs ≡ length ys
same-length xs ys apart_x apart_y = length-from_same_keys nat_list_eq_equiv xs ys (distinct xs apart_x) (distinct ys apart_y)

-- ---- what is counted in parts is counted

abbrev bit : Bool → ℕ
bit b = cond b 1 0

length-more : {X : Type 0} (b : Bool) (x : X) (xs : List X) → length (cond b (x ∷ xs) xs) ≡ bit b + length xs
length-more true x xs = omega arith
length-more false x xs = omega arith

parts-add : {X : Type 0} (p q r s : X → Bool) → ((x : X) → bit (p x) + (bit (q x) + bit (r x)) ≡ bit (s x)) → (xs : List X)
    → length (filter p xs) + (length (filter q xs) + length (filter r xs)) ≡ length (filter s xs)
parts-add p q r s each [] = refl
parts-add p q r s each (x ∷ xs) =
    omega (
      arith,
      each x,
      parts-add p q r s each xs,
      length-more (p x) x (filter p xs),
      length-more (q x) x (filter q xs),
      length-more (r x) x (filter r xs),
      length-more (s x) x (filter s xs),
    )

part-before : (old new : Option Record) → bit (is_removed (change_of old new)) + (bit (is_changed (change_of old new)) + bit (is_kept (change_of old new))) ≡ bit (is_some old)
part-before None None = refl
part-before None (Some new) = refl
part-before (Some old) None = refl
part-before (Some old) (Some new) =
    elim (is_same_record old new) as (λ b. bit (is_removed (cond b Kept Changed)) + (bit (is_changed (cond b Kept Changed)) + bit (is_kept (cond b Kept Changed))) ≡ 1) [ true ↦ refl | false ↦ refl ]

part-after : (old new : Option Record) → bit (is_added (change_of old new)) + (bit (is_changed (change_of old new)) + bit (is_kept (change_of old new))) ≡ bit (is_some new)
part-after None None = refl
part-after None (Some new) = refl
part-after (Some old) None = refl
part-after (Some old) (Some new) =
    elim (is_same_record old new) as (λ b. bit (is_added (cond b Kept Changed)) + (bit (is_changed (cond b Kept Changed)) + bit (is_kept (cond b Kept Changed))) ≡ 1) [ true ↦ refl | false ↦ refl ]

module _ (old : Records) (arch : List ℕ) (listing : ArchiveListing) where
  abbrev names : List (List ℕ)
  names = names_of old arch listing

  -- those of the names that have a record are those that have one
  kept-of : (a b : Bool) → (a && (a || (not a && b))) ≡ a
  kept-of true b = refl
  kept-of false b = refl

  length-before : length (filter (λ name. is_some (finite.get old (arch, name))) names) ≡ length (recorded_names old arch)
  length-before =
      same-length (filter (λ name. is_some (finite.get old (arch, name))) names) (recorded_names old arch)
      (filter-apart (λ name. is_some (finite.get old (arch, name))) names (names-apart old arch listing))
      (recorded-apart arch (finite.keys old) (keys-apart old))
      (λ name. filter-any (λ name. is_some (finite.get old (arch, name))) name names
      ∙ ap (λ (b : Bool). is_some (finite.get old (arch, name)) && b) (names-any old arch listing name)
      ∙ kept-of (is_some (finite.get old (arch, name))) (finite.contains_key listing.listed name)
      ∙ sym (recorded-names-any old arch name))

  pub counts-before : (merge_counts old arch listing).removed + ((merge_counts old arch listing).changed + (merge_counts old arch listing).kept)
      ≡ length (recorded_names old arch)
  unfolding merge_counts counts_over
  counts-before =
      parts-add (λ name. is_removed (change_of (finite.get old (arch, name)) (record_after_at old arch listing (arch, name))))
      (λ name. is_changed (change_of (finite.get old (arch, name)) (record_after_at old arch listing (arch, name))))
      (λ name. is_kept (change_of (finite.get old (arch, name)) (record_after_at old arch listing (arch, name))))
      (λ name. is_some (finite.get old (arch, name)))
      (λ name. part-before (finite.get old (arch, name)) (record_after_at old arch listing (arch, name))) names
      ∙ length-before

  -- a source package that has a record after the merge is named
  named-after : (name : List ℕ) → (is_some (record_after_at old arch listing (arch, name)) && list_any (bytes_eq name) names) ≡ is_some (record_after_at old arch listing (arch, name))
  named-after name =
      elim (list_any (bytes_eq name) names) as (λ b. list_any (bytes_eq name) names ≡ b
      → (is_some (record_after_at old arch listing (arch, name)) && b) ≡ is_some (record_after_at old arch listing (arch, name))) [
        | true ↦ λ _. and-true (is_some (record_after_at old arch listing (arch, name)))
        | false ↦ λ e.
            let nothing : record_after_at old arch listing (arch, name) ≡ None =
            kept-unnamed old arch listing (arch, name) (nat_list_eq_equiv.refl arch) e ∙ (unnamed old arch listing name e).0 in
            ap (λ (o : Option Record). is_some o && false) nothing ∙ ap is_some (sym nothing)
      ] refl
    where
      and-true : (b : Bool) → (b && true) ≡ b
      and-true true = refl
      and-true false = refl

  length-after : length (filter (λ name. is_some (record_after_at old arch listing (arch, name))) names) ≡ length (recorded_names (merged old arch listing) arch)
  length-after =
      same-length (filter (λ name. is_some (record_after_at old arch listing (arch, name))) names) (recorded_names (merged old arch listing) arch)
      (filter-apart (λ name. is_some (record_after_at old arch listing (arch, name))) names (names-apart old arch listing))
      (recorded-apart arch (finite.keys (merged old arch listing)) (keys-apart (merged old arch listing)))
      (λ name. filter-any (λ name. is_some (record_after_at old arch listing (arch, name))) name names
      ∙ named-after name
      ∙ ap is_some (sym (merged-get old arch listing (arch, name)))
      ∙ sym (recorded-names-any (merged old arch listing) arch name))

  pub counts-after : (merge_counts old arch listing).added + ((merge_counts old arch listing).changed + (merge_counts old arch listing).kept)
      ≡ length (recorded_names (merged old arch listing) arch)
  unfolding merge_counts counts_over
  counts-after =
      parts-add (λ name. is_added (change_of (finite.get old (arch, name)) (record_after_at old arch listing (arch, name))))
      (λ name. is_changed (change_of (finite.get old (arch, name)) (record_after_at old arch listing (arch, name))))
      (λ name. is_kept (change_of (finite.get old (arch, name)) (record_after_at old arch listing (arch, name))))
      (λ name. is_some (record_after_at old arch listing (arch, name)))
      (λ name. part-after (finite.get old (arch, name)) (record_after_at old arch listing (arch, name))) names
      ∙ length-after

-- ---- a second merge

filter-none : {X : Type 0} (p : X → Bool) → ((x : X) → p x ≡ false) → (xs : List X) → length (filter p xs) ≡ 0
filter-none p none [] = refl
filter-none p none (x ∷ xs) = ap (λ b. length (cond b (x ∷ filter p xs) (filter p xs))) (none x) ∙ filter-none p none xs

none-added : (current : Option Record) → is_added (change_of current current) ≡ false
none-added None = refl
none-added (Some current) = ap (λ b. is_added (cond b Kept Changed)) ((same-record-is current current).1 refl)

none-removed : (current : Option Record) → is_removed (change_of current current) ≡ false
none-removed None = refl
none-removed (Some current) = ap (λ b. is_removed (cond b Kept Changed)) ((same-record-is current current).1 refl)

none-changed : (current : Option Record) → is_changed (change_of current current) ≡ false
none-changed None = refl
none-changed (Some current) = ap (λ b. is_changed (cond b Kept Changed)) ((same-record-is current current).1 refl)

module _ (old : Records) (arch : List ℕ) (listing : ArchiveListing) where
  abbrev once : Records
  once = merged old arch listing

  same-again : (key : Key) → record_after_at once arch listing key ≡ finite.get once key
  same-again key = record_after_at-twice old arch listing key ∙ sym (merged-get old arch listing key)

  none-where : (test : Change → Bool) → ((current : Option Record) → test (change_of current current) ≡ false) → (names : List (List ℕ))
      → number_where test once arch listing names ≡ 0
  none-where test none names =
      filter-none (λ name. test (change_of (finite.get once (arch, name)) (record_after_at once arch listing (arch, name))))
      (λ name. ap (λ new. test (change_of (finite.get once (arch, name)) new)) (same-again (arch, name)) ∙ none (finite.get once (arch, name))) names

  pub counts-twice : merge_counts once arch listing ≡ all_kept (length (recorded_names once arch))
  unfolding merge_counts counts_over
  counts-twice =
      let added : (merge_counts once arch listing).added ≡ 0 = none-where is_added none-added (names_of once arch listing) in
      let changed : (merge_counts once arch listing).changed ≡ 0 = none-where is_changed none-changed (names_of once arch listing) in
      let removed : (merge_counts once arch listing).removed ≡ 0 = none-where is_removed none-removed (names_of once arch listing) in
      let kept : (merge_counts once arch listing).kept ≡ length (recorded_names once arch) = omega (arith, counts-before once arch listing, changed, removed) in
      λ i. record { added = added i; changed = changed i; kept = kept i; removed = removed i }
