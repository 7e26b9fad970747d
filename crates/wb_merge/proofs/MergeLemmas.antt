-- The names of a merge stand once each, and what a merge does name by name is what it does at each key.
use Rattle.std.proofs.Common.{◌≡◌, ℕ, Bool, true, false, cond, not, ◌&&◌, ◌||◌, List, [], ◌∷◌, map, filter, bytes_eq, refl, sym, ap, ◌∙◌, Option, Some, None}
use Rattle.std.specs.List.{list_any}
use Rattle.std.specs.Ordering.{eq_by_cmp}
use Rattle.std.proofs.lemmas.List.Folds.{list_any-append}
use Rattle.std.proofs.lemmas.Cmp.{nat_list_eq_equiv}
use Rattle.std.proofs.lemmas.Map.Text.{is_eq-slice_cmp}
use Rattle.std.specs.FinMap as finite
use Rattle.std.proofs.lemmas.Bool.{and_right, false_from_ne_true, or_parts}
use Rattle.deb_text.specs.Text.{text_cmp, pair_cmp}
use Rattle.wb_states.specs.declared.record.Record.{Record}
use Rattle.deb_text.proofs.KeyLemmas.{pair_cmp_total, pair_cmp-same}
use Rattle.deb_relations.specs.Satisfaction.{Pairs}
use Rattle.wb_merge.specs.declared.listing.Listed.{Listed}
use Rattle.wb_merge.specs.declared.listing.Built.{Built}
use Rattle.wb_merge.specs.Listing.{ArchiveListing}
use Rattle.wb_merge.specs.Merge.{record_after}
use Rattle.wb_merge.specs.Merged.{Records, record_after_at, merge_keys, merged, names_of, recorded_names, record_after_named}
use Rattle.wb_merge.specs.Steps.{Key, IsSetAt}
use Rattle.wb_merge.proofs.ListingLemmas.{map_at-get}
use Rattle.wb_merge.proofs.NameLemmas.{none-is, bytes_eq-is, pair-eq, pair-is, IsApart, keys-apart, text_keys-apart, append-apart, filter-apart, filter-any}

-- ---- the names

-- a key of the architecture is found where its name is found among the names
recorded-any : (arch name : List ℕ) (keys : List Key)
    → list_any (bytes_eq name) (map (λ key. key.1) (filter (λ key. bytes_eq key.0 arch) keys)) ≡ list_any (eq_by_cmp pair_cmp (arch, name)) keys
recorded-any arch name [] = refl
recorded-any arch name (key ∷ keys) =
    let rest = recorded-any arch name keys in
    let others = filter (λ (key : Key). bytes_eq key.0 arch) keys in
    elim (bytes_eq key.0 arch) as (λ b. bytes_eq key.0 arch ≡ b → list_any (bytes_eq name) (map (λ (key : Key). key.1) (cond b (key ∷ others) others)) ≡ (eq_by_cmp pair_cmp (arch, name) key || list_any (eq_by_cmp pair_cmp (arch, name)) keys)) [
      | true ↦ λ e. let here : eq_by_cmp pair_cmp (arch, name) key ≡ bytes_eq name key.1 = pair-eq (arch, name) key ∙ ap (λ b. b && bytes_eq name key.1) (nat_list_eq_equiv.symm arch key.0 ∙ e) in
          λ i. sym here i || rest i
      | false ↦ λ e. let here : eq_by_cmp pair_cmp (arch, name) key ≡ false = pair-eq (arch, name) key ∙ ap (λ b. b && bytes_eq name key.1) (nat_list_eq_equiv.symm arch key.0 ∙ e) in
          rest ∙ (λ i. sym here i || list_any (eq_by_cmp pair_cmp (arch, name)) keys)
    ] refl

pub recorded-apart : (arch : List ℕ) (keys : List Key) → IsApart (eq_by_cmp pair_cmp) keys → IsApart bytes_eq (map (λ key. key.1) (filter (λ key. bytes_eq key.0 arch) keys))
recorded-apart arch [] h = tt
recorded-apart arch (key ∷ keys) h =
    let rest = recorded-apart arch keys h.1 in
    let others = filter (λ (key : Key). bytes_eq key.0 arch) keys in
    elim (bytes_eq key.0 arch) as (λ b. bytes_eq key.0 arch ≡ b → IsApart bytes_eq (map (λ (key : Key). key.1) (cond b (key ∷ others) others))) [
      | true ↦ λ e. (recorded-any arch key.1 keys ∙ ap (λ a. list_any (eq_by_cmp pair_cmp (a, key.1)) keys) (sym (bytes_eq-is key.0 arch e)) ∙ h.0, rest)
      | false ↦ λ e. rest
    ] refl

-- the names of those that have a record
pub recorded-names-any : (old : Records) (arch name : List ℕ) → list_any (bytes_eq name) (recorded_names old arch) ≡ finite.contains_key old (arch, name)
recorded-names-any old arch name = recorded-any arch name (finite.keys old) ∙ sym (finite.contains_key-keys old (arch, name))

pub listed-any : {X : Type 0} (listed : finite.FinMap text_cmp X) (name : List ℕ) → list_any (bytes_eq name) (finite.keys listed) ≡ finite.contains_key listed name
listed-any listed name =
    ap (λ (eq : List ℕ → Bool). list_any eq (finite.keys listed)) (λ i other. sym (is_eq-slice_cmp name other) i) ∙ sym (finite.contains_key-keys listed name)

-- whether a source package is named
pub names-any : (old : Records) (arch : List ℕ) (listing : ArchiveListing) (name : List ℕ)
    → list_any (bytes_eq name) (names_of old arch listing) ≡ (finite.contains_key old (arch, name) || (not (finite.contains_key old (arch, name)) && finite.contains_key listing.listed name))
unfolding names_of
names-any old arch listing name =
    list_any-append (bytes_eq name) (recorded_names old arch) _
    ∙ (λ i. recorded-names-any old arch name i || filter-any (λ name. not (finite.contains_key old (arch, name))) name (finite.keys listing.listed) i)
    ∙ (λ i. finite.contains_key old (arch, name) || (not (finite.contains_key old (arch, name)) && listed-any listing.listed name i))

-- no name stands twice
pub names-apart : (old : Records) (arch : List ℕ) (listing : ArchiveListing) → IsApart bytes_eq (names_of old arch listing)
unfolding names_of
names-apart old arch listing =
    append-apart bytes_eq (recorded_names old arch) _
    (recorded-apart arch (finite.keys old) (keys-apart old))
    (filter-apart (λ name. not (finite.contains_key old (arch, name))) (finite.keys listing.listed) (text_keys-apart listing.listed))
    (λ name there again. never (finite.contains_key old (arch, name)) _
    (sym (recorded-names-any old arch name) ∙ there)
    (sym (filter-any (λ name. not (finite.contains_key old (arch, name))) name (finite.keys listing.listed)) ∙ again))
    nat_list_eq_equiv.refl
  where
    never : (a b : Bool) → a ≡ true → (not a && b) ≡ true → ⊥
    never true b e f = cc
    never false b e f = cc

-- ---- at each key

split-or : (a b : Bool) → (a || (not a && b)) ≡ false → (a ≡ false) × (b ≡ false)
split-or true b e = absurd cc
split-or false b e = (refl, e)

-- a source package of the architecture that is not named has no record, before or after
pub unnamed : (old : Records) (arch : List ℕ) (listing : ArchiveListing) (name : List ℕ) → list_any (bytes_eq name) (names_of old arch listing) ≡ false
    → (finite.get old (arch, name) ≡ None) × (finite.get listing.listed name ≡ None)
unnamed old arch listing name e =
    let both = split-or (finite.contains_key old (arch, name)) (finite.contains_key listing.listed name) (sym (names-any old arch listing name) ∙ e) in
    (none-is _ both.0, none-is _ both.1)

-- the record at a key while names are left: those that are left have what they had
abbrev pub half_merged : Records → List ℕ → ArchiveListing → List (List ℕ) → Key → Option Record
half_merged old arch listing names key =
    cond (bytes_eq key.0 arch && list_any (bytes_eq key.1) names) (finite.get old key) (record_after_at old arch listing key)

none-after : (old : Option Record) (listing : ArchiveListing) (name : List ℕ) → old ≡ None → finite.get listing.listed name ≡ None
    → record_after old (finite.get listing.listed name) (finite.get listing.built name) listing.available ≡ old
none-after old listing name e f =
    (λ i. record_after (e i) (f i) (finite.get listing.built name) listing.available) ∙ sym e

-- at a key of the architecture that is not named nothing changes
pub kept-unnamed : (old : Records) (arch : List ℕ) (listing : ArchiveListing) (key : Key) → bytes_eq key.0 arch ≡ true
    → list_any (bytes_eq key.1) (names_of old arch listing) ≡ false → record_after_at old arch listing key ≡ finite.get old key
unfolding record_after_at
kept-unnamed old arch listing key e f =
    let nothing = unnamed old arch listing key.1 f in
    let same : key ≡ (arch, key.1) = λ i. (bytes_eq-is key.0 arch e i, key.1) in
    ap (λ b. cond b (record_after (finite.get old key) (finite.get listing.listed key.1) (finite.get listing.built key.1) listing.available) (finite.get old key)) e
    ∙ none-after (finite.get old key) listing key.1 (ap (finite.get old) same ∙ nothing.0) nothing.1

-- at a key of another architecture nothing changes
kept-elsewhere : (old : Records) (arch : List ℕ) (listing : ArchiveListing) (key : Key) → bytes_eq key.0 arch ≡ false → record_after_at old arch listing key ≡ finite.get old key
unfolding record_after_at
kept-elsewhere old arch listing key e =
    ap (λ b. cond b (record_after (finite.get old key) (finite.get listing.listed key.1) (finite.get listing.built key.1) listing.available) (finite.get old key)) e

-- before the first name every key has what it had
pub half-start : (old : Records) (arch : List ℕ) (listing : ArchiveListing) (key : Key) → finite.get old key ≡ half_merged old arch listing (names_of old arch listing) key
half-start old arch listing key =
    let is_named = list_any (bytes_eq key.1) (names_of old arch listing) in
    elim (bytes_eq key.0 arch) as (λ b. bytes_eq key.0 arch ≡ b → finite.get old key ≡ cond (b && is_named) (finite.get old key) (record_after_at old arch listing key)) [
      | true ↦ λ e. elim is_named as (λ b. is_named ≡ b → finite.get old key ≡ cond b (finite.get old key) (record_after_at old arch listing key)) [
        | true ↦ λ _. refl
        | false ↦ λ f. sym (kept-unnamed old arch listing key e f)
      ] refl
      | false ↦ λ e. sym (kept-elsewhere old arch listing key e)
    ] refl

-- a name that is left has what it had
pub half-here : (old records : Records) (arch : List ℕ) (listing : ArchiveListing) (name : List ℕ) (names : List (List ℕ))
    → ((key : Key) → finite.get records key ≡ half_merged old arch listing (name ∷ names) key) → finite.get records (arch, name) ≡ finite.get old (arch, name)
half-here old records arch listing name names half =
    half (arch, name)
    ∙ (λ i. cond (nat_list_eq_equiv.refl arch i && (nat_list_eq_equiv.refl name i || list_any (bytes_eq name) names)) (finite.get old (arch, name)) (record_after_at old arch listing (arch, name)))

after-here : (old : Records) (arch : List ℕ) (listing : ArchiveListing) (name : List ℕ) → record_after_at old arch listing (arch, name) ≡ record_after_named listing name (finite.get old (arch, name))
unfolding record_after_at
after-here old arch listing name =
    ap (λ b. cond b (record_after_named listing name (finite.get old (arch, name))) (finite.get old (arch, name))) (nat_list_eq_equiv.refl arch)

-- after a name no more name is left of it
pub named-here : (old records : Records) (arch : List ℕ) (listing : ArchiveListing) (name : List ℕ) (names : List (List ℕ))
    → ((key : Key) → finite.get records key ≡ half_merged old arch listing (name ∷ names) key) → record_after_named listing name (finite.get records (arch, name)) ≡ record_after_at old arch listing (arch, name)
named-here old records arch listing name names half =
    ap (λ current. record_after current (finite.get listing.listed name) (finite.get listing.built name) listing.available) (half-here old records arch listing name names half)
    ∙ sym (after-here old arch listing name)

-- another key has the same among the names with and without one
half-other : (old : Records) (arch : List ℕ) (listing : ArchiveListing) (name : List ℕ) (names : List (List ℕ)) (key : Key)
    → (bytes_eq arch key.0 && bytes_eq name key.1) ≡ false → half_merged old arch listing (name ∷ names) key ≡ half_merged old arch listing names key
half-other old arch listing name names key =
    elim (bytes_eq arch key.0) as (λ b. bytes_eq arch key.0 ≡ b → (b && bytes_eq name key.1) ≡ false → half_merged old arch listing (name ∷ names) key ≡ half_merged old arch listing names key) [
      | true ↦ λ e f. λ i. cond (bytes_eq key.0 arch && ((nat_list_eq_equiv.symm key.1 name ∙ f) i || list_any (bytes_eq key.1) names)) (finite.get old key) (record_after_at old arch listing key)
      | false ↦ λ e f. let there : bytes_eq key.0 arch ≡ false = nat_list_eq_equiv.symm key.0 arch ∙ e in
          (λ i. cond (there i && (bytes_eq key.1 name || list_any (bytes_eq key.1) names)) (finite.get old key) (record_after_at old arch listing key))
          ∙ (λ i. cond (sym there i && list_any (bytes_eq key.1) names) (finite.get old key) (record_after_at old arch listing key))
    ] refl

pub half-next : (old records new : Records) (arch : List ℕ) (listing : ArchiveListing) (name : List ℕ) (names : List (List ℕ))
    → list_any (bytes_eq name) names ≡ false
    → ((key : Key) → finite.get records key ≡ half_merged old arch listing (name ∷ names) key)
    → IsSetAt records (arch, name) (record_after_named listing name (finite.get records (arch, name))) new
    → (key : Key) → finite.get new key ≡ half_merged old arch listing names key
unfolding IsSetAt
half-next old records new arch listing name names apart half step key =
    step key
    ∙ elim (eq_by_cmp pair_cmp (arch, name) key) as (λ b. eq_by_cmp pair_cmp (arch, name) key ≡ b → cond b (record_after_named listing name (finite.get records (arch, name))) (finite.get records key) ≡ half_merged old arch listing names key) [
      | true ↦ λ e. let same : (arch, name) ≡ key = pair-is (arch, name) key e in
          named-here old records arch listing name names half
          ∙ (λ i. cond (sym (and_right (bytes_eq arch arch) false refl) i) (finite.get old (arch, name)) (record_after_at old arch listing (arch, name)))
          ∙ (λ i. cond (bytes_eq arch arch && sym apart i) (finite.get old (arch, name)) (record_after_at old arch listing (arch, name)))
          ∙ ap (half_merged old arch listing names) same
      | false ↦ λ e. half key ∙ half-other old arch listing name names key (sym (pair-eq (arch, name) key) ∙ e)
    ] refl

-- ---- the records after the merge

-- whether there may be a record at a key after the merge
keys-any : (old : Records) (arch : List ℕ) (listing : ArchiveListing) (key : Key) → list_any (eq_by_cmp pair_cmp key) (merge_keys old arch listing) ≡ false
    → (finite.get old key ≡ None) × (list_any (eq_by_cmp pair_cmp key) (map (λ name. (arch, name)) (finite.keys listing.listed)) ≡ false)
keys-any old arch listing key e =
    let parts = or_parts _ _ (sym (list_any-append (eq_by_cmp pair_cmp key) (finite.keys old) _) ∙ e) in
    (none-is _ (finite.contains_key-keys old key ∙ parts.0), parts.1)

listed-key-any : (arch : List ℕ) (names : List (List ℕ)) (key : Key) → bytes_eq key.0 arch ≡ true
    → list_any (eq_by_cmp pair_cmp key) (map (λ name. (arch, name)) names) ≡ list_any (bytes_eq key.1) names
listed-key-any arch [] key e = refl
listed-key-any arch (name ∷ names) key e =
    let rest = listed-key-any arch names key e in
    let here : eq_by_cmp pair_cmp key (arch, name) ≡ bytes_eq key.1 name = pair-eq key (arch, name) ∙ ap (λ b. b && bytes_eq key.1 name) e in
    λ i. here i || rest i

nowhere : (old : Records) (arch : List ℕ) (listing : ArchiveListing) (key : Key) → list_any (eq_by_cmp pair_cmp key) (merge_keys old arch listing) ≡ false → record_after_at old arch listing key ≡ None
unfolding record_after_at
nowhere old arch listing key e =
    let parts = keys-any old arch listing key e in
    elim (bytes_eq key.0 arch) as (λ b. bytes_eq key.0 arch ≡ b
    → cond b (record_after (finite.get old key) (finite.get listing.listed key.1) (finite.get listing.built key.1) listing.available) (finite.get old key) ≡ None) [
      | true ↦ λ f. let unlisted : finite.get listing.listed key.1 ≡ None = none-is _ (sym (listed-any listing.listed key.1) ∙ sym (listed-key-any arch (finite.keys listing.listed) key f) ∙ parts.1) in
          none-after (finite.get old key) listing key.1 parts.0 unlisted ∙ parts.0
      | false ↦ λ f. parts.0
    ] refl

-- the record at each key after the merge
pub merged-get : (old : Records) (arch : List ℕ) (listing : ArchiveListing) (key : Key) → finite.get (merged old arch listing) key ≡ record_after_at old arch listing key
unfolding merged
merged-get old arch listing key =
    let is_there = list_any (eq_by_cmp pair_cmp key) (merge_keys old arch listing) in
    map_at-get pair_cmp_total pair_cmp-same (record_after_at old arch listing) (merge_keys old arch listing) key
    ∙ elim is_there as (λ b. is_there ≡ b → cond b (record_after_at old arch listing key) None ≡ record_after_at old arch listing key) [
      | true ↦ λ _. refl
      | false ↦ λ e. sym (nowhere old arch listing key e)
    ] refl

-- the record of a source package of the architecture is that of the cases
pub merged-listed : (old : Records) (arch : List ℕ) (listing : ArchiveListing) (name : List ℕ)
    → finite.get (merged old arch listing) (arch, name) ≡ record_after_named listing name (finite.get old (arch, name))
merged-listed old arch listing name = merged-get old arch listing (arch, name) ∙ after-here old arch listing name

-- the records of other architectures stay
pub merged-others : (old : Records) (arch : List ℕ) (listing : ArchiveListing) (key : Key) → (key.0 ≡ arch → ⊥) → finite.get (merged old arch listing) key ≡ finite.get old key
merged-others old arch listing key other =
    merged-get old arch listing key ∙ kept-elsewhere old arch listing key (false_from_ne_true (bytes_eq key.0 arch) (λ e. other (bytes_eq-is key.0 arch e)))

-- what is not listed has no record
pub merged-unlisted : (old : Records) (arch : List ℕ) (listing : ArchiveListing) (name : List ℕ) → finite.get listing.listed name ≡ None
    → finite.get (merged old arch listing) (arch, name) ≡ None
merged-unlisted old arch listing name none =
    merged-listed old arch listing name
    ∙ ap (λ (o : Option Listed). record_after (finite.get old (arch, name)) o (finite.get listing.built name) listing.available) none
    ∙ nothing (finite.get old (arch, name)) (finite.get listing.built name) listing.available
  where
    nothing : (current : Option Record) (built : Option Built) (available : Pairs) → record_after current None built available ≡ None
    nothing None built available = refl
    nothing (Some current) built available = refl

pub half-end : (old records : Records) (arch : List ℕ) (listing : ArchiveListing) → ((key : Key) → finite.get records key ≡ half_merged old arch listing [] key)
    → records ≡ merged old arch listing
half-end old records arch listing half =
    finite.same_map pair_cmp_total pair_cmp-same _ _ (λ key.
    half key ∙ (λ i. cond (and_right (bytes_eq key.0 arch) false refl i) (finite.get old key) (record_after_at old arch listing key)) ∙ sym (merged-get old arch listing key))
