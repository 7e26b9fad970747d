-- The record that a merge finds by what it kept is the one of the listing.
use Rattle.std.proofs.Common.{◌≡◌, ℕ, Bool, true, false, cond, List, [], ◌∷◌, filter, map, bytes_eq, Option, Some, None, Result, Ok, refl, sym, ap, ap₂, subst, ◌∙◌, inl, inr}
use Rattle.std.specs.Prelude.{IfSome}
use Rattle.std.specs.List.{list_any}
use Rattle.std.proofs.lemmas.Bool.{cases_Bool, and_parts, or_parts}
use Rattle.deb_relations.specs.declared.arch.ArchWords.{ArchWords}
use Rattle.deb_relations.specs.declared.relations.Alternative.{Alternative}
use Rattle.deb_relations.specs.Reading.{reading_of}
use Rattle.deb_relations.specs.Satisfaction.{Pairs, HaveSamePairs, names_of}
use Rattle.deb_relations.proofs.NamedLemmas.{satisfied-same}
use Rattle.wb_states.specs.declared.record.Record.{Record}
use Rattle.wb_states.specs.declared.scratch.SourceRow.{SourceRow as KeptSource}
use Rattle.wb_states.specs.declared.scratch.BinaryRow.{BinaryRow as KeptBinary}
use Rattle.wb_states.specs.State.{is_dep_wait}
use Rattle.wb_merge.specs.declared.listing.Listed.{Listed}
use Rattle.wb_merge.specs.declared.listing.Built.{Built}
use Rattle.wb_merge.specs.Listing.{ArchiveListing, candidates, is_candidate, listed_of, listing_of}
use Rattle.wb_merge.specs.Merge.{are_waits_met, by_version, is_reading_met, listed_record, listed_record_given, record_after, record_given, relisted, same_number, same_record, same_record_given, same_state, same_state_given, SaysWaitsMet}
use Rattle.wb_merge.specs.Merged.{record_after_named}
use Rattle.wb_merge.specs.Scratch.{kept_sources, kept_binaries, row_of_kept, listed_in, is_build_of, built_in, listing_of_kept, listing_kept, record_found}
use Rattle.wb_merge.proofs.ScratchLemmas.{listed_in-filter, built_in-filter, listed-kept, built-kept, listing_of-kept}

-- ---- what is said of the waits

module _ (listed : Listed) (built : Option Built) (available : Pairs) (is_met : Bool) where
  state-given : (current : Record) → SaysWaitsMet available is_met current
      → same_state_given listed built is_met current ≡ same_state listed built available current
  state-given current says = elim (cases_Bool (is_dep_wait current.state)) [
    | inl t ↦ ap (λ m. same_state_given listed built m current) (says t)
    | inr f ↦ rw f refl
  ]

  same-given : (current : Record) → SaysWaitsMet available is_met current
      → same_record_given listed built is_met current ≡ same_record listed built available current
  unfolding same_record
  same-given current says = ap (λ state. relisted state (same_number listed built current) listed built current) (state-given current says)

  pub listed-given : (current : Record) → SaysWaitsMet available is_met current
      → listed_record_given listed built is_met current ≡ listed_record listed built available current
  unfolding listed_record
  listed-given current says = ap (λ same. by_version listed built same current) (same-given current says)

pub record-given : (current : Option Record) (listed : Option Listed) (built : Option Built) (available : Pairs) (is_met : Bool)
    → IfSome current (SaysWaitsMet available is_met)
    → record_given current listed built is_met ≡ record_after current listed built available
record-given None None built available is_met says = refl
record-given None (Some listed) built available is_met says = refl
record-given (Some current) None built available is_met says = refl
record-given (Some current) (Some listed) built available is_met says = ap (λ (new : Record). Some new) (listed-given listed built available is_met current says)

-- ---- the rows of a source package

candidate-named : (arch : ArchWords) (name : List ℕ) (row : KeptSource)
    → is_candidate arch name (row_of_kept row) ≡ true → bytes_eq name row.name ≡ true
unfolding is_candidate
candidate-named arch name row is = (and_parts (bytes_eq name row.name) _ is).0

build-named : (name : List ℕ) (row : KeptBinary) → is_build_of name row ≡ true → bytes_eq name row.source ≡ true
build-named name row is = (and_parts (bytes_eq name row.source) row.own is).0

pub found-rows : (arch : ArchWords) (sources : List KeptSource) (binaries : List KeptBinary) (name : List ℕ) (current : Option Record) (is_met : Bool)
    → IfSome current (SaysWaitsMet (listing_of_kept arch sources binaries).available is_met)
    → record_found arch current name (filter (λ row. bytes_eq name row.name) sources) (filter (λ row. bytes_eq name row.source) binaries) is_met
    ≡ record_after_named (listing_of_kept arch sources binaries) name current
unfolding record_found
found-rows arch sources binaries name current is_met says =
    ap₂ (λ listed built. record_given current listed built is_met)
    (listed_in-filter arch (λ row. bytes_eq name row.name) sources name (candidate-named arch name))
    (built_in-filter (λ row. bytes_eq name row.source) binaries name (build-named name))
    ∙ record-given current (listed_in arch sources name) (built_in binaries name) (listing_of_kept arch sources binaries).available is_met says
    ∙ ap₂ (λ listed built. record_after current listed built (listing_of_kept arch sources binaries).available)
    (sym (listed-kept arch sources binaries name)) (sym (built-kept arch sources binaries name))

only-ok : {X E : Type 0} (x y : X) → ◌≡◌ {A = Result X E} (Ok x) (Ok y) → x ≡ y
only-ok x y e = cc

listing-is : (sources packages : List ℕ) (arch : ArchWords) (listing : ArchiveListing) (rows : List KeptSource) (binaries : List KeptBinary)
    → listing_of sources packages arch ≡ Ok listing → kept_sources sources ≡ Ok rows
    → kept_binaries arch packages ≡ Ok binaries
    → listing_of_kept arch rows binaries ≡ listing
listing-is sources packages arch listing rows binaries is kept others =
    only-ok (listing_of_kept arch rows binaries) listing
    (sym (listing_of-kept sources packages arch ∙ ap₂ (listing_kept arch) kept others) ∙ is)

pub found-lists : (sources packages : List ℕ) (arch : ArchWords) (listing : ArchiveListing) (rows : List KeptSource) (binaries : List KeptBinary)
    (name : List ℕ) (current : Option Record) (is_met : Bool)
    → listing_of sources packages arch ≡ Ok listing → kept_sources sources ≡ Ok rows
    → kept_binaries arch packages ≡ Ok binaries
    → IfSome current (SaysWaitsMet listing.available is_met)
    → record_found arch current name (filter (λ row. bytes_eq name row.name) rows) (filter (λ row. bytes_eq name row.source) binaries) is_met
    ≡ record_after_named listing name current
found-lists sources packages arch listing rows binaries name current is_met is kept others says =
    subst (λ (made : ArchiveListing). IfSome current (SaysWaitsMet made.available is_met)
    → record_found arch current name (filter (λ row. bytes_eq name row.name) rows) (filter (λ row. bytes_eq name row.source) binaries) is_met
    ≡ record_after_named made name current)
    (listing-is sources packages arch listing rows binaries is kept others)
    (found-rows arch rows binaries name current is_met) says

-- ---- what depends on the names of the waits alone

pub waits-by-names : (one other : Pairs) (waits : List ℕ) (relations : List (List Alternative))
    → reading_of waits ≡ Ok relations → HaveSamePairs one other (names_of relations)
    → are_waits_met one waits ≡ are_waits_met other waits
unfolding are_waits_met
waits-by-names one other waits relations is same =
    ap (is_reading_met one) is ∙ satisfied-same one other relations same ∙ sym (ap (is_reading_met other) is)

-- ---- a name that no row has

none-named : (name : List ℕ) (rows : List KeptSource)
    → list_any (bytes_eq name) (map (λ row. row.name) rows) ≡ false
    → filter (λ row. bytes_eq name row.name) rows ≡ []
none-named name [] none = refl
none-named name (row ∷ rows) none =
    let both = or_parts (bytes_eq name row.name) (list_any (bytes_eq name) (map (λ (other : KeptSource). other.name) rows)) none in
    ap (λ b. cond b (row ∷ filter (λ other. bytes_eq name other.name) rows) (filter (λ other. bytes_eq name other.name) rows)) both.0 ∙ none-named name rows both.1

none-listed : (arch : ArchWords) (name : List ℕ) → listed_in arch [] name ≡ None
unfolding listed_in listed_of candidates
none-listed arch name = refl

pub listed_in-unnamed : (arch : ArchWords) (rows : List KeptSource) (name : List ℕ)
    → list_any (bytes_eq name) (map (λ row. row.name) rows) ≡ false → listed_in arch rows name ≡ None
listed_in-unnamed arch rows name none =
    sym (listed_in-filter arch (λ row. bytes_eq name row.name) rows name (candidate-named arch name))
    ∙ ap (λ kept. listed_in arch kept name) (none-named name rows none)
    ∙ none-listed arch name
