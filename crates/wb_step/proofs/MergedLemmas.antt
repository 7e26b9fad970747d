-- What holds of each record, and of what a merge makes of a record, holds of each record after the parts of a merge.
use Rattle.std.proofs.Common.{◌≡◌, ℕ, Bool, true, false, cond, List, [], ◌∷◌, Option, None, Result, Ok, Err, IfSome, refl, sym, subst, bytes_eq}
use Rattle.std.proofs.lemmas.Slice.Eq.{bytes_eq-Decides}
use Rattle.std.specs.List.{list_any}
use Rattle.std.specs.Ordering.{eq_by_cmp}
use Rattle.std.specs.FinMap as map
use Rattle.wb_states.specs.declared.command.Part.{Part}
use Rattle.wb_states.specs.declared.record.Record.{Record}
use Rattle.wb_states.specs.declared.refusal.Refusal.{Refusal}
use Rattle.wb_states.specs.Machine.{Machine}
use Rattle.deb_text.specs.Text.{pair_cmp}
use Rattle.deb_text.proofs.KeyLemmas.{pair_cmp_total, pair_cmp-same}
use Rattle.wb_merge.specs.Listing.{ArchiveListing}
use Rattle.wb_merge.specs.Merge.{record_after}
use Rattle.wb_merge.specs.Merged.{Records, record_after_at, merge_keys, merged}
use Rattle.wb_merge.proofs.ListingLemmas.{map_at-get}
use Rattle.wb_step.specs.Parts.{part_listing, records_with, records_after}

-- what a record at a key may be said of
abbrev pub OfKeys : Type 1
OfKeys = List ℕ × List ℕ → Record → Type 0

-- a fact of each record
abbrev pub OfAll : OfKeys → Records → Type 0
OfAll P records = (key : List ℕ × List ℕ) → IfSome (map.get records key) (P key)

-- what the merge of a listing makes of a record has what the record has
abbrev pub IsKeptBy : OfKeys → List ℕ → ArchiveListing → Type 0
IsKeptBy P arch listing = (source : List ℕ) (found : Option Record) → IfSome found (P (arch, source))
    → IfSome (record_after found (map.get listing.listed source) (map.get listing.built source) listing.available) (P (arch, source))

record_after_at-keeps : (P : OfKeys) (old : Records) (arch : List ℕ) (listing : ArchiveListing) → IsKeptBy P arch listing → OfAll P old
    → (key : List ℕ × List ℕ) → IfSome (record_after_at old arch listing key) (P key)
unfolding record_after_at
record_after_at-keeps P old arch listing kept all key =
    elim (bytes_eq key.0 arch) as (λ b. bytes_eq key.0 arch ≡ b
    → IfSome (cond b (record_after (map.get old key) (map.get listing.listed key.1) (map.get listing.built key.1) listing.available) (map.get old key)) (P key)) [
      | true ↦ λ is.
          let here : key.0 ≡ arch = (bytes_eq-Decides key.0 arch).0 is in
          let same : (arch, key.1) ≡ key = λ i. (sym here i, key.1) in
          subst (λ (k : List ℕ × List ℕ). IfSome (map.get old k) (P k)
          → IfSome (record_after (map.get old k) (map.get listing.listed k.1) (map.get listing.built k.1) listing.available) (P k)) same
          (kept key.1 (map.get old (arch, key.1))) (all key)
      | false ↦ λ _. all key
    ] refl

pub merged-keeps : (P : OfKeys) (old : Records) (arch : List ℕ) (listing : ArchiveListing) → IsKeptBy P arch listing → OfAll P old → OfAll P (merged old arch listing)
unfolding merged
merged-keeps P old arch listing kept all key =
    rw (map_at-get pair_cmp_total pair_cmp-same (record_after_at old arch listing) (merge_keys old arch listing) key)
    (at (list_any (eq_by_cmp pair_cmp key) (merge_keys old arch listing)) (record_after_at old arch listing key) (record_after_at-keeps P old arch listing kept all key))
  where
    at : (b : Bool) (found : Option Record) → IfSome found (P key) → IfSome (cond b found None) (P key)
    at true found is = is
    at false found is = tt

-- the same for all parts, each of which may be refused
pub records_after-keeps : (P : OfKeys) (machine : Machine) (sources : List ℕ) (parts : List Part)
    → ((part : Part) (listing : ArchiveListing) → part_listing machine sources part ≡ Ok listing → IsKeptBy P part.arch listing)
    → (records : Records) → OfAll P records → OfAll P (records_after machine sources parts records)
records_after-keeps P machine sources [] kept records all = all
records_after-keeps P machine sources (part ∷ parts) kept records all =
    records_after-keeps P machine sources parts kept (records_with records part.arch (part_listing machine sources part))
    ((elim (part_listing machine sources part) as (λ (read : Result ArchiveListing Refusal). part_listing machine sources part ≡ read → OfAll P (records_with records part.arch read)) [
      | Ok listing ↦ λ is. merged-keeps P records part.arch listing (kept part listing is) all
      | Err refusal ↦ λ _. all
    ]) refl)
