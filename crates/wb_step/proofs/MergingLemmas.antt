-- A merge keeps the invariant of the office.
use Rattle.std.proofs.Common.{◌≡◌, ℕ, ◌+◌, ◌≤◌, ◌<◌, List, Option, Some, None, Ok, IsTrue, IfSome, is_some, inl, refl, ap, subst}
use Rattle.std.specs.FinMap as map
use Rattle.std.specs.FinSet as set
use Rattle.wb_states.specs.declared.arch.OsCpu.{OsCpu}
use Rattle.wb_states.specs.declared.command.Part.{Part}
use Rattle.wb_states.specs.declared.record.Record.{Record}
use Rattle.wb_states.specs.Limits.{count_limit}
use Rattle.wb_states.specs.Machine.{Machine, arch_words, with_words, AreWaits, IsRecord, IsConsistent}
use Rattle.wb_merge.specs.declared.listing.Listed.{Listed}
use Rattle.wb_merge.specs.declared.listing.Built.{Built}
use Rattle.wb_merge.specs.Listing.{ArchiveListing}
use Rattle.wb_merge.specs.Merge.{new_record, listed_record, record_after}
use Rattle.wb_merge.specs.Merged.{Records}
use Rattle.wb_step.specs.Parts.{listing_for, part_listing, records_after}
use Rattle.wb_states.proofs.ConsistencyLemmas.{with_records}
use Rattle.wb_merge.proofs.ListedLemmas.{IsGoodListed, IsSmallBuilt, IsGoodListing, listing_of-good}
use Rattle.wb_step.proofs.MergedLemmas.{OfKeys, records_after-keeps}
use Rattle.wb_merge.proofs.RelistedLemmas.{new_record-well, listed-well, new-left, listed-left}

-- a take number is that of the record at the key
abbrev pub IsNumberAt : Machine → List ℕ × List ℕ → ℕ → Type 0
IsNumberAt machine key take_number = (old : Record) × ((map.get machine.records key ≡ Some old) × (old.take ≡ Some take_number))

-- a record has its form, and the take number of the one at its key or none
abbrev pub MayReplace : Machine → OfKeys
MayReplace machine key current = IsRecord machine key.0 key.1 current × IfSome current.take (IsNumberAt machine key)

-- what the merge makes of a record that may be there
after-may : (machine : Machine) (arch : List ℕ) (listing : ArchiveListing) → IsTrue (map.contains_key machine.archs arch) → IsGoodListing listing
    → (source : List ℕ) (found : Option Record) → IfSome found (MayReplace machine (arch, source))
    → IfSome (record_after found (map.get listing.listed source) (map.get listing.built source) listing.available) (MayReplace machine (arch, source))
after-may machine arch listing known good source found old =
    at found (map.get listing.listed source) (map.get listing.built source) (good.listed source) (good.built source) old where
      at : (found : Option Record) (listed : Option Listed) (built : Option Built) → IfSome listed (IsGoodListed source) → IfSome built IsSmallBuilt
          → IfSome found (MayReplace machine (arch, source)) → IfSome (record_after found listed built listing.available) (MayReplace machine (arch, source))
      at found None built fine small old = tt
      at None (Some listed) built fine small old =
          let left = new-left listed built in
          let is : IsRecord machine arch source (new_record listed built) = record {
            name = fine.name;
            known = known;
            fields = new_record-well source listed built fine small;
            holder = left.holder (λ builder. IsTrue (set.contains machine.builders (builder, arch))) tt;
            waits = left.waits (AreWaits (arch_words machine arch)) (inl refl) (inl refl);
            given = left.take (λ take_number. (1 ≤ take_number) × (take_number ≤ machine.handed)) tt;
          } in
          (is, left.take (IsNumberAt machine (arch, source)) tt)
      at (Some current) (Some listed) built fine small old =
          let left = listed-left listed built listing.available current in
          let had : IsRecord machine arch source current = old.0 in
          let is : IsRecord machine arch source (listed_record listed built listing.available current) = record {
            name = had.name;
            known = had.known;
            fields = listed-well source listed built listing.available current fine small had.fields;
            holder = left.holder (λ builder. IsTrue (set.contains machine.builders (builder, arch))) had.holder;
            waits = left.waits (AreWaits (arch_words machine arch)) (inl refl) had.waits;
            given = left.take (λ take_number. (1 ≤ take_number) × (take_number ≤ machine.handed)) had.given;
          } in
          (is, left.take (IsNumberAt machine (arch, source)) old.1)

-- a part that can be merged is of an architecture that is there, and its listing has its forms
part-is : (machine : Machine) (sources : List ℕ) (part : Part) (listing : ArchiveListing) → part_listing machine sources part ≡ Ok listing
    → IsTrue (map.contains_key machine.archs part.arch) × IsGoodListing listing
unfolding part_listing
part-is machine sources part listing is = at (map.get machine.archs part.arch) refl is where
  at : (found : Option OsCpu) → map.get machine.archs part.arch ≡ found → listing_for sources part found ≡ Ok listing
      → IsTrue (map.contains_key machine.archs part.arch) × IsGoodListing listing
  at None e is = cc
  at (Some words) e is = (ap is_some e, listing_of-good sources part.packages (with_words part.arch words) listing is)

-- each record may take its own place
pub all-may : (machine : Machine) → IsConsistent machine → (key : List ℕ × List ℕ) → IfSome (map.get machine.records key) (MayReplace machine key)
all-may machine old key = at (map.get machine.records key) refl (old.records key.0 key.1) where
  number : (current : Record) (take : Option ℕ) → map.get machine.records key ≡ Some current → current.take ≡ take → IfSome take (IsNumberAt machine key)
  number current None stands of = tt
  number current (Some take_number) stands of = (current, (stands, of))

  at : (found : Option Record) → map.get machine.records key ≡ found → IfSome found (IsRecord machine key.0 key.1) → IfSome found (MayReplace machine key)
  at None e is = tt
  at (Some current) e is = (is, number current current.take e refl)

merged-may : (machine : Machine) (sources : List ℕ) (parts : List Part) → IsConsistent machine
    → (key : List ℕ × List ℕ) → IfSome (map.get (records_after machine sources parts machine.records) key) (MayReplace machine key)
merged-may machine sources parts old =
    records_after-keeps (MayReplace machine) machine sources parts
    (λ part listing is. let known = part-is machine sources part listing is in after-may machine part.arch listing known.0 known.1)
    machine.records (all-may machine old)

-- the take number of a record is that of the one at its key before
number-was : (machine : Machine) (records : Records) → ((key : List ℕ × List ℕ) → IfSome (map.get records key) (MayReplace machine key))
    → (key : List ℕ × List ℕ) (current : Record) (take_number : ℕ) → map.get records key ≡ Some current → current.take ≡ Some take_number → IsNumberAt machine key take_number
number-was machine records may key current take_number stands of =
    let here : IfSome (Some current) (MayReplace machine key) = subst (λ r. IfSome r (MayReplace machine key)) stands (may key) in
    subst (λ t. IfSome t (IsNumberAt machine key)) of here.1

-- records that may take the places of those before keep the invariant
pub replaced-keeps : (machine : Machine) (records : Records) → IsConsistent machine → ((key : List ℕ × List ℕ) → IfSome (map.get records key) (MayReplace machine key))
    → machine.accepted < count_limit → IsConsistent (record machine { records = records; accepted = machine.accepted + 1 })
replaced-keeps machine records old may room =
    with_records machine records old
    (λ key. each (map.get records key) key (may key))
    (λ one other first second take_number at_one at_other of_first of_second.
    let before = number-was machine records may one first take_number at_one of_first in
    let behind = number-was machine records may other second take_number at_other of_second in
    old.takes one other before.0 behind.0 take_number before.1.0 behind.1.0 before.1.1 behind.1.1)
    room
  where
    each : (found : Option Record) (key : List ℕ × List ℕ) → IfSome found (MayReplace machine key) → IfSome found (IsRecord machine key.0 key.1)
    each None key is = tt
    each (Some current) key is = is.0

pub merging-keeps : (machine : Machine) (sources : List ℕ) (parts : List Part) → IsConsistent machine → machine.accepted < count_limit
    → IsConsistent (record machine { records = records_after machine sources parts machine.records; accepted = machine.accepted + 1 })
merging-keeps machine sources parts old room =
    replaced-keeps machine (records_after machine sources parts machine.records) old (merged-may machine sources parts old) room
