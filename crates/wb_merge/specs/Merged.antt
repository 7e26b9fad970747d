-- The records after a merge of one architecture, at each key, and what it counts.
use Rattle.std.specs.Prelude.{◌≡◌, ℕ, Bool, true, false, not, ◌&&◌, nat_eq, List, ◌++◌, length, filter, map, bytes_eq, Option, Some, None, if◌then◌else◌}
use Rattle.std.specs.Bool.{beq}
use Rattle.std.specs.Ordering.{int_eq}
use Rattle.std.specs.Option.{option_eq}
use Rattle.std.specs.FinMap as finite
use Rattle.wb_states.specs.declared.record.Record.{Record}
use Rattle.wb_states.specs.declared.reply.MergeCounts.{MergeCounts}
use Rattle.deb_text.specs.Text.{pair_cmp}
use Rattle.wb_states.specs.State.{code_of}
use Rattle.wb_merge.specs.declared.merge.Change.{Change}
use Rattle.wb_merge.specs.declared.merge.Change.TheVariants.{Absent, Added, Changed, Kept, Removed}
use Rattle.wb_merge.specs.Listing.{ArchiveListing, map_at}
use Rattle.wb_merge.specs.Merge.{record_after}

-- the records of the office, by architecture and source package
abbrev pub Records : Type 0
Records = finite.FinMap pair_cmp Record

-- the record of a source package after a merge of a listing, from the one that it had
abbrev pub record_after_named : ArchiveListing → List ℕ → Option Record → Option Record
record_after_named listing name current = record_after current (finite.get listing.listed name) (finite.get listing.built name) listing.available

-- the record at a key after the merge of an architecture: other architectures keep theirs
unfoldable pub record_after_at : Records → List ℕ → ArchiveListing → List ℕ × List ℕ → Option Record
record_after_at old arch listing key =
    if bytes_eq key.0 arch then record_after_named listing key.1 (finite.get old key) else finite.get old key

-- the keys at which there may be a record after the merge
abbrev pub merge_keys : Records → List ℕ → ArchiveListing → List (List ℕ × List ℕ)
merge_keys old arch listing = finite.keys old ++ map (λ name. (arch, name)) (finite.keys listing.listed)

-- the records after the merge
unfoldable pub merged : Records → List ℕ → ArchiveListing → Records
merged old arch listing = map_at (record_after_at old arch listing) (merge_keys old arch listing)

-- the record at a key before a merge of an architecture, and the one after it
pub record BecomesAt (old : Records) (arch : List ℕ) (listing : ArchiveListing) (key : List ℕ × List ℕ) (current new : Record) : Type 0 where
  pub was : finite.get old key ≡ Some current
  pub is : finite.get (merged old arch listing) key ≡ Some new

-- ---- what is counted

-- whether the fields of two records that say what is built are equal
unfoldable pub has_same_source : Record → Record → Bool
has_same_source one other =
    bytes_eq one.version other.version && (bytes_eq one.priority other.priority
    && (bytes_eq one.section other.section && (beq one.earlier other.earlier && nat_eq one.number other.number)))

-- whether the fields that say where it stands, who holds it and how soon it is built are equal
unfoldable pub has_same_place : Record → Record → Bool
has_same_place one other =
    nat_eq (code_of one.state) (code_of other.state) && (option_eq bytes_eq one.holder other.holder
    && (option_eq nat_eq one.take other.take && int_eq one.build_priority other.build_priority))

-- whether the texts of relations, notes and messages are equal
unfoldable pub has_same_texts : Record → Record → Bool
has_same_texts one other =
    bytes_eq one.waits other.waits && (option_eq bytes_eq one.depends other.depends
    && (bytes_eq one.note other.note && bytes_eq one.message other.message))

-- whether two records are equal in all fields
unfoldable pub is_same_record : Record → Record → Bool
is_same_record one other = has_same_source one other && (has_same_place one other && has_same_texts one other)

-- what became of the record of a source package
abbrev pub change_of : Option Record → Option Record → Change
change_of None None = Absent
change_of None (Some new) = Added
change_of (Some old) None = Removed
change_of (Some old) (Some new) = if is_same_record old new then Kept else Changed

-- whether there is a record where there was none
abbrev pub is_added : Change → Bool
is_added Added = true
is_added _ = false

-- whether there is no record where there was one
abbrev pub is_removed : Change → Bool
is_removed Removed = true
is_removed _ = false

-- whether no field of the record differs
abbrev pub is_kept : Change → Bool
is_kept Kept = true
is_kept _ = false

-- whether a field of the record differs
abbrev pub is_changed : Change → Bool
is_changed Changed = true
is_changed _ = false

-- the source packages of the architecture that have a record, by name
abbrev pub recorded_names : Records → List ℕ → List (List ℕ)
recorded_names records arch = map (λ key. key.1) (filter (λ key. bytes_eq key.0 arch) (finite.keys records))

-- the source packages of the architecture that have a record, and then those that are listed and have none
unfoldable pub names_of : Records → List ℕ → ArchiveListing → List (List ℕ)
names_of old arch listing =
    recorded_names old arch ++ filter (λ name. not (finite.contains_key old (arch, name))) (finite.keys listing.listed)

-- how many source packages pass a test of what became of their records
abbrev pub number_where : (Change → Bool) → Records → List ℕ → ArchiveListing → List (List ℕ) → ℕ
number_where test old arch listing names =
    length (filter (λ name. test (change_of (finite.get old (arch, name)) (record_after_at old arch listing (arch, name)))) names)

-- what a merge did, counted over these names
unfoldable pub counts_over : Records → List ℕ → ArchiveListing → List (List ℕ) → MergeCounts
counts_over old arch listing names = record {
  added = number_where is_added old arch listing names;
  changed = number_where is_changed old arch listing names;
  kept = number_where is_kept old arch listing names;
  removed = number_where is_removed old arch listing names;
}

-- what a merge of an architecture did
unfoldable pub merge_counts : Records → List ℕ → ArchiveListing → MergeCounts
merge_counts old arch listing = counts_over old arch listing (names_of old arch listing)

-- the counts of a merge that keeps so many records, and does nothing else
abbrev pub all_kept : ℕ → MergeCounts
all_kept kept = record { added = 0; changed = 0; kept = kept; removed = 0 }
