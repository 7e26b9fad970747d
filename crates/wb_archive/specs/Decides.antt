-- How a merge decides each source package from the rows of that source package.
use Rattle.std.specs.Prelude.{◌≡◌, ℕ, ◌++◌, not, List, filter, Option, None, Some}
use Rattle.std.specs.List.{fold}
use Rattle.std.specs.FinMap as finite
use Rattle.deb_relations.specs.declared.arch.ArchWords.{ArchWords}
use Rattle.deb_relations.specs.Satisfaction.{Offer, Pairs, no_pairs, with_pair}
use Rattle.wb_states.specs.declared.record.Record.{Record}
use Rattle.wb_states.specs.declared.scratch.BinaryRow.{BinaryRow}
use Rattle.wb_merge.specs.Listing.{ArchiveListing}
use Rattle.wb_merge.specs.Merged.{Records, recorded_names, record_after_named}
use Rattle.wb_merge.specs.Scratch.{listing_of_kept, versions_in}
use Rattle.wb_merge.specs.Steps.{Key, record_at}
use Rattle.wb_archive.specs.Tables.{AreNamesOf, Contents}

-- what stands in the tables lists this for the architecture
abbrev pub listing_at : ArchWords → Contents → ArchiveListing
listing_at arch now = listing_of_kept arch now.sources now.binaries

-- records with this one at a key, or none there
abbrev pub set_record : Records → Key → Option Record → Records
set_record records key None = finite.remove records key
set_record records key (Some new) = finite.insert records key new

-- the record of a source package after the merge of an architecture into what stands in the tables
abbrev pub record_decided : ArchWords → Contents → List ℕ → Option Record
record_decided arch now name = record_after_named (listing_at arch now) name (record_at now.machine.records (arch.name, name))

-- ---- the source packages that are decided

-- the source packages of the architecture that have a record, and then those of some names that have none
abbrev pub names_with : Records → List ℕ → List (List ℕ) → List (List ℕ)
names_with records arch names = recorded_names records arch ++ filter (λ name. not (finite.contains_key records (arch, name))) names

-- the source packages of the architecture that have a record, and then those of which there are rows and no record
pub record AreNamesToDecide (now : Contents) (arch : List ℕ) (names : List (List ℕ)) : Type 0 where
  pub listed : List (List ℕ)
  pub of_rows : AreNamesOf now.sources listed
  pub is : names ≡ names_with now.machine.records arch listed

-- ---- waits

-- what is available, with these versions of a name more
abbrev pub with_versions : Pairs → List ℕ → List Offer → Pairs
with_versions available name versions = fold (λ pairs version. with_pair pairs name version) available versions

-- the pairs of some names with the versions that rows have of them, after those of others
abbrev pub pairs_from : List BinaryRow → Pairs → List (List ℕ) → Pairs
pairs_from rows = fold (λ pairs name. with_versions pairs name (versions_in rows name))

-- the pairs of some names with the versions that rows have of them
abbrev pub pairs_named : List BinaryRow → List (List ℕ) → Pairs
pairs_named rows names = pairs_from rows no_pairs names
