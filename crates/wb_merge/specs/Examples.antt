-- What lists and reports have of one source package, and what a merge of the architecture amd64 or a line of a report makes of it, for examples.
use Rattle.std.specs.Prelude.{◌≡◌, ℕ, false, List, [], codes, Option, Some, option_map}
use Rattle.std.specs.FinMap as map
use Rattle.deb_relations.specs.declared.arch.ArchWords.{ArchWords}
use Rattle.deb_relations.specs.Satisfaction.{Offer, versions_of}
use Rattle.wb_states.specs.declared.record.Record.{Record}
use Rattle.wb_states.specs.declared.state.State.{State}
use Rattle.wb_merge.specs.declared.listing.Listed.{Listed}
use Rattle.wb_merge.specs.declared.listing.Built.{Built}
use Rattle.wb_merge.specs.Rows.{BinaryParagraph, SourceParagraph, with_source, without_source}
use Rattle.wb_merge.specs.Listing.{ArchiveListing, listed_of}
use Rattle.wb_merge.specs.Merge.{blank_record}
use Rattle.wb_merge.specs.Merged.{Records, merged}
use Rattle.wb_merge.specs.Steps.{Key}
use Rattle.wb_merge.specs.declared.report.ReportLine.{ReportLine}
use Rattle.wb_merge.specs.Report.{record_after_report}

-- ---- what lists have of it

-- a source package in a Sources list, of this version and for these architectures
abbrev pub source_of : List ℕ → List ℕ → List (List ℕ) → SourceParagraph
source_of name version archs = record {
  name = name;
  version = version;
  archs = archs;
  is_extra = false;
  priority = codes "optional";
  section = codes "utils";
  depends = codes "debhelper-compat (= 13)";
  depends_arch = [];
}

-- a package in a Packages list, of this version and architecture, and with this text of its field Source
abbrev pub binary_of : List ℕ → List ℕ → List ℕ → List ℕ → BinaryParagraph
binary_of name version arch source = with_source name version arch (Some source)

-- a package in a Packages list for every architecture, of this version, and with this text of its field Provides
abbrev pub provider_of : List ℕ → List ℕ → List ℕ → BinaryParagraph
provider_of name version provides = record (without_source name version (codes "all")) { provides = provides }

-- the version that is listed of a source package for an architecture, if one is
abbrev pub version_listed : ArchWords → List SourceParagraph → List ℕ → Option (List ℕ)
version_listed arch rows name = option_map (λ listed. listed.version) (listed_of arch rows name)

-- ---- what a merge makes of it

-- the key of a source package on amd64
abbrev pub on_amd64 : List ℕ → Key
on_amd64 name = (codes "amd64", name)

-- what is listed of a source package of this version
abbrev pub listed_at : List ℕ → Option Listed
listed_at version = Some (record {
  version = version;
  priority = codes "optional";
  section = codes "utils";
  depends = Some (codes "debhelper-compat (= 13)");
})

-- a build of this version, by the binary-only rebuild of this number or by none
abbrev pub built_at : List ℕ → ℕ → Option Built
built_at version number = Some (record { version = version; number = number })

-- a record in this state and of this version, with what is listed of it
abbrev pub record_in : State → List ℕ → Record
record_in state version = record (blank_record version) {
  state = state;
  priority = codes "optional";
  section = codes "utils";
  depends = Some (codes "debhelper-compat (= 13)");
}

-- such a record that the builder b1 holds under take number 7
abbrev pub held_in : State → List ℕ → Record
held_in state version = record (record_in state version) { holder = Some (codes "b1"); take = Some 7 }

-- the merge of amd64 gives a source package the new record in place of the current one, if this is listed and built of it, whatever else there is
abbrev pub Becomes : List ℕ → Option Listed → Option Built → Option Record → Option Record → Type 0
Becomes name listed built current new = (old : Records) (listing : ArchiveListing)
    → map.get listing.listed name ≡ listed → map.get listing.built name ≡ built → map.get old (on_amd64 name) ≡ current
    → map.get (merged old (codes "amd64") listing) (on_amd64 name) ≡ new

-- the same if this name is available in these versions, or without one
abbrev pub BecomesBeside : List ℕ → List Offer → List ℕ → Option Listed → Option Built → Option Record → Option Record → Type 0
BecomesBeside other versions name listed built current new = (old : Records) (listing : ArchiveListing)
    → versions_of listing.available other ≡ versions
    → map.get listing.listed name ≡ listed → map.get listing.built name ≡ built → map.get old (on_amd64 name) ≡ current
    → map.get (merged old (codes "amd64") listing) (on_amd64 name) ≡ new

-- ---- what a report says of it, and what a report makes of it

-- a line of a report that says of a source package in this version why it cannot be built, or that it can
abbrev pub reported_of : List ℕ → List ℕ → Option (List ℕ) → ReportLine
reported_of source version reason = record { source = source; version = version; reason = reason }

-- a line of a report for this version and reason makes the new record of the current one
abbrev pub BecomesByReport : List ℕ → Option (List ℕ) → Record → Record → Type 0
BecomesByReport version reason current new =
    (source : List ℕ) → record_after_report (reported_of source version reason) current ≡ new
