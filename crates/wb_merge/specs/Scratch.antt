-- What a merge keeps of the archive's lists while it runs, and what that makes of a record.
use Rattle.std.specs.Prelude.{ℕ, ◌+◌, Bool, false, ◌&&◌, ◌||◌, List, [], ◌∷◌, filter, map, codes, bytes_eq, Option, Some, None, Result, Ok, Err, if◌then◌else◌}
use Rattle.std.specs.List.{flat_map, fold}
use Rattle.std.specs.Result.{result_map_both}
use Rattle.std.specs.declared.cmp.Ordering.{Ordering}
use Rattle.std.specs.Ordering.{on}
use Rattle.deb_version.specs.Order.{version_cmp}
use Rattle.deb_control.specs.declared.fault.ControlFaultKind.{ControlFaultKind}
use Rattle.deb_control.specs.Lines.{lines_of, paragraphs_in}
use Rattle.deb_control.specs.Fields.{FieldText, reading_of}
use Rattle.deb_relations.specs.declared.arch.ArchWords.{ArchWords}
use Rattle.deb_relations.specs.declared.provided.Provided.{Provided}
use Rattle.deb_relations.specs.Provided.{provided_in}
use Rattle.deb_relations.specs.Satisfaction.{Offer, Pairs, no_pairs, with_pair}
use Rattle.deb_text.specs.Lines.{words_in}
use Rattle.deb_text.specs.Options.{ok_unless}
use Rattle.wb_states.specs.declared.record.Record.{Record}
use Rattle.wb_states.specs.declared.refusal.Refusal.{Refusal}
use Rattle.wb_states.specs.declared.refusal.Refusal.TheVariants.{BadListing}
use Rattle.wb_states.specs.declared.refusal.ListKind.{ListKind}
use Rattle.wb_states.specs.declared.refusal.ListKind.TheVariants.{Sources, Packages}
use Rattle.wb_states.specs.declared.refusal.ListingFault.TheVariants.{Control}
use Rattle.wb_states.specs.declared.scratch.SourceRow.{SourceRow as KeptSource}
use Rattle.wb_states.specs.declared.scratch.BinaryRow.{BinaryRow as KeptBinary}
use Rattle.wb_merge.specs.declared.listing.Listed.{Listed}
use Rattle.wb_merge.specs.declared.listing.Built.{Built}
use Rattle.wb_merge.specs.Rows.{SourceParagraph, BinaryParagraph, text_named, source_fault, binary_row_of, onto_rows}
use Rattle.wb_merge.specs.Listing.{ArchiveListing, best_from, built_cmp, is_installable_on, listed_of, map_at}
use Rattle.wb_merge.specs.Merge.{record_given}

-- ---- what is kept of a paragraph

-- what is kept of the paragraph of this number of a Sources list
abbrev pub source_columns : ℕ → List FieldText → KeptSource
source_columns at fields = record {
  seq = at;
  name = text_named (codes "Package") fields;
  version = text_named (codes "Version") fields;
  architecture = text_named (codes "Architecture") fields;
  extra = bytes_eq (text_named (codes "Extra-Source-Only") fields) (codes "yes");
  priority = text_named (codes "Priority") fields;
  section = text_named (codes "Section") fields;
  depends = text_named (codes "Build-Depends") fields;
  depends_arch = text_named (codes "Build-Depends-Arch") fields;
}

-- what is kept of the paragraph of this number of a Sources list, or the refusal for its fault
unfoldable pub source_row_at : ℕ → List FieldText → Result KeptSource Refusal
source_row_at at fields = result_map_both (λ row. row) (BadListing Sources at) (ok_unless (source_fault fields) (source_columns at fields))

-- what is kept of the package of the paragraph of this number of a Packages list
abbrev pub binary_columns : ArchWords → ℕ → BinaryParagraph → KeptBinary
binary_columns arch at row = record {
  seq = at;
  name = row.name;
  version = Some row.version;
  source = row.source;
  source_version = row.source_version;
  number = row.number;
  own = bytes_eq arch.name row.arch;
}

-- what is kept of a name that the package of the paragraph of this number provides: it was built from no source package
abbrev pub provided_columns : ℕ → BinaryParagraph → Provided → KeptBinary
provided_columns at row given = record {
  seq = at;
  name = given.name;
  version = given.version;
  source = [];
  source_version = row.source_version;
  number = 0;
  own = false;
}

-- what is kept of a row of a Packages list: its package, and then each name that this provides (Debian Policy 7.5); nothing if it cannot be installed on the architecture
unfoldable pub kept_of : ArchWords → ℕ → BinaryParagraph → List KeptBinary
kept_of arch at row =
    if is_installable_on arch row
    then binary_columns arch at row ∷ map (provided_columns at row) (provided_in row.provides) else []

-- what is kept of the paragraph of this number of a Packages list, or the refusal for its fault, whatever its architecture
unfoldable pub binary_rows_at : ArchWords → ℕ → List FieldText → Result (List KeptBinary) Refusal
binary_rows_at arch at fields = result_map_both (kept_of arch at) (BadListing Packages at) (binary_row_of fields)

-- whether a row can matter to a merge: it is of the architecture's own, or its name is wanted
abbrev pub is_binary_wanted : (List ℕ → Bool) → KeptBinary → Bool
is_binary_wanted wanted row = row.own || wanted row.name

-- of what is kept of the paragraph of this number of a Packages list the rows that can matter, or the refusal for its fault
abbrev pub wanted_rows_at : ArchWords → (List ℕ → Bool) → ℕ → List FieldText → Result (List KeptBinary) Refusal
wanted_rows_at arch wanted at fields =
    result_map_both (filter (is_binary_wanted wanted)) (λ refusal. refusal) (binary_rows_at arch at fields)

-- ---- what is kept of a list

-- what is kept of the fields that are read of a paragraph, or the refusal for which they cannot be read
abbrev pub kept_reading : {X : Type 0} → ListKind → ℕ → (List FieldText → Result X Refusal) → Result (List FieldText) ControlFaultKind → Result X Refusal
kept_reading which at row_of (Ok fields) = row_of fields
kept_reading which at row_of (Err kind) = Err (BadListing which at (Control kind))

-- what is kept of paragraphs after so many others, one by one, or the refusal for the first that has a fault
abbrev pub kept_behind : {X : Type 0} → ListKind → (ℕ → List FieldText → Result X Refusal) → ℕ → List (List (List ℕ)) → Result (List X) Refusal
kept_behind which row_at passed [] = Ok []
kept_behind which row_at passed (lines ∷ later) =
    onto_rows (kept_reading which (passed + 1) (row_at (passed + 1)) (reading_of lines)) (kept_behind which row_at (passed + 1) later)

-- what is kept of some paragraphs, one after another
abbrev pub joined_rows : {X : Type 0} → List (List X) → List X
joined_rows kept = flat_map (λ rows. rows) kept

-- what is kept of a Sources list, or the refusal for its first faulty paragraph
unfoldable pub kept_sources : List ℕ → Result (List KeptSource) Refusal
kept_sources text = kept_behind Sources source_row_at 0 (paragraphs_in (lines_of text))

-- what is kept of the Packages list of an architecture, or the refusal for its first faulty paragraph
unfoldable pub kept_binaries : ArchWords → List ℕ → Result (List KeptBinary) Refusal
kept_binaries arch text =
    result_map_both joined_rows (λ refusal. refusal) (kept_behind Packages (binary_rows_at arch) 0 (paragraphs_in (lines_of text)))

-- ---- what the rows list

-- the row of the paragraph of which this is kept
abbrev pub row_of_kept : KeptSource → SourceParagraph
row_of_kept row = record {
  name = row.name;
  version = row.version;
  archs = words_in row.architecture;
  is_extra = row.extra;
  priority = row.priority;
  section = row.section;
  depends = row.depends;
  depends_arch = row.depends_arch;
}

-- what is listed of a source package: the greatest version, and of equal ones the first
unfoldable pub listed_in : ArchWords → List KeptSource → List ℕ → Option Listed
listed_in arch rows name = listed_of arch (map row_of_kept rows) name

-- rows of Sources are compared by their versions (Debian Policy 5.6.12)
abbrev pub version_row_cmp : KeptSource → KeptSource → Ordering
version_row_cmp = on (λ row. row.version) version_cmp

-- whether a row is a package of this source that was built on the architecture
abbrev pub is_build_of : List ℕ → KeptBinary → Bool
is_build_of name row = bytes_eq name row.source && row.own

-- what a row says was built: the source version, and the number of the binary-only rebuild
abbrev pub build_of : KeptBinary → Built
build_of row = record { version = row.source_version; number = row.number }

-- rows of Packages are compared as builds are: by their source versions, then by their numbers
abbrev pub build_cmp : KeptBinary → KeptBinary → Ordering
build_cmp = on build_of built_cmp

-- the latest build of a source package, and of equal ones the first
unfoldable pub built_in : List KeptBinary → List ℕ → Option Built
built_in rows name = best_from built_cmp None (map build_of (filter (is_build_of name) rows))

-- in which versions a name is available, in their order; none where it is provided without one
unfoldable pub versions_in : List KeptBinary → List ℕ → List Offer
versions_in rows name = map (λ row. row.version) (filter (λ row. bytes_eq name row.name) rows)

-- every name, with its version or without one
unfoldable pub available_in : List KeptBinary → Pairs
available_in rows = fold (λ pairs row. with_pair pairs row.name row.version) no_pairs rows

-- the listing of what is kept
unfoldable pub listing_of_kept : ArchWords → List KeptSource → List KeptBinary → ArchiveListing
listing_of_kept arch sources binaries = record {
  listed = map_at (listed_in arch sources) (map (λ row. row.name) sources);
  built = map_at (built_in binaries) (map (λ row. row.source) binaries);
  available = available_in binaries;
}

-- the listing of what is kept of two lists, or the first refusal if a list was refused
abbrev pub listing_kept : ArchWords → Result (List KeptSource) Refusal → Result (List KeptBinary) Refusal → Result ArchiveListing Refusal
listing_kept arch (Err refusal) binaries = Err refusal
listing_kept arch (Ok sources) (Err refusal) = Err refusal
listing_kept arch (Ok sources) (Ok binaries) = Ok (listing_of_kept arch sources binaries)

-- ---- the record after a merge

-- the record of a source package after a merge of these rows, from the one that it had, by whether the waits of that are met
unfoldable pub record_found : ArchWords → Option Record → List ℕ → List KeptSource → List KeptBinary → Bool → Option Record
record_found arch current name sources binaries is_met =
    record_given current (listed_in arch sources name) (built_in binaries name) is_met
