-- What the archive lists for an architecture: each source package, what was built of it, and what is available.
use Rattle.std.specs.Prelude.{◌≡◌, ◌≢◌, ℕ, Bool, true, not, ◌&&◌, ◌||◌, nat_lt, List, [], ◌∷◌, ◌++◌, length, filter, map, codes, bytes_eq, Option, Some, None, unwrap_or, Result, Ok, Err, if◌then◌else◌}
use Rattle.std.specs.List.{list_any, filter_map, flat_map, fold, AllByRecursion}
use Rattle.std.specs.Option.{option_map}
use Rattle.std.specs.declared.cmp.Ordering.{Ordering}
use Rattle.std.specs.declared.cmp.Ordering.TheVariants.{Less, Greater}
use Rattle.std.specs.Ordering.{nat_cmp, on, then_cmp, is_gt}
use Rattle.std.specs.FinMap as finite
use Rattle.deb_version.specs.Order.{version_cmp}
use Rattle.deb_relations.specs.declared.arch.ArchWords.{ArchWords}
use Rattle.deb_relations.specs.declared.fault.RelationFault.{RelationFault}
use Rattle.deb_relations.specs.declared.provided.Provided.{Provided}
use Rattle.deb_relations.specs.declared.relations.Alternative.{Alternative}
use Rattle.deb_text.specs.Text.{text_cmp, is_empty_text}
use Rattle.deb_relations.specs.Arch.{arch_matches}
use Rattle.deb_relations.specs.Provided.{named_offer, provided_in}
use Rattle.deb_relations.specs.Reading.{reading_of}
use Rattle.deb_relations.specs.Satisfaction.{Offer, Pairs, no_pairs, with_pair}
use Rattle.wb_states.specs.declared.refusal.Refusal.{Refusal}
use Rattle.wb_states.specs.Limits.{relations_limit}
use Rattle.wb_states.specs.Moves.{waits_for}
use Rattle.wb_merge.specs.declared.listing.Listed.{Listed}
use Rattle.wb_merge.specs.declared.listing.Built.{Built}
use Rattle.wb_merge.specs.Rows.{SourceParagraph, BinaryParagraph, source_rows, binary_rows}

-- ---- the greatest of some, the first of equals

-- an item of a list that is greater than all before it, and not less than any after it
pub record IsFirstGreatest {X : Type 0} (R : X → X → Ordering) (items : List X) (item : X) : Type 0 where
  pub before : List X
  pub behind : List X
  pub stands : items ≡ before ++ item ∷ behind
  pub greater : AllByRecursion (λ other. R other item ≡ Less) before
  pub not_less : AllByRecursion (λ other. R other item ≢ Greater) behind

-- the first greatest of a list, or none if the list has no item
abbrev pub IsGreatest : {X : Type 0} → (X → X → Ordering) → List X → Option X → Type 0
IsGreatest R items None = items ≡ []
IsGreatest R items (Some item) = IsFirstGreatest R items item

-- whether the next is better than the best so far: it is greater, or the first
abbrev pub is_better : {X : Type 0} → (X → X → Ordering) → Option X → X → Bool
is_better R None next = true
is_better R (Some best) next = is_gt (R next best)

-- the better of the best so far and the next: the next only if it is greater
abbrev pub better : {X : Type 0} → (X → X → Ordering) → Option X → X → X
better R best next = if is_better R best next then next else unwrap_or best next

-- the best of those so far and of a list
abbrev pub best_from : {X : Type 0} → (X → X → Ordering) → Option X → List X → Option X
best_from R = fold (λ best item. Some (better R best item))

-- ---- source packages

-- two texts in one, with a comma between them if neither is empty
abbrev pub joined : List ℕ → List ℕ → List ℕ
joined first second =
    if is_empty_text first then second else (if is_empty_text second then first else first ++ codes ", " ++ second)

-- relations that were read, reduced for the architecture and printed
abbrev printed_of : ArchWords → Result (List (List Alternative)) RelationFault → Option (List ℕ)
printed_of arch (Err fault) = None
printed_of arch (Ok relations) = Some (waits_for relations arch)

-- relations reduced for the architecture and printed, if the text has a reading
unfoldable pub printed_for : ArchWords → List ℕ → Option (List ℕ)
printed_for arch text = printed_of arch (reading_of text)

-- a text within the limit of relations (this project's own)
abbrev pub within_limit : List ℕ → Option (List ℕ)
within_limit text = if nat_lt relations_limit (length text) then None else Some text

-- two texts joined, if both are there and the whole is within the limit of relations
abbrev pub both_joined : Option (List ℕ) → Option (List ℕ) → Option (List ℕ)
both_joined None second = None
both_joined (Some first) None = None
both_joined (Some first) (Some second) = within_limit (joined first second)

-- what a source package needs to be built on the architecture, or none if that cannot be read: Build-Depends and Build-Depends-Arch (Debian Policy 7.7; that only these two fields are read is this project's own)
unfoldable pub depends_of : ArchWords → SourceParagraph → Option (List ℕ)
depends_of arch row = both_joined (printed_for arch row.depends) (printed_for arch row.depends_arch)

-- what is listed of a source package by a row, if this is what it needs to be built
abbrev pub listed_with : Option (List ℕ) → SourceParagraph → Listed
listed_with depends row = record {
  version = row.version;
  priority = row.priority;
  section = row.section;
  depends = depends;
}

-- what is listed of a source package
abbrev pub listed_as : ArchWords → SourceParagraph → Listed
listed_as arch row = listed_with (depends_of arch row) row

-- whether a row lists its source package for the architecture (Debian Policy 5.6.8; that a source which is only kept for others is not listed is this project's own)
unfoldable pub is_listed : ArchWords → SourceParagraph → Bool
is_listed arch row = list_any (λ word. arch_matches word arch) row.archs && not row.is_extra

-- whether a row lists the source package of this name for the architecture (Debian Policy 5.6.8)
unfoldable pub is_candidate : ArchWords → List ℕ → SourceParagraph → Bool
is_candidate arch name row = bytes_eq name row.name && is_listed arch row

-- the versions of what is listed are compared as versions are (Debian Policy 5.6.12)
abbrev pub listed_cmp : Listed → Listed → Ordering
listed_cmp = on (λ listed. listed.version) version_cmp

-- what rows list of a source package, in their order
unfoldable pub candidates : ArchWords → List SourceParagraph → List ℕ → List Listed
candidates arch rows name = map (listed_as arch) (filter (is_candidate arch name) rows)

-- what is listed of a source package: the greatest version, and of equal ones the first
unfoldable pub listed_of : ArchWords → List SourceParagraph → List ℕ → Option Listed
listed_of arch rows name = best_from listed_cmp None (candidates arch rows name)

-- ---- binary packages

-- whether a row is a package of this source that was built on the architecture
unfoldable pub is_built_from : ArchWords → List ℕ → BinaryParagraph → Bool
is_built_from arch name row = bytes_eq name row.source && bytes_eq arch.name row.arch

-- what a row says was built: the source version, and the number of the binary-only rebuild
abbrev pub built_as : BinaryParagraph → Built
built_as row = record { version = row.source_version; number = row.number }

-- builds are compared by their source versions, then by their numbers
abbrev pub built_cmp : Built → Built → Ordering
built_cmp = then_cmp (on (λ built. built.version) version_cmp) (on (λ built. built.number) nat_cmp)

-- the builds of a source package, in their order
unfoldable pub builds : ArchWords → List BinaryParagraph → List ℕ → List Built
builds arch rows name = map built_as (filter (is_built_from arch name) rows)

-- the latest build of a source package, and of equal ones the first
unfoldable pub built_of : ArchWords → List BinaryParagraph → List ℕ → Option Built
built_of arch rows name = best_from built_cmp None (builds arch rows name)

-- whether a row is a package that can be installed on the architecture (Debian Policy 5.6.8)
unfoldable pub is_installable_on : ArchWords → BinaryParagraph → Bool
is_installable_on arch row = bytes_eq row.arch arch.name || bytes_eq row.arch (codes "all")

-- what a package offers: its own name in its version, and each name that it provides (Debian Policy 7.5)
abbrev pub offers_of : BinaryParagraph → List Provided
offers_of row = named_offer row.name (Some row.version) ∷ provided_in row.provides

-- what the packages offer that can be installed on the architecture, in their order
unfoldable pub offers_on : ArchWords → List BinaryParagraph → List Provided
offers_on arch rows = flat_map offers_of (filter (is_installable_on arch) rows)

-- what is available, with an offer more
abbrev pub with_offer : Pairs → Provided → Pairs
with_offer pairs offer = with_pair pairs offer.name offer.version

-- every name that is offered on the architecture, with its version or without one (Debian Policy 7.5)
unfoldable pub available_of : ArchWords → List BinaryParagraph → Pairs
available_of arch rows = fold with_offer no_pairs (offers_on arch rows)

-- in which versions a name is offered on the architecture, in their order; none where it is offered without one
abbrev pub installable_versions : ArchWords → List BinaryParagraph → List ℕ → List Offer
installable_versions arch rows name =
    map (λ offer. offer.version) (filter (λ offer. bytes_eq name offer.name) (offers_on arch rows))

-- ---- the listing

-- what the archive lists for an architecture, by the names of source packages
pub record ArchiveListing : Type 0 where
  pub listed : finite.FinMap text_cmp Listed
  pub built : finite.FinMap text_cmp Built
  pub available : Pairs

-- a key with the value that a function gives at it, if it gives one
abbrev pub with_value : {K X : Type 0} → (K → Option X) → K → Option (K × X)
with_value f key = option_map (λ value. (key, value)) (f key)

-- the map that a function gives at these keys, and nothing elsewhere
unfoldable pub map_at : {K X : Type 0} {R : K → K → Ordering} → (K → Option X) → List K → finite.FinMap R X
map_at f keys = finite.from_entries (filter_map (with_value f) keys)

-- the listing of rows
unfoldable pub listing_of_rows : ArchWords → List SourceParagraph → List BinaryParagraph → ArchiveListing
listing_of_rows arch sources packages = record {
  listed = map_at (listed_of arch sources) (map (λ row. row.name) sources);
  built = map_at (built_of arch packages) (map (λ row. row.source) packages);
  available = available_of arch packages;
}

-- the listing of the rows of two lists, or the first refusal if a list was refused
abbrev pub listing_in : ArchWords → Result (List SourceParagraph) Refusal → Result (List BinaryParagraph) Refusal → Result ArchiveListing Refusal
listing_in arch (Err refusal) packages = Err refusal
listing_in arch (Ok sources) (Err refusal) = Err refusal
listing_in arch (Ok sources) (Ok packages) = Ok (listing_of_rows arch sources packages)

-- the listing of two lists, or the refusal for a fault of the Sources list, then of the Packages list (that an architecture has one Packages list is this project's own)
unfoldable pub listing_of : List ℕ → List ℕ → ArchWords → Result ArchiveListing Refusal
listing_of sources packages arch = listing_in arch (source_rows sources) (binary_rows packages)
