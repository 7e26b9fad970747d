-- What the archive lists for an architecture has its forms.
use Rattle.std.proofs.Common.{◌≡◌, ℕ, ◌≤◌, Bool, true, false, cond, ◌||◌, nat_lt, List, [], ◌∷◌, ◌++◌, length, filter, map, bytes_eq, Option, Some, None, Result, Ok, Err, IsOk, IsTrue, IfSome, refl, sym, subst, arith}
use Rattle.std.specs.Prelude.{codes}
use Rattle.std.specs.List.{list_any, AllByRecursion}
use Rattle.std.specs.Str.{IsUtf8}
use Rattle.std.specs.declared.cmp.Ordering.{Ordering}
use Rattle.std.specs.Ordering.{eq_by_cmp, is_gt}
use Rattle.std.specs.FinMap as finite
use Rattle.std.proofs.lemmas.Bool.Decides.{nat_tests}
use Rattle.std.proofs.lemmas.Slice.Eq.{bytes_eq-Decides}
use Rattle.std.proofs.lemmas.Str.{IsUtf8-append, IsUtf8-from_ascii}
use Rattle.std.proofs.lemmas.Str.Ascii.{IsAscii-nil, IsAscii-cons}
use Rattle.std.proofs.lemmas.Bool.{and_parts}
use Rattle.deb_version.specs.Syntax.{reading_of}
use Rattle.deb_version.proofs.ReadingLemmas.{reading_of-ok}
use Rattle.deb_relations.specs.declared.arch.ArchWords.{ArchWords}
use Rattle.deb_relations.specs.declared.fault.RelationFault.{RelationFault}
use Rattle.deb_relations.specs.declared.relations.Alternative.{Alternative}
use Rattle.deb_relations.specs.Reading as relations
use Rattle.deb_text.specs.Text.{text_cmp, IsTextWithin, is_empty_text}
use Rattle.deb_relations.proofs.PrintedLemmas.{reduced-utf8, reading_of-reads}
use Rattle.wb_states.specs.declared.refusal.Refusal.{Refusal}
use Rattle.wb_states.specs.Limits.{rebuild_limit, relations_limit}
use Rattle.wb_states.specs.Moves.{waits_for}
use Rattle.deb_relations.specs.Names.{is_package_name}
use Rattle.wb_states.specs.Names.{is_label_text}
use Rattle.deb_text.proofs.KeyLemmas.{text_cmp_total, text_cmp-same}
use Rattle.wb_merge.specs.declared.listing.Listed.{Listed}
use Rattle.wb_merge.specs.declared.listing.Built.{Built}
use Rattle.wb_merge.specs.Rows.{SourceParagraph, BinaryParagraph, source_rows, binary_rows}
use Rattle.wb_merge.specs.Listing.{ArchiveListing, better, best_from, joined, printed_for, within_limit, both_joined, depends_of, listed_as, is_candidate, listed_cmp, candidates, listed_of, built_as, built_cmp, is_built_from, builds, built_of, map_at, listing_of_rows, listing_in, listing_of}
use Rattle.wb_merge.proofs.ListingLemmas.{map_at-get}
use Rattle.wb_merge.proofs.RowLemmas.{IsGoodSource, IsSmall, source_rows-good, binary_rows-small}

-- what is listed of a source package has its forms
pub record IsGoodListed (source : List ℕ) (listed : Listed) : Type 0 where
  pub name : IsTrue (is_package_name source)
  pub version : IsOk (reading_of listed.version)
  pub priority : IsTrue (is_empty_text listed.priority || is_label_text listed.priority)
  pub section : IsTrue (is_empty_text listed.section || is_label_text listed.section)
  pub depends : IfSome listed.depends (IsTextWithin relations_limit)

-- the number of what was built is that of a binary-only rebuild
abbrev pub IsSmallBuilt : Built → Type 0
IsSmallBuilt built = built.number ≤ rebuild_limit

-- a listing of which all has its forms
pub record IsGoodListing (listing : ArchiveListing) : Type 0 where
  pub listed : (source : List ℕ) → IfSome (finite.get listing.listed source) (IsGoodListed source)
  pub built : (source : List ℕ) → IfSome (finite.get listing.built source) IsSmallBuilt

-- ---- what is needed to build

IsPrinted : Option (List ℕ) → Type 0
IsPrinted text = IfSome text IsUtf8

printed-for : (arch : ArchWords) (text : List ℕ) → IsPrinted (printed_for arch text)
unfolding IsPrinted printed_for
printed-for arch text =
    elim (relations.reading_of text) as (λ (read : Result (List (List Alternative)) RelationFault). relations.reading_of text ≡ read → IfSome (printed_in read) IsUtf8) [
      | Ok groups ↦ λ is. reduced-utf8 text groups arch (reading_of-reads text groups is)
      | Err fault ↦ λ _. tt
    ] refl
  where
    printed_in : Result (List (List Alternative)) RelationFault → Option (List ℕ)
    printed_in (Err fault) = None
    printed_in (Ok groups) = Some (waits_for groups arch)

comma-utf8 : IsUtf8 (codes ", ")
comma-utf8 = IsUtf8-from_ascii (codes ", ") (IsAscii-cons 44 (32 ∷ []) (omega arith) (IsAscii-cons 32 [] (omega arith) IsAscii-nil))

joined-utf8 : (first second : List ℕ) → IsUtf8 first → IsUtf8 second → IsUtf8 (joined first second)
joined-utf8 first second one other =
    let whole : IsUtf8 (first ++ codes ", " ++ second) = IsUtf8-append (first ++ codes ", ") second (IsUtf8-append first (codes ", ") one comma-utf8) other in
    either (is_empty_text first) second _ other
    (either (is_empty_text second) first (first ++ codes ", " ++ second) one whole)
  where
    either : (test : Bool) (this that : List ℕ) → IsUtf8 this → IsUtf8 that → IsUtf8 (cond test this that)
    either true this that is other = is
    either false this that is other = other

within-limit : (text : List ℕ) → IsUtf8 text → IfSome (within_limit text) (IsTextWithin relations_limit)
within-limit text utf8 =
    elim (nat_lt relations_limit (length text)) as (λ long. nat_lt relations_limit (length text) ≡ long
    → IfSome (cond long None (Some text)) (IsTextWithin relations_limit)) [
      | true ↦ λ _. tt
      | false ↦ λ short. record { utf8 = utf8; within = grind (arith, nat_tests) }
    ] refl

both-joined : (first second : Option (List ℕ)) → IsPrinted first → IsPrinted second → IfSome (both_joined first second) (IsTextWithin relations_limit)
unfolding IsPrinted
both-joined None second one other = tt
both-joined (Some first) None one other = tt
both-joined (Some first) (Some second) one other = within-limit (joined first second) (joined-utf8 first second one other)

depends-well : (arch : ArchWords) (row : SourceParagraph) → IfSome (depends_of arch row) (IsTextWithin relations_limit)
unfolding depends_of
depends-well arch row = both-joined (printed_for arch row.depends) (printed_for arch row.depends_arch) (printed-for arch row.depends) (printed-for arch row.depends_arch)

-- ---- the best of some, and the map of them

best-has : {X : Type 0} (R : X → X → Ordering) (Q : X → Type 0) (best : Option X) (items : List X) → IfSome best Q → AllByRecursion Q items → IfSome (best_from R best items) Q
best-has R Q best [] has all = has
best-has {X} R Q best (item ∷ items) has all = best-has R Q (Some (better R best item)) items (one best has) all.1 where
  either : (test : Bool) (this that : X) → Q this → Q that → Q (cond test this that)
  either true this that is other = is
  either false this that is other = other

  one : (best : Option X) → IfSome best Q → Q (better R best item)
  one None has = all.0
  one (Some other) has = either (is_gt (R item other)) item other all.0 has

all-kept : {X Y : Type 0} (Q : Y → Type 0) (test : X → Bool) (make : X → Y) (items : List X) → AllByRecursion (λ x. test x ≡ true → Q (make x)) items
    → AllByRecursion Q (map make (filter test items))
all-kept Q test make [] all = tt
all-kept Q test make (x ∷ items) all =
    elim (test x) as (λ v. test x ≡ v → AllByRecursion Q (map make (cond v (x ∷ filter test items) (filter test items)))) [
      | true ↦ λ is. (all.0 is, all-kept Q test make items all.1)
      | false ↦ λ _. all-kept Q test make items all.1
    ] refl

every : {X : Type 0} (P Q : X → Type 0) → ((x : X) → P x → Q x) → (items : List X) → AllByRecursion P items → AllByRecursion Q items
every P Q f [] all = tt
every P Q f (x ∷ items) all = (f x all.0, every P Q f items all.1)

map_at-has : {X : Type 0} (f : List ℕ → Option X) (keys : List (List ℕ)) (Q : List ℕ → X → Type 0) → ((key : List ℕ) → IfSome (f key) (Q key))
    → (key : List ℕ) → IfSome (finite.get (map_at {R = text_cmp} f keys) key) (Q key)
map_at-has {X} f keys Q has key =
    rw (map_at-get text_cmp_total text_cmp-same f keys key) (at (list_any (eq_by_cmp text_cmp key) keys) (f key) (has key)) where
      at : (b : Bool) (found : Option X) → IfSome found (Q key) → IfSome (cond b found None) (Q key)
      at true found is = is
      at false found is = tt

-- ---- the listing

candidate-good : (arch : ArchWords) (name : List ℕ) (row : SourceParagraph) → IsGoodSource row → is_candidate arch name row ≡ true → IsGoodListed name (listed_as arch row)
unfolding is_candidate
candidate-good arch name row good is =
    let same : name ≡ row.name = (bytes_eq-Decides name row.name).0 (and_parts (bytes_eq name row.name) _ is).0 in
    record {
      name = subst (λ n. IsTrue (is_package_name n)) (sym same) good.name;
      version = reading_of-ok row.version good.version;
      priority = good.priority;
      section = good.section;
      depends = depends-well arch row;
    }

listed-good : (arch : ArchWords) (rows : List SourceParagraph) → AllByRecursion IsGoodSource rows → (name : List ℕ) → IfSome (listed_of arch rows name) (IsGoodListed name)
unfolding listed_of candidates
listed-good arch rows good name =
    best-has listed_cmp (IsGoodListed name) None (map (listed_as arch) (filter (is_candidate arch name) rows)) tt
    (all-kept (IsGoodListed name) (is_candidate arch name) (listed_as arch) rows
    (every IsGoodSource (λ row. is_candidate arch name row ≡ true → IsGoodListed name (listed_as arch row)) (candidate-good arch name) rows good))

built-small : (arch : ArchWords) (rows : List BinaryParagraph) → AllByRecursion IsSmall rows → (name : List ℕ) → IfSome (built_of arch rows name) IsSmallBuilt
unfolding built_of builds
built-small arch rows small name =
    best-has built_cmp IsSmallBuilt None (map built_as (filter (is_built_from arch name) rows)) tt
    (all-kept IsSmallBuilt (is_built_from arch name) built_as rows
    (every IsSmall (λ row. is_built_from arch name row ≡ true → IsSmallBuilt (built_as row)) (λ row small _. small) rows small))

lists-good : (arch : ArchWords) (sources : List SourceParagraph) (packages : List BinaryParagraph) → AllByRecursion IsGoodSource sources → AllByRecursion IsSmall packages
    → IsGoodListing (listing_of_rows arch sources packages)
unfolding listing_of_rows
lists-good arch sources packages good small = record {
  listed = map_at-has (listed_of arch sources) (map (λ row. row.name) sources) IsGoodListed (listed-good arch sources good);
  built = map_at-has (built_of arch packages) (map (λ row. row.source) packages) (λ _. IsSmallBuilt) (built-small arch packages small);
}

listing_in-good : (arch : ArchWords) (sources : Result (List SourceParagraph) Refusal) (packages : Result (List BinaryParagraph) Refusal) (listing : ArchiveListing)
    → ((rows : List SourceParagraph) → sources ≡ Ok rows → AllByRecursion IsGoodSource rows)
    → ((rows : List BinaryParagraph) → packages ≡ Ok rows → AllByRecursion IsSmall rows)
    → listing_in arch sources packages ≡ Ok listing → IsGoodListing listing
listing_in-good arch (Err refusal) packages listing good small is = cc
listing_in-good arch (Ok sources) (Err refusal) listing good small is = cc
listing_in-good arch (Ok sources) (Ok packages) listing good small is =
    subst IsGoodListing (only (listing_of_rows arch sources packages) is) (lists-good arch sources packages (good sources refl) (small packages refl)) where
      only : (made : ArchiveListing) → ◌≡◌ {A = Result ArchiveListing Refusal} (Ok made) (Ok listing) → made ≡ listing
      only made e = cc

pub listing_of-good : (sources packages : List ℕ) (arch : ArchWords) (listing : ArchiveListing) → listing_of sources packages arch ≡ Ok listing → IsGoodListing listing
unfolding listing_of
listing_of-good sources packages arch listing is =
    listing_in-good arch (source_rows sources) (binary_rows packages) listing (source_rows-good sources) (binary_rows-small packages) is
