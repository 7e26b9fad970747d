-- What a merge keeps of the archive's lists has their listing, and rows that are not asked for change nothing.
use Rattle.std.proofs.Common.{◌≡◌, ℕ, ◌+◌, Bool, true, false, cond, ◌&&◌, List, [], ◌∷◌, ◌++◌, map, filter, bytes_eq, Option, Some, None, Result, Ok, Err, refl, sym, ap, ap₂, ◌∙◌}
use Rattle.std.specs.List.{flat_map, fold}
use Rattle.std.specs.Option.{option_map}
use Rattle.std.specs.Result.{result_map_both}
use Rattle.std.specs.declared.cmp.Ordering.{Ordering}
use Rattle.std.specs.Ordering.{is_gt, on}
use Rattle.std.specs.FinMap as finite
use Rattle.std.proofs.lemmas.Simd.{map-map}
use Rattle.deb_control.specs.declared.fault.ControlFaultKind.{ControlFaultKind}
use Rattle.deb_control.specs.Lines.{lines_of, paragraphs_in}
use Rattle.deb_control.specs.Fields.{FieldText, reading_of}
use Rattle.deb_relations.specs.declared.arch.ArchWords.{ArchWords}
use Rattle.deb_relations.specs.declared.provided.Provided.{Provided}
use Rattle.deb_relations.specs.Provided.{provided_in}
use Rattle.deb_relations.specs.Satisfaction.{Offer, Pairs, no_pairs, versions_of, with_pair}
use Rattle.deb_text.specs.Options.{ok_unless}
use Rattle.deb_text.specs.Text.{text_cmp}
use Rattle.deb_text.proofs.KeyLemmas.{text_cmp_total, text_cmp-same}
use Rattle.wb_states.specs.declared.refusal.Refusal.{Refusal}
use Rattle.wb_states.specs.declared.refusal.Refusal.TheVariants.{BadListing}
use Rattle.wb_states.specs.declared.refusal.ListKind.TheVariants.{Sources, Packages}
use Rattle.wb_states.specs.declared.refusal.ListingFault.{ListingFault}
use Rattle.wb_states.specs.declared.scratch.SourceRow.{SourceRow as KeptSource}
use Rattle.wb_states.specs.declared.scratch.BinaryRow.{BinaryRow as KeptBinary}
use Rattle.wb_merge.specs.Rows.{SourceParagraph, BinaryParagraph, source_fault, source_row, source_row_of}
use Rattle.wb_merge.specs.Rows.{binary_row_of, of_fields, refused_at, onto_rows, rows_behind, source_paragraph}
use Rattle.wb_merge.specs.Rows.{binary_paragraph, source_rows, binary_rows}
use Rattle.wb_merge.specs.Listing.{ArchiveListing, best_from, better, built_as, built_cmp, built_of, builds, candidates, is_built_from, is_candidate, is_installable_on, is_listed, offers_of, offers_on, with_offer, available_of, listed_as, listed_cmp, listed_of, listing_in, listing_of, listing_of_rows, map_at}
use Rattle.wb_merge.specs.Scratch.{source_columns, source_row_at, binary_columns, binary_rows_at, is_binary_wanted, joined_rows, kept_of, kept_reading, kept_behind, provided_columns, kept_sources, kept_binaries, row_of_kept, listed_in, version_row_cmp, is_build_of, build_of, build_cmp, built_in, versions_in, available_in, listing_of_kept, listing_kept}
use Rattle.wb_merge.proofs.AvailableLemmas.{more-of, none-yet}
use Rattle.wb_merge.proofs.FoldLemmas.{map-get}
use Rattle.wb_merge.proofs.NameLemmas.{bytes_eq-turned}

-- ---- filters, and the best of a list

pub filter-weaker : {X : Type 0} (p q : X → Bool) → ((x : X) → p x ≡ true → q x ≡ true) → (xs : List X)
    → filter p (filter q xs) ≡ filter p xs
filter-weaker p q implies [] = refl
filter-weaker {X} p q implies (x ∷ xs) = go (p x) (q x) refl refl (filter-weaker p q implies xs)
  where
    go : (a b : Bool) → p x ≡ a → q x ≡ b → filter p (filter q xs) ≡ filter p xs
        → filter p (cond b (x ∷ filter q xs) (filter q xs)) ≡ cond a (x ∷ filter p xs) (filter p xs)
    go true true pa qb more = rw pa (ap (λ l. x ∷ l) more)
    go true false pa qb more = absurd (cc (rw (implies x pa) at qb))
    go false true pa qb more = rw pa more
    go false false pa qb more = more

filter-map : {X Y : Type 0} (p : Y → Bool) (f : X → Y) (xs : List X)
    → filter p (map f xs) ≡ map f (filter (λ x. p (f x)) xs)
filter-map p f [] = refl
filter-map {X} {Y} p f (x ∷ xs) = go (p (f x)) (filter-map p f xs)
  where
    go : (b : Bool) → filter p (map f xs) ≡ map f (filter (λ y. p (f y)) xs)
        → cond b (f x ∷ filter p (map f xs)) (filter p (map f xs))
        ≡ map f (cond b (x ∷ filter (λ y. p (f y)) xs) (filter (λ y. p (f y)) xs))
    go true more = ap (λ l. f x ∷ l) more
    go false more = more

module _ {X Y : Type 0} (f : X → Y) (R : Y → Y → Ordering) where
  better-map : (best : Option X) (next : X) → better R (option_map f best) (f next) ≡ f (better (on f R) best next)
  better-map None next = refl
  better-map (Some best) next = elim (is_gt (R (f next) (f best))) as (λ b. cond b (f next) (f best) ≡ f (cond b next best)) [ true ↦ refl | false ↦ refl ]

  -- the best of what items give is what the best item gives
  best_from-map : (best : Option X) (xs : List X)
      → best_from R (option_map f best) (map f xs) ≡ option_map f (best_from (on f R) best xs)
  best_from-map best [] = refl
  best_from-map best (x ∷ xs) =
      ap (λ y. best_from R (Some y) (map f xs)) (better-map best x) ∙ best_from-map (Some (better (on f R) best x)) xs

-- ---- what is listed and built, by the best row

pub listed_in-latest : (arch : ArchWords) (rows : List KeptSource) (name : List ℕ)
    → option_map (λ row. listed_as arch (row_of_kept row)) (best_from version_row_cmp None (filter (λ row. is_candidate arch name (row_of_kept row)) rows))
    ≡ listed_in arch rows name
unfolding listed_in listed_of candidates
listed_in-latest arch rows name =
    sym (best_from-map (λ (row : KeptSource). listed_as arch (row_of_kept row)) listed_cmp None (filter (λ row. is_candidate arch name (row_of_kept row)) rows))
    ∙ ap (best_from listed_cmp None) (sym (map-map (listed_as arch) row_of_kept (filter (λ row. is_candidate arch name (row_of_kept row)) rows)))
    ∙ ap (λ l. best_from listed_cmp None (map (listed_as arch) l)) (sym (filter-map (is_candidate arch name) row_of_kept rows))

pub listed_in-by : (arch : ArchWords) (rows : List KeptSource) (name : List ℕ) (best : Option KeptSource)
    → best ≡ best_from version_row_cmp None (filter (λ row. is_candidate arch name (row_of_kept row)) rows)
    → option_map (λ row. listed_as arch (row_of_kept row)) best ≡ listed_in arch rows name
listed_in-by arch rows name best is = ap (option_map (λ row. listed_as arch (row_of_kept row))) is ∙ listed_in-latest arch rows name

pub built_in-by : (rows : List KeptBinary) (name : List ℕ) (best : Option KeptBinary)
    → best ≡ best_from build_cmp None (filter (is_build_of name) rows) → option_map build_of best ≡ built_in rows name
unfolding built_in
built_in-by rows name best is =
    ap (option_map build_of) is ∙ sym (best_from-map build_of built_cmp None (filter (is_build_of name) rows))

-- ---- rows that are left out

pub listed_in-filter : (arch : ArchWords) (keep : KeptSource → Bool) (rows : List KeptSource) (name : List ℕ)
    → ((row : KeptSource) → is_candidate arch name (row_of_kept row) ≡ true → keep row ≡ true)
    → listed_in arch (filter keep rows) name ≡ listed_in arch rows name
listed_in-filter arch keep rows name kept =
    sym (listed_in-latest arch (filter keep rows) name)
    ∙ ap (λ l. option_map (λ row. listed_as arch (row_of_kept row)) (best_from version_row_cmp None l)) (filter-weaker (λ row. is_candidate arch name (row_of_kept row)) keep kept rows)
    ∙ listed_in-latest arch rows name

pub built_in-filter : (keep : KeptBinary → Bool) (rows : List KeptBinary) (name : List ℕ)
    → ((row : KeptBinary) → is_build_of name row ≡ true → keep row ≡ true)
    → built_in (filter keep rows) name ≡ built_in rows name
unfolding built_in
built_in-filter keep rows name kept = ap (λ l. best_from built_cmp None (map build_of l)) (filter-weaker (is_build_of name) keep kept rows)

pub versions_in-filter : (keep : KeptBinary → Bool) (rows : List KeptBinary) (name : List ℕ)
    → ((row : KeptBinary) → bytes_eq name row.name ≡ true → keep row ≡ true)
    → versions_in (filter keep rows) name ≡ versions_in rows name
unfolding versions_in
versions_in-filter keep rows name kept = ap (map (λ (row : KeptBinary). row.version)) (filter-weaker (λ row. bytes_eq name row.name) keep kept rows)

-- ---- what can matter of a row

-- of the names that a package provides those that are wanted
provided-wanted : (wanted : List ℕ → Bool) (at : ℕ) (row : BinaryParagraph) (given : List Provided)
    → map (provided_columns at row) (filter (λ one. wanted one.name) given)
    ≡ filter (is_binary_wanted wanted) (map (provided_columns at row) given)
provided-wanted wanted at row given = sym (filter-map (is_binary_wanted wanted) (provided_columns at row) given)

pub installed-wanted : (arch : ArchWords) (wanted : List ℕ → Bool) (at : ℕ) (row : BinaryParagraph) (given : List Provided)
    → is_installable_on arch row ≡ true → given ≡ filter (λ one. wanted one.name) (provided_in row.provides)
    → filter (is_binary_wanted wanted) (binary_columns arch at row ∷ []) ++ map (provided_columns at row) given
    ≡ filter (is_binary_wanted wanted) (kept_of arch at row)
unfolding kept_of
installed-wanted arch wanted at row given there is =
    ap (λ (l : List KeptBinary). filter (is_binary_wanted wanted) (binary_columns arch at row ∷ []) ++ l)
    (ap (map (provided_columns at row)) is ∙ provided-wanted wanted at row (provided_in row.provides))
    ∙ by (is_binary_wanted wanted (binary_columns arch at row))
    ∙ ap (λ b. filter (is_binary_wanted wanted) (cond b (binary_columns arch at row ∷ map (provided_columns at row) (provided_in row.provides)) [])) (sym there)
  where
    rest : List KeptBinary
    rest = filter (is_binary_wanted wanted) (map (provided_columns at row) (provided_in row.provides))

    by : (b : Bool) → cond b (binary_columns arch at row ∷ []) [] ++ rest ≡ cond b (binary_columns arch at row ∷ rest) rest
    by true = refl
    by false = refl

pub other-wanted : (arch : ArchWords) (wanted : List ℕ → Bool) (at : ℕ) (row : BinaryParagraph)
    → is_installable_on arch row ≡ false → [] ≡ filter (is_binary_wanted wanted) (kept_of arch at row)
unfolding kept_of
other-wanted arch wanted at row other = rw other refl

-- ---- what is kept of paragraphs

with-fault : (number : ℕ) (fault : Option ListingFault) (fields : List FieldText)
    → refused_at Sources number (ok_unless fault (source_row fields))
    ≡ result_map_both row_of_kept (λ refusal. refusal) (result_map_both (λ row. row) (BadListing Sources number) (ok_unless fault (source_columns number fields)))
with-fault number None fields = refl
with-fault number (Some fault) fields = refl

one-source : (number : ℕ) (reading : Result (List FieldText) ControlFaultKind)
    → refused_at Sources number (of_fields source_row_of reading)
    ≡ result_map_both row_of_kept (λ refusal. refusal) (kept_reading Sources number (source_row_at number) reading)
unfolding source_row_of source_row_at
one-source number (Ok fields) = with-fault number (source_fault fields) fields
one-source number (Err kind) = refl

onto-map : {X Y : Type 0} (f : X → Y) (first : Result X Refusal) (behind : Result (List X) Refusal)
    → onto_rows (result_map_both f (λ refusal. refusal) first) (result_map_both (map f) (λ refusal. refusal) behind)
    ≡ result_map_both (map f) (λ refusal. refusal) (onto_rows first behind)
onto-map f (Err refusal) behind = refl
onto-map f (Ok row) (Err refusal) = refl
onto-map f (Ok row) (Ok rows) = refl

sources-behind : (passed : ℕ) (paragraphs : List (List (List ℕ)))
    → rows_behind source_paragraph Sources passed paragraphs
    ≡ result_map_both (map row_of_kept) (λ refusal. refusal) (kept_behind Sources source_row_at passed paragraphs)
sources-behind passed [] = refl
sources-behind passed (lines ∷ later) =
    ap₂ onto_rows (one-source (passed + 1) (reading_of lines)) (sources-behind (passed + 1) later)
    ∙ onto-map row_of_kept (kept_reading Sources (passed + 1) (source_row_at (passed + 1)) (reading_of lines)) (kept_behind Sources source_row_at (passed + 1) later)

pub source_rows-kept : (text : List ℕ)
    → source_rows text ≡ result_map_both (map row_of_kept) (λ refusal. refusal) (kept_sources text)
unfolding source_rows kept_sources
source_rows-kept text = sources-behind 0 (paragraphs_in (lines_of text))

-- what is kept of rows after so many others
abbrev kept_each : ArchWords → ℕ → List BinaryParagraph → List (List KeptBinary)
kept_each arch passed [] = []
kept_each arch passed (row ∷ rows) = kept_of arch (passed + 1) row ∷ kept_each arch (passed + 1) rows

one-binary : (arch : ArchWords) (number : ℕ) (reading : Result (List FieldText) ControlFaultKind)
    → kept_reading Packages number (binary_rows_at arch number) reading
    ≡ result_map_both (kept_of arch number) (λ refusal. refusal) (refused_at Packages number (of_fields binary_row_of reading))
unfolding binary_rows_at
one-binary arch number (Err kind) = refl
one-binary arch number (Ok fields) = both (binary_row_of fields)
  where
    both : (row : Result BinaryParagraph ListingFault)
        → result_map_both (kept_of arch number) (BadListing Packages number) row
        ≡ result_map_both (kept_of arch number) (λ refusal. refusal) (refused_at Packages number row)
    both (Ok row) = refl
    both (Err fault) = refl

onto-kept : (arch : ArchWords) (passed : ℕ) (first : Result BinaryParagraph Refusal) (behind : Result (List BinaryParagraph) Refusal)
    → onto_rows (result_map_both (kept_of arch (passed + 1)) (λ refusal. refusal) first) (result_map_both (kept_each arch (passed + 1)) (λ refusal. refusal) behind)
    ≡ result_map_both (kept_each arch passed) (λ refusal. refusal) (onto_rows first behind)
onto-kept arch passed (Err refusal) behind = refl
onto-kept arch passed (Ok row) (Err refusal) = refl
onto-kept arch passed (Ok row) (Ok rows) = refl

binaries-behind : (arch : ArchWords) (passed : ℕ) (paragraphs : List (List (List ℕ)))
    → kept_behind Packages (binary_rows_at arch) passed paragraphs
    ≡ result_map_both (kept_each arch passed) (λ refusal. refusal) (rows_behind binary_paragraph Packages passed paragraphs)
binaries-behind arch passed [] = refl
binaries-behind arch passed (lines ∷ later) =
    ap₂ onto_rows (one-binary arch (passed + 1) (reading_of lines)) (binaries-behind arch (passed + 1) later)
    ∙ onto-kept arch passed (refused_at Packages (passed + 1) (binary_paragraph lines)) (rows_behind binary_paragraph Packages (passed + 1) later)

map-twice : (arch : ArchWords) (rows : Result (List BinaryParagraph) Refusal)
    → result_map_both joined_rows (λ refusal. refusal) (result_map_both (kept_each arch 0) (λ refusal. refusal) rows)
    ≡ result_map_both (λ rows. joined_rows (kept_each arch 0 rows)) (λ refusal. refusal) rows
map-twice arch (Ok rows) = refl
map-twice arch (Err refusal) = refl

kept_binaries-rows : (arch : ArchWords) (text : List ℕ)
    → kept_binaries arch text
    ≡ result_map_both (λ rows. joined_rows (kept_each arch 0 rows)) (λ refusal. refusal) (binary_rows text)
unfolding kept_binaries binary_rows
kept_binaries-rows arch text =
    ap (result_map_both joined_rows (λ refusal. refusal)) (binaries-behind arch 0 (paragraphs_in (lines_of text)))
    ∙ map-twice arch (rows_behind binary_paragraph Packages 0 (paragraphs_in (lines_of text)))

-- ---- the listing of what is kept

own-installable : (arch : ArchWords) (row : BinaryParagraph) → bytes_eq arch.name row.arch ≡ true
    → is_installable_on arch row ≡ true
unfolding is_installable_on
own-installable arch row e = rw (bytes_eq-turned row.arch arch.name ∙ e) refl

-- no row of a name that is provided is of a build
none-built : (named : Bool) → (named && false) ≡ false
none-built true = refl
none-built false = refl

provided-builds : (name : List ℕ) (at : ℕ) (row : BinaryParagraph) (given : List Provided) (rest : List KeptBinary)
    → filter (is_build_of name) (map (provided_columns at row) given ++ rest) ≡ filter (is_build_of name) rest
provided-builds name at row [] rest = refl
provided-builds name at row (one ∷ given) rest =
    let others = filter (is_build_of name) (map (provided_columns at row) given ++ rest) in
    ap (λ b. cond b (provided_columns at row one ∷ others) others) (none-built (bytes_eq name []))
    ∙ provided-builds name at row given rest

builds-kept : (arch : ArchWords) (passed : ℕ) (rows : List BinaryParagraph) (name : List ℕ)
    → map built_as (filter (is_built_from arch name) rows)
    ≡ map build_of (filter (is_build_of name) (joined_rows (kept_each arch passed rows)))
unfolding is_built_from kept_of
builds-kept arch passed [] name = refl
builds-kept arch passed (row ∷ rows) name =
    go (bytes_eq name row.source) (bytes_eq arch.name row.arch) (is_installable_on arch row) refl refl (own-installable arch row) (builds-kept arch (passed + 1) rows name)
  where
    ours : List BinaryParagraph
    ours = filter (is_built_from arch name) rows

    kept : List KeptBinary
    kept = joined_rows (kept_each arch (passed + 1) rows)

    given : List KeptBinary
    given = map (provided_columns (passed + 1) row) (provided_in row.provides)

    later : map build_of (filter (is_build_of name) (given ++ kept)) ≡ map build_of (filter (is_build_of name) kept)
    later = ap (map build_of) (provided-builds name (passed + 1) row (provided_in row.provides) kept)

    go : (named own there : Bool) → bytes_eq name row.source ≡ named → bytes_eq arch.name row.arch ≡ own
        → (bytes_eq arch.name row.arch ≡ true → there ≡ true)
        → map built_as (filter (is_built_from arch name) rows)
        ≡ map build_of (filter (is_build_of name) (joined_rows (kept_each arch (passed + 1) rows)))
        → map built_as (cond (named && own) (row ∷ filter (is_built_from arch name) rows) (filter (is_built_from arch name) rows))
        ≡ map build_of (filter (is_build_of name) (cond there (binary_columns arch (passed + 1) row ∷ given) [] ++ kept))
    go true true true n o is more = rw (n, o) (ap (λ l. built_as row ∷ l) (more ∙ sym later))
    go true true false n o is more = absurd (cc (is o))
    go true false true n o is more = rw (n, o) (more ∙ sym later)
    go true false false n o is more = more
    go false own true n o is more = rw n (more ∙ sym later)
    go false own false n o is more = more

-- a row more among what is available
abbrev with_kept : Pairs → KeptBinary → Pairs
with_kept pairs row = with_pair pairs row.name row.version

provided-available : (at : ℕ) (row : BinaryParagraph) (given others : List Provided) (kept : List KeptBinary)
    → ((pairs : Pairs) → fold with_offer pairs others ≡ fold with_kept pairs kept)
    → (pairs : Pairs) → fold with_offer pairs (given ++ others) ≡ fold with_kept pairs (map (provided_columns at row) given ++ kept)
provided-available at row [] others kept later pairs = later pairs
provided-available at row (one ∷ given) others kept later pairs =
    provided-available at row given others kept later (with_offer pairs one)

available-kept : (arch : ArchWords) (passed : ℕ) (rows : List BinaryParagraph) (pairs : Pairs)
    → fold with_offer pairs (offers_on arch rows) ≡ fold with_kept pairs (joined_rows (kept_each arch passed rows))
unfolding offers_on kept_of
available-kept arch passed [] pairs = refl
available-kept arch passed (row ∷ rows) pairs = go (is_installable_on arch row) (available-kept arch (passed + 1) rows)
  where
    others : List BinaryParagraph
    others = filter (is_installable_on arch) rows

    kept : List KeptBinary
    kept = joined_rows (kept_each arch (passed + 1) rows)

    go : (there : Bool)
        → ((pairs : Pairs) → fold with_offer pairs (flat_map offers_of others) ≡ fold with_kept pairs kept)
        → fold with_offer pairs (flat_map offers_of (cond there (row ∷ others) others))
        ≡ fold with_kept pairs (cond there (binary_columns arch (passed + 1) row ∷ map (provided_columns (passed + 1) row) (provided_in row.provides)) [] ++ kept)
    go true later =
        provided-available (passed + 1) row (provided_in row.provides) (flat_map offers_of others) kept later
        (with_pair pairs row.name (Some row.version))
    go false later = later pairs

-- what the listing of what is kept has of a source package

pub listed-kept : (arch : ArchWords) (sources : List KeptSource) (binaries : List KeptBinary) (name : List ℕ)
    → finite.get (listing_of_kept arch sources binaries).listed name ≡ listed_in arch sources name
unfolding listing_of_kept listed_in listed_of candidates is_candidate
listed-kept arch sources binaries name =
    ap (λ keys. finite.get (map_at {R = text_cmp} (listed_of arch (map row_of_kept sources)) keys) name) (sym (map-map (λ (row : SourceParagraph). row.name) row_of_kept sources))
    ∙ map-get listed_cmp (is_listed arch) (λ (row : SourceParagraph). row.name) (listed_as arch) (map row_of_kept sources) name

built-there : (arch : ArchWords) (rows : List BinaryParagraph) (name : List ℕ)
    → finite.get (map_at {R = text_cmp} (built_of arch rows) (map (λ row. row.source) rows)) name
    ≡ built_of arch rows name
unfolding built_of builds is_built_from
built-there arch rows name = map-get built_cmp (λ (row : BinaryParagraph). bytes_eq arch.name row.arch) (λ row. row.source) built_as rows name

built-in-there : (rows : List KeptBinary) (name : List ℕ)
    → finite.get (map_at {R = text_cmp} (built_in rows) (map (λ row. row.source) rows)) name ≡ built_in rows name
unfolding built_in
built-in-there rows name = map-get built_cmp (λ (row : KeptBinary). row.own) (λ row. row.source) build_of rows name

pub built-kept : (arch : ArchWords) (sources : List KeptSource) (binaries : List KeptBinary) (name : List ℕ)
    → finite.get (listing_of_kept arch sources binaries).built name ≡ built_in binaries name
unfolding listing_of_kept
built-kept arch sources binaries name = built-in-there binaries name

pub versions-kept : (arch : ArchWords) (sources : List KeptSource) (binaries : List KeptBinary) (name : List ℕ)
    → versions_of (listing_of_kept arch sources binaries).available name ≡ versions_in binaries name
unfolding listing_of_kept available_in versions_in
versions-kept arch sources binaries name =
    more-of (λ (row : KeptBinary). row.name) (λ row. row.version) no_pairs name binaries
    ∙ ap (λ (xs : List Offer). xs ++ map (λ (row : KeptBinary). row.version) (filter (λ row. bytes_eq name row.name) binaries)) (none-yet name)

built_of-kept : (arch : ArchWords) (rows : List BinaryParagraph) (name : List ℕ)
    → built_of arch rows name ≡ built_in (joined_rows (kept_each arch 0 rows)) name
unfolding built_of builds built_in
built_of-kept arch rows name = ap (best_from built_cmp None) (builds-kept arch 0 rows name)

rows-kept : (arch : ArchWords) (sources : List KeptSource) (rows : List BinaryParagraph)
    → listing_of_rows arch (map row_of_kept sources) rows
    ≡ listing_of_kept arch sources (joined_rows (kept_each arch 0 rows))
unfolding listing_of_rows listing_of_kept listed_in available_of available_in
rows-kept arch sources rows =
    let built : map_at {R = text_cmp} (built_of arch rows) (map (λ row. row.source) rows)
    ≡ map_at (built_in (joined_rows (kept_each arch 0 rows))) (map (λ row. row.source) (joined_rows (kept_each arch 0 rows))) =
    finite.same_map text_cmp_total text_cmp-same _ _ (λ name.
    built-there arch rows name ∙ built_of-kept arch rows name ∙ sym (built-in-there (joined_rows (kept_each arch 0 rows)) name)) in
    let listed = ap (map_at {R = text_cmp} (listed_of arch (map row_of_kept sources))) (map-map (λ (row : SourceParagraph). row.name) row_of_kept sources) in
    let available = available-kept arch 0 rows no_pairs in
    λ i. record { listed = listed i; built = built i; available = available i }

in-kept : (arch : ArchWords) (sources : Result (List KeptSource) Refusal) (rows : Result (List BinaryParagraph) Refusal)
    → listing_in arch (result_map_both (map row_of_kept) (λ refusal. refusal) sources) rows
    ≡ listing_kept arch sources (result_map_both (λ rows. joined_rows (kept_each arch 0 rows)) (λ refusal. refusal) rows)
in-kept arch (Err refusal) rows = refl
in-kept arch (Ok sources) (Err refusal) = refl
in-kept arch (Ok sources) (Ok rows) = ap (λ (listing : ArchiveListing). Ok listing) (rows-kept arch sources rows)

pub listing_of-kept : (sources packages : List ℕ) (arch : ArchWords)
    → listing_of sources packages arch ≡ listing_kept arch (kept_sources sources) (kept_binaries arch packages)
unfolding listing_of
listing_of-kept sources packages arch =
    ap (λ rows. listing_in arch rows (binary_rows packages)) (source_rows-kept sources)
    ∙ in-kept arch (kept_sources sources) (binary_rows packages)
    ∙ ap (listing_kept arch (kept_sources sources)) (sym (kept_binaries-rows arch packages))
