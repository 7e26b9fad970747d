-- The listing that rows give which are offered one after another.
use Rattle.std.proofs.Common.{◌≡◌, ℕ, Bool, true, false, cond, None, bytes_eq, List, [], ◌∷◌, map, filter, Result, Ok, Err, refl, sym, ◌∙◌}
use Rattle.std.specs.List.{flat_map, fold}
use Rattle.std.specs.FinMap as finite
use Rattle.std.proofs.lemmas.Grind.{fold-append}
use Rattle.deb_relations.specs.declared.arch.ArchWords.{ArchWords}
use Rattle.deb_text.specs.Text.{text_cmp}
use Rattle.deb_relations.specs.Satisfaction.{Pairs, no_pairs}
use Rattle.wb_states.specs.declared.refusal.Refusal.{Refusal}
use Rattle.wb_merge.specs.declared.listing.Listed.{Listed}
use Rattle.wb_merge.specs.declared.listing.Built.{Built}
use Rattle.wb_merge.specs.Rows.{SourceParagraph, BinaryParagraph, source_rows, binary_rows}
use Rattle.wb_merge.specs.Listing.{map_at, listed_cmp, listed_as, is_candidate, candidates, listed_of, built_cmp, built_as, is_built_from, builds, built_of, is_installable_on, offers_of, offers_on, with_offer, available_of, listing_of_rows, best_from, listing_in, listing_of, is_listed}
use Rattle.wb_merge.specs.Offers.{after_rows, with_listed, with_build, with_package, with_binary}
use Rattle.wb_merge.proofs.FoldLemmas.{fold-map, map-get}

-- what is listed
sources-map : (arch : ArchWords) (rows : List SourceParagraph) → fold (with_listed arch) finite.empty rows ≡ map_at {R = text_cmp} (listed_of arch rows) (map (λ row. row.name) rows)
unfolding with_listed listed_of candidates is_candidate
sources-map arch rows = fold-map listed_cmp (is_listed arch) (λ row. row.name) (listed_as arch) rows

-- what is built
builds-map : (arch : ArchWords) (rows : List BinaryParagraph) → fold (with_build arch) finite.empty rows ≡ map_at {R = text_cmp} (built_of arch rows) (map (λ row. row.source) rows)
unfolding with_build built_of builds is_built_from
builds-map arch rows = fold-map built_cmp (λ row. bytes_eq arch.name row.arch) (λ row. row.source) built_as rows

-- what is available
one-package : (b : Bool) (pairs : Pairs) (row : BinaryParagraph) (rows : List BinaryParagraph)
    → fold with_offer (cond b (fold with_offer pairs (offers_of row)) pairs) (flat_map offers_of rows)
    ≡ fold with_offer pairs (flat_map offers_of (cond b (row ∷ rows) rows))
one-package true pairs row rows = sym (fold-append with_offer pairs (offers_of row) (flat_map offers_of rows))
one-package false pairs row rows = refl

packages-fold : (arch : ArchWords) (rows : List BinaryParagraph) (pairs : Pairs)
    → fold (with_package arch) pairs rows ≡ fold with_offer pairs (offers_on arch rows)
unfolding with_package offers_on
packages-fold arch [] pairs = refl
packages-fold arch (row ∷ rows) pairs =
    packages-fold arch rows (with_package arch pairs row) ∙ one-package (is_installable_on arch row) pairs row (filter (is_installable_on arch) rows)

both : (arch : ArchWords) (rows : List BinaryParagraph) (built : finite.FinMap text_cmp Built) (pairs : Pairs)
    → fold (with_binary arch) (built, pairs) rows ≡ (fold (with_build arch) built rows, fold (with_package arch) pairs rows)
both arch [] built pairs = refl
both arch (row ∷ rows) built pairs = both arch rows (with_build arch built row) (with_package arch pairs row)

-- both of Packages
found-is : (arch : ArchWords) (rows : List BinaryParagraph)
    → fold (with_binary arch) (finite.empty, no_pairs) rows ≡ (map_at {R = text_cmp} (built_of arch rows) (map (λ row. row.source) rows), available_of arch rows)
unfolding available_of
found-is arch rows =
    let built = builds-map arch rows in
    let available = packages-fold arch rows no_pairs in
    both arch rows finite.empty no_pairs ∙ (λ i. (built i, available i))

ok-same : {S : Type 0} (s t : S) (x : Result S Refusal) → x ≡ Ok s → x ≡ Ok t → s ≡ t
ok-same s t x e f = cc

not-ok : {S : Type 0} (r : Refusal) (s : S) → Err r ≡ Ok s → ⊥
not-ok r s e = cc

-- the listing of rows
lists-are : (arch : ArchWords) (sources : Result (List SourceParagraph) Refusal) (packages : Result (List BinaryParagraph) Refusal)
    (listed : finite.FinMap text_cmp Listed) (built : finite.FinMap text_cmp Built) (available : Pairs)
    → after_rows (with_listed arch) finite.empty sources ≡ Ok listed
    → after_rows (with_binary arch) (finite.empty, no_pairs) packages ≡ Ok (built, available)
    → listing_in arch sources packages ≡ Ok (record { listed = listed; built = built; available = available })
unfolding listing_of_rows
lists-are arch (Err refusal) packages listed built available s p = absurd (not-ok refusal listed s)
lists-are arch (Ok sources) (Err refusal) listed built available s p = absurd (not-ok refusal (built, available) p)
lists-are arch (Ok sources) (Ok packages) listed built available s p =
    let one = sym (sources-map arch sources) ∙ ok-same _ listed (after_rows (with_listed arch) finite.empty (Ok sources)) refl s in
    let two = sym (found-is arch packages) ∙ ok-same _ (built, available) (after_rows (with_binary arch) (finite.empty, no_pairs) (Ok packages)) refl p in
    λ i. Ok (record { listed = one i; built = (two i).0; available = (two i).1 })

-- the listing of two lists, of which each row was offered
pub listing-is : (arch : ArchWords) (sources packages : List ℕ) (listed : finite.FinMap text_cmp Listed) (built : finite.FinMap text_cmp Built) (available : Pairs)
    → after_rows (with_listed arch) finite.empty (source_rows sources) ≡ Ok listed
    → after_rows (with_binary arch) (finite.empty, no_pairs) (binary_rows packages) ≡ Ok (built, available)
    → listing_of sources packages arch ≡ Ok (record { listed = listed; built = built; available = available })
unfolding listing_of
listing-is arch sources packages listed built available s p = lists-are arch (source_rows sources) (binary_rows packages) listed built available s p

-- the refusal of Sources, and then that of Packages
pub sources-refused : (arch : ArchWords) (sources packages : List ℕ) (refusal : Refusal) → source_rows sources ≡ Err refusal
    → listing_of sources packages arch ≡ Err refusal
unfolding listing_of
sources-refused arch sources packages refusal s = rw s refl

packages-are : (arch : ArchWords) (sources : Result (List SourceParagraph) Refusal) (listed : finite.FinMap text_cmp Listed) (refusal : Refusal)
    → after_rows (with_listed arch) finite.empty sources ≡ Ok listed → listing_in arch sources (Err refusal) ≡ Err refusal
packages-are arch (Err other) listed refusal s = absurd (not-ok other listed s)
packages-are arch (Ok rows) listed refusal s = refl

pub packages-refused : (arch : ArchWords) (sources packages : List ℕ) (listed : finite.FinMap text_cmp Listed) (refusal : Refusal)
    → after_rows (with_listed arch) finite.empty (source_rows sources) ≡ Ok listed → binary_rows packages ≡ Err refusal
    → listing_of sources packages arch ≡ Err refusal
unfolding listing_of
packages-refused arch sources packages listed refusal s p = rw p (packages-are arch (source_rows sources) listed refusal s)

-- ---- what a listing has at a name

pub listed-get : (arch : ArchWords) (sources : List SourceParagraph) (packages : List BinaryParagraph) (name : List ℕ)
    → finite.get (listing_of_rows arch sources packages).listed name ≡ best_from listed_cmp None (candidates arch sources name)
unfolding listing_of_rows listed_of candidates is_candidate
listed-get arch sources packages name = map-get listed_cmp (is_listed arch) (λ row. row.name) (listed_as arch) sources name

pub built-get : (arch : ArchWords) (sources : List SourceParagraph) (packages : List BinaryParagraph) (name : List ℕ)
    → finite.get (listing_of_rows arch sources packages).built name ≡ best_from built_cmp None (builds arch packages name)
unfolding listing_of_rows built_of builds is_built_from
built-get arch sources packages name = map-get built_cmp (λ row. bytes_eq arch.name row.arch) (λ row. row.source) built_as packages name
