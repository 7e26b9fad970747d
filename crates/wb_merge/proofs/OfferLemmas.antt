-- What an offer leaves, as maps keep it.
use Rattle.std.proofs.Common.{◌≡◌, ℕ, Bool, true, false, not, List, Some, None, bytes_eq, refl, sym, ap, ◌∙◌}
use Rattle.std.specs.declared.cmp.Ordering.{Ordering}
use Rattle.std.specs.Ordering.{is_gt}
use Rattle.std.specs.Map.{lookup}
use Rattle.std.specs.BTreeMap.{is_at}
use Rattle.std.specs.FinMap as finite
use Rattle.deb_relations.specs.declared.arch.ArchWords.{ArchWords}
use Rattle.deb_text.specs.Text.{text_cmp}
use Rattle.deb_text.proofs.KeyLemmas.{text_cmp_total}
use Rattle.deb_text.proofs.MapLemmas.{get-lookup}
use Rattle.wb_merge.specs.declared.listing.Listed.{Listed}
use Rattle.wb_merge.specs.declared.listing.Built.{Built}
use Rattle.wb_merge.specs.Rows.{SourceParagraph, BinaryParagraph}
use Rattle.wb_merge.specs.Listing.{listed_cmp, listed_as, built_cmp, built_as, is_listed, is_better}
use Rattle.wb_merge.specs.Offers.{with_listed, with_build}

pub differ : (b r : Bool) → r ≡ not b → r ≡ true → b ≡ false
differ true r e t = cc
differ false r e t = refl

pub agree : (b r : Bool) → r ≡ not b → r ≡ false → b ≡ true
agree true r e f = refl
agree false r e f = cc

module _ {X : Type 0} (R : X → X → Ordering) where
  pub better-some : (es : List (List ℕ × X)) (name : List ℕ) (best next : X) (later : Bool) → Some best ≡ lookup (is_at (text_cmp name)) es
      → later ≡ is_gt (R next best) → later ≡ is_better R (finite.get (finite.from_entries {R = text_cmp} es) name) next
  better-some es name best next later found is =
      is ∙ ap (λ o. is_better R o next) (found ∙ sym (get-lookup text_cmp_total es name))

  pub better-none : (es : List (List ℕ × X)) (name : List ℕ) (next : X) → None ≡ lookup (is_at (text_cmp name)) es
      → true ≡ is_better R (finite.get (finite.from_entries {R = text_cmp} es) name) next
  better-none es name next found = ap (λ o. is_better R o next) (found ∙ sym (get-lookup text_cmp_total es name))

module _ (arch : ArchWords) (m : finite.FinMap text_cmp Listed) (row : SourceParagraph) where
  pub source-other : is_listed arch row ≡ false → m ≡ with_listed arch m row
  unfolding with_listed
  source-other other = rw other refl

  pub source-kept : is_listed arch row ≡ true → is_better listed_cmp (finite.get m row.name) (listed_as arch row) ≡ false → m ≡ with_listed arch m row
  unfolding with_listed
  source-kept listed earlier = rw (listed, earlier) refl

  pub source-new : is_listed arch row ≡ true → is_better listed_cmp (finite.get m row.name) (listed_as arch row) ≡ true
      → finite.insert m row.name (listed_as arch row) ≡ with_listed arch m row
  unfolding with_listed
  source-new listed later = rw (listed, later) refl

module _ (arch : ArchWords) (m : finite.FinMap text_cmp Built) (row : BinaryParagraph) where
  pub build-other : bytes_eq arch.name row.arch ≡ false → m ≡ with_build arch m row
  unfolding with_build
  build-other other = rw other refl

  pub build-kept : bytes_eq arch.name row.arch ≡ true → is_better built_cmp (finite.get m row.source) (built_as row) ≡ false → m ≡ with_build arch m row
  unfolding with_build
  build-kept ours earlier = rw (ours, earlier) refl

  pub build-new : bytes_eq arch.name row.arch ≡ true → is_better built_cmp (finite.get m row.source) (built_as row) ≡ true
      → finite.insert m row.source (built_as row) ≡ with_build arch m row
  unfolding with_build
  build-new ours later = rw (ours, later) refl
