-- What a merge counts, name by name, is what the records before and after it say.
use Rattle.std.proofs.Common.{◌≡◌, ℕ, ◌+◌, suc, ◌≤◌, ◌<◌, get_or, drop, drop-cons, subst, Bool, true, false, cond, List, [], ◌∷◌, length, filter, refl, sym, ◌∙◌, arith, bytes_eq}
use Rattle.std.proofs.lemmas.List.{drop_all}
use Rattle.std.specs.FinMap as finite
use Rattle.wb_states.specs.declared.reply.MergeCounts.{MergeCounts}
use Rattle.wb_merge.specs.Listing.{ArchiveListing}
use Rattle.wb_merge.specs.Merged.{Records, record_after_at, merged, is_added, is_changed, is_kept, is_removed, change_of, number_where, counts_over, merge_counts, record_after_named}
use Rattle.wb_merge.specs.declared.merge.Change.{Change}
use Rattle.wb_merge.specs.declared.merge.Change.TheVariants.{Absent, Added, Changed, Kept, Removed}
use Rattle.wb_merge.specs.Steps.{Key, record_at, IsSetAt, AreWithin, counted}
use Rattle.wb_merge.proofs.NameLemmas.{IsApart}
use Rattle.wb_merge.proofs.MergeLemmas.{half_merged, half-here, named-here, half-next, half-end}

-- ---- counts

-- the sums of two counts
abbrev pub plus : MergeCounts → MergeCounts → MergeCounts
plus one other = record {
  added = one.added + other.added;
  changed = one.changed + other.changed;
  kept = one.kept + other.kept;
  removed = one.removed + other.removed;
}

-- one more where the test passes
abbrev more : Bool → ℕ → ℕ
more true n = suc n
more false n = n

length-more : (b : Bool) (name : List ℕ) (names : List (List ℕ)) → length (cond b (name ∷ names) names) ≡ more b (length names)
length-more true name names = refl
length-more false name names = refl

abbrev with_change : Change → ℕ → ℕ → ℕ → ℕ → MergeCounts
with_change change added changed kept removed = record {
  added = more (is_added change) added;
  changed = more (is_changed change) changed;
  kept = more (is_kept change) kept;
  removed = more (is_removed change) removed;
}

abbrev counts_as : ℕ → ℕ → ℕ → ℕ → MergeCounts
counts_as added changed kept removed = record { added = added; changed = changed; kept = kept; removed = removed }

one_more : (m n : ℕ) → m + suc n ≡ (m + 1) + n
one_more m n = omega arith

counted-next : (counts : MergeCounts) (change : Change) (added changed kept removed : ℕ)
    → plus counts (with_change change added changed kept removed) ≡ plus (counted counts change) (counts_as added changed kept removed)
counted-next counts Absent added changed kept removed = refl
counted-next counts Added added changed kept removed = λ i. record {
  added = one_more counts.added added i;
  changed = counts.changed + changed;
  kept = counts.kept + kept;
  removed = counts.removed + removed;
}
counted-next counts Changed added changed kept removed = λ i. record {
  added = counts.added + added;
  changed = one_more counts.changed changed i;
  kept = counts.kept + kept;
  removed = counts.removed + removed;
}
counted-next counts Kept added changed kept removed = λ i. record {
  added = counts.added + added;
  changed = counts.changed + changed;
  kept = one_more counts.kept kept i;
  removed = counts.removed + removed;
}
counted-next counts Removed added changed kept removed = λ i. record {
  added = counts.added + added;
  changed = counts.changed + changed;
  kept = counts.kept + kept;
  removed = one_more counts.removed removed i;
}

counts-next : (counts : MergeCounts) (old : Records) (arch : List ℕ) (listing : ArchiveListing) (name : List ℕ) (names : List (List ℕ))
    → plus counts (counts_over old arch listing (name ∷ names))
    ≡ plus (counted counts (change_of (finite.get old (arch, name)) (record_after_at old arch listing (arch, name)))) (counts_over old arch listing names)
unfolding counts_over
counts-next counts old arch listing name names =
    let change = change_of (finite.get old (arch, name)) (record_after_at old arch listing (arch, name)) in
    (λ i. plus counts (record {
      added = length-more (is_added change) name (filter (λ name. is_added (change_of (finite.get old (arch, name)) (record_after_at old arch listing (arch, name)))) names) i;
      changed = length-more (is_changed change) name (filter (λ name. is_changed (change_of (finite.get old (arch, name)) (record_after_at old arch listing (arch, name)))) names) i;
      kept = length-more (is_kept change) name (filter (λ name. is_kept (change_of (finite.get old (arch, name)) (record_after_at old arch listing (arch, name)))) names) i;
      removed = length-more (is_removed change) name (filter (λ name. is_removed (change_of (finite.get old (arch, name)) (record_after_at old arch listing (arch, name)))) names) i;
    }))
    ∙ counted-next counts change (number_where is_added old arch listing names) (number_where is_changed old arch listing names) (number_where is_kept old arch listing names) (number_where is_removed old arch listing names)

none-plus : (n : ℕ) → 0 + n ≡ n
none-plus n = omega arith

plus-none : (n : ℕ) → n + 0 ≡ n
plus-none n = omega arith

counts-end : (counts : MergeCounts) (old : Records) (arch : List ℕ) (listing : ArchiveListing) → plus counts (counts_over old arch listing []) ≡ counts
unfolding counts_over
counts-end counts old arch listing = λ i. record {
  added = plus-none counts.added i;
  changed = plus-none counts.changed i;
  kept = plus-none counts.kept i;
  removed = plus-none counts.removed i;
}

-- one change more raises no count by more than one
pub within-next : (limit : ℕ) (counts : MergeCounts) (change : Change) → AreWithin limit counts → AreWithin (limit + 1) (counted counts change)
within-next limit counts Absent h = record { added = omega arith; changed = omega arith; kept = omega arith; removed = omega arith }
within-next limit counts Added h = record { added = omega arith; changed = omega arith; kept = omega arith; removed = omega arith }
within-next limit counts Changed h = record { added = omega arith; changed = omega arith; kept = omega arith; removed = omega arith }
within-next limit counts Kept h = record { added = omega arith; changed = omega arith; kept = omega arith; removed = omega arith }
within-next limit counts Removed h = record { added = omega arith; changed = omega arith; kept = omega arith; removed = omega arith }

-- ---- the loop over the names

-- the records and the counts while these names are left
pub record IsHalfMerged (old records : Records) (arch : List ℕ) (listing : ArchiveListing) (counts : MergeCounts) (left : List (List ℕ)) : Type 0 where
  pub apart : IsApart bytes_eq left
  pub half : (key : Key) → finite.get records key ≡ half_merged old arch listing left key
  pub so_far : plus counts (counts_over old arch listing left) ≡ merge_counts old arch listing

pub half_merged-next : (old records new : Records) (arch : List ℕ) (listing : ArchiveListing) (counts : MergeCounts) (name : List ℕ) (left : List (List ℕ))
    → IsHalfMerged old records arch listing counts (name ∷ left)
    → IsSetAt records (arch, name) (record_after_named listing name (finite.get records (arch, name))) new
    → IsHalfMerged old new arch listing (counted counts (change_of (record_at records (arch, name)) (record_after_named listing name (finite.get records (arch, name))))) left
half_merged-next old records new arch listing counts name left h step = record {
  apart = h.apart.1;
  half = half-next old records new arch listing name left h.apart.0 h.half step;
  so_far = (λ i. plus (counted counts (change_of (half-here old records arch listing name left h.half i) (named-here old records arch listing name left h.half i))) (counts_over old arch listing left))
      ∙ sym (counts-next counts old arch listing name left)
      ∙ h.so_far;
}

-- the same at a place among the names
pub half_merged-step : (old records new : Records) (arch : List ℕ) (listing : ArchiveListing) (counts : MergeCounts) (names : List (List ℕ)) (at : ℕ) (name : List ℕ)
    → at < length names → name ≡ get_or names at name
    → IsHalfMerged old records arch listing counts (drop at names)
    → IsSetAt records (arch, name) (record_after_named listing name (finite.get records (arch, name))) new
    → (made : Change) → made ≡ change_of (record_at records (arch, name)) (record_after_named listing name (finite.get records (arch, name)))
    → IsHalfMerged old new arch listing (counted counts made) (drop (at + 1) names)
half_merged-step old records new arch listing counts names at name lt is h step made e =
    let left : drop at names ≡ name ∷ drop (at + 1) names =
    drop-cons names at name lt ∙ (λ i. sym is i ∷ drop (one_after at i) names) in
    let next = half_merged-next old records new arch listing counts name (drop (at + 1) names) (subst (IsHalfMerged old records arch listing counts) left h) step in
    subst (λ (c : Change). IsHalfMerged old new arch listing (counted counts c) (drop (at + 1) names)) (sym e) next
  where
    one_after : (n : ℕ) → suc n ≡ n + 1
    one_after n = omega arith

pub half_merged-end : (old records : Records) (arch : List ℕ) (listing : ArchiveListing) (counts : MergeCounts)
    → IsHalfMerged old records arch listing counts [] → (records ≡ merged old arch listing) × (counts ≡ merge_counts old arch listing)
half_merged-end old records arch listing counts h =
    (half-end old records arch listing h.half, sym (counts-end counts old arch listing) ∙ h.so_far)

-- the same behind the last of the names
pub half_merged-done : (old records : Records) (arch : List ℕ) (listing : ArchiveListing) (counts : MergeCounts) (names : List (List ℕ)) (at : ℕ)
    → length names ≤ at → IsHalfMerged old records arch listing counts (drop at names) → (records ≡ merged old arch listing) × (counts ≡ merge_counts old arch listing)
half_merged-done old records arch listing counts names at le h =
    half_merged-end old records arch listing counts (subst (IsHalfMerged old records arch listing counts) (drop_all at names le) h)
