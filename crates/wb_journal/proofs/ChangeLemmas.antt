-- The changes of an architecture among those of several, and their texts in the order of the names.
use Rattle.std.proofs.Common.{◌≡◌, ◌∙◌, ℕ, suc, ◌<◌, ◌≤◌, get_or, drop, drop-cons, true, false, cond}
use Rattle.std.proofs.Common.{List, [], ◌∷◌, ◌++◌, length, map, Option, Some, None, bytes_eq, sym, ap}
use Rattle.std.proofs.lemmas.List.{drop_all}
use Rattle.std.specs.Prelude.{codes}
use Rattle.std.specs.FinMap as finite
use Rattle.std.specs.List.{flat_map}
use Rattle.std.specs.List.Sorted.{IsStrictlySortedBy}
use Rattle.deb_text.proofs.KeyLemmas.{text_cmp_total, text_cmp-same}
use Rattle.deb_text.proofs.MapLemmas.{entries-kept}
use Rattle.deb_text.specs.Text.{text_cmp}
use Rattle.wb_merge.specs.declared.changes.ArchChanges.{ArchChanges}
use Rattle.wb_merge.specs.declared.changes.RecordChange.{RecordChange}
use Rattle.wb_merge.specs.Changes.{Changes}
use Rattle.wb_journal.specs.Changes.{change_text, changes_of, named_text}

module _ (changes : List ArchChanges) (arch : List ℕ) (at : ℕ) (one : ArchChanges) (within : at < length changes)
    (is : one ≡ get_or changes at one) where
  left : drop at changes ≡ one ∷ drop (suc at) changes
  left = drop-cons changes at one within ∙ (λ i. sym is i ∷ drop (suc at) changes)

  -- one of another architecture says nothing
  pub other-arch : bytes_eq arch one.arch ≡ false
      → changes_of (drop (suc at) changes) arch ≡ changes_of (drop at changes) arch
  other-arch e =
      sym (ap (λ (l : List ArchChanges). changes_of l arch) left
      ∙ ap (λ b. cond {A = Option Changes} b (Some (finite.from_entries one.records.entries))
      (changes_of (drop (suc at) changes) arch)) e)

  -- those of the architecture are its changes
  pub this-arch : bytes_eq arch one.arch ≡ true
      → changes_of (drop at changes) arch ≡ Some (finite.from_entries {R = text_cmp} one.records.entries)
  this-arch e =
      ap (λ (l : List ArchChanges). changes_of l arch) left
      ∙ ap (λ b. cond {A = Option Changes} b (Some (finite.from_entries one.records.entries))
      (changes_of (drop (suc at) changes) arch)) e

-- after the last there are none
pub no-arch : (changes : List ArchChanges) (arch : List ℕ) (at : ℕ) → length changes ≤ at
    → changes_of (drop at changes) arch ≡ None
no-arch changes arch at le = ap (λ (l : List ArchChanges). changes_of l arch) (drop_all at changes le)

-- the text of the changes of a map whose entries stand in their order
named : (entries : List (List ℕ × RecordChange)) → IsStrictlySortedBy text_cmp (map (λ e. e.0) entries)
    → named_text (finite.entries (finite.from_entries {R = text_cmp} entries)) ≡ named_text entries
named entries ordered = ap named_text (entries-kept text_cmp_total text_cmp-same entries ordered)

-- with none it is empty
pub named-none : (entries : List (List ℕ × RecordChange)) → IsStrictlySortedBy text_cmp (map (λ e. e.0) entries)
    → entries ≡ [] → named_text (finite.entries (finite.from_entries {R = text_cmp} entries)) ≡ []
unfolding named_text
named-none entries ordered is = named entries ordered ∙ ap named_text is

-- the first comes first, and each other after a comma
pub named-first : (entries others : List (List ℕ × RecordChange)) (first : List ℕ × RecordChange)
    → IsStrictlySortedBy text_cmp (map (λ e. e.0) entries) → entries ≡ first ∷ others
    → named_text (finite.entries (finite.from_entries {R = text_cmp} entries))
    ≡ change_text first
    ++ flat_map (λ (change : List ℕ × RecordChange). codes "," ++ change_text change) others
unfolding named_text
named-first entries others first ordered is = named entries ordered ∙ ap named_text is
