-- What is decided source package by source package is the merge of what the tables have of the archive's lists.
use Rattle.std.proofs.Common.{◌≡◌, ℕ, suc, ◌+◌, ◌<◌, ◌≤◌, get_or, drop, drop-cons, Bool, true, false, cond, not, ◌&&◌}
use Rattle.std.proofs.Common.{◌||◌, List, [], ◌∷◌, ◌++◌, length, filter, bytes_eq, Option, Some, None, refl, sym, ap, ap₂, subst, ◌∙◌, arith}
use Rattle.std.specs.Prelude.{IfSome}
use Rattle.std.specs.List.{list_any}
use Rattle.std.specs.Ordering.{eq_by_cmp}
use Rattle.std.specs.FinMap as finite
use Rattle.std.proofs.lemmas.List.Folds.{list_any-append}
use Rattle.std.proofs.lemmas.Cmp.{nat_list_eq_equiv}
use Rattle.deb_relations.specs.Satisfaction.{is_among}
use Rattle.deb_relations.specs.declared.arch.ArchWords.{ArchWords}
use Rattle.deb_text.specs.Text.{pair_cmp}
use Rattle.deb_text.proofs.KeyLemmas.{pair_cmp_total, pair_cmp-same}
use Rattle.wb_states.specs.declared.record.Record.{Record}
use Rattle.wb_states.specs.declared.reply.MergeCounts.{MergeCounts}
use Rattle.wb_states.specs.declared.scratch.SourceRow.{SourceRow}
use Rattle.wb_states.specs.declared.scratch.BinaryRow.{BinaryRow}
use Rattle.wb_merge.specs.declared.merge.Change.{Change}
use Rattle.wb_merge.specs.declared.merge.Change.TheVariants.{Absent, Kept}
use Rattle.wb_merge.specs.Changes.{NamedChanges, NotesBetween, NotesChange, record_change}
use Rattle.wb_merge.specs.Listing.{ArchiveListing, candidates, is_candidate, listed_of}
use Rattle.wb_merge.specs.Merge.{SaysWaitsMet, record_after}
use Rattle.wb_merge.specs.Merged.{Records, all_kept, change_of, counts_over, is_added, is_changed, is_kept, is_removed, merge_counts, merged, names_of, number_where, record_after_at, recorded_names, record_after_named}
use Rattle.wb_merge.specs.Scratch.{available_in, listed_in, listing_of_kept, record_found, row_of_kept}
use Rattle.wb_merge.specs.Steps.{IsSetAt, Key, record_at, counted}
use Rattle.wb_merge.proofs.ChangeLemmas.{between-next}
use Rattle.wb_merge.proofs.CountLemmas.{IsHalfMerged, half_merged-done, half_merged-step, plus}
use Rattle.wb_merge.proofs.FoundLemmas.{found-rows}
use Rattle.wb_merge.proofs.MergeLemmas.{half-here, half_merged, names-apart, recorded-apart, recorded-names-any}
use Rattle.wb_merge.proofs.MergeLemmas.{unnamed}
use Rattle.wb_merge.proofs.NameLemmas.{IsApart, append-apart, bytes_eq-is, bytes_eq-turned, filter-any, filter-apart, keys-apart, none-is, pair-is}
use Rattle.wb_merge.proofs.RecordLemmas.{set-inserted, set-kept, set-removed}
use Rattle.wb_merge.proofs.ScratchLemmas.{listed-kept, listed_in-filter}
use Rattle.wb_archive.specs.Decides.{AreNamesToDecide, listing_at, names_with, record_decided, set_record}
use Rattle.wb_archive.specs.Tables.{AreApart, AreNamesOf, Contents}
use Rattle.wb_archive.proofs.NameCountLemmas.{same-count}

-- ---- what is not written

-- a record that is kept need not be put
pub kept-same : (records : Records) (key : Key) (new : Record) → change_of (record_at records key) (Some new) ≡ Kept → finite.insert records key new ≡ records
unfolding IsSetAt
kept-same records key new e =
    finite.same_map pair_cmp_total pair_cmp-same _ _ (λ other. set-inserted records key new other ∙ sym (set-kept records key new e other))

was-none : (old : Option Record) → change_of old None ≡ Absent → old ≡ None
was-none None e = refl
was-none (Some old) e = absurd cc

-- what is not there need not be taken out
pub absent-same : (records : Records) (key : Key) → change_of (record_at records key) None ≡ Absent → finite.remove records key ≡ records
unfolding IsSetAt
absent-same records key e = finite.same_map pair_cmp_total pair_cmp-same _ _ (λ other. set-removed records key other ∙ at other (eq_by_cmp pair_cmp key other) refl) where
  at : (other : Key) (b : Bool) → eq_by_cmp pair_cmp key other ≡ b → cond b None (finite.get records other) ≡ finite.get records other
  at other true is = sym (ap (finite.get records) (sym (pair-is key other is)) ∙ was-none (finite.get records key) e)
  at other false is = refl

set-is : (records : Records) (key : Key) (value : Option Record) → IsSetAt records key value (set_record records key value)
set-is records key None = set-removed records key
set-is records key (Some new) = set-inserted records key new

-- ---- the record of a source package

says-listing : (arch : ArchWords) (sources : List SourceRow) (binaries : List BinaryRow) (current : Option Record) (is_met : Bool)
    → IfSome current (SaysWaitsMet (available_in binaries) is_met) → IfSome current (SaysWaitsMet (listing_of_kept arch sources binaries).available is_met)
unfolding listing_of_kept
says-listing arch sources binaries current is_met says = says

-- the record that is found by the rows of a source package is that of the merge
pub found-decided : (arch : ArchWords) (now : Contents) (name : List ℕ) (current : Option Record) (is_met : Bool) (sources : List SourceRow) (binaries : List BinaryRow)
    (new : Option Record) → current ≡ record_at now.machine.records (arch.name, name) → IfSome current (SaysWaitsMet (available_in now.binaries) is_met)
    → sources ≡ filter (λ row. bytes_eq name row.name) now.sources → binaries ≡ filter (λ row. bytes_eq name row.source) now.binaries
    → new ≡ record_found arch current name sources binaries is_met → new ≡ record_decided arch now name
found-decided arch now name current is_met sources binaries new was says named built is =
    is ∙ ap₂ (λ s b. record_found arch current name s b is_met) named built
    ∙ found-rows arch now.sources now.binaries name current is_met (says-listing arch now.sources now.binaries current is_met says)
    ∙ ap (record_after_named (listing_at arch now) name) was

-- ---- the names

no-rows : {X : Type 0} (test : X → Bool) (rows : List X) → list_any test rows ≡ false → filter test rows ≡ []
no-rows test [] e = refl
no-rows {X} test (row ∷ rows) e = go (test row) e (no-rows test rows) where
  go : (b : Bool) → (b || list_any test rows) ≡ false → (list_any test rows ≡ false → filter test rows ≡ []) → cond b (row ∷ filter test rows) (filter test rows) ≡ []
  go true e more = absurd cc
  go false e more = more e

candidate-named : (arch : ArchWords) (name : List ℕ) (row : SourceRow) → is_candidate arch name (row_of_kept row) ≡ true → bytes_eq name row.name ≡ true
unfolding is_candidate
candidate-named arch name row is = left (bytes_eq name row.name) _ is where
  left : (a b : Bool) → (a && b) ≡ true → a ≡ true
  left true b e = refl
  left false b e = absurd cc

listed-none : (arch : ArchWords) (name : List ℕ) → listed_in arch [] name ≡ None
unfolding listed_in listed_of candidates
listed-none arch name = refl

-- a name without rows is not listed
unlisted : (arch : ArchWords) (now : Contents) (name : List ℕ) → list_any (λ (row : SourceRow). bytes_eq name row.name) now.sources ≡ false
    → finite.get (listing_at arch now).listed name ≡ None
unlisted arch now name none =
    listed-kept arch now.sources now.binaries name
    ∙ sym (listed_in-filter arch (λ row. bytes_eq name row.name) now.sources name (candidate-named arch name))
    ∙ ap (λ rows. listed_in arch rows name) (no-rows (λ (row : SourceRow). bytes_eq name row.name) now.sources none)
    ∙ listed-none arch name

with-any : (old : Records) (arch : List ℕ) (names : List (List ℕ)) (name : List ℕ)
    → list_any (bytes_eq name) (names_with old arch names) ≡ (finite.contains_key old (arch, name) || (not (finite.contains_key old (arch, name)) && list_any (bytes_eq name) names))
with-any old arch names name =
    list_any-append (bytes_eq name) (recorded_names old arch) _
    ∙ (λ i. recorded-names-any old arch name i || filter-any (λ name. not (finite.contains_key old (arch, name))) name names i)

with-apart : (old : Records) (arch : List ℕ) (names : List (List ℕ)) → IsApart bytes_eq names → IsApart bytes_eq (names_with old arch names)
with-apart old arch names apart =
    append-apart bytes_eq (recorded_names old arch) _
    (recorded-apart arch (finite.keys old) (keys-apart old))
    (filter-apart (λ name. not (finite.contains_key old (arch, name))) names apart)
    (λ name there again. never (finite.contains_key old (arch, name)) _
    (sym (recorded-names-any old arch name) ∙ there)
    (sym (filter-any (λ name. not (finite.contains_key old (arch, name))) name names) ∙ again))
    nat_list_eq_equiv.refl
  where
    never : (a b : Bool) → a ≡ true → (not a && b) ≡ true → ⊥
    never true b e f = cc
    never false b e f = cc

-- a source package that is not among these has no record and is not listed
abbrev Covers : Records → List ℕ → ArchiveListing → List (List ℕ) → Type 0
Covers old arch listing names =
    (name : List ℕ) → list_any (bytes_eq name) names ≡ false → (finite.get old (arch, name) ≡ None) × (finite.get listing.listed name ≡ None)

with-covers : (arch : ArchWords) (now : Contents) (names : List (List ℕ)) → AreNamesOf now.sources names → Covers now.machine.records arch.name (listing_at arch now) (names_with now.machine.records arch.name names)
with-covers arch now names of name e =
    let both = split (finite.contains_key now.machine.records (arch.name, name)) (list_any (bytes_eq name) names) (sym (with-any now.machine.records arch.name names name) ∙ e) in
    (none-is _ both.0, unlisted arch now name (sym (of.all name) ∙ both.1))
  where
    split : (a b : Bool) → (a || (not a && b)) ≡ false → (a ≡ false) × (b ≡ false)
    split true b e = absurd cc
    split false b e = (refl, e)

-- the names that are decided, where the set is that of those that have a record
pub named-to-decide : (now : Contents) (arch : List ℕ) (recorded listed names : List (List ℕ)) (known : List ℕ → Bool)
    → recorded ≡ recorded_names now.machine.records arch → AreNamesOf now.sources listed → ((name : List ℕ) → known name ≡ is_among name recorded)
    → names ≡ recorded ++ filter (λ name. not (known name)) listed → AreNamesToDecide now arch names
named-to-decide now arch recorded listed names known is of knows made = record {
  listed = listed;
  of_rows = of;
  is = made ∙ (λ i. is i ++ filter (λ name. not (known-recorded name i)) listed);
} where
  known-recorded : (name : List ℕ) → known name ≡ finite.contains_key now.machine.records (arch, name)
  known-recorded name =
      knows name ∙ ap (λ (names : List (List ℕ)). is_among name names) is
      ∙ (λ i. list_any (λ other. bytes_eq-turned other name i) (recorded_names now.machine.records arch))
      ∙ recorded-names-any now.machine.records arch name

-- ---- the start

module _ (old : Records) (arch : List ℕ) (listing : ArchiveListing) where
  none-after : (found : Option Record) (name : List ℕ) → found ≡ None → finite.get listing.listed name ≡ None
      → record_after found (finite.get listing.listed name) (finite.get listing.built name) listing.available ≡ None
  none-after found name e f = (λ i. record_after (e i) (f i) (finite.get listing.built name) listing.available)

  -- where there is no name nothing changes
  nothing-at : (names : List (List ℕ)) → Covers old arch listing names → (name : List ℕ) → list_any (bytes_eq name) names ≡ false
      → record_after_at old arch listing (arch, name) ≡ None
  unfolding record_after_at
  nothing-at names covers name e =
      ap (λ b. cond b (record_after_named listing name (finite.get old (arch, name))) (finite.get old (arch, name))) (nat_list_eq_equiv.refl arch)
      ∙ none-after (finite.get old (arch, name)) name (covers name e).0 (covers name e).1

  elsewhere : (key : Key) → bytes_eq key.0 arch ≡ false → record_after_at old arch listing key ≡ finite.get old key
  unfolding record_after_at
  elsewhere key e = ap (λ b. cond b (record_after_named listing key.1 (finite.get old key)) (finite.get old key)) e

  -- before the first name each key has what it had
  start-half : (names : List (List ℕ)) → Covers old arch listing names → (key : Key) → finite.get old key ≡ half_merged old arch listing names key
  start-half names covers key = at (bytes_eq key.0 arch) refl where
    there : (b : Bool) → list_any (bytes_eq key.1) names ≡ b → (arch, key.1) ≡ key → finite.get old key ≡ cond b (finite.get old key) (record_after_at old arch listing key)
    there true e same = refl
    there false e same =
        subst (λ (k : Key). finite.get old k ≡ record_after_at old arch listing k) same ((covers key.1 e).0 ∙ sym (nothing-at names covers key.1 e))

    at : (b : Bool) → bytes_eq key.0 arch ≡ b → finite.get old key ≡ cond (b && list_any (bytes_eq key.1) names) (finite.get old key) (record_after_at old arch listing key)
    at true e = there (list_any (bytes_eq key.1) names) refl (λ i. (sym (bytes_eq-is key.0 arch e) i, key.1))
    at false e = sym (elsewhere key e)

  -- what became of a source package
  abbrev change_at : List ℕ → Change
  change_at name = change_of (finite.get old (arch, name)) (record_after_at old arch listing (arch, name))

  -- what is counted is among the names
  counted-named : (test : Change → Bool) → test Absent ≡ false → (names : List (List ℕ)) → Covers old arch listing names → (name : List ℕ)
      → test (change_at name) ≡ true → list_any (bytes_eq name) names ≡ true
  counted-named test none names covers name pass = at (list_any (bytes_eq name) names) refl where
    at : (b : Bool) → list_any (bytes_eq name) names ≡ b → b ≡ true
    at true e = refl
    at false e =
        let absent : change_at name ≡ Absent = (λ i. change_of ((covers name e).0 i) (nothing-at names covers name e i)) in
        absurd (cc (ap test absent, none, pass))

  same-number : (test : Change → Bool) → test Absent ≡ false → (names : List (List ℕ)) → IsApart bytes_eq names → Covers old arch listing names
      → number_where test old arch listing names ≡ number_where test old arch listing (names_of old arch listing)
  same-number test none names apart covers =
      same-count (λ name. test (change_at name)) names (names_of old arch listing) apart (names-apart old arch listing)
      (λ name pass. counted-named test none names covers name pass ∙ sym (counted-named test none (names_of old arch listing) (unnamed old arch listing) name pass))

  same-counts : (names : List (List ℕ)) → IsApart bytes_eq names → Covers old arch listing names
      → counts_over old arch listing names ≡ merge_counts old arch listing
  unfolding counts_over merge_counts
  same-counts names apart covers = λ i. record {
    added = same-number is_added refl names apart covers i;
    changed = same-number is_changed refl names apart covers i;
    kept = same-number is_kept refl names apart covers i;
    removed = same-number is_removed refl names apart covers i;
  }

none-plus : (n : ℕ) → 0 + n ≡ n
none-plus n = omega arith

plus-none : (counts : MergeCounts) → plus (all_kept 0) counts ≡ counts
plus-none counts = λ i. record {
  added = none-plus counts.added i;
  changed = none-plus counts.changed i;
  kept = none-plus counts.kept i;
  removed = none-plus counts.removed i;
}

apart-is : (names : List (List ℕ)) → AreApart names → IsApart bytes_eq names
apart-is [] h = tt
apart-is (name ∷ names) h = (h.0, apart-is names h.1)

pub decided-start : (arch : ArchWords) (now : Contents) (names : List (List ℕ)) → AreNamesToDecide now arch.name names
    → IsHalfMerged now.machine.records now.machine.records arch.name (listing_at arch now) (all_kept 0) names
decided-start arch now names of = subst (IsHalfMerged now.machine.records now.machine.records arch.name (listing_at arch now) (all_kept 0)) (sym of.is) (
    let covers = with-covers arch now of.listed of.of_rows in
    let apart = with-apart now.machine.records arch.name of.listed (apart-is of.listed of.of_rows.apart) in
    record {
      apart = apart;
      half = start-half now.machine.records arch.name (listing_at arch now) (names_with now.machine.records arch.name of.listed) covers;
      so_far = plus-none (counts_over now.machine.records arch.name (listing_at arch now) (names_with now.machine.records arch.name of.listed))
          ∙ same-counts now.machine.records arch.name (listing_at arch now) (names_with now.machine.records arch.name of.listed) apart covers;
    })

-- ---- the loop

-- the tables have these records, in which all but these names are decided
pub record IsHalfDecided (Holds : Records → Type 0) (old : Records) (arch : List ℕ) (listing : ArchiveListing) (counts : MergeCounts) (left : List (List ℕ)) : Type 0 where
  pub records : Records
  pub holds : Holds records
  pub half : IsHalfMerged old records arch listing counts left

pub decided-step : {Holds More : Records → Type 0} (arch : ArchWords) (now : Contents) (counts : MergeCounts) (names : List (List ℕ)) (at : ℕ) (name : List ℕ)
    → at < length names → name ≡ get_or names at name
    → (half : IsHalfDecided Holds now.machine.records arch.name (listing_at arch now) counts (drop at names))
    → More (set_record half.records (arch.name, name) (record_decided arch (record now { machine = record now.machine { records = half.records } }) name))
    → (made : Change) → made ≡ change_of (record_at half.records (arch.name, name)) (record_decided arch (record now { machine = record now.machine { records = half.records } }) name)
    → IsHalfDecided More now.machine.records arch.name (listing_at arch now) (counted counts made) (drop (at + 1) names)
decided-step arch now counts names at name lt is half more made e = record {
  records = set_record half.records (arch.name, name) (record_decided arch (record now { machine = record now.machine { records = half.records } }) name);
  holds = more;
  half = half_merged-step now.machine.records half.records _ arch.name (listing_at arch now) counts names at name lt is half.half
      (set-is half.records (arch.name, name) (record_decided arch (record now { machine = record now.machine { records = half.records } }) name)) made e;
}

-- a source package that is left has the record that it had
half-stays : (old records : Records) (arch : List ℕ) (listing : ArchiveListing) (counts : MergeCounts)
    (names : List (List ℕ)) (at : ℕ) (name : List ℕ) → at < length names → name ≡ get_or names at name
    → IsHalfMerged old records arch listing counts (drop at names)
    → record_at records (arch, name) ≡ record_at old (arch, name)
half-stays old records arch listing counts names at name lt is half =
    half-here old records arch listing name (drop (suc at) names)
    (subst (λ (left : List (List ℕ)). (key : Key) → finite.get records key ≡ half_merged old arch listing left key)
    (drop-cons names at name lt ∙ (λ i. sym is i ∷ drop (suc at) names)) half.half)

-- what becomes of one source package more is noted
pub decided-notes : (start before after : Option NamedChanges) (old records : Records) (arch : List ℕ)
    (listing : ArchiveListing) (counts : MergeCounts) (names : List (List ℕ)) (at : ℕ) (name : List ℕ)
    (value : Option Record) → at < length names → name ≡ get_or names at name
    → IsHalfMerged old records arch listing counts (drop at names)
    → NotesBetween start before old records arch
    → NotesChange before after name (record_change (record_at records (arch, name)) value)
    → NotesBetween start after old (set_record records (arch, name) value) arch
decided-notes start before after old records arch listing counts names at name value lt is half between noted =
    between-next start before after old records (set_record records (arch, name) value) arch name value
    (half-stays old records arch listing counts names at name lt is half) (set-is records (arch, name) value) between
    noted

pub decided-done : {Holds : Records → Type 0} (old : Records) (arch : List ℕ) (listing : ArchiveListing) (counts : MergeCounts) (names : List (List ℕ)) (at : ℕ)
    → length names ≤ at → IsHalfDecided Holds old arch listing counts (drop at names)
    → Holds (merged old arch listing) × (counts ≡ merge_counts old arch listing)
decided-done {Holds = Holds} old arch listing counts names at le half =
    let ends = half_merged-done old half.records arch listing counts names at le half.half in
    (subst Holds ends.0 half.holds, ends.1)
