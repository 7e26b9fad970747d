-- A merge makes of the records of its architectures the same in an office of these records alone, and counts the same.
use Rattle.std.proofs.Common.{◌≡◌, ◌∙◌, refl, sym, ap, subst, ℕ, ◌+◌, Bool, true, false, IsTrue, List, [], ◌∷◌, ◌&&◌, ◌||◌, not, filter, length, bytes_eq, Option, Some, None, Result, Ok, Err, is_some, cond}
use Rattle.std.specs.List.{list_any}
use Rattle.std.specs.FinMap as map
use Rattle.std.specs.FinSet as set
use Rattle.std.specs.Ordering.{eq_by_cmp}
use Rattle.std.proofs.lemmas.Cmp.{nat_list_eq_equiv}
use Rattle.std.proofs.lemmas.Bool.{or_right}
use Rattle.deb_text.specs.Lists.{IsIn}
use Rattle.deb_text.specs.Text.{pair_cmp}
use Rattle.deb_text.proofs.KeyLemmas.{pair_cmp_total}
use Rattle.deb_text.proofs.SortedLemmas.{IsIn-filter}
use Rattle.wb_states.specs.declared.command.Part.{Part}
use Rattle.wb_states.specs.declared.refusal.Refusal.{Refusal}
use Rattle.wb_states.specs.declared.reply.PartEnd.TheVariants.{Merged}
use Rattle.wb_states.specs.declared.reply.Reply.TheVariants.{Merged as Whole}
use Rattle.wb_states.specs.Forms.{Merge}
use Rattle.wb_states.specs.Machine.{Machine, Key, IsRecord, IsConsistent}
use Rattle.wb_states.specs.Queue.{Entry}
use Rattle.wb_states.proofs.QueueLemmas.{IsIn-entries}
use Rattle.wb_merge.specs.declared.merge.Change.{Change}
use Rattle.wb_merge.specs.Listing.{ArchiveListing}
use Rattle.wb_merge.specs.Merged.{Records, record_after_at, record_after_named, names_of, is_added, is_changed, is_kept, is_removed, change_of, number_where, counts_over, merge_counts}
use Rattle.wb_merge.proofs.MergeLemmas.{names-any, names-apart}
use Rattle.wb_merge.proofs.NameLemmas.{pair-is, filter-any, filter-apart}
use Rattle.wb_merge.proofs.TotalLemmas.{same-length}
use Rattle.wb_step.specs.Checks.{first_refusal, text_refusal, state_refusal}
use Rattle.wb_step.specs.Locality.{IsKept, IsPartOf}
use Rattle.wb_step.specs.MergedParts.{IsJoined, entries_of_parts, is_part_for, part_for_merge}
use Rattle.wb_step.specs.Parts.{end_with, part_listing, part_replies, records_after, records_with}
use Rattle.wb_step.specs.Step.{outcome, step}
use Rattle.wb_step.specs.Targets.{transition_of}
use Rattle.wb_step.proofs.ApartPartLemmas.{with-same}
use Rattle.wb_step.proofs.FrameLemmas.{step-others}
use Rattle.wb_step.proofs.NamedPartLemmas.{set_in, in_set, find_in, in_holders, holders_in, if_found}
use Rattle.wb_step.proofs.PartOfLemmas.{at_some, part_consistent}

-- ---- the records of the parts' architectures

-- what is found by its key among the records of some architectures
pub find-filter : (test : List ℕ → Bool) (key : Key) (entries : List Entry)
    → map.find pair_cmp key (filter (λ entry. test entry.0.0) entries) ≡ cond (test key.0) (map.find pair_cmp key entries) None
find-filter test key [] = same (test key.0) where
  same : (b : Bool) → map.find pair_cmp key (filter (λ (entry : Entry). test entry.0.0) []) ≡ cond b (map.find pair_cmp key []) None
  same true = refl
  same false = refl
find-filter test key (e ∷ entries) =
    let rest = find-filter test key entries in
    let later = map.find pair_cmp key entries in
    let kept = map.find pair_cmp key (filter (λ entry. test entry.0.0) entries) in
    elim (eq_by_cmp pair_cmp key e.0) as (λ t. eq_by_cmp pair_cmp key e.0 ≡ t
    → map.find pair_cmp key (cond (test e.0.0) (e ∷ filter (λ entry. test entry.0.0) entries) (filter (λ entry. test entry.0.0) entries)) ≡ cond (test key.0) (cond t (Some e.1) later) None) [
      | true ↦ λ tie.
          let same : test e.0.0 ≡ test key.0 = ap (λ (k : Key). test k.0) (sym (pair-is key e.0 tie)) in
          ap (λ b. map.find pair_cmp key (cond b (e ∷ filter (λ entry. test entry.0.0) entries) (filter (λ entry. test entry.0.0) entries))) same
          ∙ elim (test key.0) as (λ b. kept ≡ cond b later None → map.find pair_cmp key (cond b (e ∷ filter (λ entry. test entry.0.0) entries) (filter (λ entry. test entry.0.0) entries)) ≡ cond b (Some e.1) None) [
            | true ↦ λ _. ap (λ b. cond b (Some e.1) kept) tie
            | false ↦ λ is. is
          ] rest
      | false ↦ λ apart. elim (test e.0.0) as (λ b. map.find pair_cmp key (cond b (e ∷ filter (λ entry. test entry.0.0) entries) (filter (λ entry. test entry.0.0) entries)) ≡ kept) [
        | true ↦ ap (λ b. cond b (Some e.1) kept) apart
        | false ↦ refl
      ] ∙ rest
    ] refl

-- the record at a key in the part: that of the whole, if the key is of one of the architectures
pub part-get : (machine : Machine) (parts : List Part) (key : Key)
    → map.get (part_for_merge machine parts).records key ≡ cond (is_part_for parts key.0) (map.get machine.records key) None
unfolding part_for_merge
part-get machine parts key =
    map.get-from_entries pair_cmp_total (entries_of_parts machine parts) key
    ∙ find-filter (is_part_for parts) key (map.entries machine.records)
    ∙ ap (λ found. cond (is_part_for parts key.0) found None) (sym (map.get-entries machine.records key))

part-inside : (machine : Machine) (parts : List Part) (key : Key) → is_part_for parts key.0 ≡ true
    → map.get (part_for_merge machine parts).records key ≡ map.get machine.records key
part-inside machine parts key is = part-get machine parts key ∙ ap (λ b. cond b (map.get machine.records key) None) is

part-outside : (machine : Machine) (parts : List Part) (key : Key) → is_part_for parts key.0 ≡ false
    → map.get (part_for_merge machine parts).records key ≡ None
part-outside machine parts key is = part-get machine parts key ∙ ap (λ b. cond b (map.get machine.records key) None) is

-- ---- it is a part of the office

entry_kept : (machine : Machine) (parts : List Part) (entry : Entry) → IsIn entry (entries_of_parts machine parts) → IsKept machine entry
entry_kept machine parts entry h = (IsIn-entries machine entry).0 ((IsIn-filter (λ e. is_part_for parts e.0.0) entry (map.entries machine.records)).0 h).0

entry_of_part : (machine : Machine) (parts : List Part) (entry : Entry) → IsKept (part_for_merge machine parts) entry → IsIn entry (entries_of_parts machine parts)
unfolding part_for_merge
entry_of_part machine parts entry kept = find_in entry.0 entry.1 (entries_of_parts machine parts) (sym (map.get-from_entries pair_cmp_total (entries_of_parts machine parts) entry.0) ∙ kept)

pub merge_part : (machine : Machine) (parts : List Part) → IsConsistent machine → IsPartOf (part_for_merge machine parts) machine
unfolding part_for_merge
merge_part machine parts is = record {
  handed = refl;
  accepted = refl;
  archs = refl;
  builders = λ name arch h.
      let found = in_holders (name, arch) (entries_of_parts machine parts) (set_in (name, arch) _ h) in
      let kept = entry_kept machine parts found.0 found.1 in
      let it = at_some (IsRecord machine found.0.0.0 found.0.0.1) _ found.0.1 kept (is.records found.0.0.0 found.0.0.1) in
      subst (λ a. IsTrue (set.contains machine.builders (name, a))) (sym found.3) (at_some (λ builder. IsTrue (set.contains machine.builders (builder, found.0.0.0))) _ name found.2 it.holder);
  records = λ entry kept. entry_kept machine parts entry (entry_of_part machine parts entry kept);
  holders = λ entry kept. if_found _ entry.1.holder (λ name held.
      in_set (name, entry.0.0) _ (holders_in name entry (entries_of_parts machine parts) (entry_of_part machine parts entry kept) held));
}

pub merge_part-consistent : (machine : Machine) (parts : List Part) → IsConsistent machine → IsConsistent (part_for_merge machine parts)
merge_part-consistent machine parts is = part_consistent (part_for_merge machine parts) machine (merge_part machine parts is) is

-- ---- what a merge counts

-- two maps of records have the same records of an architecture
abbrev AreAlikeAt : List ℕ → Records → Records → Type 0
AreAlikeAt arch one other = (name : List ℕ) → map.get one (arch, name) ≡ map.get other (arch, name)

module _ (arch : List ℕ) (listing : ArchiveListing) (one other : Records) (alike : AreAlikeAt arch one other) where
  same_after : (name : List ℕ) → record_after_at one arch listing (arch, name) ≡ record_after_at other arch listing (arch, name)
  unfolding record_after_at
  same_after name i = cond (bytes_eq arch arch) (record_after_named listing name (alike name i)) (alike name i)

  same_any : (name : List ℕ) → list_any (bytes_eq name) (names_of one arch listing) ≡ list_any (bytes_eq name) (names_of other arch listing)
  same_any name =
      names-any one arch listing name
      ∙ (λ i. is_some (alike name i) || (not (is_some (alike name i)) && map.contains_key listing.listed name))
      ∙ sym (names-any other arch listing name)

  same_number : (test : Change → Bool) → number_where test one arch listing (names_of one arch listing) ≡ number_where test other arch listing (names_of other arch listing)
  same_number test =
      (λ i. length (filter (λ name. test (change_of (alike name i) (same_after name i))) (names_of one arch listing)))
      ∙ same-length (filter passes (names_of one arch listing)) (filter passes (names_of other arch listing))
      (filter-apart passes (names_of one arch listing) (names-apart one arch listing))
      (filter-apart passes (names_of other arch listing) (names-apart other arch listing))
      (λ name. filter-any passes name (names_of one arch listing) ∙ ap (λ b. passes name && b) (same_any name) ∙ sym (filter-any passes name (names_of other arch listing)))
    where
      passes : List ℕ → Bool
      passes name = test (change_of (map.get other (arch, name)) (record_after_at other arch listing (arch, name)))

  same_counts : merge_counts one arch listing ≡ merge_counts other arch listing
  unfolding merge_counts counts_over
  same_counts i = record {
    added = same_number is_added i;
    changed = same_number is_changed i;
    kept = same_number is_kept i;
    removed = same_number is_removed i;
  }

same_end : (arch : List ℕ) (read : Result ArchiveListing Refusal) (one other : Records) → AreAlikeAt arch one other → end_with one arch read ≡ end_with other arch read
same_end arch (Err refusal) one other alike = refl
same_end arch (Ok listing) one other alike = ap (λ counts. Merged counts) (same_counts arch listing one other alike)

-- ---- the parts, one after the other

-- two maps of records have the same records of the architectures of the parts
abbrev AreAlikeFor : List Part → Records → Records → Type 0
AreAlikeFor parts one other = (key : Key) → is_part_for parts key.0 ≡ true → map.get one key ≡ map.get other key

same_at : (part : Part) (parts : List Part) (one other : Records) → AreAlikeFor (part ∷ parts) one other → AreAlikeAt part.arch one other
same_at part parts one other alike name = alike (part.arch, name) (ap (λ b. b || is_part_for parts part.arch) (nat_list_eq_equiv.refl part.arch))

same_later : (machine : Machine) (sources : List ℕ) (part : Part) (parts : List Part) (one other : Records) → AreAlikeFor (part ∷ parts) one other
    → AreAlikeFor parts (records_with one part.arch (part_listing machine sources part)) (records_with other part.arch (part_listing machine sources part))
same_later machine sources part parts one other alike key is =
    with-same one other part.arch (part_listing machine sources part) key (alike key (or_right (bytes_eq key.0 part.arch) _ is))

same_replies : (machine : Machine) (sources : List ℕ) (parts : List Part) (one other : Records) → AreAlikeFor parts one other
    → part_replies machine sources parts one ≡ part_replies machine sources parts other
same_replies machine sources [] one other alike = refl
same_replies machine sources (part ∷ parts) one other alike =
    let read = part_listing machine sources part in
    let first = same_end part.arch read one other (same_at part parts one other alike) in
    let later = same_replies machine sources parts (records_with one part.arch read) (records_with other part.arch read) (same_later machine sources part parts one other alike) in
    λ i. record { arch = part.arch; end = first i } ∷ later i

same_records : (machine : Machine) (sources : List ℕ) (parts : List Part) (one other : Records) (key : Key) → map.get one key ≡ map.get other key
    → map.get (records_after machine sources parts one) key ≡ map.get (records_after machine sources parts other) key
same_records machine sources [] one other key alike = alike
same_records machine sources (part ∷ parts) one other key alike =
    let read = part_listing machine sources part in
    same_records machine sources parts (records_with one part.arch read) (records_with other part.arch read) key (with-same one other part.arch read key alike)

-- ---- the step

same_refusal : (machine : Machine) (sources : List ℕ) (parts : List Part)
    → first_refusal (part_for_merge machine parts) (Merge sources parts) ≡ first_refusal machine (Merge sources parts)
unfolding first_refusal text_refusal state_refusal part_for_merge part_listing transition_of
same_refusal machine sources parts = refl

same_reply : (machine : Machine) (sources : List ℕ) (parts : List Part) (first : Option Refusal)
    → (outcome first None (part_for_merge machine parts) (Merge sources parts)).0 ≡ (outcome first None machine (Merge sources parts)).0
unfolding part_for_merge part_listing
same_reply machine sources parts (Some refusal) = refl
same_reply machine sources parts None =
    ap (λ replies. Ok (Whole (machine.accepted + 1) replies))
    (same_replies machine sources parts (part_for_merge machine parts).records machine.records (part-inside machine parts))

pub merge_answer : (machine : Machine) (sources : List ℕ) (parts : List Part)
    → (step (part_for_merge machine parts) (Merge sources parts)).0 ≡ (step machine (Merge sources parts)).0
unfolding step
merge_answer machine sources parts =
    ap (λ first. (outcome first None (part_for_merge machine parts) (Merge sources parts)).0) (same_refusal machine sources parts)
    ∙ same_reply machine sources parts (first_refusal machine (Merge sources parts))

same_inside : (machine : Machine) (sources : List ℕ) (parts : List Part) (key : Key) → is_part_for parts key.0 ≡ true → (first : Option Refusal)
    → map.get (outcome first None machine (Merge sources parts)).1.records key ≡ map.get (outcome first None (part_for_merge machine parts) (Merge sources parts)).1.records key
unfolding part_for_merge part_listing
same_inside machine sources parts key is (Some refusal) = sym (part-inside machine parts key is)
same_inside machine sources parts key is None =
    sym (same_records machine sources parts (part_for_merge machine parts).records machine.records key (part-inside machine parts key is))

same_accepted : (machine : Machine) (sources : List ℕ) (parts : List Part) (first : Option Refusal)
    → (outcome first None machine (Merge sources parts)).1.accepted ≡ (outcome first None (part_for_merge machine parts) (Merge sources parts)).1.accepted
unfolding part_for_merge
same_accepted machine sources parts (Some refusal) = refl
same_accepted machine sources parts None = refl

same_handed : (machine : Machine) (sources : List ℕ) (parts : List Part) (first : Option Refusal)
    → (outcome first None (part_for_merge machine parts) (Merge sources parts)).1.handed ≡ machine.handed
unfolding part_for_merge
same_handed machine sources parts (Some refusal) = refl
same_handed machine sources parts None = refl

clash : false ≡ true → ⊥
clash e = cc

pub merge_joined : (machine : Machine) (sources : List ℕ) (parts : List Part)
    → IsJoined parts (step (part_for_merge machine parts) (Merge sources parts)).1 machine (step machine (Merge sources parts)).1
unfolding step
merge_joined machine sources parts =
    let small = part_for_merge machine parts in
    let command = Merge sources parts in
    let first = same_refusal machine sources parts in
    record {
      inside = λ key is. same_inside machine sources parts key is (first_refusal machine command)
          ∙ ap (λ (r : Option Refusal). map.get (outcome r None small command).1.records key) (sym first);
      outside = λ key is. step-others machine command key (λ may. clash (sym is ∙ may));
      archs = same_rest (λ (m : Machine). m.archs) (first_refusal machine command) refl;
      builders = same_rest (λ (m : Machine). m.builders) (first_refusal machine command) refl;
      handed = (same_rest (λ (m : Machine). m.handed) (first_refusal machine command) refl, same_handed machine sources parts (first_refusal small command));
      accepted = same_accepted machine sources parts (first_refusal machine command) ∙ ap (λ (r : Option Refusal). (outcome r None small command).1.accepted) (sym first);
    }
  where
    same_rest : {X : Type 0} (f : Machine → X) (first : Option Refusal) → f (outcome None None machine (Merge sources parts)).1 ≡ f machine → f (outcome first None machine (Merge sources parts)).1 ≡ f machine
    same_rest f None is = is
    same_rest f (Some refusal) is = refl

pub merge_alone : (machine : Machine) (sources : List ℕ) (parts : List Part) (key : Key) → is_part_for parts key.0 ≡ false
    → map.get (step (part_for_merge machine parts) (Merge sources parts)).1.records key ≡ None
merge_alone machine sources parts key is =
    step-others (part_for_merge machine parts) (Merge sources parts) key (λ may. clash (sym is ∙ may)) ∙ part-outside machine parts key is
