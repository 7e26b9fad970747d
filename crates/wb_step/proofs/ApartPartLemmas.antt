-- Each part of a merge changes the records of its own architecture alone, whatever the other parts do.
use Rattle.std.proofs.Common.{◌≡◌, ℕ, Bool, true, false, cond, List, [], ◌∷◌, ◌++◌, Some, None, Result, Ok, Err, is_ok, refl, sym, ap, ◌∙◌, bytes_eq}
use Rattle.std.proofs.lemmas.Cmp.{nat_list_eq_equiv}
use Rattle.std.specs.FinMap as map
use Rattle.std.specs.List.{list_any}
use Rattle.std.proofs.lemmas.Bool.{both_ways, or_parts}
use Rattle.wb_states.specs.declared.command.Command.{Command}
use Rattle.wb_states.specs.Forms.{Merge}
use Rattle.wb_states.specs.declared.command.Part.{Part}
use Rattle.wb_states.specs.declared.refusal.Refusal.{Refusal}
use Rattle.wb_states.specs.Machine.{Machine}
use Rattle.wb_merge.specs.Listing.{ArchiveListing}
use Rattle.wb_merge.specs.Merge.{record_after}
use Rattle.wb_merge.specs.Merged.{Records, record_after_at}
use Rattle.wb_merge.proofs.MergeLemmas.{merged-get}
use Rattle.wb_step.specs.Checks.{first_refusal, has_repeated_arch}
use Rattle.wb_step.specs.Targets.{again_of}
use Rattle.wb_step.specs.Parts.{part_listing, records_after, records_with}
use Rattle.wb_step.specs.Step.{state_after, counted, outcome, step}
use Rattle.wb_step.proofs.FrameLemmas.{part-others, parts-others}
use Rattle.wb_step.proofs.PassLemmas.{passes}

-- what a part makes of the record at a key depends on that record alone
pub with-same : (records other : Records) (arch : List ℕ) (read : Result ArchiveListing Refusal) (key : List ℕ × List ℕ) → map.get records key ≡ map.get other key
    → map.get (records_with records arch read) key ≡ map.get (records_with other arch read) key
unfolding record_after_at
with-same records other arch (Err refusal) key same = same
with-same records other arch (Ok listing) key same =
    merged-get records arch listing key
    ∙ (λ i. cond (bytes_eq key.0 arch) (record_after (same i) (map.get listing.listed key.1) (map.get listing.built key.1) listing.available) (same i))
    ∙ sym (merged-get other arch listing key)

-- a part that is not for one architecture of a list is not for that of its middle
middle-other : (test : Part → Bool) (before : List Part) (part : Part) (behind : List Part) → list_any test (before ++ part ∷ behind) ≡ false → test part ≡ false
middle-other test [] part behind is = (or_parts (test part) (list_any test behind) is).0
middle-other test (one ∷ before) part behind is =
    middle-other test before part behind (or_parts (test one) (list_any test (before ++ part ∷ behind)) is).1

merged-part : (machine : Machine) (sources : List ℕ) (before : List Part) (part : Part) (behind : List Part) (records : Records) (key : List ℕ × List ℕ)
    → has_repeated_arch (before ++ part ∷ behind) ≡ false → key.0 ≡ part.arch
    → map.get (records_after machine sources (before ++ part ∷ behind) records) key
    ≡ map.get (records_with records part.arch (part_listing machine sources part)) key
merged-part machine sources [] part behind records key once here =
    let later = (or_parts (list_any (λ other. bytes_eq part.arch other.arch) behind) (has_repeated_arch behind) once).0 in
    parts-others machine sources behind (records_with records part.arch (part_listing machine sources part)) key
    (both_ways (list_any (λ other. bytes_eq key.0 other.arch) behind) (ap (λ (name : List ℕ). list_any (λ other. bytes_eq name other.arch) behind) here ∙ later))
merged-part machine sources (one ∷ before) part behind records key once here =
    let rest : List Part = before ++ part ∷ behind in
    let both = or_parts (list_any (λ other. bytes_eq one.arch other.arch) rest) (has_repeated_arch rest) once in
    let apart : bytes_eq key.0 one.arch ≡ false =
    ap (λ (name : List ℕ). bytes_eq name one.arch) here ∙ nat_list_eq_equiv.symm part.arch one.arch
    ∙ middle-other (λ other. bytes_eq one.arch other.arch) before part behind both.0 in
    let first : Records = records_with records one.arch (part_listing machine sources one) in
    merged-part machine sources before part behind first key both.1 here
    ∙ with-same first records part.arch (part_listing machine sources part) key (part-others records one.arch (part_listing machine sources one) key apart)

-- a command that is accepted, and by which nothing is told again, is done
accepted-done : (machine : Machine) (command : Command) → again_of machine command ≡ None → is_ok (step machine command).0 ≡ true
    → (first_refusal machine command ≡ None) × ((step machine command).1 ≡ counted machine (state_after machine command))
unfolding step
accepted-done machine command again is =
    (elim (first_refusal machine command) as (λ r. first_refusal machine command ≡ r → is_ok (outcome r (again_of machine command) machine command).0 ≡ true
    → (first_refusal machine command ≡ None) × ((outcome (first_refusal machine command) (again_of machine command) machine command).1 ≡ counted machine (state_after machine command))) [
      | Some refusal ↦ λ _ holds. absurd (clash holds)
      | None ↦ λ first _. (first, λ i. (outcome (first i) (again i) machine command).1)
    ]) refl is
  where
    clash : false ≡ true → ⊥
    clash e = cc

pub step-part : (machine : Machine) (sources : List ℕ) (before : List Part) (part : Part) (behind : List Part) (key : List ℕ × List ℕ)
    → is_ok (step machine (Merge sources (before ++ part ∷ behind))).0 ≡ true → key.0 ≡ part.arch
    → map.get (step machine (Merge sources (before ++ part ∷ behind))).1.records key
    ≡ map.get (records_with machine.records part.arch (part_listing machine sources part)) key
step-part machine sources before part behind key is here =
    let command : Command = Merge sources (before ++ part ∷ behind) in
    let done = accepted-done machine command refl is in
    let pass = passes machine command done.0 in
    ap (λ (m : Machine). map.get m.records key) done.1
    ∙ merged-part machine sources before part behind machine.records key pass.parts here
