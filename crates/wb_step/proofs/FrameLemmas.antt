-- A command changes no record but those that it may change.
use Rattle.std.proofs.Common.{◌≡◌, ℕ, ℤ, ◌||◌, Bool, true, false, cond, List, [], ◌∷◌, Option, Some, None, Result, Ok, Err, refl, ap, ◌∙◌, bytes_eq}
use Rattle.std.specs.FinMap as map
use Rattle.std.specs.List.{list_any}
use Rattle.std.specs.Ordering.{eq_by_cmp}
use Rattle.wb_states.specs.declared.command.Command.{Command}
use Rattle.wb_states.specs.declared.command.Command.TheVariants as of
use Rattle.wb_states.specs.declared.command.Part.{Part}
use Rattle.wb_states.specs.declared.record.Record.{Record}
use Rattle.wb_states.specs.declared.refusal.Refusal.{Refusal}
use Rattle.wb_states.specs.Machine.{Machine}
use Rattle.deb_text.specs.Text.{pair_cmp}
use Rattle.wb_states.specs.Moves.{record_after_move}
use Rattle.wb_states.specs.Queue.{Entry}
use Rattle.deb_text.proofs.KeyLemmas.{pair_cmp_total, pair_cmp-same, eq_by_cmp-same}
use Rattle.wb_merge.specs.Listing.{ArchiveListing}
use Rattle.wb_merge.specs.Merge.{record_after}
use Rattle.wb_merge.specs.Merged.{Records, record_after_at}
use Rattle.wb_merge.proofs.MergeLemmas.{merged-get}
use Rattle.wb_step.specs.Checks.{refused_move}
use Rattle.wb_step.specs.Targets.{MayChange, transition_of, target_of}
use Rattle.wb_step.specs.Parts.{part_listing, records_after, records_with}
use Rattle.wb_step.specs.Step.{after_move, after_priority, lines_said, state_after, entered, step}
use Rattle.wb_step.proofs.ReportingLemmas.{report-others}
use Rattle.wb_step.proofs.TransitionLemmas.{transition_of-may}
use Rattle.wb_step.proofs.PassLemmas.{step-either}
use Rattle.wb_step.proofs.RemovalLemmas.{remove-other, retain-other}

-- an insertion changes no other key
pub insert-other : (records : Records) (key other : List ℕ × List ℕ) (current : Record) → (other ≡ key → ⊥)
    → map.get (map.insert records key current) other ≡ map.get records other
insert-other records key other current apart =
    map.get-insert pair_cmp_total records key current other
    ∙ (elim (eq_by_cmp pair_cmp other key) as (λ b. eq_by_cmp pair_cmp other key ≡ b → cond b (Some current) (map.get records other) ≡ map.get records other) [
      | true ↦ λ is. absurd (apart (eq_by_cmp-same pair_cmp-same other key is))
      | false ↦ λ _. refl
    ]) refl

-- a part changes no record of another architecture
pub part-others : (records : Records) (arch : List ℕ) (read : Result ArchiveListing Refusal) (key : List ℕ × List ℕ) → bytes_eq key.0 arch ≡ false
    → map.get (records_with records arch read) key ≡ map.get records key
unfolding record_after_at
part-others records arch (Err refusal) key other = refl
part-others records arch (Ok listing) key other =
    merged-get records arch listing key
    ∙ ap (λ b. cond b (record_after (map.get records key) (map.get listing.listed key.1) (map.get listing.built key.1) listing.available) (map.get records key)) other

either-not : (a b : Bool) → ((a || b) ≡ true → ⊥) → (a ≡ false) × (b ≡ true → ⊥)
either-not true b apart = absurd (apart refl)
either-not false b apart = (refl, apart)

pub parts-others : (machine : Machine) (sources : List ℕ) (parts : List Part) (records : Records) (key : List ℕ × List ℕ)
    → (list_any (λ part. bytes_eq key.0 part.arch) parts ≡ true → ⊥)
    → map.get (records_after machine sources parts records) key ≡ map.get records key
parts-others machine sources [] records key apart = refl
parts-others machine sources (part ∷ parts) records key apart =
    let both = either-not (bytes_eq key.0 part.arch) (list_any (λ other. bytes_eq key.0 other.arch) parts) apart in
    parts-others machine sources parts (records_with records part.arch (part_listing machine sources part)) key both.1
    ∙ part-others records part.arch (part_listing machine sources part) key both.0

-- a command changes no record but the one that it moves
transition_of-others : (machine : Machine) (command : Command) (key : List ℕ × List ℕ) → refused_move machine command ≡ None
    → ((entry : Entry) × ((target_of machine command ≡ Some entry) × (key ≡ entry.0)) → ⊥)
    → map.get (after_move machine (transition_of machine command)).records key ≡ map.get machine.records key
transition_of-others machine command key allowed apart =
    (elim (transition_of machine command) as (λ asked. transition_of machine command ≡ asked → map.get (after_move machine asked).records key ≡ map.get machine.records key) [
      | None ↦ λ _. refl
      | Some asked ↦ λ is.
          let may = transition_of-may machine command asked allowed is in
          insert-other machine.records asked.0.0 key (record_after_move asked.1 asked.0.1) (λ same. apart (asked.0, (may.target, same)))
    ]) refl

after_priority-others : (machine : Machine) (key other : List ℕ × List ℕ) (value : ℤ) (found : Option Record) → (other ≡ key → ⊥)
    → map.get (after_priority machine key value found).records other ≡ map.get machine.records other
after_priority-others machine key other value None apart = refl
after_priority-others machine key other value (Some current) apart =
    insert-other machine.records key other (record current { build_priority = value }) apart

state_after-others : (machine : Machine) (command : Command) (key : List ℕ × List ℕ) → refused_move machine command ≡ None → (MayChange machine command key → ⊥)
    → map.get (state_after machine command).records key ≡ map.get machine.records key
state_after-others machine (of.AddArch fields) key allowed apart = refl
state_after-others machine (of.AddBuilder fields) key allowed apart = refl
state_after-others machine (of.RemoveArch fields) key allowed apart = retain-other machine.records fields.name key apart
state_after-others machine (of.RemoveBuilder fields) key allowed apart = refl
state_after-others machine (of.Forget fields) key allowed apart =
    remove-other pair_cmp_total pair_cmp-same machine.records (fields.arch, fields.source) key apart
state_after-others machine (of.Enter fields) key allowed apart =
    insert-other machine.records (fields.arch, fields.source) key (entered fields.version fields.priority fields.section) apart
state_after-others machine (of.Merge fields) key allowed apart = parts-others machine fields.sources fields.parts machine.records key apart
state_after-others machine (of.Report fields) key allowed apart = report-others machine.records fields.arch (lines_said fields.text) key apart
state_after-others machine (of.BuildPriority fields) key allowed apart =
    after_priority-others machine (fields.arch, fields.source) key fields.value (map.get machine.records (fields.arch, fields.source)) apart
state_after-others machine command key allowed apart = transition_of-others machine command key allowed apart

pub step-others : (machine : Machine) (command : Command) (key : List ℕ × List ℕ) → (MayChange machine command key → ⊥)
    → map.get (step machine command).1.records key ≡ map.get machine.records key
step-others machine command key apart =
    step-either (λ after. map.get after.records key ≡ map.get machine.records key) machine command refl (λ pass _. state_after-others machine command key pass.move apart)
