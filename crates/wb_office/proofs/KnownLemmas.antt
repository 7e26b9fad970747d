-- What an office knows of its tables: it is copied, and it is so after a command too.
use Rattle.std.proofs.Common.{◌≡◌, ◌≢◌, ◌∙◌, refl, sym, ap, ap₂, subst, ℕ, ◌+◌, ◌<◌, ◌≤◌, List, [], ◌∷◌, ◌++◌}
use Rattle.std.proofs.Common.{append_assoc, append-nil, drop, get_or, length, Option, Some, None, IfSome}
use Rattle.std.proofs.lemmas.List.{drop_all}
use Rattle.std.specs.BTreeMap.{BTreeMap}
use Rattle.std.specs.FinMap as map
use Rattle.deb_text.specs.Text.{text_cmp}
use Rattle.wb_states.specs.declared.arch.OsCpu.{OsCpu}
use Rattle.wb_states.specs.declared.command.AddArch.{AddArch}
use Rattle.wb_states.specs.declared.command.Command.{Command}
use Rattle.wb_states.specs.declared.command.Command.TheVariants as of
use Rattle.wb_states.specs.declared.command.RemoveArch.{RemoveArch}
use Rattle.wb_states.specs.declared.command.Report.{Report}
use Rattle.wb_states.specs.declared.counts.Counts.{Counts}
use Rattle.wb_states.specs.declared.counts.StateCounts.{StateCounts}
use Rattle.wb_states.specs.declared.refusal.Refusal.{Refusal}
use Rattle.wb_states.specs.Machine.{Machine}
use Rattle.wb_states.specs.Queue.{Entry}
use Rattle.wb_step.specs.Checks.{first_refusal}
use Rattle.wb_step.specs.Locality.{IsSingle, archs_after}
use Rattle.wb_step.specs.Step.{outcome, step}
use Rattle.wb_step.specs.Targets.{again_of}
use Rattle.wb_step.proofs.LocalityLemmas.{steps_change}
use Rattle.wb_step.proofs.MergedPartLemmas.{merge_joined}
use Rattle.wb_office.specs.declared.known.Known.{Known}
use Rattle.wb_store.specs.Opening.{AreCountsOf}
use Rattle.wb_office.specs.Standing.{AreSummaries, Knows}
use Rattle.wb_office.proofs.WrittenRowLemmas.{left_of}

-- one is copied, and then those after it
pub copied_next : {X : Type 0} (xs : List X) (at : ℕ) (x y : X) → at < length xs → x ≡ get_or xs at x → y ≡ x → (copy new : List X) → new ≡ copy ++ y ∷ [] → copy ++ drop at xs ≡ xs
    → new ++ drop (at + 1) xs ≡ xs
copied_next xs at x y within is same copy new made before =
    let rest = drop (at + 1) xs in
    ap (λ l. l ++ rest) made ∙ append_assoc copy (y ∷ []) rest ∙ ap (λ z. copy ++ z ∷ rest) same ∙ ap (λ l. copy ++ l) (sym (left_of xs at x within is)) ∙ before

-- all are copied
pub copied_all : {X : Type 0} (xs copy : List X) (at : ℕ) → length xs ≤ at → copy ++ drop at xs ≡ xs → copy ≡ xs
copied_all xs copy at past is = sym (append-nil copy) ∙ ap (λ l. copy ++ l) (sym (drop_all at xs past)) ∙ is

-- a command that imports nothing and takes no architecture away, and leaves the architectures if it is accepted, leaves
-- them
single_leaves : (command : Command) (machine : Machine) → IsSingle command
    → archs_after command machine.archs ≡ machine.archs
    → (step machine command).1.archs ≡ machine.archs
unfolding step
single_leaves command machine single same = by_answer (first_refusal machine command) (again_of machine command) refl refl
  where
    by_answer : (refused : Option Refusal) (again : Option Entry) → first_refusal machine command ≡ refused → again_of machine command ≡ again
        → (outcome (first_refusal machine command) (again_of machine command) machine command).1.archs ≡ machine.archs
    by_answer (Some refusal) again is told = ap₂ (λ r a. (outcome r a machine command).1.archs) is told
    by_answer None (Some entry) is told = ap₂ (λ r a. (outcome r a machine command).1.archs) is told
    by_answer None None is told = ap (λ (m : Machine). m.archs) (steps_change command machine single is told) ∙ same

-- a report leaves them
report_leaves : (machine : Machine) (report : Report) → (step machine (of.Report report)).1.archs ≡ machine.archs
unfolding step
report_leaves machine report = at (first_refusal machine (of.Report report)) where
  at : (first : Option Refusal) → (outcome first None machine (of.Report report)).1.archs ≡ machine.archs
  at None = refl
  at (Some refusal) = refl

-- a command that neither adds an architecture nor takes one away leaves them
archs_stay : (command : Command) (machine : Machine) → ((fields : AddArch) → command ≢ of.AddArch fields)
    → ((fields : RemoveArch) → command ≢ of.RemoveArch fields) → (step machine command).1.archs ≡ machine.archs
archs_stay (of.AddArch fields) machine other stays = absurd (other fields refl)
archs_stay (of.RemoveArch fields) machine other stays = absurd (stays fields refl)
archs_stay (of.Merge fields) machine other stays = (merge_joined machine fields.sources fields.parts).archs
archs_stay (of.Report fields) machine other stays = report_leaves machine fields
archs_stay command machine other stays = single_leaves command machine (record { imports = refl; keeps = refl }) refl

-- what is known is known after such a command, with the counts then
pub knows_after : (command : Command) (machine : Machine) (known : Known) (counts : Counts)
    (summaries : BTreeMap (List ℕ) StateCounts) → ((fields : AddArch) → command ≢ of.AddArch fields)
    → ((fields : RemoveArch) → command ≢ of.RemoveArch fields) → Knows machine known
    → AreCountsOf (step machine command).1 counts
    → AreSummaries (step machine command).1 summaries
    → Knows (step machine command).1 (record { counts = counts; archs = known.archs; summaries = summaries })
knows_after command machine known counts summaries other stays knows after are = record {
  counts = after;
  archs = subst (λ (archs : map.FinMap text_cmp OsCpu). IfSome known.archs (λ those. those.items ≡ map.entries archs))
      (sym (archs_stay command machine other stays)) knows.archs;
  summaries = are;
}

-- after lists were merged too
pub knows_merged : (machine after : Machine) (known : Known) (counts : Counts)
    (summaries : BTreeMap (List ℕ) StateCounts) → Knows machine known → after.archs ≡ machine.archs
    → AreCountsOf after counts → AreSummaries after summaries
    → Knows after (record { counts = counts; archs = known.archs; summaries = summaries })
knows_merged machine after known counts summaries knows same counted are = record {
  counts = counted;
  archs = subst (λ (archs : map.FinMap text_cmp OsCpu). IfSome known.archs
      (λ those. those.items ≡ map.entries archs)) (sym same) knows.archs;
  summaries = are;
}
