-- Lemmas on what is told of what an office answered.
use Rattle.std.proofs.Common.{◌≡◌, ◌⊎◌, inl, inr, ℕ, Bool, true, false, List, Option, Result, Ok, Err, IfOk, IfErr, codes, refl, sym, ap, subst, ◌∙◌, arith}
use Rattle.std.proofs.lemmas.Bool.{false≢true}
use Rattle.std.specs.Prelude.{IsOk}
use Rattle.wb_states.specs.Commands.{name_of_command}
use Rattle.wb_states.specs.Machine.{Machine}
use Rattle.wb_states.specs.Refusals.{IsOfMachine, is_of_store}
use Rattle.wb_states.specs.declared.command.Command.{Command}
use Rattle.wb_states.specs.declared.refusal.Refusal.{Refusal}
use Rattle.wb_states.specs.declared.refusal.Refusal.TheVariants.{Closed, Memory, Store}
use Rattle.wb_states.specs.declared.reply.Reply.{Reply}
use Rattle.wb_states.specs.declared.store_fault.StoreFault.{StoreFault}
use Rattle.wb_step.specs.Checks.{MayWantMemory}
use Rattle.wb_step.specs.Offices.{Accepts, Standing}
use Rattle.wb_step.specs.Step.{step}
use Rattle.wb_step.proofs.CountedLemmas.{step-accepted}
use Rattle.wb_step.proofs.OfficeLemmas.{is_of_store-cases, refusal-cases, step-repeats}
use Rattle.wb_words.specs.declared.words.Invocation.TheVariants.{Merge as invocation_Merge}
use Rattle.wb_lists.specs.declared.names.PartNames.{PartNames}
use Rattle.wb_api.specs.Encoding.{is_plain}
use Rattle.wb_archive.specs.Readers.{IsMergeOf}
use Rattle.wb_lists.specs.declared.lists.MergeLists.{MergeLists}
use Rattle.wb_lists.specs.Lists.{MayRead, MayReadMerge, OpensMerge}
use Rattle.wb_api.specs.Responses.{IsRefusedByStore, memory_response, refusal_response, reply_response}
use Rattle.wb_daemon.specs.Run.{on_line}
use Rattle.wb_daemon.specs.Turn.{response_of_answer, IsCommandResponseOrMemory, IsInvocationResponseOrMemory, SaysEver, Tells}
use Rattle.wb_daemon.specs.declared.answer.LineAnswer.{LineAnswer}
use Rattle.wb_daemon.proofs.AnswerLemmas.{refused-response}
use Rattle.wb_lists.proofs.OpenedLemmas.{merge-command, opened-merge}

-- the refusal of an office that is closed, or whose store failed, is told
pub tells-store : (name : List ℕ) (is_counted : Bool) (answered : Result Reply Refusal) (answer : LineAnswer) → Tells name is_counted answered answer → answer.stops ≡ true
    → ((answered ≡ Err Closed) × SaysEver answer (λ after. refusal_response on_line after Closed))
    ⊎ ((fault : StoreFault) × ((answered ≡ Err (Store fault)) × (SaysEver answer (λ after. refusal_response on_line after (Store fault)) ⊎ SaysEver answer (memory_response on_line))))
tells-store name is_counted (Ok reply) answer told stops = absurd (false≢true (sym told.0 ∙ stops))
tells-store name is_counted (Err refusal) answer told stops = elim (is_of_store-cases refusal (sym told.0 ∙ stops)) [
  | inl is ↦ inl (ap Err is, closed refusal is told.1)
  | inr failed ↦ inr (failed.0, (ap Err failed.1, store refusal failed.0 failed.1 told.1))
]
  where
    closed : (refusal : Refusal) → refusal ≡ Closed
        → (¬ (refusal ≡ Memory) × SaysEver answer (λ after. refusal_response on_line after refusal))
        ⊎ (((refusal ≡ Memory) ⊎ (is_plain refusal ≡ false)) × SaysEver answer (memory_response on_line)) → SaysEver answer (λ after. refusal_response on_line after Closed)
    closed refusal is (inl said) = λ after. said.1 after ∙ ap (refusal_response on_line after) is
    closed refusal is (inr (inl memory, said)) = let differ : Closed ≡ Memory → ⊥ = λ same. cc in absurd (differ (sym is ∙ memory))
    closed refusal is (inr (inr long, said)) = absurd (false≢true (sym long ∙ ap is_plain is))

    store : (refusal : Refusal) (fault : StoreFault) → refusal ≡ Store fault
        → (¬ (refusal ≡ Memory) × SaysEver answer (λ after. refusal_response on_line after refusal))
        ⊎ (((refusal ≡ Memory) ⊎ (is_plain refusal ≡ false)) × SaysEver answer (memory_response on_line))
        → SaysEver answer (λ after. refusal_response on_line after (Store fault)) ⊎ SaysEver answer (memory_response on_line)
    store refusal fault is (inl said) = inl (λ after. said.1 after ∙ ap (refusal_response on_line after) is)
    store refusal fault is (inr said) = inr said.1

-- such a refusal is said of an office whose store refused it
pub refused-said : (machine : Machine) (failed : StoreFault → Standing) (fault : StoreFault) (answer : LineAnswer)
    → SaysEver answer (λ after. refusal_response on_line after (Store fault)) ⊎ SaysEver answer (memory_response on_line)
    → IsRefusedByStore on_line machine failed (response_of_answer answer machine) (failed fault)
refused-said machine failed fault answer (inl said) = inr (fault, inl (said machine), refl)
refused-said machine failed fault answer (inr said) = inr (fault, inr (refl, said machine), refl)

-- ---- a command

-- what was answered to a command is told, and the office stands as its step leaves it, or as it was
pub tells-command : (machine : Machine) (command : Command) (is_counted : Bool) (StandsAt : Machine → Type 0) (answered : Result Reply Refusal) (answer : LineAnswer)
    → Tells (name_of_command command) is_counted answered answer → answer.stops ≡ false
    → IfOk answered (λ reply. ((step machine command).0 ≡ Ok reply) × StandsAt (step machine command).1)
    → IfErr answered (λ refusal. IsOfMachine refusal → is_of_store refusal ≡ false → ((step machine command).0 ≡ Err refusal) × StandsAt machine)
    → (answered ≡ Err Memory → MayWantMemory command × StandsAt machine)
    → (is_counted ≡ false → (after : Machine) → StandsAt after → after.accepted ≡ machine.accepted)
    → (after : Machine) × (StandsAt after × IsCommandResponseOrMemory machine command (response_of_answer answer after))
tells-command machine command is_counted StandsAt (Ok reply) answer (stops, inl said) goes replied refused memory uncounted = (
  (step machine command).1,
  (
    replied.1,
    inl (said (step machine command).1 ∙ sym (ap (λ (r : Result Reply Refusal). reply_response on_line (name_of_command command) r (step machine command).1) replied.0)),
  ),
)
tells-command machine command is_counted StandsAt (Ok reply) answer (stops, inr (not_counted, said)) goes replied refused memory uncounted =
    let same = step-repeats machine command (uncounted not_counted (step machine command).1 replied.1) in
    (machine, (subst StandsAt same replied.1, inr (inr (subst (λ (r : Result Reply Refusal). IsOk r) (sym replied.0) refl, same), said machine)))
tells-command machine command is_counted StandsAt (Err refusal) answer (stops, inl (other, said)) goes replied refused memory uncounted =
    let now = refused other (sym stops ∙ goes) in
    (machine, (now.1, inl (said machine ∙ sym (refused-response machine command refusal now.0))))
tells-command machine command is_counted StandsAt (Err refusal) answer (stops, inr (inl is, said)) goes replied refused memory uncounted =
    let wants = memory (ap Err is) in
    (machine, (wants.1, inr (inl (inl wants.0), said machine)))
tells-command machine command is_counted StandsAt (Err refusal) answer (stops, inr (inr long, said)) goes replied refused memory uncounted =
    elim (refusal-cases refusal) [
      | inl is ↦ (let wants = memory (ap Err is) in (machine, (wants.1, inr (inl (inl wants.0), said machine))))
      | inr other ↦ (let now = refused other (sym stops ∙ goes) in (machine, (now.1, inr (inl (inr (refusal, now.0, long)), said machine))))
    ]

accepts : (machine : Machine) (command : Command) → IsOk (step machine command).0 → ¬ ((step machine command).1.accepted ≡ machine.accepted)
    → Accepts machine command (step machine command).1
accepts machine command ok more =
    let rises = step-accepted machine command in
    (ok, refl, omega (arith, rises, more))

-- a command was accepted and counted
pub lost-command : (machine : Machine) (command : Command) (StandsAt : Machine → Type 0) (answered : Result Reply Refusal) → IsOk answered
    → IfOk answered (λ reply. ((step machine command).0 ≡ Ok reply) × StandsAt (step machine command).1)
    → ((after : Machine) → StandsAt after → ¬ (after.accepted ≡ machine.accepted))
    → (after : Machine) × (StandsAt after × Accepts machine command after)
lost-command machine command StandsAt (Ok reply) ok replied counted = (
  (step machine command).1,
  (
    replied.1,
    accepts machine command (subst (λ (r : Result Reply Refusal). IsOk r) (sym replied.0) refl) (counted (step machine command).1 replied.1),
  ),
)
lost-command machine command StandsAt (Err refusal) ok replied counted = cc

-- ---- a merge of opened lists

module _ {R : Type 0} (may_read : MayRead) (remaining : R → Option (List ℕ)) (sources : List ℕ) (names : List PartNames) (opened : MergeLists R)
    (opens : OpensMerge may_read remaining sources names opened) (machine : Machine) (StandsAt : Machine → Type 0) where
  -- what was answered to a merge is told, and the office stands as the merge leaves it, or as it was
  pub tells-merge : (is_counted : Bool) (answered : Result Reply Refusal) (answer : LineAnswer) → Tells (codes "merge") is_counted answered answer → answer.stops ≡ false
      → IfOk answered (λ reply. (after : Machine) × (IsMergeOf remaining opened.sources opened.parts.items machine (Ok reply, after) × StandsAt after))
      → IfErr answered (λ refusal. IsOfMachine refusal → is_of_store refusal ≡ false
      → IsMergeOf remaining opened.sources opened.parts.items machine (Err refusal, machine) × StandsAt machine)
      → (answered ≡ Err Memory → StandsAt machine)
      → (is_counted ≡ false → (after : Machine) → StandsAt after → after.accepted ≡ machine.accepted)
      → (after : Machine) × (StandsAt after × IsInvocationResponseOrMemory may_read machine (invocation_Merge sources names) (response_of_answer answer after))
  tells-merge is_counted (Ok reply) answer (stops, inl said) goes replied refused memory uncounted =
      let merged = opened-merge may_read remaining sources names opened opens machine (Ok reply, replied.0) replied.1.0 in
      (replied.0, (replied.1.1, inl (inl ((Ok reply, replied.0), merged, said replied.0))))
  tells-merge is_counted (Ok reply) answer (stops, inr (not_counted, said)) goes replied refused memory uncounted =
      let merged = opened-merge may_read remaining sources names opened opens machine (Ok reply, replied.0) replied.1.0 in
      let left = merge-command may_read sources names machine (Ok reply, replied.0) merged in
      let same : replied.0 ≡ machine = left.1.1.0 ∙ step-repeats machine left.0 (ap (λ (m : Machine). m.accepted) (sym left.1.1.0) ∙ uncounted not_counted replied.0 replied.1.1) in
      (machine, (subst StandsAt same replied.1.1, inr (tt, said machine)))
  tells-merge is_counted (Err refusal) answer (stops, inl (other, said)) goes replied refused memory uncounted =
      let now = refused other (sym stops ∙ goes) in
      let merged = opened-merge may_read remaining sources names opened opens machine (Err refusal, machine) now.0 in
      (machine, (now.1, inl (inl ((Err refusal, machine), merged, said machine))))
  tells-merge is_counted (Err refusal) answer (stops, inr (why, said)) goes replied refused memory uncounted =
      elim (refusal-cases refusal) [
        | inl is ↦ (machine, (memory (ap Err is), inr (tt, said machine)))
        | inr other ↦ (machine, ((refused other (sym stops ∙ goes)).1, inr (tt, said machine)))
      ]

  -- a merge was accepted and counted
  pub lost-merge : (answered : Result Reply Refusal) → IsOk answered
      → IfOk answered (λ reply. (after : Machine) × (IsMergeOf remaining opened.sources opened.parts.items machine (Ok reply, after) × StandsAt after))
      → ((after : Machine) → StandsAt after → ¬ (after.accepted ≡ machine.accepted))
      → (after : Machine) × (StandsAt after × ((command : Command) × (MayReadMerge may_read sources names command × Accepts machine command after)))
  lost-merge (Ok reply) ok replied counted =
      let merged = opened-merge may_read remaining sources names opened opens machine (Ok reply, replied.0) replied.1.0 in
      let left = merge-command may_read sources names machine (Ok reply, replied.0) merged in
      let is : replied.0 ≡ (step machine left.0).1 = left.1.1.0 in
      let more = subst (λ (m : Machine). ¬ (m.accepted ≡ machine.accepted)) is (counted replied.0 replied.1.1) in (
        replied.0,
        (replied.1.1, (left.0, (left.1.0, subst (Accepts machine left.0) (sym is) (accepts machine left.0 (left.1.1.1 refl) more)))),
      )
  lost-merge (Err refusal) ok replied counted = cc
