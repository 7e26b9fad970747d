-- Lemmas on what may be answered to a merge of lists that were opened.
use Rattle.std.proofs.Common.{◌≡◌, ◌∙◌, inl, inr, ℕ, Bool, true, false, List, Option, None, Some, Result, Ok, Err}
use Rattle.std.proofs.Common.{IfErr, IfOk}
use Rattle.std.proofs.Common.{refl, sym, ap, subst, arith}
use Rattle.std.specs.Prelude.{IsOk}
use Rattle.deb_control.specs.declared.fault.ControlFault.{ControlFault}
use Rattle.wb_states.specs.Machine.{Machine}
use Rattle.wb_states.specs.Refusals.{IsOfMachine, is_of_store}
use Rattle.wb_states.specs.declared.command.Command.{Command}
use Rattle.wb_states.specs.declared.command.Part.{Part}
use Rattle.wb_states.specs.declared.refusal.Refusal.{Refusal}
use Rattle.wb_states.specs.declared.refusal.Refusal.TheVariants.{Closed, Memory, Store}
use Rattle.wb_states.specs.declared.reply.PartReply.{PartReply}
use Rattle.wb_states.specs.declared.reply.Reply.{Reply}
use Rattle.wb_states.specs.declared.store_fault.StoreFault.{StoreFault}
use Rattle.wb_merge.specs.Merged.{Records}
use Rattle.wb_step.specs.Offices.{Accepts, InDoubt, Open, Shut, Standing, Stands, StandsOn}
use Rattle.wb_step.specs.Step.{Outcome, step}
use Rattle.wb_step.proofs.CountedLemmas.{step-accepted}
use Rattle.wb_step.proofs.OfficeLemmas.{step-repeats}
use Rattle.wb_archive.specs.Readers.{IsMergeOf, IsMergeOfTexts, MayLeave, outcome_by, refusal_by}
use Rattle.wb_lists.specs.declared.lists.MergeLists.{MergeLists}
use Rattle.wb_lists.specs.declared.names.MergeNames.{MergeNames}
use Rattle.wb_lists.specs.declared.names.PartNames.{PartNames}
use Rattle.wb_keys.specs.declared.access.Access.{Access}
use Rattle.wb_lists.specs.Lists.{MayRead, MayReadLess, MayReadMerge, IsMergeAs, OpensMerge}
use Rattle.wb_lists.proofs.ListLemmas.{LacksMerge-more, MayReadMerge-more}
use Rattle.wb_lists.proofs.OpenedLemmas.{IsMergeAs-more, merge-command, opened-leaves, opened-merge}
use Rattle.wb_api.specs.Responses.{IsRefusal, Response, TellsMerge, memory_response}
use Rattle.wb_api.specs.Exchange.{AsksFor, ExchangesWith, IsAnswerWith, IsMergeAnswer, LeadsOn, RespondsWith, over_http}
use Rattle.wb_api.specs.declared.request.Received.{Received}
use Rattle.wb_api.specs.declared.request.Received.TheVariants as received
use Rattle.wb_api.specs.declared.request.Request.{Request}
use Rattle.wb_api.specs.declared.request.Request.TheVariants as request
use Rattle.wb_api.specs.declared.serve.Served.{Served}
use Rattle.wb_api.proofs.ExchangeLemmas.{refusal-leads_on, store-shuts}
use Rattle.wb_api.proofs.ResponseLemmas.{memory-refusal, said-as}

-- ---- what a merge leaves

refusal-apart : {refusal : Refusal} {reply : Reply} → ¬ (◌≡◌ {A = Result Reply Refusal} (Err refusal) (Ok reply))
refusal-apart e = cc

refused-by : (why : Option Refusal) (is_full : Bool) (machine after : Machine) (refusal : Refusal)
    (replies : List PartReply) (last : Records)
    → ◌≡◌ {A = Outcome} (Err refusal, after) (outcome_by why is_full machine replies last) → after ≡ machine
refused-by (Some other) is_full machine after refusal replies last is = ap (λ (o : Outcome). o.1) is
refused-by None true machine after refusal replies last is = ap (λ (o : Outcome). o.1) is
refused-by None false machine after refusal replies last is =
    absurd (refusal-apart (ap (λ (o : Outcome). o.0) is))

refused-texts : (SourcesBreak : ControlFault → Type 0) (PartBreaks : Part → ControlFault → Type 0) (text : List ℕ)
    (parts : List Part)
    (machine after : Machine) (refusal : Refusal)
    → IsMergeOfTexts SourcesBreak PartBreaks text parts machine (Err refusal, after) → after ≡ machine
refused-texts SourcesBreak PartBreaks text parts machine after refusal (inl (other, (refused, is))) =
    ap (λ (o : Outcome). o.1) is
refused-texts SourcesBreak PartBreaks text parts machine after refusal (inr (names, comes)) =
    refused-by (refusal_by comes.replies) _ machine after refusal comes.replies comes.last comes.is

-- a merge that is refused leaves the office as it was
pub merge-refused : (may_read : MayRead) (sources : List ℕ) (names : List PartNames) (machine after : Machine)
    (refusal : Refusal)
    → IsMergeAs may_read sources names machine (Err refusal, after) → after ≡ machine
merge-refused may_read sources names machine after refusal h =
    refused-texts _ _ h.text h.parts machine after refusal h.comes

-- a merge after which the office counts no more changed nothing
pub merge-repeats : (may_read : MayRead) (sources : List ℕ) (names : List PartNames) (machine : Machine)
    (outcome : Outcome)
    → IsMergeAs may_read sources names machine outcome → outcome.1.accepted ≡ machine.accepted → outcome.1 ≡ machine
merge-repeats may_read sources names machine outcome h same =
    let left = merge-command may_read sources names machine outcome h in
    left.1.1.0 ∙ step-repeats machine left.0 (ap (λ (m : Machine). m.accepted) (sym left.1.1.0) ∙ same)

accepts : (machine : Machine) (command : Command) → IsOk (step machine command).0
    → ¬ ((step machine command).1.accepted ≡ machine.accepted)
    → Accepts machine command (step machine command).1
accepts machine command ok more =
    let rises = step-accepted machine command in
    (ok, refl, omega (arith, rises, more))

-- a merge that is replied to is accepted, if the office counts one more after it
pub merge-accepted : (may_read : MayRead) (sources : List ℕ) (names : List PartNames) (machine after : Machine)
    (reply : Reply)
    → IsMergeAs may_read sources names machine (Ok reply, after) → ¬ (after.accepted ≡ machine.accepted)
    → (command : Command) × (MayReadMerge may_read sources names command × Accepts machine command after)
merge-accepted may_read sources names machine after reply h more =
    let left = merge-command may_read sources names machine (Ok reply, after) h in
    let is : after ≡ (step machine left.0).1 = left.1.1.0 in
    let rises = subst (λ (m : Machine). ¬ (m.accepted ≡ machine.accepted)) is more in
    (left.0, (left.1.0, subst (Accepts machine left.0) (sym is) (accepts machine left.0 (left.1.1.1 refl) rises)))

-- ---- what is answered to the merge of opened lists

module _ {R : Type 0} (may_read : MayRead) (remaining : R → Option (List ℕ)) (names : MergeNames)
    (opened : MergeLists R)
    (opens : OpensMerge may_read remaining names.sources names.parts opened) where
  -- the reply is answered, or that there is no memory for one that was not counted
  merged-answered : (machine after : Machine) (StandsAt : Machine → Type 0) (is_counted : Bool) (reply : Reply)
      (response : Machine → Response)
      → ((m : Machine) → TellsMerge over_http is_counted (Ok reply) m (response m))
      → IsMergeOf remaining opened.sources opened.parts.items machine (Ok reply, after) → StandsAt after
      → (is_counted ≡ false → after.accepted ≡ machine.accepted)
      → (found : Machine) × (StandsAt found × IsMergeAnswer may_read machine names (response found) Open)
  merged-answered machine after StandsAt is_counted reply response told merged stands uncounted =
      let as_read = opened-merge may_read remaining names.sources names.parts opened opens machine (Ok reply, after)
      merged in
      elim (told after) [
        | inl same ↦ (after, (stands, inl (inl ((Ok reply, after), as_read, same), refl)))
        | inr (none, same) ↦
            let kept : after ≡ machine = merge-repeats may_read names.sources names.parts machine (Ok reply, after)
            as_read (uncounted none) in
            let said : response machine ≡ memory_response over_http machine =
            subst (λ m. response m ≡ memory_response over_http m) kept same in
            (machine, (subst StandsAt kept stands, inl (inr (inr said), refl)))
      ]

  -- the refusal is answered, or that there is no memory for its text
  refused-answered : (machine : Machine) (refusal : Refusal) (response : Response)
      → IsRefusal over_http machine refusal response
      → IsMergeOf remaining opened.sources opened.parts.items machine (Err refusal, machine)
      → IsMergeAnswer may_read machine names response Open
  refused-answered machine refusal response (inl same) merged =
      inl (
        inl (
          (Err refusal, machine),
          opened-merge may_read remaining names.sources names.parts opened opens machine
              (Err refusal, machine) merged,
          same,
        ),
        refl,
      )
  refused-answered machine refusal response (inr (long, same)) merged = inl (inr (inr same), refl)

  -- that the office is closed is answered
  closed-answered : (machine : Machine) (response : Response) → IsRefusal over_http machine Closed response
      → IsMergeAnswer may_read machine names response Shut
  closed-answered machine response said =
      let left = opened-leaves may_read remaining names.sources names.parts opened opens machine machine (inl refl) in
      inr (left.0, left.1.0, inl (said, refl))

  -- that the store failed is answered, and the merge is in doubt
  store-answered : {X : Type 0} (is_closed : X → Type 0) (stands_at : X → Machine → Type 0)
      (leaves : X → Machine → Machine → StoreFault → Type 0)
      (new : X) (machine after : Machine) (fault : StoreFault) (response : Response)
      → IsRefusal over_http machine (Store fault) response
      → MayLeave remaining opened.sources opened.parts.items machine after → leaves new machine after fault
      → (standing : Standing) × Stands is_closed stands_at leaves new machine standing
      × IsMergeAnswer may_read machine names response standing
  store-answered is_closed stands_at leaves new machine after fault response said may left =
      let found = opened-leaves may_read remaining names.sources names.parts opened opens machine after may in (
        InDoubt found.0 fault,
        subst (λ m. leaves new machine m fault) found.1.1 left,
        inr (found.0, found.1.0, inr (fault, said, refl)),
      )

  -- what an office answered to the merge is told, and the office stands as the merge leaves it, or as it was
  pub merge-leads : {X : Type 0} (is_clean is_closed : X → Type 0) (stands_at : X → Machine → Type 0)
      (leaves : X → Machine → Machine → StoreFault → Type 0)
      (old new : X) (is_counted : Bool) (answered : Result Reply Refusal) (response : Machine → Response)
      → ((m : Machine) → TellsMerge over_http is_counted answered m (response m))
      → ((machine : Machine) → is_clean new → stands_at old machine → IfOk answered (λ reply. (after : Machine)
      × (IsMergeOf remaining opened.sources opened.parts.items machine (Ok reply, after) × stands_at new after)))
      → ((machine : Machine) → is_clean new → stands_at old machine
      → IfErr answered (λ refusal. IsOfMachine refusal → is_of_store refusal ≡ false
      → IsMergeOf remaining opened.sources opened.parts.items machine (Err refusal, machine) × stands_at new machine))
      → ((machine : Machine) → is_clean new → stands_at old machine → answered ≡ Err Memory → stands_at new machine)
      → ((machine : Machine) → is_clean new → stands_at old machine → answered ≡ Err Closed → is_closed new
      × stands_at new machine)
      → ((machine : Machine) → is_clean new → stands_at old machine → (fault : StoreFault) → answered
      ≡ Err (Store fault) → (after : Machine)
      × (MayLeave remaining opened.sources opened.parts.items machine after × leaves new machine after fault))
      → (is_closed old → is_closed new) → (¬ (is_closed old) → StandsOn (is_closed new) answered)
      → (is_counted ≡ false → (machine after : Machine) → is_clean new → stands_at old machine → stands_at new after
      → after.accepted ≡ machine.accepted)
      → LeadsOn is_clean is_closed stands_at leaves old new
      (λ before after standing. IsMergeAnswer may_read before names (response after) standing)
  merge-leads is_clean is_closed stands_at leaves old new is_counted (Ok reply) response told replied refused memory
      closed store shut on uncounted =
      λ before clean stands.
      let done = replied before clean stands in
      let found = merged-answered before done.0 (stands_at new) is_counted reply response told done.1.0 done.1.1
      (λ none. uncounted none before done.0 clean stands done.1.1) in
      (found.0, Open, found.1.0, (found.1.1, λ open_still. refl))
  merge-leads is_clean is_closed stands_at leaves old new is_counted (Err refusal) response told replied refused memory
      closed store shut on uncounted =
      refusal-leads_on is_clean is_closed stands_at leaves old new
      (λ before after standing. IsMergeAnswer may_read before names (response after) standing) refusal
      (store-shuts is_closed old new refusal shut on)
      (λ before clean stands is. (
        closed before clean stands (ap Err is),
        closed-answered before (response before)
            (said-as over_http before (response before) is (told before)),
      ))
      (λ before clean stands fault is. let doubt = store before clean stands fault (ap Err is) in
      store-answered is_closed stands_at leaves new before doubt.0 fault (response before)
      (said-as over_http before (response before) is (told before)) doubt.1.0 doubt.1.1)
      (λ before clean stands is. (
        memory before clean stands (ap Err is),
        inl (
          inr (inr (memory-refusal over_http before (response before)
              (said-as over_http before (response before) is (told before)))),
          refl,
        ),
      ))
      (λ before clean stands of_machine other. let kept = refused before clean stands of_machine other in
      (kept.1, refused-answered before refusal (response before) (told before) kept.0))

  -- a merge was accepted and counted
  pub merge-lost : (machine : Machine) (StandsAt : Machine → Type 0) (answered : Result Reply Refusal) → IsOk answered
      → IfOk answered (λ reply. (after : Machine)
      × (IsMergeOf remaining opened.sources opened.parts.items machine (Ok reply, after) × StandsAt after))
      → ((after : Machine) → StandsAt after → ¬ (after.accepted ≡ machine.accepted))
      → (after : Machine) × (StandsAt after
      × ((command : Command) × (MayReadMerge may_read names.sources names.parts command
      × Accepts machine command after)))
  merge-lost machine StandsAt (Ok reply) ok replied counted =
      let as_read = opened-merge may_read remaining names.sources names.parts opened opens machine (Ok reply, replied.0)
      replied.1.0 in (
        replied.0,
        (
          replied.1.1,
          merge-accepted may_read names.sources names.parts machine replied.0 reply as_read
              (counted replied.0 replied.1.1),
        ),
      )
  merge-lost machine StandsAt (Err refusal) ok replied counted = cc

-- ---- what lists may be read as later, they might be read as before

module _ (old new : MayRead) (less : MayReadLess old new) where
  merge-answer-more : (machine : Machine) (names : MergeNames) (response : Response) (standing : Standing)
      → IsMergeAnswer new machine names response standing → IsMergeAnswer old machine names response standing
  merge-answer-more machine names response standing (inl (inl h, stands)) =
      inl (inl (h.0, IsMergeAs-more old new less names.sources names.parts machine h.0 h.1, h.2), stands)
  merge-answer-more machine names response standing (inl (inr (inl h), stands)) =
      inl (inr (inl (LacksMerge-more old new less names.sources names.parts h.0, h.1)), stands)
  merge-answer-more machine names response standing (inl (inr (inr h), stands)) = inl (inr (inr h), stands)
  merge-answer-more machine names response standing (inr h) =
      inr (h.0, MayReadMerge-more old new less names.sources names.parts h.0 h.1, h.2)

  answer-more : (asked : Request) (machine : Machine) (response : Response) (standing : Standing)
      → IsAnswerWith new machine asked response standing → IsAnswerWith old machine asked response standing
  answer-more (request.Command command) machine response standing h = h
  answer-more (request.Query query) machine response standing h = h
  answer-more (request.Merge names) machine response standing h = merge-answer-more machine names response standing h

  asks-more : (asked : Request) (command : Command) → AsksFor new asked command → AsksFor old asked command
  asks-more (request.Command other) command h = h
  asks-more (request.Query query) command h = h
  asks-more (request.Merge names) command h = MayReadMerge-more old new less names.sources names.parts command h

  responds-more : (asked : Request) (before after : Machine) (standing : Standing) (from to : Option (List ℕ))
      (result : Served)
      → RespondsWith new asked before after standing from to result
      → RespondsWith old asked before after standing from to result
  responds-more asked before after standing from to result (inl h) =
      inl (h.0, answer-more asked before h.0 standing h.1, h.2, h.3)
  responds-more asked before after standing from to result (inr h) =
      inr (h.0, asks-more asked h.0 h.1, h.2, h.3, h.4, h.5)

  -- what an exchange did by what lists may be read as later, it might do before
  pub exchange-more : (access : Access) (came : Received) (before after : Machine) (standing : Standing) (from to : Option (List ℕ))
      (result : Served)
      → ExchangesWith access new came before after standing from to result
      → ExchangesWith access old came before after standing from to result
  exchange-more access received.Nothing before after standing from to result h = h
  exchange-more access received.Failed before after standing from to result h = h
  exchange-more access received.Memory before after standing from to result h = h
  exchange-more access (received.Refused fault) before after standing from to result h = h
  exchange-more access (received.Asked shown asked) before after standing from to result (inl h) =
      inl (h.0, responds-more asked before after standing from to result h.1)
  exchange-more access (received.Asked shown asked) before after standing from to result (inr h) = inr h
