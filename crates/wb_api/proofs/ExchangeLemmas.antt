-- Lemmas on what may be answered to a request.
use Rattle.std.proofs.Common.{◌≡◌, ℕ, Bool, true, false, cond, List, Option, None, Some, Result, Ok, Err, IfErr, IfOk, IsOk, inl, inr, refl, sym, ap, ◌∙◌, subst}
use Rattle.std.proofs.lemmas.Bool.{false≢true}
use Rattle.std.specs.FinMap as map
use Rattle.wb_states.specs.Commands.{name_of_command}
use Rattle.wb_states.specs.Machine.{Machine}
use Rattle.wb_states.specs.declared.command.Command.{Command}
use Rattle.wb_states.specs.declared.refusal.Refusal.{Refusal}
use Rattle.wb_states.specs.declared.record.Record.{Record}
use Rattle.wb_states.specs.declared.refusal.Refusal.TheVariants.{BadName, Closed, Memory, Store, UnknownArch, UnknownBuilder, UnknownSource}
use Rattle.wb_states.specs.declared.reply.Reply.{Reply}
use Rattle.wb_states.specs.declared.store_fault.StoreFault.{StoreFault}
use Rattle.wb_states.specs.Refusals.{IsOfMachine, is_of_store}
use Rattle.wb_step.proofs.OfficeLemmas.{is_of_store-cases, refusal-cases}
use Rattle.wb_step.proofs.CountedLemmas.{step-unchanged}
use Rattle.wb_states.specs.Machine.{is_unknown_arch, is_unknown_builder}
use Rattle.wb_step.specs.Checks.{MayWantMemory}
use Rattle.wb_step.specs.Offices.{Failed, Leads, Open, Shut, Standing, Stands, StandsOn}
use Rattle.wb_states.specs.State.{state_named}
use Rattle.wb_states.specs.declared.state.State.{State}
use Rattle.wb_states.specs.Queries.{answer_in, answer_of, depends_at, found_at, has_malformed_name, records_in}
use Rattle.wb_states.specs.declared.query.Answer.{Answer as Found}
use Rattle.wb_step.specs.Step.{step}
use Rattle.wb_api.proofs.ResponseLemmas.{memory-refusal, said-as}
use Rattle.wb_api.specs.Encoding.{is_plain, reply_text}
use Rattle.wb_states.specs.declared.query.Query.{Query}
use Rattle.wb_states.specs.declared.query.Query.TheVariants as query
use Rattle.wb_api.specs.Responses.{IsFoundAnswer, command_response, found_response, IsRefusal, memory_response, refusal_response, reply_response, Response}
use Rattle.wb_keys.specs.declared.access.Access.{Access}
use Rattle.wb_lists.specs.Lists.{MayRead}
use Rattle.wb_api.specs.Exchange.{EndsUnasked, ExchangesWith, IsCommandAnswer, IsQueryAnswer, LeadsOn, over_http}
use Rattle.wb_api.specs.declared.request.Received.{Received}
use Rattle.wb_api.specs.declared.request.Received.TheVariants as received
use Rattle.wb_api.specs.declared.serve.Served.{Served}

-- ---- where a refusal leads

-- an office that refused is closed, its store failed, or it stands as before
pub refusal-leads : {X : Type 0} (is_clean is_closed : X → Type 0) (stands_at : X → Machine → Type 0) (leaves : X → Machine → Machine → StoreFault → Type 0) (old new : X)
    (IsSo : Machine → Machine → Standing → Type 0) (refusal : Refusal)
    → ((before : Machine) → is_clean new → stands_at old before → refusal ≡ Closed → (is_closed new × stands_at new before) × IsSo before before Shut)
    → ((before : Machine) → is_clean new → stands_at old before → (fault : StoreFault) → refusal ≡ Store fault
    → (standing : Standing) × Stands is_closed stands_at leaves new before standing × IsSo before before standing)
    → ((before : Machine) → is_clean new → stands_at old before → refusal ≡ Memory → stands_at new before × IsSo before before Open)
    → ((before : Machine) → is_clean new → stands_at old before → IsOfMachine refusal → is_of_store refusal ≡ false
    → stands_at new before × IsSo before before Open)
    → Leads is_clean is_closed stands_at leaves old new IsSo
refusal-leads is_clean is_closed stands_at leaves old new IsSo refusal closed failed memory refused before clean stands
    =
    (elim (is_of_store refusal) as (λ b. is_of_store refusal ≡ b
    → (after : Machine) × (standing : Standing) × Stands is_closed stands_at leaves new after standing × IsSo before after standing) [
      | true ↦ λ is. elim (is_of_store-cases refusal is) [
        | inl shut ↦ let s = closed before clean stands shut in (before, Shut, s.0, s.1)
        | inr out ↦ let s = failed before clean stands out.0 out.1 in (before, s.0, s.1, s.2)
      ]
      | false ↦ λ other. elim (refusal-cases refusal) [
        | inl is ↦ let s = memory before clean stands is in (before, Open, s.0, s.1)
        | inr of_machine ↦ let s = refused before clean stands of_machine other in (before, Open, s.0, s.1)
      ]
    ]) refl

-- the same, and an office that is not closed after it stands open: one whose store failed is closed
pub refusal-leads_on : {X : Type 0} (is_clean is_closed : X → Type 0) (stands_at : X → Machine → Type 0) (leaves : X → Machine → Machine → StoreFault → Type 0) (old new : X)
    (IsSo : Machine → Machine → Standing → Type 0) (refusal : Refusal)
    → (is_of_store refusal ≡ true → ¬ (¬ (is_closed new)))
    → ((before : Machine) → is_clean new → stands_at old before → refusal ≡ Closed → (is_closed new × stands_at new before) × IsSo before before Shut)
    → ((before : Machine) → is_clean new → stands_at old before → (fault : StoreFault) → refusal ≡ Store fault
    → (standing : Standing) × Stands is_closed stands_at leaves new before standing × IsSo before before standing)
    → ((before : Machine) → is_clean new → stands_at old before → refusal ≡ Memory → stands_at new before × IsSo before before Open)
    → ((before : Machine) → is_clean new → stands_at old before → IsOfMachine refusal → is_of_store refusal ≡ false
    → stands_at new before × IsSo before before Open)
    → LeadsOn is_clean is_closed stands_at leaves old new IsSo
refusal-leads_on is_clean is_closed stands_at leaves old new IsSo refusal shuts closed failed memory refused =
    refusal-leads is_clean is_closed stands_at leaves old new
    (λ before after standing. IsSo before after standing × (¬ (is_closed new) → standing ≡ Open)) refusal
    (λ before clean stands is. let s = closed before clean stands is in (s.0, (s.1, λ open_still. absurd (open_still s.0.0))))
    (λ before clean stands fault is. let s = failed before clean stands fault is in
    (s.0, s.1, (s.2, λ open_still. absurd (shuts (ap is_of_store is) open_still))))
    (λ before clean stands is. let s = memory before clean stands is in (s.0, (s.1, λ open_still. refl)))
    (λ before clean stands of_machine other. let s = refused before clean stands of_machine other in (s.0, (s.1, λ open_still. refl)))

-- an office whose store refused is closed after it, whether it was closed before or not
pub store-shuts : {X Y : Type 0} (is_closed : X → Type 0) (old new : X) (refusal : Refusal)
    → (is_closed old → is_closed new) → (¬ (is_closed old) → StandsOn {X = Y} (is_closed new) (Err refusal))
    → is_of_store refusal ≡ true → ¬ (¬ (is_closed new))
store-shuts is_closed old new refusal shut on is open_still =
    open_still ((on (λ was. open_still (shut was))).ends is)

-- ---- what is answered

-- what is answered to a refused command is the refusal
refused-response : (machine : Machine) (command : Command) (refusal : Refusal) → (step machine command).0 ≡ Err refusal
    → command_response over_http machine command ≡ refusal_response over_http machine refusal
refused-response machine command refusal e =
    ap (λ (r : Result Reply Refusal). reply_response over_http (name_of_command command) r (step machine command).1) e
    ∙ ap (reply_response over_http (name_of_command command) (Err refusal)) (step-unchanged machine command refusal e)

-- the reply to a command is answered
pub reply-answered : (machine : Machine) (command : Command) (reply : Reply) (text : List ℕ)
    → (step machine command).0 ≡ Ok reply → text ≡ reply_text (name_of_command command) reply
    → IsCommandAnswer machine command (record { status = 200; text = text; machine = (step machine command).1 }) Open
reply-answered machine command reply text e said =
    inl (
      inl (ap (λ t. record { status = 200; text = t; machine = (step machine command).1 }) said
          ∙ sym (ap (λ (r : Result Reply Refusal). reply_response over_http (name_of_command command) r (step machine command).1) e)),
      refl,
    )

-- a refusal of the machine is answered, or that there is no memory for its text
pub refusal-answered : (machine : Machine) (command : Command) (refusal : Refusal) (response : Response)
    → (step machine command).0 ≡ Err refusal → IsRefusal over_http machine refusal response → IsCommandAnswer machine command response Open
refusal-answered machine command refusal response e (inl same) = inl (inl (same ∙ sym (refused-response machine command refusal e)), refl)
refusal-answered machine command refusal response e (inr (long, same)) = inl (inr (inl (inr (refusal, e, long)), same), refl)

-- that there is no memory is answered to a command that may want some
pub memory-answered : (machine : Machine) (command : Command) (response : Response)
    → MayWantMemory command → IsRefusal over_http machine Memory response → IsCommandAnswer machine command response Open
memory-answered machine command response wants is = inl (inr (inl (inl wants), memory-refusal over_http machine response is), refl)

-- that there is no memory is answered to a command whose reply repeats an assignment
pub repeat-answered : (machine : Machine) (command : Command) (reply : Reply) (response : Response)
    → (step machine command).0 ≡ Ok reply → (step machine command).1 ≡ machine → response ≡ memory_response over_http machine
    → IsCommandAnswer machine command response Open
repeat-answered machine command reply response e same is =
    inl (inr (inr (subst (λ (result : Result Reply Refusal). IsOk result) (sym e) refl, same), is), refl)

-- ---- queries

formed-found : {X : Type 0} (b : Bool) (bad : Refusal) (rest : Result X Refusal) (found : X) → cond b (Err bad) rest ≡ Ok found → b ≡ false
formed-found true bad rest found e = cc
formed-found false bad rest found e = refl

-- what is found was asked for by names that are well formed
pub found-formed : (machine : Machine) (query : Query) (found : Found) → answer_of machine query ≡ Ok found → has_malformed_name query ≡ false
unfolding answer_of
found-formed machine query found e = formed-found (has_malformed_name query) BadName (answer_in machine query) found e

plain-unless : {X : Type 0} (b : Bool) (bad refusal : Refusal) (rest : Result X Refusal) → is_plain bad ≡ true → (rest ≡ Err refusal → is_plain refusal ≡ true)
    → cond b (Err bad) rest ≡ Err refusal → is_plain refusal ≡ true
plain-unless true bad refusal rest plain others e = let same : bad ≡ refusal = cc e in subst (λ r. is_plain r ≡ true) same plain
plain-unless false bad refusal rest plain others e = others e

plain-found : (arch source : List ℕ) (found : Option Record) (refusal : Refusal) → found_at arch source found ≡ Err refusal → is_plain refusal ≡ true
plain-found arch source None refusal e = let same : UnknownSource ≡ refusal = cc e in subst (λ r. is_plain r ≡ true) same refl
plain-found arch source (Some current) refusal e = cc

plain-depends : (arch source : List ℕ) (found : Option Record) (refusal : Refusal) → depends_at arch source found ≡ Err refusal → is_plain refusal ≡ true
plain-depends arch source None refusal e = let same : UnknownSource ≡ refusal = cc e in subst (λ r. is_plain r ≡ true) same refl
plain-depends arch source (Some current) refusal e = cc

plain-held : {X : Type 0} (held : X) (refusal : Refusal) → ◌≡◌ {A = Result X Refusal} (Ok held) (Err refusal) → is_plain refusal ≡ true
plain-held held refusal e = cc

plain-records : (machine : Machine) (arch : List ℕ) (state : Option State) (refusal : Refusal) → records_in machine arch state ≡ Err refusal → is_plain refusal ≡ true
plain-records machine arch None refusal e = let same : BadName ≡ refusal = cc e in subst (λ r. is_plain r ≡ true) same refl
plain-records machine arch (Some state) refusal e = plain-unless (is_unknown_arch machine arch) UnknownArch refusal _ refl (plain-held _ refusal) e

plain-in : (machine : Machine) (query : Query) (refusal : Refusal) → answer_in machine query ≡ Err refusal → is_plain refusal ≡ true
plain-in machine (query.Queue arch) refusal e = plain-unless (is_unknown_arch machine arch) UnknownArch refusal _ refl (plain-held _ refusal) e
plain-in machine (query.ByState arch state) refusal e = plain-records machine arch (state_named state) refusal e
plain-in machine (query.Item arch source) refusal e =
    plain-unless (is_unknown_arch machine arch) UnknownArch refusal _ refl (plain-found arch source (map.get machine.records (arch, source)) refusal) e
plain-in machine (query.Mine builder) refusal e = plain-unless (is_unknown_builder machine builder) UnknownBuilder refusal _ refl (plain-held _ refusal) e
plain-in machine (query.Depends arch source) refusal e =
    plain-unless (is_unknown_arch machine arch) UnknownArch refusal _ refl (plain-depends arch source (map.get machine.records (arch, source)) refusal) e
plain-in machine (query.Summary arch) refusal e = plain-unless (is_unknown_arch machine arch) UnknownArch refusal _ refl (plain-held _ refusal) e
plain-in machine query.Office refusal e = plain-held _ refusal e
plain-in machine query.Archs refusal e = plain-held _ refusal e
plain-in machine query.Builders refusal e = plain-held _ refusal e

-- the refusal of a query tells no more than its number and its name
pub plain-query : (machine : Machine) (query : Query) (refusal : Refusal) → answer_of machine query ≡ Err refusal → is_plain refusal ≡ true
unfolding answer_of
plain-query machine query refusal e = plain-unless (has_malformed_name query) BadName refusal (answer_in machine query) refl (plain-in machine query refusal) e

-- there is no memory for the text of what was found
found-unsaid : (machine : Machine) (query : Query) (found : Found) (response : Response) → answer_of machine query ≡ Ok found
    → response ≡ memory_response over_http machine → IsQueryAnswer machine query response Open
found-unsaid machine query found response e is = inl (inr (found-formed machine query found e, is), refl)

-- what was found is answered, or that there is no memory for its text
found-answered : (machine : Machine) (query : Query) (found : Found) (response : Response) → answer_of machine query ≡ Ok found
    → IsFoundAnswer over_http machine (Ok found) response → IsQueryAnswer machine query response Open
found-answered machine query found response e (inl same) = inl (inl (same ∙ sym (ap (found_response over_http machine) e)), refl)
found-answered machine query found response e (inr none) = found-unsaid machine query found response e none

-- the refusal of a query is answered
query-refused : (machine : Machine) (query : Query) (refusal : Refusal) (response : Response) → answer_of machine query ≡ Err refusal
    → IsRefusal over_http machine refusal response → IsQueryAnswer machine query response Open
query-refused machine query refusal response e (inl same) = inl (inl (same ∙ sym (ap (found_response over_http machine) e)), refl)
query-refused machine query refusal response e (inr (long, same)) = absurd (false≢true (sym long ∙ plain-query machine query refusal e))

-- that there is no memory is answered to a query whose names are well formed
query-unasked : (machine : Machine) (query : Query) (response : Response) → has_malformed_name query ≡ false → IsRefusal over_http machine Memory response
    → IsQueryAnswer machine query response Open
query-unasked machine query response wants is = inl (inr (wants, memory-refusal over_http machine response is), refl)

-- what an office found, or its refusal, is answered, and the office then stands so
pub found-leads : {X : Type 0} (is_clean is_closed : X → Type 0) (stands_at : X → Machine → Type 0) (leaves : X → Machine → Machine → StoreFault → Type 0) (old new : X)
    (query : Query) (found : Result Found Refusal) (response : Machine → Response)
    → ((machine : Machine) → IsFoundAnswer over_http machine found (response machine))
    → ((machine : Machine) → is_clean new → stands_at old machine
    → IfOk found (λ answer. (answer_of machine query ≡ Ok answer) × stands_at new machine))
    → ((machine : Machine) → is_clean new → stands_at old machine
    → IfErr found (λ refusal. IsOfMachine refusal → is_of_store refusal ≡ false → (answer_of machine query ≡ Err refusal) × stands_at new machine))
    → ((machine : Machine) → is_clean new → stands_at old machine → found ≡ Err Memory → (has_malformed_name query ≡ false) × stands_at new machine)
    → ((machine : Machine) → is_clean new → stands_at old machine → found ≡ Err Closed → is_closed new × stands_at new machine)
    → ((machine : Machine) → is_clean new → stands_at old machine → (fault : StoreFault) → found ≡ Err (Store fault) → leaves new machine machine fault)
    → (is_closed old → is_closed new) → (¬ (is_closed old) → StandsOn (is_closed new) found)
    → LeadsOn is_clean is_closed stands_at leaves old new (λ before after standing. IsQueryAnswer before query (response after) standing)
found-leads is_clean is_closed stands_at leaves old new query (Ok answer) response said answered refused memory closed store shut on = λ before clean stands.
    let done = answered before clean stands in
    (before, Open, done.1, (found-answered before query answer (response before) done.0 (said before), λ open_still. refl))
found-leads is_clean is_closed stands_at leaves old new query (Err refusal) response said answered refused memory closed store shut on =
    refusal-leads_on is_clean is_closed stands_at leaves old new
    (λ before after standing. IsQueryAnswer before query (response after) standing) refusal
    (store-shuts is_closed old new refusal shut on)
    (λ before clean stands is. (closed before clean stands (ap Err is), inr (inl (said-as over_http before (response before) is (said before), refl))))
    (λ before clean stands fault is. (
      Failed fault,
      store before clean stands fault (ap Err is),
      inr
          (inr (fault, said-as over_http before (response before) is (said before), refl)),
    ))
    (λ before clean stands is. let wants = memory before clean stands (ap Err is) in
    (wants.1, query-unasked before query (response before) wants.0 (said-as over_http before (response before) is (said before))))
    (λ before clean stands machine other. let kept = refused before clean stands machine other in
    (kept.1, query-refused before query refusal (response before) kept.0 (said before)))

-- ---- what is no request

-- what is written about what is no request is an exchange that leaves the office as it was
pub unasked-exchanges : (access : Access) (may_read : MayRead) (got : Received) (machine : Machine) (old new : Option (List ℕ))
    (result : Served)
    → EndsUnasked got machine old new result → ExchangesWith access may_read got machine machine Open old new result
unasked-exchanges access may_read received.Nothing machine old new result ends = (refl, refl, ends.0, ends.1)
unasked-exchanges access may_read received.Failed machine old new result ends = (refl, refl, ends.0, ends.1)
unasked-exchanges access may_read received.Memory machine old new result ends = (refl, refl, ends)
unasked-exchanges access may_read (received.Refused fault) machine old new result ends = (refl, refl, ends)
unasked-exchanges access may_read (received.Asked shown asked) machine old new result ends = absurd ends
