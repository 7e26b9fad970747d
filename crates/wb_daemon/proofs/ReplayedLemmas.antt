-- Lemmas on the commands that lines have the office carry out.
use Rattle.std.proofs.Common.{◌≡◌, ℕ, List, [], ◌∷◌, ◌++◌, take, drop, Option, Result, Ok, Err, ◌⊎◌, inl, inr, refl, sym, ap, ◌∙◌, subst, append-nil, append_assoc, take-append-drop, codes}
use Rattle.std.proofs.Math.Nat.{max-zero, zero-max}
use Rattle.wb_states.specs.Commands.{name_of_command}
use Rattle.wb_states.specs.Machine.{Machine}
use Rattle.wb_states.specs.declared.command.Command.{Command}
use Rattle.wb_states.specs.declared.refusal.Refusal.{Refusal}
use Rattle.wb_states.specs.declared.reply.Reply.{Reply}
use Rattle.wb_states.specs.declared.store_fault.StoreFault.{StoreFault}
use Rattle.wb_step.specs.Replay.{replay}
use Rattle.wb_step.specs.Step.{step}
use Rattle.wb_words.specs.declared.words.Invocation.{Invocation}
use Rattle.wb_words.specs.declared.words.Invocation.TheVariants.{Command as invocation_Command, Merge as invocation_Merge, Query as invocation_Query, Report as invocation_Report}
use Rattle.wb_streams.specs.Line.{ended_in, input_lines}
use Rattle.wb_lists.specs.Lists.{MayRead}
use Rattle.wb_states.specs.Queries.{answer_of}
use Rattle.wb_states.specs.declared.query.Answer.{Answer}
use Rattle.wb_states.specs.declared.query.Query.{Query}
use Rattle.wb_step.specs.Offices.{Standing, Open, InDoubt, Failed, IsSoOfEach}
use Rattle.wb_daemon.specs.Replays.{IsAnswerTo, IsReplay, IsReplayCut, IsReplayRefused, LeavesReplay, IsResponseWithoutReply}
use Rattle.wb_api.specs.Responses.{command_response, found_response, IsRefusedByStore, query_response, reply_response, Response}
use Rattle.wb_daemon.specs.Run.{Asked, Request, InvokesAs, Invokes, EndsInput, Fault, LineKind, LineInvokes, Runs, IsInvocationResponse, IsLineResponse, IsRefused, IsResponse, IsResponseOfKind, IsSaid, Blank, RunStopsFor, StopsInLine, asked_by, file_fault_response, followed, kind_of_line, no_response, on_line}
use Rattle.wb_daemon.specs.declared.message.Cause.{Cause}
use Rattle.wb_daemon.specs.declared.message.Cause.TheVariants as why
use Rattle.wb_lists.proofs.OpenedLemmas.{merge-command}
use Rattle.wb_daemon.proofs.RunLemmas.{Runs-snoc, max_assoc, response-same}

answer_response-machine : (name : List ℕ) (result : Result Reply Refusal) (after : Machine) → (reply_response on_line name result after).machine ≡ after
answer_response-machine name (Ok reply) after = refl
answer_response-machine name (Err refusal) after = refl

pub command_response-machine : (machine : Machine) (command : Command) → (command_response on_line machine command).machine ≡ (step machine command).1
command_response-machine machine command = answer_response-machine (name_of_command command) (step machine command).0 (step machine command).1

found_response-machine : (machine : Machine) (found : Result Answer Refusal) → (found_response on_line machine found).machine ≡ machine
found_response-machine machine (Ok found) = refl
found_response-machine machine (Err refusal) = refl

query_response-machine : (machine : Machine) (query : Query) → (query_response on_line machine query).machine ≡ machine
query_response-machine machine query = found_response-machine machine (answer_of machine query)

-- ---- what was asked

response-machine : (one response : Response) (machine : Machine) → response ≡ one → one.machine ≡ machine → response.machine ≡ machine
response-machine one response machine e is = ap (λ (s : Response). s.machine) e ∙ is

-- what is said to a command leaves the office as its step does
answer-machine : (may_read : MayRead) (machine : Machine) (kind : LineKind) (command : Command) (response : Response)
    → IsAnswerTo may_read machine kind command response → response.machine ≡ (step machine command).1
answer-machine may_read machine kind command response (inl e) = response-machine _ response _ e (command_response-machine machine command)
answer-machine may_read machine kind command response (inr h) = h.4

-- what is said to what is asked for is the answer to a command, or to a query, or a file of it is at fault
abbrev Carries : MayRead → Machine → Invocation → Response → Type 0
Carries may_read machine invocation response =
    ((command : Command) × InvokesAs may_read invocation command × IsAnswerTo may_read machine (Request invocation) command response)
    ⊎ (((query : Query) × (invocation ≡ invocation_Query query) × (response ≡ query_response on_line machine query))
    ⊎ (response ≡ file_fault_response machine))

invocation-carries : (may_read : MayRead) (machine : Machine) (invocation : Invocation) (response : Response)
    → IsInvocationResponse may_read machine invocation response → Carries may_read machine invocation response
invocation-carries may_read machine (invocation_Command command) response h = inl (command, refl, inl h)
invocation-carries may_read machine (invocation_Query query) response h = inr (inl (query, refl, h))
invocation-carries may_read machine (invocation_Merge sources parts) response (inl h) =
    let left = merge-command may_read sources parts machine h.0 h.1 in
    inl (left.0, left.1.0, inr (sources, parts, refl, h, response-machine _ response _ h.2 (answer_response-machine (codes "merge") h.0.0 h.0.1 ∙ left.1.1.0)))
invocation-carries may_read machine (invocation_Merge sources parts) response (inr h) = inr (inr h.1)
invocation-carries may_read machine (invocation_Report arch file) response (inl h) = inl (h.0, h.1, inl h.2)
invocation-carries may_read machine (invocation_Report arch file) response (inr h) = inr (inr h.1)

-- what is said to what was asked leaves the office as it was, or as its command leaves it
abbrev LeavesAsked : MayRead → Machine → LineKind → Response → Type 0
LeavesAsked may_read machine kind response =
    (response.machine ≡ machine) ⊎ ((command : Command) × ((invocation : Invocation) × (kind ≡ Request invocation) × InvokesAs may_read invocation command)
    × (response.machine ≡ (step machine command).1))

carries-leaves : (may_read : MayRead) (machine : Machine) (invocation : Invocation) (response : Response) → Carries may_read machine invocation response
    → LeavesAsked may_read machine (Request invocation) response
carries-leaves may_read machine invocation response (inl (command, invokes, e)) =
    inr (command, (invocation, refl, invokes), answer-machine may_read machine (Request invocation) command response e)
carries-leaves may_read machine invocation response (inr (inl (query, is, e))) = inl (response-machine _ response machine e (query_response-machine machine query))
carries-leaves may_read machine invocation response (inr (inr e)) = inl (response-machine _ response machine e refl)

kind-leaves : (may_read : MayRead) (machine : Machine) (kind : LineKind) (response : Response) → IsResponseOfKind may_read machine kind response
    → LeavesAsked may_read machine kind response
kind-leaves may_read machine Blank response e = inl (response-machine _ response machine e refl)
kind-leaves may_read machine Fault response e = inl (response-machine _ response machine e refl)
kind-leaves may_read machine (Request invocation) response h =
    carries-leaves may_read machine invocation response (invocation-carries may_read machine invocation response h)

pub asked-leaves : (may_read : MayRead) (machine : Machine) (asked : Asked) (response : Response) → IsResponse may_read machine asked response
    → (response.machine ≡ machine) ⊎ ((command : Command) × Invokes may_read asked command × (response.machine ≡ (step machine command).1))
asked-leaves may_read machine asked response (inl h) = kind-leaves may_read machine asked.kind response h
asked-leaves may_read machine asked response (inr h) = inl (response-machine _ response machine h.1 refl)

-- without a command that the store refused, and with it where it is in doubt
store-leaves : (IsSo : Machine → Type 0) (before after : Machine) (failed : StoreFault → Standing) (response : Response) (standing : Standing)
    → IsRefusedByStore on_line before failed response standing → after ≡ response.machine → IsSo before
    → ((fault : StoreFault) → IsSo before → IsSoOfEach IsSo before (failed fault)) → IsSoOfEach IsSo after standing
store-leaves IsSo before after failed response standing (inl (inl e, shut)) is so each =
    subst (λ s. IsSoOfEach IsSo after s) (sym shut) (subst IsSo (sym (is ∙ ap (λ (s : Response). s.machine) e)) so)
store-leaves IsSo before after failed response standing (inl (inr (long, e), shut)) is so each =
    subst (λ s. IsSoOfEach IsSo after s) (sym shut) (subst IsSo (sym (is ∙ ap (λ (s : Response). s.machine) e)) so)
store-leaves IsSo before after failed response standing (inr (fault, inl e, stands)) is so each =
    subst (λ s. IsSoOfEach IsSo after s) (sym stands)
    (subst (λ m. IsSoOfEach IsSo m (failed fault)) (sym (is ∙ ap (λ (s : Response). s.machine) e)) (each fault so))
store-leaves IsSo before after failed response standing (inr (fault, inr (long, e), stands)) is so each =
    subst (λ s. IsSoOfEach IsSo after s) (sym stands)
    (subst (λ m. IsSoOfEach IsSo m (failed fault)) (sym (is ∙ ap (λ (s : Response). s.machine) e)) (each fault so))

-- what is left if the store refused what was asked
pub refused-leaves_each : (may_read : MayRead) (IsSo : Machine → Type 0) (before after : Machine) (asked : Asked) (response : Response) (standing : Standing)
    → IsRefused may_read before asked response standing → after ≡ response.machine → IsSo before
    → ((command : Command) → Invokes may_read asked command → IsSo (step before command).1) → IsSoOfEach IsSo after standing
refused-leaves_each may_read IsSo before after asked response standing (invocation, kind, inl (query, asks, store)) is so carried =
    store-leaves IsSo before after (λ fault. Failed fault) response standing store is so (λ fault so. so)
refused-leaves_each may_read IsSo before after asked response standing (invocation, kind, inr (command, invokes, store)) is so carried =
    store-leaves IsSo before after (λ fault. InDoubt command fault) response standing store is so
    (λ fault so. (so, carried command (invocation, kind, invokes)))

-- ---- one line

-- what is said to a line is the answer to a command that it asks for, or nothing was carried out
abbrev LineCarries : MayRead → Machine → List ℕ → Response → Type 0
LineCarries may_read machine line response =
    IsResponseWithoutReply machine line response
    ⊎ ((command : Command) × LineInvokes may_read line command × IsAnswerTo may_read machine (kind_of_line line) command response)

kind-carries : (may_read : MayRead) (machine : Machine) (line : List ℕ) (response : Response) (kind : LineKind) → kind_of_line line ≡ kind
    → IsResponseOfKind may_read machine kind response → LineCarries may_read machine line response
kind-carries may_read machine line response Blank e h = inl (inl (inl h))
kind-carries may_read machine line response Fault e h = inl (inl (inr h))
kind-carries may_read machine line response (Request invocation) e h =
    elim (invocation-carries may_read machine invocation response h) [
      | inl (command, invokes, said) ↦ inr (
        command,
        (invocation, e, invokes),
        subst (λ (k : LineKind). IsAnswerTo may_read machine k command response) (sym e) said,
      )
      | inr (inl (query, is, same)) ↦ inl (inr (inr (inr (query, e ∙ ap Request is, same))))
      | inr (inr same) ↦ inl (inr (inl same))
    ]

IsLineResponse-carries : (may_read : MayRead) (machine : Machine) (line : List ℕ) (response : Response) → IsLineResponse may_read machine line response
    → LineCarries may_read machine line response
IsLineResponse-carries may_read machine line response (inl h) = kind-carries may_read machine line response (kind_of_line line) refl h
IsLineResponse-carries may_read machine line response (inr h) = inl (inr (inr (inl h.1)))

unmoved : (machine : Machine) (line : List ℕ) (response : Response) → IsResponseWithoutReply machine line response → response.machine ≡ machine
unmoved machine line response (inl (inl e)) = response-machine _ response machine e refl
unmoved machine line response (inl (inr e)) = response-machine _ response machine e refl
unmoved machine line response (inr (inl e)) = response-machine _ response machine e refl
unmoved machine line response (inr (inr (inl e))) = response-machine _ response machine e refl
unmoved machine line response (inr (inr (inr (query, is, e)))) = response-machine _ response machine e (query_response-machine machine query)

-- ---- lines in their order

no_command_more : (may_read : MayRead) (machine : Machine) (line : List ℕ) (lines : List (List ℕ)) (whole response later : Response) → whole ≡ followed response later
    → IsResponseWithoutReply machine line response → IsReplay may_read machine lines later → IsReplay may_read machine (line ∷ lines) whole
no_command_more may_read machine line lines whole response later e none rest =
    (rest.0, (response, later, e, inl (none, rest.1)), ap (λ (s : Response). s.machine) e ∙ rest.2)

command_more : (may_read : MayRead) (machine : Machine) (line : List ℕ) (lines : List (List ℕ)) (whole response later : Response) → whole ≡ followed response later
    → (command : Command) → LineInvokes may_read line command → IsAnswerTo may_read machine (kind_of_line line) command response
    → IsReplay may_read response.machine lines later → IsReplay may_read machine (line ∷ lines) whole
command_more may_read machine line lines whole response later e command invokes said rest = (
  command ∷ rest.0,
  (response, later, e, inr (command, rest.0, refl, invokes, said, rest.1)),
  ap (λ (s : Response). s.machine) e ∙ rest.2
      ∙ ap (λ m. replay m rest.0) (answer-machine may_read machine (kind_of_line line) command response said),
)

-- what lines are answered with, and what they leave, comes of the commands that they ask for
pub Runs-replay : (may_read : MayRead) (lines : List (List ℕ)) (machine : Machine) (whole : Response) → Runs may_read machine lines whole → IsReplay may_read machine lines whole
Runs-replay may_read [] machine whole h = ([], (h, refl), ap (λ (s : Response). s.machine) h)
Runs-replay may_read (line ∷ lines) machine whole h = elim (IsLineResponse-carries may_read machine line h.0 h.2) [
  | inl none ↦ no_command_more may_read machine line lines whole h.0 h.1 h.4 none
      (Runs-replay may_read lines machine h.1 (subst (λ m. Runs may_read m lines h.1) (unmoved machine line h.0 none) h.3))
  | inr k ↦ command_more may_read machine line lines whole h.0 h.1 h.4 k.0 k.1 k.2 (Runs-replay may_read lines h.0.machine h.1 h.3)
]

-- ---- a run that was cut off

-- one answer and others, and then that to a command
followed-then : (answered response later : Response) (command : Command) → answered ≡ followed response later
    → followed answered (command_response on_line answered.machine command) ≡ followed response (followed later (command_response on_line later.machine command))
followed-then answered response later command e =
    let reply = command_response on_line later.machine command in
    ap (λ (s : Response). followed s (command_response on_line s.machine command)) e
    ∙ response-same {m = reply.machine} (append_assoc response.text later.text reply.text) (max_assoc response.status later.status reply.status)

-- lines, and then one that asks for a command
IsReplay-snoc : (may_read : MayRead) (earlier : List (List ℕ)) (machine : Machine) (answered : Response) (last : List ℕ) (command : Command)
    → IsReplay may_read machine earlier answered → LineInvokes may_read last command
    → IsReplay may_read machine (earlier ++ last ∷ []) (followed answered (command_response on_line answered.machine command))
IsReplay-snoc may_read [] machine answered last command (commands, (none, nothing), is) invokes =
    let reply = command_response on_line machine command in
    subst (λ (whole : Response). IsReplay may_read machine (last ∷ []) (followed whole (command_response on_line whole.machine command))) (sym none)
    (command_more may_read machine last [] (followed (no_response machine) reply) reply (no_response reply.machine)
    (response-same {m = reply.machine} (sym (append-nil reply.text)) (zero-max reply.status ∙ sym (max-zero reply.status)))
    command invokes (inl refl) ([], (refl, refl), refl))
IsReplay-snoc may_read (line ∷ lines) machine answered last command (commands, (response, later, e, inl (none, rest)), is) invokes =
    let reply = command_response on_line later.machine command in
    no_command_more may_read machine line (lines ++ last ∷ []) (followed answered (command_response on_line answered.machine command)) response (followed later reply)
    (followed-then answered response later command e) none
    (IsReplay-snoc may_read lines machine later last command (commands, rest, sym (ap (λ (s : Response). s.machine) e) ∙ is) invokes)
IsReplay-snoc may_read (line ∷ lines) machine answered last command (commands, (response, later, e, inr (first, others, are, asks, said, rest)), is) invokes =
    let reply = command_response on_line later.machine command in
    command_more may_read machine line (lines ++ last ∷ []) (followed answered (command_response on_line answered.machine command)) response (followed later reply)
    (followed-then answered response later command e) first asks said
    (IsReplay-snoc may_read lines response.machine later last command (
      others,
      rest,
      sym (ap (λ (s : Response). s.machine) e) ∙ is ∙ ap (replay machine) are
          ∙ ap (λ m. replay m others) (sym (answer-machine may_read machine (kind_of_line line) first response said)),
    ) invokes)

-- the lines that were acted on, with what is said to the last of them
snoc-replay : (may_read : MayRead) (lines earlier : List (List ℕ)) (last : List ℕ) (machine : Machine) (answered response : Response) → lines ≡ earlier ++ last ∷ []
    → Runs may_read machine earlier answered → IsLineResponse may_read answered.machine last response → IsReplay may_read machine lines (followed answered response)
snoc-replay may_read lines earlier last machine answered response e runs responds =
    subst (λ l. IsReplay may_read machine l (followed answered response)) (sym e)
    (Runs-replay may_read (earlier ++ last ∷ []) machine (followed answered response) (Runs-snoc may_read earlier machine answered last response runs responds))

-- the lines that were acted on, the last of which asks for a command
snoc-asked : (may_read : MayRead) (lines earlier : List (List ℕ)) (last : List ℕ) (machine : Machine) (answered : Response) (command : Command)
    → lines ≡ earlier ++ last ∷ [] → Runs may_read machine earlier answered → LineInvokes may_read last command
    → IsReplay may_read machine lines (followed answered (command_response on_line answered.machine command))
snoc-asked may_read lines earlier last machine answered command e runs invokes =
    subst (λ l. IsReplay may_read machine l (followed answered (command_response on_line answered.machine command))) (sym e)
    (IsReplay-snoc may_read earlier machine answered last command (Runs-replay may_read earlier machine answered runs) invokes)

-- what is said to the last of the lines that were acted on
said-replay : (may_read : MayRead) (lines earlier : List (List ℕ)) (last : List ℕ) (machine : Machine) (answered response : Response) (standing : Standing)
    → lines ≡ earlier ++ last ∷ [] → Runs may_read machine earlier answered → IsSaid may_read answered.machine (asked_by last) response standing
    → (IsReplay may_read machine lines (followed answered response) × (standing ≡ Open)) ⊎ IsReplayRefused may_read machine lines (followed answered response) standing
said-replay may_read lines earlier last machine answered response standing e runs (inl said) =
    inl (snoc-replay may_read lines earlier last machine answered response e runs said.0, said.1)
said-replay may_read lines earlier last machine answered response standing e runs (inr refused) =
    inr (earlier, last, answered, response, e, Runs-replay may_read earlier machine answered runs, refused, refl)

pub StopsInLine-replay : (may_read : MayRead) (seen : List ℕ) (left : Option (List ℕ)) (machine : Machine) (text : List ℕ) (after : Machine) (standing : Standing)
    → StopsInLine may_read seen left machine text after standing → IsReplayCut may_read seen left machine text after standing
StopsInLine-replay may_read seen left machine text after standing (inl (lines, acted, s)) = (
  lines,
  followed s.answered s.response,
  drop s.written s.response.text,
  acted,
  said-replay may_read lines s.earlier s.last machine s.answered s.response standing s.parts s.runs s.responds,
  s.office,
  ap (λ t. s.answered.text ++ t) (sym (take-append-drop s.written s.response.text))
      ∙ sym (append_assoc s.answered.text (take s.written s.response.text) (drop s.written s.response.text))
      ∙ ap (λ t. t ++ drop s.written s.response.text) (sym s.front),
)
StopsInLine-replay may_read seen left machine text after standing (inr (inl (lines, acted, s, still))) =
    let response = command_response on_line s.answered.machine s.command in (
      lines,
      followed s.answered response,
      response.text,
      acted,
      inl (snoc-asked may_read lines s.earlier s.last machine s.answered s.command s.parts s.runs s.invokes, still),
      s.accepted.1 ∙ sym (command_response-machine s.answered.machine s.command),
      ap (λ t. t ++ response.text) (sym s.unwritten),
    )
StopsInLine-replay may_read seen left machine text after standing (inr (inr (lines, acted, s))) = (
  lines,
  followed s.answered s.response,
  [],
  acted,
  said-replay may_read lines s.earlier s.last machine s.answered s.response standing s.parts s.runs (inr s.refused),
  s.office,
  sym s.written ∙ sym (append-nil text),
)

-- ---- a whole run

Runs-leaves : (may_read : MayRead) (before after : Machine) (lines : List (List ℕ)) (text : List ℕ) (status : ℕ)
    → Runs may_read before lines (record { text = text; machine = after; status = status }) → LeavesReplay may_read before after
Runs-leaves may_read before after lines text status h = (lines, _, Runs-replay may_read lines before _ h, refl)

pub EndsInput-leaves : (may_read : MayRead) (known old new : Option (List ℕ)) (before after : Machine) (status : ℕ)
    → EndsInput may_read known old new before after status → LeavesReplay may_read before after
EndsInput-leaves may_read known old new before after status h = Runs-leaves may_read before after (input_lines h.0) h.3.0 status h.3.1

refused-leaves : (may_read : MayRead) (earlier : List (List ℕ)) (last : List ℕ) (before after : Machine) (answered response : Response) (standing : Standing)
    → Runs may_read before earlier answered → IsRefused may_read answered.machine (asked_by last) response standing → after ≡ response.machine
    → IsSoOfEach (LeavesReplay may_read before) after standing
refused-leaves may_read earlier last before after answered response standing runs refused is =
    refused-leaves_each may_read (LeavesReplay may_read before) answered.machine after (asked_by last) response standing refused is
    (earlier, answered, Runs-replay may_read earlier before answered runs, refl)
    (λ command invokes. let reply = command_response on_line answered.machine command in (
      earlier ++ last ∷ [],
      followed answered reply,
      snoc-asked may_read (earlier ++ last ∷ []) earlier last before answered command refl runs invokes,
      sym (command_response-machine answered.machine command),
    ))

-- what is left by a run that stopped within or after the answer to a line
said-leaves : (may_read : MayRead) (lines earlier : List (List ℕ)) (last : List ℕ) (before after : Machine) (answered response : Response) (standing : Standing)
    → lines ≡ earlier ++ last ∷ [] → Runs may_read before earlier answered → IsSaid may_read answered.machine (asked_by last) response standing → after ≡ response.machine
    → IsSoOfEach (LeavesReplay may_read before) after standing
said-leaves may_read lines earlier last before after answered response standing e runs (inl said) is =
    subst (λ s. IsSoOfEach (LeavesReplay may_read before) after s) (sym said.1)
    (lines, followed answered response, snoc-replay may_read lines earlier last before answered response e runs said.0, is)
said-leaves may_read lines earlier last before after answered response standing e runs (inr refused) is =
    refused-leaves may_read earlier last before after answered response standing runs refused is

-- what a run leaves that stopped, for whatever cause
pub RunStopsFor-leaves : (may_read : MayRead) (cause : Cause) (input left old new : Option (List ℕ)) (before after : Machine) (standing : Standing)
    → RunStopsFor may_read cause input left old new before after standing → IsSoOfEach (LeavesReplay may_read before) after standing
RunStopsFor-leaves may_read why.Read input left old new before after standing h =
    subst (λ s. IsSoOfEach (LeavesReplay may_read before) after s) (sym h.4.1) (Runs-leaves may_read before after (ended_in h.0) h.1 h.4.0.0 h.4.0.1)
RunStopsFor-leaves may_read why.Write input left old new before after standing (seen, text, read, wrote, (lines, acted, s)) =
    said-leaves may_read lines s.earlier s.last before after s.answered s.response standing s.parts s.runs s.responds s.office
RunStopsFor-leaves may_read why.Reply input left old new before after standing (seen, text, read, wrote, (lines, acted, s, still)) =
    subst (λ s. IsSoOfEach (LeavesReplay may_read before) after s) (sym still) (
      lines,
      followed s.answered (command_response on_line s.answered.machine s.command),
      snoc-asked may_read lines s.earlier s.last before s.answered s.command s.parts s.runs s.invokes,
      s.accepted.1 ∙ sym (command_response-machine s.answered.machine s.command),
    )
RunStopsFor-leaves may_read why.Store input left old new before after standing (seen, text, read, wrote, (lines, acted, s)) =
    refused-leaves may_read s.earlier s.last before after s.answered s.response standing s.runs s.refused s.office
RunStopsFor-leaves may_read why.Lines input left old new before after standing h =
    subst (λ s. IsSoOfEach (LeavesReplay may_read before) after s) (sym h.4.1) (Runs-leaves may_read before after (ended_in h.4.0.0) h.1 h.4.0.4.0 h.4.0.4.1)
RunStopsFor-leaves may_read why.Room input left old new before after standing h =
    subst (λ s. IsSoOfEach (LeavesReplay may_read before) after s) (sym h.4.1)
    ([], no_response before, Runs-replay may_read [] before (no_response before) refl, h.4.0.2)
