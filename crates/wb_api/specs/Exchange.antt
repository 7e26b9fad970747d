-- What is answered to a request over HTTP, and what the request does to the office.
use Rattle.std.specs.Prelude.{◌≡◌, ◌⊎◌, ℕ, Bool, true, false, List, Option, None, Some, Result, Ok, Err, IfSome}
use Rattle.std.specs.Cow.{cow_str_bytes}
use Rattle.std.specs.Io.KnownBytes.{Appends, Consumes}
use Rattle.wb_states.specs.Machine.{Machine}
use Rattle.wb_states.specs.declared.command.Command.{Command}
use Rattle.wb_states.specs.declared.refusal.Refusal.{Refusal}
use Rattle.wb_states.specs.declared.refusal.Refusal.TheVariants.{UnknownArch, UnknownBuilder, WrongArch, UnknownSource, OtherVersion, WrongState, QueueEmpty, NotHeld, AfterAhead, AlreadyThere, BadName, BadVersion, BadRelations, BadNumber, BadListing, BadReport, TextTooLong, Spent, RepeatedArch, StillHeld, Closed, Store, Memory}
use Rattle.wb_states.specs.declared.store_fault.StoreFault.{StoreFault}
use Rattle.wb_step.specs.Offices.{Accepts, Leads, Standing, Open, InDoubt, Failed}
use Rattle.wb_states.specs.Queries.{has_malformed_name}
use Rattle.wb_lists.specs.Lists.{MayRead, MayReadMerge, LacksMerge, no_lists}
use Rattle.wb_lists.specs.declared.names.MergeNames.{MergeNames}
use Rattle.wb_api.specs.Memory.{MayLackMemory}
use Rattle.wb_api.specs.Responses.{Form, IsMergeResponse, IsRefusedByStore, Response}
use Rattle.wb_api.specs.Responses.{command_response, memory_response, query_response}
use Rattle.wb_streams.specs.Answers.{answer_bytes, fault_text, status_of_fault}
use Rattle.wb_streams.specs.Streams.{AppendsFront}
use Rattle.wb_keys.specs.Access.{everybody}
use Rattle.wb_keys.specs.declared.access.Access.{Access}
use Rattle.wb_keys.specs.declared.access.Shown.{Shown}
use Rattle.wb_api.specs.Requests.{IsRequestFrontWith, IsWithinRequestWith, LacksMemoryWith, MeansWith, is_failed, plain}
use Rattle.wb_api.specs.Rights.{LooksUp, is_allowed}
use Rattle.wb_streams.specs.declared.fault.Fault.{Fault}
use Rattle.wb_streams.specs.declared.fault.Fault.TheVariants.{NoList, NotAllowed}
use Rattle.wb_api.specs.declared.request.Received.{Received}
use Rattle.wb_api.specs.declared.request.Received.TheVariants as received
use Rattle.wb_api.specs.declared.request.Request.{Request}
use Rattle.wb_api.specs.declared.request.Request.TheVariants as request
use Rattle.wb_states.specs.declared.query.Query.{Query}
use Rattle.wb_streams.specs.Streams.{Flags, Stream}
use Rattle.wb_api.specs.declared.answer.HttpAnswer.{HttpAnswer}
use Rattle.wb_api.specs.declared.serve.KeyedRequest.{KeyedRequest}
use Rattle.wb_api.specs.declared.serve.Served.{Served}
use Rattle.wb_api.specs.declared.service.Service.{Service}
use Rattle.wb_api.specs.declared.serve.Served.TheVariants as served

-- an answer as a response, with the state of the office after it
abbrev pub response_of_answer : HttpAnswer → Machine → Response
response_of_answer answer after = record { status = answer.status; text = cow_str_bytes answer.text; machine = after }

-- ---- what is answered

-- the status of the answer to a refusal (RFC 9110, sections 15.5 and 15.6)
abbrev pub status_of_refusal : Refusal → ℕ
status_of_refusal UnknownArch = 404
status_of_refusal UnknownBuilder = 404
status_of_refusal WrongArch = 409
status_of_refusal UnknownSource = 404
status_of_refusal (OtherVersion have) = 409
status_of_refusal (WrongState state) = 409
status_of_refusal QueueEmpty = 409
status_of_refusal NotHeld = 409
status_of_refusal (AfterAhead handed) = 409
status_of_refusal AlreadyThere = 409
status_of_refusal BadName = 422
status_of_refusal (BadVersion fault) = 422
status_of_refusal (BadRelations fault) = 422
status_of_refusal BadNumber = 422
status_of_refusal (BadListing which paragraph fault) = 422
status_of_refusal (BadReport line) = 422
status_of_refusal TextTooLong = 422
status_of_refusal Spent = 409
status_of_refusal RepeatedArch = 422
status_of_refusal StillHeld = 409
status_of_refusal Closed = 503
status_of_refusal Memory = 503
status_of_refusal (Store fault) = 503

-- the form of answers over HTTP: each refusal has its status, and a text is written as it is
abbrev pub over_http : Form
over_http = record { accepted = 200; refused = status_of_refusal; written = λ text. text }

-- a fault of the request, about which the office is not asked
abbrev pub fault_response : Machine → Fault → Response
fault_response machine fault = record { status = status_of_fault fault; text = fault_text fault; machine = machine }

-- ---- what may be answered, and how the office then stands

-- what may be answered to a command: its reply or its refusal, or that there is no memory for it
abbrev pub IsCommandAnswer : Machine → Command → Response → Standing → Type 0
IsCommandAnswer machine command response standing =
    (((response ≡ command_response over_http machine command)
    ⊎ (MayLackMemory machine command × (response ≡ memory_response over_http machine))) × (standing ≡ Open))
    ⊎ IsRefusedByStore over_http machine (InDoubt command) response standing

-- what may be answered to a query: what was found or its refusal, or that there is no memory for it, if no name in it
-- is malformed
abbrev pub IsQueryAnswer : Machine → Query → Response → Standing → Type 0
IsQueryAnswer machine query response standing =
    (((response ≡ query_response over_http machine query)
    ⊎ ((has_malformed_name query ≡ false) × (response ≡ memory_response over_http machine))) × (standing ≡ Open))
    ⊎ IsRefusedByStore over_http machine Failed response standing

-- what may be answered to the merge of the lists of these names: what the merge of what they may be read as comes to;
-- or, before the office is asked, that
-- one of them cannot be opened, or that there is no memory for them; or that the store refused the merge
abbrev pub IsMergeAnswer : MayRead → Machine → MergeNames → Response → Standing → Type 0
IsMergeAnswer may_read machine names response standing =
    ((IsMergeResponse over_http may_read names.sources names.parts machine response
    ⊎ ((LacksMerge may_read names.sources names.parts × (response ≡ fault_response machine NoList))
    ⊎ (response ≡ memory_response over_http machine))) × (standing ≡ Open))
    ⊎ ((command : Command) × MayReadMerge may_read names.sources names.parts command
    × IsRefusedByStore over_http machine (InDoubt command) response standing)

-- what may be answered to a request, by what the lists that it names may be read as
abbrev pub IsAnswerWith : MayRead → Machine → Request → Response → Standing → Type 0
IsAnswerWith may_read machine (request.Command command) response standing =
    IsCommandAnswer machine command response standing
IsAnswerWith may_read machine (request.Query query) response standing = IsQueryAnswer machine query response standing
IsAnswerWith may_read machine (request.Merge names) response standing =
    IsMergeAnswer may_read machine names response standing

-- what may be answered to a request, without lists
abbrev pub IsAnswer : Machine → Request → Response → Standing → Type 0
IsAnswer machine asked response standing = IsAnswerWith no_lists machine asked response standing

-- what is answered to a request of who shows this of a key in place of the office's answer: that it is not allowed; or,
-- if that depends on who holds a take number, that this was not found out
abbrev pub IsNotAllowed : Access → Shown → Machine → Request → Response → Standing → Type 0
IsNotAllowed access shown machine asked response standing =
    ((is_allowed access shown machine asked ≡ false) × (response ≡ fault_response machine NotAllowed)
    × (standing ≡ Open))
    ⊎ (LooksUp access shown asked × (((response ≡ memory_response over_http machine) × (standing ≡ Open))
    ⊎ IsRefusedByStore over_http machine Failed response standing))

-- a request asks for this command: it is the command, or the merge that the lists which it names may be read as
abbrev pub AsksFor : MayRead → Request → Command → Type 0
AsksFor may_read (request.Command asked) command = asked ≡ command
AsksFor may_read (request.Query query) command = ⊥
AsksFor may_read (request.Merge names) command = MayReadMerge may_read names.sources names.parts command

-- what may be answered to a request of who shows this of a key: what the office may answer, if it is allowed; or else
-- what is answered in its place, and the office is as it was
abbrev pub IsAnswerTo : Access → MayRead → Shown → Request → HttpAnswer → Machine → Machine → Standing → Type 0
IsAnswerTo access may_read shown asked answer before after standing =
    ((is_allowed access shown before asked ≡ true)
    × IsAnswerWith may_read before asked (response_of_answer answer after) standing)
    ⊎ ((after ≡ before) × IsNotAllowed access shown before asked (response_of_answer answer before) standing)

-- a command that a request of who shows this of a key asks for, and may ask for, is accepted
abbrev pub AcceptsOf : Access → MayRead → Shown → Request → Machine → Machine → Type 0
AcceptsOf access may_read shown asked before after =
    (is_allowed access shown before asked ≡ true) × (command : Command) × AsksFor may_read asked command
    × Accepts before command after

-- the office came to a state of which this is so, and it stands open there unless it is closed now
abbrev pub LeadsOn : {X : Type 0} → (X → Type 0) → (X → Type 0) → (X → Machine → Type 0)
    → (X → Machine → Machine → StoreFault → Type 0) → X → X → (Machine → Machine → Standing → Type 0) → Type 0
LeadsOn is_clean is_closed stands_at leaves old new IsSo = Leads is_clean is_closed stands_at leaves old new
    (λ before after standing. IsSo before after standing × (¬ (is_closed new) → standing ≡ Open))

-- ---- what is written, and what an exchange does

-- an answer was written, or a front of it
abbrev pub Sends : Response → Option (List ℕ) → Option (List ℕ) → Served → Type 0
Sends response old new (served.Answered status) = (status ≡ response.status) × Appends old new (answer_bytes response.status response.text)
Sends response old new (served.WriteFailed status) = (status ≡ response.status) × AppendsFront old new (answer_bytes response.status response.text)
Sends response old new result = ⊥

-- what is answered was written, or a front of it; nothing was if there is no answer
abbrev pub SendsAny : Option HttpAnswer → Option (List ℕ) → Option (List ℕ) → Served → Type 0
SendsAny (Some answer) old new result = (machine : Machine) → Sends (response_of_answer answer machine) old new result
SendsAny None old new result = (new ≡ old) × (result ≡ served.Mute)

-- a request was answered, or its command was accepted and nothing was written, since there is no memory for the reply
abbrev pub RespondsWith : MayRead → Request → Machine → Machine → Standing → Option (List ℕ) → Option (List ℕ) → Served
    → Type 0
RespondsWith may_read asked before after standing old new result =
    ((response : Response) × IsAnswerWith may_read before asked response standing × (after ≡ response.machine)
    × Sends response old new result)
    ⊎ ((command : Command) × AsksFor may_read asked command × Accepts before command after
    × (standing ≡ Open) × (new ≡ old) × (result ≡ served.Mute))

-- what was done about a request of who shows this of a key: it is allowed, and was answered; or it was refused, and the
-- office is as it was
abbrev pub RespondsTo : Access → MayRead → Shown → Request → Machine → Machine → Standing → Option (List ℕ)
    → Option (List ℕ) → Served → Type 0
RespondsTo access may_read shown asked before after standing old new result =
    ((is_allowed access shown before asked ≡ true)
    × RespondsWith may_read asked before after standing old new result)
    ⊎ ((after ≡ before) × (response : Response) × IsNotAllowed access shown before asked response standing
    × Sends response old new result)

-- what an exchange did about what was received, by who may ask for what and what lists may be read as: only a request
-- has the office do anything
abbrev pub ExchangesWith : Access → MayRead → Received → Machine → Machine → Standing → Option (List ℕ)
    → Option (List ℕ) → Served → Type 0
ExchangesWith access may_read received.Nothing before after standing old new result =
    (after ≡ before) × (standing ≡ Open) × (new ≡ old) × (result ≡ served.Nothing)
ExchangesWith access may_read received.Failed before after standing old new result =
    (after ≡ before) × (standing ≡ Open) × (new ≡ old) × (result ≡ served.ReadFailed)
ExchangesWith access may_read received.Memory before after standing old new result =
    (after ≡ before) × (standing ≡ Open) × Sends (memory_response over_http before) old new result
ExchangesWith access may_read (received.Refused fault) before after standing old new result =
    (after ≡ before) × (standing ≡ Open) × Sends (fault_response before fault) old new result
ExchangesWith access may_read (received.Asked shown asked) before after standing old new result =
    RespondsTo access may_read shown asked before after standing old new result

-- what an exchange did about what was received, without lists and keys
abbrev pub Exchanges : Received → Machine → Machine → Standing → Option (List ℕ) → Option (List ℕ) → Served → Type 0
Exchanges received before after standing old new result =
    ExchangesWith everybody no_lists received before after standing old new result

-- whether a request was received
abbrev pub is_asked : Received → Bool
is_asked received.Nothing = false
is_asked received.Failed = false
is_asked received.Memory = false
is_asked (received.Refused fault) = false
is_asked (received.Asked shown request) = true

-- whether a request is a merge, for which lists are opened
abbrev pub asks_merge : Request → Bool
asks_merge (request.Command command) = false
asks_merge (request.Query query) = false
asks_merge (request.Merge names) = true

-- whether a merge was received
abbrev pub is_merge : Received → Bool
is_merge received.Nothing = false
is_merge received.Failed = false
is_merge received.Memory = false
is_merge (received.Refused fault) = false
is_merge (received.Asked shown asked) = asks_merge asked

-- what was received is what the bytes of the reader mean to this service, if they are known; the flag of the reader is
-- set if the reader failed, and then what was read before was the front of a request, and not all of one; no more is
-- read than a request, with what the reads of its head may take; and memory ran out only for a path, for a body of
-- which nothing more was read, or for a body that is a text
pub record ReceivesWith (service : Service) (old new : Stream) (came : Received) : Type 0 where
  pub value : IfSome old.bytes (λ input. MeansWith service input came)
  pub failed : Flags (is_failed came) old new
  pub front : came ≡ received.Failed → (seen : List ℕ) × Consumes old.bytes new.bytes seen
      × IsRequestFrontWith service seen
  pub bound : (seen : List ℕ) × Consumes old.bytes new.bytes seen × IsWithinRequestWith service seen
  pub memory : came ≡ received.Memory → LacksMemoryWith service old.bytes new.bytes

-- what was received is what the bytes of the reader mean, without lists and keys
abbrev pub Receives : Stream → Stream → Received → Type 0
Receives old new came = ReceivesWith plain old new came

-- what was written about what was received, in this state of the office, if it is no request
abbrev pub EndsUnasked : Received → Machine → Option (List ℕ) → Option (List ℕ) → Served → Type 0
EndsUnasked received.Nothing machine old new result = (new ≡ old) × (result ≡ served.Nothing)
EndsUnasked received.Failed machine old new result = (new ≡ old) × (result ≡ served.ReadFailed)
EndsUnasked received.Memory machine old new result = Sends (memory_response over_http machine) old new result
EndsUnasked (received.Refused fault) machine old new result = Sends (fault_response machine fault) old new result
EndsUnasked (received.Asked shown asked) machine old new result = ⊥

-- a request was received, and nothing was written; or something else, and the exchange ended so
abbrev pub Begins : Received → Stream → Stream → Result KeyedRequest Served → Type 0
Begins came old new (Ok asked) = (came ≡ received.Asked asked.shown asked.request) × (new ≡ old)
Begins came old new (Err result) = (machine : Machine) → EndsUnasked came machine old.bytes new.bytes result

-- whether an exchange ended without an answer
abbrev pub is_silent : Served → Bool
is_silent served.Nothing = true
is_silent served.ReadFailed = true
is_silent (served.Answered status) = false
is_silent (served.WriteFailed status) = false
is_silent served.Mute = true

-- an answer with status 200 was written, or a front of it
abbrev pub TellsOk : Served → Type 0
TellsOk result = (result ≡ served.Answered 200) ⊎ (result ≡ served.WriteFailed 200)

-- whether the writer failed
abbrev pub fails_to_write : Served → Bool
fails_to_write served.Nothing = false
fails_to_write served.ReadFailed = false
fails_to_write (served.Answered status) = false
fails_to_write (served.WriteFailed status) = true
fails_to_write served.Mute = false
