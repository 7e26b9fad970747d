-- What a status of 200 says of the office.
use Rattle.std.proofs.Common.{◌≡◌, ◌<◌, ℕ, List, Option, codes, Result, Ok, Err, IsOk, inl, inr, refl, sym, ap, ◌∙◌}
use Rattle.std.proofs.Common.{subst, arith}
use Rattle.std.specs.Prelude.{⊤}
use Rattle.wb_states.specs.Commands.{name_of_command}
use Rattle.wb_states.specs.Machine.{Machine}
use Rattle.wb_states.specs.declared.command.Command.{Command}
use Rattle.wb_states.specs.declared.refusal.Refusal.{Refusal}
use Rattle.wb_states.specs.declared.refusal.Refusal.TheVariants.{UnknownArch, UnknownBuilder, WrongArch, UnknownSource, OtherVersion, WrongState, QueueEmpty, NotHeld, AfterAhead, AlreadyThere, BadName, BadVersion, BadRelations, BadNumber, BadListing, BadReport, TextTooLong, Spent, RepeatedArch, StillHeld, Closed, Store, Memory}
use Rattle.wb_states.specs.declared.reply.Reply.{Reply}
use Rattle.wb_step.specs.Offices.{Standing, Open}
use Rattle.wb_step.specs.Step.{step}
use Rattle.wb_api.specs.Requests.{Answers}
use Rattle.wb_streams.specs.declared.fault.Fault.{Fault}
use Rattle.wb_streams.specs.declared.fault.Fault.TheVariants.{NoList}
use Rattle.wb_api.specs.declared.request.Received.{Received}
use Rattle.wb_api.specs.declared.request.Received.TheVariants as received
use Rattle.wb_api.specs.declared.request.Request.{Request}
use Rattle.wb_api.specs.declared.request.Request.TheVariants as request
use Rattle.wb_api.specs.Responses.{IsRefusal, memory_response, reply_response, Response}
use Rattle.wb_keys.specs.declared.access.Access.{Access}
use Rattle.wb_keys.specs.declared.access.Shown.{Shown}
use Rattle.wb_lists.specs.Lists.{MayRead, MayReadMerge}
use Rattle.wb_lists.specs.declared.names.MergeNames.{MergeNames}
use Rattle.wb_lists.proofs.OpenedLemmas.{merge-command}
use Rattle.wb_api.specs.Exchange.{ExchangesWith, IsAnswerWith, IsCommandAnswer, IsMergeAnswer, IsNotAllowed, RespondsTo}
use Rattle.wb_api.specs.Exchange.{RespondsWith, Sends, TellsOk}
use Rattle.wb_api.specs.Exchange.{fault_response, status_of_refusal, over_http}
use Rattle.wb_api.specs.declared.serve.Served.{Served}
use Rattle.wb_api.specs.declared.serve.Served.TheVariants as served

not-200 : (n : ℕ) → 200 < n → ¬ (n ≡ 200)
not-200 n more e = omega (arith, e, more)

-- no refusal is told with 200
pub refusal-not_ok : (refusal : Refusal) → ¬ (status_of_refusal refusal ≡ 200)
refusal-not_ok UnknownArch = not-200 404 (omega arith)
refusal-not_ok UnknownBuilder = not-200 404 (omega arith)
refusal-not_ok WrongArch = not-200 409 (omega arith)
refusal-not_ok UnknownSource = not-200 404 (omega arith)
refusal-not_ok (OtherVersion have) = not-200 409 (omega arith)
refusal-not_ok (WrongState state) = not-200 409 (omega arith)
refusal-not_ok QueueEmpty = not-200 409 (omega arith)
refusal-not_ok NotHeld = not-200 409 (omega arith)
refusal-not_ok (AfterAhead handed) = not-200 409 (omega arith)
refusal-not_ok AlreadyThere = not-200 409 (omega arith)
refusal-not_ok BadName = not-200 422 (omega arith)
refusal-not_ok (BadVersion fault) = not-200 422 (omega arith)
refusal-not_ok (BadRelations fault) = not-200 422 (omega arith)
refusal-not_ok BadNumber = not-200 422 (omega arith)
refusal-not_ok (BadListing which paragraph fault) = not-200 422 (omega arith)
refusal-not_ok (BadReport line) = not-200 422 (omega arith)
refusal-not_ok TextTooLong = not-200 422 (omega arith)
refusal-not_ok Spent = not-200 409 (omega arith)
refusal-not_ok RepeatedArch = not-200 422 (omega arith)
refusal-not_ok StillHeld = not-200 409 (omega arith)
refusal-not_ok Closed = not-200 503 (omega arith)
refusal-not_ok Memory = not-200 503 (omega arith)
refusal-not_ok (Store fault) = not-200 503 (omega arith)

pub memory-not_ok : (machine : Machine) (response : Response) → response ≡ memory_response over_http machine → ¬ (response.status ≡ 200)
memory-not_ok machine response same e = refusal-not_ok Memory (sym (ap (λ (r : Response). r.status) same) ∙ e)

-- that a list cannot be opened is told with 404
pub no_list-not_ok : (machine : Machine) (response : Response) → response ≡ fault_response machine NoList
    → ¬ (response.status ≡ 200)
no_list-not_ok machine response same e = not-200 404 (omega arith) (sym (ap (λ (r : Response). r.status) same) ∙ e)

pub is_refusal-not_ok : (machine : Machine) (refusal : Refusal) (response : Response) → IsRefusal over_http machine refusal response → ¬ (response.status ≡ 200)
is_refusal-not_ok machine refusal response (inl same) e = refusal-not_ok refusal (sym (ap (λ (r : Response). r.status) same) ∙ e)
is_refusal-not_ok machine refusal response (inr (long, same)) e = memory-not_ok machine response same e

-- a command that is answered with 200 was replied to
reply-ok : (name : List ℕ) (result : Result Reply Refusal) (after : Machine) → (reply_response over_http name result after).status ≡ 200
    → IsOk result × ((reply_response over_http name result after).machine ≡ after)
reply-ok name (Ok reply) after e = (refl, refl)
reply-ok name (Err refusal) after e = absurd (refusal-not_ok refusal e)

-- what was written with 200 is an answer with that status
pub sends-ok : (response : Response) (old new : Option (List ℕ)) (result : Served) → Sends response old new result → TellsOk result → response.status ≡ 200
sends-ok response old new result sent (inl e) = let told = subst (λ r. Sends response old new r) e sent in sym told.0
sends-ok response old new result sent (inr e) = let told = subst (λ r. Sends response old new r) e sent in sym told.0

-- an exchange that was silent told no status
silent-not_ok : (result other : Served) → result ≡ other → ¬ (TellsOk other) → ¬ (TellsOk result)
silent-not_ok result other e none tells = none (subst TellsOk e tells)

failed-not_ok : ¬ (TellsOk served.ReadFailed)
failed-not_ok (inl e) = cc
failed-not_ok (inr e) = cc

mute-not_ok : ¬ (TellsOk served.Mute)
mute-not_ok (inl e) = cc
mute-not_ok (inr e) = cc

-- a command that was answered with 200 is done, and the office answers further ones
abbrev pub IsDone : Machine → Machine → Standing → Command → Type 0
IsDone before after standing command =
    IsOk (step before command).0 × (after ≡ (step before command).1) × (standing ≡ Open)

command-done : (before after : Machine) (standing : Standing) (command : Command) (response : Response)
    → IsCommandAnswer before command response standing → after ≡ response.machine → response.status ≡ 200
    → IsDone before after standing command
command-done before after standing command response (inl (inl same, open_still)) is ok =
    let done = reply-ok (name_of_command command) (step before command).0 (step before command).1 (sym (ap (λ (r : Response). r.status) same) ∙ ok) in
    (done.0, is ∙ ap (λ (r : Response). r.machine) same ∙ done.1, open_still)
command-done before after standing command response (inl (inr (lacks, same), open_still)) is ok =
    absurd (memory-not_ok before response same ok)
command-done before after standing command response (inr (inl (refused, shut))) is ok =
    absurd (is_refusal-not_ok before Closed response refused ok)
command-done before after standing command response (inr (inr (fault, refused, doubt))) is ok =
    absurd (is_refusal-not_ok before (Store fault) response refused ok)

-- a merge that was answered with 200 is done, as that of what its lists may be read as
abbrev pub IsMergeDone : MayRead → Machine → Machine → Standing → MergeNames → Type 0
IsMergeDone may_read before after standing names =
    (command : Command) × MayReadMerge may_read names.sources names.parts command × IsDone before after standing command

merge-done : (may_read : MayRead) (before after : Machine) (standing : Standing) (names : MergeNames)
    (response : Response)
    → IsMergeAnswer may_read before names response standing → after ≡ response.machine → response.status ≡ 200
    → IsMergeDone may_read before after standing names
merge-done may_read before after standing names response (inl (inl (outcome, as_read, same), open_still)) is ok =
    let done = reply-ok (codes "merge") outcome.0 outcome.1 (sym (ap (λ (r : Response). r.status) same) ∙ ok) in
    let left = merge-command may_read names.sources names.parts before outcome as_read in (
      left.0,
      left.1.0,
      (
        left.1.1.1 done.0,
        is ∙ ap (λ (r : Response). r.machine) same ∙ done.1
            ∙ left.1.1.0,
        open_still,
      ),
    )
merge-done may_read before after standing names response (inl (inr (inl (lacks, same)), open_still)) is ok =
    absurd (no_list-not_ok before response same ok)
merge-done may_read before after standing names response (inl (inr (inr same), open_still)) is ok =
    absurd (memory-not_ok before response same ok)
merge-done may_read before after standing names response (inr (command, reads, inl (refused, shut))) is ok =
    absurd (is_refusal-not_ok before Closed response refused ok)
merge-done may_read before after standing names response (inr (command, reads, inr (fault, refused, doubt))) is ok =
    absurd (is_refusal-not_ok before (Store fault) response refused ok)

-- what a request asked for that was answered with 200 is done, if it is to change the office
abbrev pub IsRequestDone : MayRead → Machine → Machine → Standing → Request → Type 0
IsRequestDone may_read before after standing (request.Command command) = IsDone before after standing command
IsRequestDone may_read before after standing (request.Merge names) = IsMergeDone may_read before after standing names
IsRequestDone may_read before after standing (request.Query query) = ⊤

answer-done : (may_read : MayRead) (asked : Request) (before after : Machine) (standing : Standing)
    (response : Response)
    → IsAnswerWith may_read before asked response standing → after ≡ response.machine → response.status ≡ 200
    → IsRequestDone may_read before after standing asked
answer-done may_read (request.Command command) before after standing response answers is ok =
    command-done before after standing command response answers is ok
answer-done may_read (request.Merge names) before after standing response answers is ok =
    merge-done may_read before after standing names response answers is ok
answer-done may_read (request.Query query) before after standing response answers is ok = tt

responds-done : (may_read : MayRead) (asked : Request) (before after : Machine) (standing : Standing)
    (old new : Option (List ℕ)) (result : Served)
    → RespondsWith may_read asked before after standing old new result → TellsOk result
    → IsRequestDone may_read before after standing asked
responds-done may_read asked before after standing old new result (inl (response, answers, is, sent)) tells =
    answer-done may_read asked before after standing response answers is (sends-ok response old new result sent tells)
responds-done may_read asked before after standing old new result (inr mute) tells =
    absurd (silent-not_ok result served.Mute mute.5 mute-not_ok tells)

-- that a request is not allowed, or that this was not found out, is not told with 200
pub not_allowed-not_ok : (access : Access) (shown : Shown) (machine : Machine) (asked : Request) (response : Response)
    (standing : Standing) → IsNotAllowed access shown machine asked response standing → ¬ (response.status ≡ 200)
not_allowed-not_ok access shown machine asked response standing (inl (bad, same, open_still)) e =
    not-200 403 (omega arith) (sym (ap (λ (r : Response). r.status) same) ∙ e)
not_allowed-not_ok access shown machine asked response standing (inr (looks, inl (same, open_still))) e =
    memory-not_ok machine response same e
not_allowed-not_ok access shown machine asked response standing (inr (looks, inr (inl (refused, shut)))) e =
    is_refusal-not_ok machine Closed response refused e
not_allowed-not_ok access shown machine asked response standing (inr (looks, inr (inr (fault, refused, failed)))) e =
    is_refusal-not_ok machine (Store fault) response refused e

responds_to-done : (access : Access) (may_read : MayRead) (shown : Shown) (asked : Request) (before after : Machine)
    (standing : Standing) (old new : Option (List ℕ)) (result : Served)
    → RespondsTo access may_read shown asked before after standing old new result → TellsOk result
    → IsRequestDone may_read before after standing asked
responds_to-done access may_read shown asked before after standing old new result (inl (allowed, responds)) tells =
    responds-done may_read asked before after standing old new result responds tells
responds_to-done access may_read shown asked before after standing old new result (inr (same, response, refused, sent))
    tells = absurd (not_allowed-not_ok access shown before asked response standing refused
    (sends-ok response old new result sent tells))

fault_apart : {asked : Request} {fault : Fault} → ¬ (◌≡◌ {A = Result Request Fault} (Ok asked) (Err fault))
fault_apart e = cc

same_request : (one other : Request) → ◌≡◌ {A = Result Request Fault} (Ok one) (Ok other) → other ≡ one
same_request one other e = cc

-- what was asked for is done, if the request was received and answered with 200
pub exchange-done : (access : Access) (may_read : MayRead) (got : Received) (before after : Machine) (standing : Standing)
    (old new : Option (List ℕ)) (result : Served) (asked : Request)
    → ExchangesWith access may_read got before after standing old new result → Answers (Ok asked) got → TellsOk result
    → IsRequestDone may_read before after standing asked
exchange-done access may_read received.Nothing before after standing old new result asked did means tells = absurd means
exchange-done access may_read received.Failed before after standing old new result asked did means tells =
    absurd (silent-not_ok result served.ReadFailed did.3 failed-not_ok tells)
exchange-done access may_read received.Memory before after standing old new result asked did means tells =
    absurd (memory-not_ok before (memory_response over_http before) refl (sends-ok (memory_response over_http before) old new result did.2 tells))
exchange-done access may_read (received.Refused fault) before after standing old new result asked did means tells =
    absurd (fault_apart means)
exchange-done access may_read (received.Asked shown other) before after standing old new result asked did means tells =
    subst (IsRequestDone may_read before after standing) (same_request asked other means)
    (responds_to-done access may_read shown other before after standing old new result did tells)
