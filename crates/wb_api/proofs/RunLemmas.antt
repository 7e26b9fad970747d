-- A run of exchanges leaves what the commands that it accepted leave.
use Rattle.std.proofs.Common.{◌≡◌, ◌∙◌, ◌⊎◌, ℕ, List, [], ◌∷◌, codes, Option, Result, Ok, Err, IsOk, inl, inr, refl}
use Rattle.std.proofs.Common.{sym, ap, subst}
use Rattle.wb_states.specs.Commands.{name_of_command}
use Rattle.wb_states.specs.Machine.{Machine}
use Rattle.wb_states.specs.declared.command.Command.{Command}
use Rattle.wb_states.specs.declared.refusal.Refusal.{Refusal}
use Rattle.wb_states.specs.declared.refusal.Refusal.TheVariants.{Closed, Store}
use Rattle.wb_states.specs.declared.reply.Reply.{Reply}
use Rattle.wb_step.proofs.CountedLemmas.{step-unchanged}
use Rattle.wb_step.specs.Offices.{Standing}
use Rattle.wb_step.specs.Replay.{replay}
use Rattle.wb_step.specs.Step.{step}
use Rattle.wb_api.specs.declared.request.Received.{Received}
use Rattle.wb_api.specs.declared.request.Received.TheVariants as received
use Rattle.wb_api.specs.declared.request.Request.{Request}
use Rattle.wb_api.specs.declared.request.Request.TheVariants as request
use Rattle.wb_states.specs.Queries.{answer_of}
use Rattle.wb_states.specs.declared.query.Query.{Query}
use Rattle.wb_keys.specs.declared.access.Access.{Access}
use Rattle.wb_keys.specs.declared.access.Shown.{Shown}
use Rattle.wb_lists.specs.Lists.{MayRead}
use Rattle.wb_lists.specs.declared.names.MergeNames.{MergeNames}
use Rattle.wb_lists.proofs.OpenedLemmas.{merge-command}
use Rattle.wb_api.proofs.AcknowledgedLemmas.{is_refusal-not_ok, memory-not_ok, no_list-not_ok}
use Rattle.wb_api.proofs.AcknowledgedLemmas.{not_allowed-not_ok, refusal-not_ok, sends-ok}
use Rattle.wb_api.proofs.MergeAnswerLemmas.{merge-refused}
use Rattle.wb_api.specs.Responses.{found_response, IsMergeResponse, IsRefusal, memory_response, reply_response}
use Rattle.wb_api.specs.Responses.{Response}
use Rattle.wb_api.specs.Exchange.{ExchangesWith, IsCommandAnswer, IsMergeAnswer, IsQueryAnswer, RespondsTo}
use Rattle.wb_api.specs.Exchange.{RespondsWith, Sends, TellsOk, over_http}
use Rattle.wb_api.specs.Runs.{AreAccepted, Exchange, IsAskedFor, Serves}
use Rattle.wb_api.specs.declared.serve.Served.{Served}

-- an exchange left the office as it was and acknowledged nothing, or its command was accepted
abbrev pub Does : MayRead → Received → Served → Machine → Machine → Type 0
Does may_read got ended before after =
    ((after ≡ before) × ((command : Command) → ¬ (IsAskedFor may_read got command × TellsOk ended)))
    ⊎ ((command : Command) × IsAskedFor may_read got command × IsOk (step before command).0
    × (after ≡ (step before command).1))

not_ok : (may_read : MayRead) (got : Received) (ended : Served) → ¬ (TellsOk ended) → (command : Command)
    → ¬ (IsAskedFor may_read got command × TellsOk ended)
not_ok may_read got ended none command (is, tells) = none tells

-- a refusal leaves the office as it was
pub refusal-machine : (machine : Machine) (refusal : Refusal) (response : Response) → IsRefusal over_http machine refusal response → response.machine ≡ machine
refusal-machine machine refusal response (inl same) = ap (λ (r : Response). r.machine) same
refusal-machine machine refusal response (inr (long, same)) = ap (λ (r : Response). r.machine) same

refused-tells : (machine : Machine) (refusal : Refusal) (response : Response) (old new : Option (List ℕ)) (ended : Served)
    → IsRefusal over_http machine refusal response → Sends response old new ended → ¬ (TellsOk ended)
refused-tells machine refusal response old new ended refused sent tells = is_refusal-not_ok machine refusal response refused (sends-ok response old new ended sent tells)

memory-tells : (machine : Machine) (response : Response) (old new : Option (List ℕ)) (ended : Served)
    → response ≡ memory_response over_http machine → Sends response old new ended → ¬ (TellsOk ended)
memory-tells machine response old new ended same sent tells = memory-not_ok machine response same (sends-ok response old new ended sent tells)

-- a refusal that a step gives is told as one
refused-reply : (name : List ℕ) (refusal : Refusal) (after : Machine) (old new : Option (List ℕ)) (ended : Served)
    → Sends (reply_response over_http name (Err refusal) after) old new ended → ¬ (TellsOk ended)
refused-reply name refusal after old new ended sent tells = refusal-not_ok refusal (sends-ok (reply_response over_http name (Err refusal) after) old new ended sent tells)

module _ (may_read : MayRead) (shown : Shown) where
  -- the answer of the step itself
  stepped : (result : Result Reply Refusal) (before after : Machine) (asked command : Command)
      (old new : Option (List ℕ)) (ended : Served) → asked ≡ command
      → (step before command).0 ≡ result → after
      ≡ (reply_response over_http (name_of_command command) result (step before command).1).machine
      → Sends (reply_response over_http (name_of_command command) result (step before command).1) old new ended
      → Does may_read (received.Asked shown (request.Command asked)) ended before after
  stepped (Ok reply) before after asked command old new ended same is left sent =
      inr (command, same, subst IsOk (sym is) refl, left)
  stepped (Err refusal) before after asked command old new ended same is left sent = inl (
    left ∙ step-unchanged before command refusal is,
    not_ok may_read (received.Asked shown (request.Command asked)) ended
        (refused-reply (name_of_command command) refusal (step before command).1 old new ended sent),
  )

  answered : (before after : Machine) (standing : Standing) (command : Command) (response : Response)
      (old new : Option (List ℕ)) (ended : Served)
      → IsCommandAnswer before command response standing → after ≡ response.machine → Sends response old new ended
      → Does may_read (received.Asked shown (request.Command command)) ended before after
  answered before after standing command response old new ended (inl (inl same, open_still)) left sent =
      stepped (step before command).0 before after command command old new ended refl refl
      (left ∙ ap (λ (r : Response). r.machine) same)
      (subst (λ r. Sends r old new ended) same sent)
  answered before after standing command response old new ended (inl (inr (lacks, same), open_still)) left sent =
      inl (
        left ∙ ap (λ (r : Response). r.machine) same,
        not_ok may_read (received.Asked shown (request.Command command)) ended
            (memory-tells before response old new ended same sent),
      )
  answered before after standing command response old new ended (inr (inl (refused, shut))) left sent =
      inl (
        left ∙ refusal-machine before Closed response refused,
        not_ok may_read (received.Asked shown (request.Command command)) ended
            (refused-tells before Closed response old new ended refused sent),
      )
  answered before after standing command response old new ended (inr (inr (fault, refused, doubt))) left sent = inl (
    left ∙ refusal-machine before (Store fault) response refused,
    not_ok may_read (received.Asked shown (request.Command command)) ended
        (refused-tells before (Store fault) response old new ended refused sent),
  )

  -- the answer of a merge whose lists were opened
  merged : (before after : Machine) (names : MergeNames) (response : Response) (old new : Option (List ℕ))
      (ended : Served)
      → IsMergeResponse over_http may_read names.sources names.parts before response → after ≡ response.machine
      → Sends response old new ended
      → Does may_read (received.Asked shown (request.Merge names)) ended before after
  merged before after names response old new ended ((Ok reply, last), as_read, same) left sent =
      let stands = merge-command may_read names.sources names.parts before (Ok reply, last) as_read in
      inr (stands.0, stands.1.0, stands.1.1.1 refl, left ∙ ap (λ (r : Response). r.machine) same ∙ stands.1.1.0)
  merged before after names response old new ended ((Err refusal, last), as_read, same) left sent = inl (
    left ∙ ap (λ (r : Response). r.machine) same ∙ merge-refused may_read names.sources names.parts before last refusal
        as_read,
    not_ok may_read (received.Asked shown (request.Merge names)) ended
        (refused-reply (codes "merge") refusal last old new ended (subst (λ r. Sends r old new ended) same sent)),
  )

  merge-answered : (before after : Machine) (standing : Standing) (names : MergeNames) (response : Response)
      (old new : Option (List ℕ)) (ended : Served)
      → IsMergeAnswer may_read before names response standing → after ≡ response.machine → Sends response old new ended
      → Does may_read (received.Asked shown (request.Merge names)) ended before after
  merge-answered before after standing names response old new ended (inl (inl said, open_still)) left sent =
      merged before after names response old new ended said left sent
  merge-answered before after standing names response old new ended (inl (inr (inl (lacks, same)), open_still)) left
      sent = inl (
        left ∙ ap (λ (r : Response). r.machine) same,
        not_ok may_read (received.Asked shown (request.Merge names)) ended
            (λ tells. no_list-not_ok before response same (sends-ok response old new ended sent tells)),
      )
  merge-answered before after standing names response old new ended (inl (inr (inr same), open_still)) left sent =
      inl (
        left ∙ ap (λ (r : Response). r.machine) same,
        not_ok may_read (received.Asked shown (request.Merge names)) ended
            (memory-tells before response old new ended same sent),
      )
  merge-answered before after standing names response old new ended (inr (command, reads, inl (refused, shut))) left
      sent =
      inl (
        left ∙ refusal-machine before Closed response refused,
        not_ok may_read (received.Asked shown (request.Merge names)) ended
            (refused-tells before Closed response old new ended refused sent),
      )
  merge-answered before after standing names response old new ended (inr (command, reads, inr (fault, refused, doubt)))
      left sent = inl (
        left ∙ refusal-machine before (Store fault) response refused,
        not_ok may_read (received.Asked shown (request.Merge names)) ended
            (refused-tells before (Store fault) response old new ended refused sent),
      )

found-machine : (machine : Machine) (found : _) → (found_response over_http machine found).machine ≡ machine
found-machine machine (Ok found) = refl
found-machine machine (Err refusal) = refl

query-machine : (machine : Machine) (query : Query) (response : Response) (standing : Standing) → IsQueryAnswer machine query response standing → response.machine ≡ machine
query-machine machine query response standing (inl (inl same, open_still)) = ap (λ (r : Response). r.machine) same ∙ found-machine machine (answer_of machine query)
query-machine machine query response standing (inl (inr (lacks, same), open_still)) = ap (λ (r : Response). r.machine) same
query-machine machine query response standing (inr (inl (refused, shut))) = refusal-machine machine Closed response refused
query-machine machine query response standing (inr (inr (fault, refused, failed))) = refusal-machine machine (Store fault) response refused

module _ (access : Access) (may_read : MayRead) where
  pub responded : (shown : Shown) (asked : Request) (before after : Machine) (standing : Standing) (old new : Option (List ℕ))
      (ended : Served)
      → RespondsWith may_read asked before after standing old new ended
      → Does may_read (received.Asked shown asked) ended before after
  responded shown (request.Command command) before after standing old new ended (inl (response, answers, left, sent)) =
      answered may_read shown before after standing command response old new ended answers left sent
  responded shown (request.Merge names) before after standing old new ended (inl (response, answers, left, sent)) =
      merge-answered may_read shown before after standing names response old new ended answers left sent
  responded shown (request.Query query) before after standing old new ended (inl (response, answers, left, sent)) =
      inl (left ∙ query-machine before query response standing answers, λ command asks. absurd asks.0)
  responded shown asked before after standing old new ended (inr (command, asks, accepts, open_still, silent, mute)) =
      inr (command, asks, accepts.0, accepts.1)

  responded_to : (shown : Shown) (asked : Request) (before after : Machine) (standing : Standing)
      (old new : Option (List ℕ)) (ended : Served)
      → RespondsTo access may_read shown asked before after standing old new ended
      → Does may_read (received.Asked shown asked) ended before after
  responded_to shown asked before after standing old new ended (inl (allowed, responds)) =
      responded shown asked before after standing old new ended responds
  responded_to shown asked before after standing old new ended (inr (same, response, refused, sent)) = inl (
    same,
    not_ok may_read (received.Asked shown asked) ended
        (λ tells. not_allowed-not_ok access shown before asked response standing refused
        (sends-ok response old new ended sent tells)),
  )

  -- what one exchange does
  exchange-does : (got : Received) (before after : Machine) (standing : Standing) (old new : Option (List ℕ))
      (ended : Served)
      → ExchangesWith access may_read got before after standing old new ended → Does may_read got ended before after
  exchange-does received.Nothing before after standing old new ended did = inl (did.0, λ command asks. absurd asks.0)
  exchange-does received.Failed before after standing old new ended did = inl (did.0, λ command asks. absurd asks.0)
  exchange-does received.Memory before after standing old new ended did = inl (did.0, λ command asks. absurd asks.0)
  exchange-does (received.Refused fault) before after standing old new ended did =
      inl (did.0, λ command asks. absurd asks.0)
  exchange-does (received.Asked shown asked) before after standing old new ended did =
      responded_to shown asked before after standing old new ended did

  -- what a run of exchanges from a state to another comes to
  abbrev IsReplay : List Exchange → Machine → Machine → Type 0
  IsReplay exchanges before after = (commands : List Command) × AreAccepted may_read before exchanges commands
      × (after ≡ replay before commands)

  followed : (one : Exchange) (others : List Exchange) (before between after : Machine)
      → Does may_read one.received one.ended before between
      → IsReplay others between after → IsReplay (one ∷ others) before after
  followed one others before between after (inl (same, none)) (commands, accepted, left) = (
    commands,
    inl (none, subst (λ m. AreAccepted may_read m others commands) same accepted),
    left
        ∙ ap (λ m. replay m commands) same,
  )
  followed one others before between after (inr (command, is, ok, same)) (commands, accepted, left) = (
    command ∷ commands,
    inr (command, commands, refl, is, ok, subst (λ m. AreAccepted may_read m others commands) same accepted),
    left ∙ ap (λ m. replay m commands) same,
  )

  pub run-replayed : (exchanges : List Exchange) (before after : Machine) (standing : Standing)
      → Serves access may_read exchanges before after standing → IsReplay exchanges before after
  run-replayed [] before after standing served = ([], refl, served.0)
  run-replayed (one ∷ others) before after standing (between, stands, old, new, did, inl (last, same, stood)) =
      let does = exchange-does one.received before between stands old new one.ended did in
      followed one others before between after does (
        [],
        subst (λ l. AreAccepted may_read between l []) (sym last) refl,
        same,
      )
  run-replayed (one ∷ others) before after standing (between, stands, old, new, did, inr (open_still, later)) =
      let does = exchange-does one.received before between stands old new one.ended did in
      followed one others before between after does (run-replayed others between after standing later)
