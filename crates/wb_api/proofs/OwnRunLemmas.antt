-- What a run of exchanges changes whose requests are all of a builder alone.
use Rattle.std.proofs.Common.{◌≡◌, ◌∙◌, ℕ, true, List, [], ◌∷◌, Option, Some, inl, inr, refl}
use Rattle.std.proofs.Common.{sym, ap, subst}
use Rattle.std.specs.Prelude.{⊤}
use Rattle.std.specs.FinMap as map
use Rattle.std.proofs.lemmas.Bool.{false≢true}
use Rattle.deb_text.specs.Lists.{IsIn}
use Rattle.deb_text.specs.Options.{has_value}
use Rattle.wb_states.specs.Machine.{IsConsistent, Key, Machine}
use Rattle.wb_states.specs.declared.command.Command.{Command}
use Rattle.wb_states.specs.declared.query.Query.{Query}
use Rattle.wb_states.specs.declared.refusal.Refusal.TheVariants.{Store}
use Rattle.wb_step.specs.Offices.{Failed, InDoubt, IsSoOfEach, Open, Shut, Standing}
use Rattle.wb_step.specs.Step.{step}
use Rattle.wb_keys.specs.Access.{rights_of}
use Rattle.wb_keys.specs.Rights.{may_command}
use Rattle.wb_keys.specs.declared.access.Access.{Access}
use Rattle.wb_keys.specs.declared.access.Shown.{Shown}
use Rattle.wb_keys.specs.declared.right.Right.{Right}
use Rattle.wb_keys.specs.declared.right.Right.TheVariants.{Build}
use Rattle.wb_lists.specs.Lists.{MayRead}
use Rattle.wb_api.proofs.OwnLemmas.{consistent-fits, FitHolders, moves-fit, moves-own, MovesOwn, step-moves, unmoved}
use Rattle.wb_api.proofs.RunLemmas.{Does, refusal-machine, responded}
use Rattle.wb_api.specs.Exchange.{AsksFor, ExchangesWith, IsCommandAnswer, IsNotAllowed, IsQueryAnswer, over_http}
use Rattle.wb_api.specs.Exchange.{RespondsTo, RespondsWith}
use Rattle.wb_api.specs.Own.{AreByBuilder, ChangesHeld, ChangesOwnInTurn, IsByBuilder}
use Rattle.wb_api.specs.Responses.{IsRefusedByStore, Response}
use Rattle.wb_api.specs.Rights.{is_allowed, may_request}
use Rattle.wb_api.specs.Runs.{Exchange, Serves, states_after, states_in_doubt}
use Rattle.wb_api.specs.declared.request.Received.{Received}
use Rattle.wb_api.specs.declared.request.Received.TheVariants as received
use Rattle.wb_api.specs.declared.request.Request.{Request}
use Rattle.wb_api.specs.declared.request.Request.TheVariants as request
use Rattle.wb_api.specs.declared.serve.Served.{Served}

-- ---- an exchange

-- a command that is in doubt is one of the builder
abbrev DoubtsOwn : List ℕ → Machine → Standing → Type 0
DoubtsOwn builder machine Open = ⊤
DoubtsOwn builder machine Shut = ⊤
DoubtsOwn builder machine (InDoubt command fault) = MovesOwn builder machine (step machine command).1
DoubtsOwn builder machine (Failed fault) = ⊤

-- what an exchange of a builder alone leaves, and how the office then stands
abbrev EndsOwn : List ℕ → Machine → Machine → Standing → Type 0
EndsOwn builder before after standing = MovesOwn builder before after × DoubtsOwn builder after standing

module _ (access : Access) (may_read : MayRead) (builder : List ℕ) where
  -- no command is in doubt after a store failed at a query
  refused-sure : (before after : Machine) (response : Response) (standing : Standing)
      → IsRefusedByStore over_http before Failed response standing → DoubtsOwn builder after standing
  refused-sure before after response standing (inl (refused, shut)) = subst (DoubtsOwn builder after) (sym shut) tt
  refused-sure before after response standing (inr (fault, refused, failed)) =
      subst (DoubtsOwn builder after) (sym failed) tt

  not_allowed-sure : (shown : Shown) (asked : Request) (before after : Machine) (response : Response)
      (standing : Standing) → IsNotAllowed access shown before asked response standing
      → DoubtsOwn builder after standing
  not_allowed-sure shown asked before after response standing (inl (lacks, same, open_still)) =
      subst (DoubtsOwn builder after) (sym open_still) tt
  not_allowed-sure shown asked before after response standing (inr (looks, inl (same, open_still))) =
      subst (DoubtsOwn builder after) (sym open_still) tt
  not_allowed-sure shown asked before after response standing (inr (looks, inr refused)) =
      refused-sure before after response standing refused

  query-sure : (before after : Machine) (query : Query) (response : Response) (standing : Standing)
      → IsQueryAnswer before query response standing → DoubtsOwn builder after standing
  query-sure before after query response standing (inl (said, open_still)) =
      subst (DoubtsOwn builder after) (sym open_still) tt
  query-sure before after query response standing (inr refused) =
      refused-sure before after response standing refused

  command-doubt : (before after : Machine) (command : Command) (response : Response) (standing : Standing)
      → MovesOwn builder before (step before command).1 → after ≡ response.machine
      → IsCommandAnswer before command response standing → DoubtsOwn builder after standing
  command-doubt before after command response standing own left (inl (said, open_still)) =
      subst (DoubtsOwn builder after) (sym open_still) tt
  command-doubt before after command response standing own left (inr (inl (refused, shut))) =
      subst (DoubtsOwn builder after) (sym shut) tt
  command-doubt before after command response standing own left (inr (inr (fault, refused, doubt))) =
      let same = left ∙ refusal-machine before (Store fault) response refused in
      subst (DoubtsOwn builder after) (sym doubt)
      (subst (λ machine. MovesOwn builder machine (step machine command).1) (sym same) own)

  module _ (shown : Shown) (rights : rights_of access shown ≡ Some (Build builder ∷ [])) where
    -- what is allowed is what the one right of the line allows
    right-allows : (machine : Machine) (asked : Request) → is_allowed access shown machine asked ≡ true
        → may_request (Build builder ∷ []) machine asked ≡ true
    right-allows machine asked allowed =
        sym (ap (has_value (λ (held : List Right). may_request held machine asked)) rights) ∙ allowed

    -- a command that is asked for is one that a builder may give
    asked-own : (machine : Machine) (asked : Request) (command : Command)
        → may_request (Build builder ∷ []) machine asked ≡ true → AsksFor may_read asked command
        → may_command (Build builder ∷ []) machine command ≡ true
    asked-own machine (request.Command one) command may same =
        ap (may_command (Build builder ∷ []) machine) (sym same) ∙ may
    asked-own machine (request.Query query) command may asks = absurd asks
    asked-own machine (request.Merge names) command may asks = absurd (false≢true may)

    does-own : (asked : Request) (ended : Served) (before after : Machine) → FitHolders before
        → may_request (Build builder ∷ []) before asked ≡ true
        → Does may_read (received.Asked shown asked) ended before after → MovesOwn builder before after
    does-own asked ended before after fit may (inl (same, none)) = unmoved builder before after same
    does-own asked ended before after fit may (inr (command, is, ok, same)) =
        subst (MovesOwn builder before) (sym same)
        (step-moves builder before command fit (asked-own before asked command may is))

    -- what is left in doubt by a request that may be asked
    responded-doubt : (asked : Request) (before after : Machine) (standing : Standing) (old new : Option (List ℕ))
        (ended : Served) → FitHolders before → may_request (Build builder ∷ []) before asked ≡ true
        → RespondsWith may_read asked before after standing old new ended → DoubtsOwn builder after standing
    responded-doubt (request.Command command) before after standing old new ended fit may
        (inl (response, answers, left, sent)) =
        command-doubt before after command response standing (step-moves builder before command fit may) left answers
    responded-doubt (request.Query query) before after standing old new ended fit may
        (inl (response, answers, left, sent)) = query-sure before after query response standing answers
    responded-doubt (request.Merge names) before after standing old new ended fit may
        (inl (response, answers, left, sent)) = absurd (false≢true may)
    responded-doubt asked before after standing old new ended fit may
        (inr (command, asks, accepts, open_still, silent, mute)) =
        subst (DoubtsOwn builder after) (sym open_still) tt

    asked-ends : (asked : Request) (before after : Machine) (standing : Standing) (old new : Option (List ℕ))
        (ended : Served) → FitHolders before
        → RespondsTo access may_read shown asked before after standing old new ended
        → EndsOwn builder before after standing
    asked-ends asked before after standing old new ended fit (inl (allowed, responds)) =
        let may = right-allows before asked allowed in
        let does = responded access may_read shown asked before after standing old new ended responds in (
          does-own asked ended before after fit may does,
          responded-doubt asked before after standing old new ended fit may responds,
        )
    asked-ends asked before after standing old new ended fit (inr (same, response, refused, sent)) = (
      unmoved builder before after same,
      not_allowed-sure shown asked before after response standing refused,
    )

  -- the office is as it was, and stands open
  still-ends : (before after : Machine) (standing : Standing) → after ≡ before → standing ≡ Open
      → EndsOwn builder before after standing
  still-ends before after standing same open_still =
      (unmoved builder before after same, subst (DoubtsOwn builder after) (sym open_still) tt)

  exchange-ends : (got : Received) (before after : Machine) (standing : Standing) (old new : Option (List ℕ))
      (ended : Served) → FitHolders before → IsByBuilder access builder got
      → ExchangesWith access may_read got before after standing old new ended → EndsOwn builder before after standing
  exchange-ends received.Nothing before after standing old new ended fit is did =
      still-ends before after standing did.0 did.1
  exchange-ends received.Failed before after standing old new ended fit is did =
      still-ends before after standing did.0 did.1
  exchange-ends received.Memory before after standing old new ended fit is did =
      still-ends before after standing did.0 did.1
  exchange-ends (received.Refused fault) before after standing old new ended fit is did =
      still-ends before after standing did.0 did.1
  exchange-ends (received.Asked shown asked) before after standing old new ended fit rights did =
      asked-ends shown rights asked before after standing old new ended fit did

  -- ---- a run

  doubt-in_turn : (machine : Machine) (standing : Standing) (key : Key) → DoubtsOwn builder machine standing
      → ChangesOwnInTurn builder machine (states_in_doubt machine standing) key
  doubt-in_turn machine Open key own = tt
  doubt-in_turn machine Shut key own = tt
  doubt-in_turn machine (InDoubt command fault) key own =
      (moves-own builder machine (step machine command).1 key own, tt)
  doubt-in_turn machine (Failed fault) key own = tt

  run-in_turn : (exchanges : List Exchange) (before after : Machine) (standing : Standing) (key : Key)
      (served : Serves access may_read exchanges before after standing) → FitHolders before
      → AreByBuilder access builder exchanges
      → ChangesOwnInTurn builder before (states_after access may_read exchanges before after standing served) key
  run-in_turn [] before after standing key served fit are = tt
  run-in_turn (one ∷ others) before after standing key (between, stands, old, new, did, inl last) fit are =
      let ends = exchange-ends one.received before between stands old new one.ended fit are.0 did in
      (moves-own builder before between key ends.0, doubt-in_turn between stands key ends.1)
  run-in_turn (one ∷ others) before after standing key (between, stands, old, new, did, inr later) fit are =
      let ends = exchange-ends one.received before between stands old new one.ended fit are.0 did in
      let fits = moves-fit builder before between ends.0 fit in (
        moves-own builder before between key ends.0,
        run-in_turn others between after standing key later.1 fits are.1,
      )

  pub each-own : (exchanges : List Exchange) (before after : Machine) (standing : Standing) (key : Key)
      (served : Serves access may_read exchanges before after standing) → IsConsistent before
      → AreByBuilder access builder exchanges
      → ChangesOwnInTurn builder before (states_after access may_read exchanges before after standing served) key
  each-own exchanges before after standing key served consistent are =
      run-in_turn exchanges before after standing key served (consistent-fits before consistent) are

  -- ---- the end of a run

  -- at each state of a chain of changes the record at a key is the first one, or the builder held it at one of them
  chain-held : (before : Machine) (later : List Machine) (key : Key) → ChangesOwnInTurn builder before later key
      → (found : Machine) → IsIn found (before ∷ later) → ChangesHeld builder (before ∷ later) before found key
  chain-held before [] key own found (inl same) = inl (ap (λ (m : Machine). map.get m.records key) same)
  chain-held before [] key own found (inr within) = absurd within
  chain-held before (next ∷ later) key own found (inl same) = inl (ap (λ (m : Machine). map.get m.records key) same)
  chain-held before (next ∷ later) key (inl same, own) found (inr within) =
      elim (chain-held next later key own found within) [
        | inl kept ↦ inl (kept ∙ same)
        | inr (state, is, held) ↦ inr (state, inr is, held)
      ]
  chain-held before (next ∷ later) key (inr (inl held), own) found (inr within) = inr (before, inl refl, held)
  chain-held before (next ∷ later) key (inr (inr held), own) found (inr within) = inr (next, inr (inl refl), held)

  -- what is so of the state after an exchange and of the one in doubt is so of each state at which it is found
  found-last : (P : Machine → Type 0) (machine : Machine) (standing : Standing)
      → ((found : Machine) → IsIn found (machine ∷ states_in_doubt machine standing) → P found)
      → IsSoOfEach P machine standing
  found-last P machine Open all = all machine (inl refl)
  found-last P machine Shut all = all machine (inl refl)
  found-last P machine (InDoubt command fault) all =
      (all machine (inl refl), all (step machine command).1 (inr (inl refl)))
  found-last P machine (Failed fault) all = all machine (inl refl)

  found-after : (P : Machine → Type 0) (exchanges : List Exchange) (before after : Machine) (standing : Standing)
      (served : Serves access may_read exchanges before after standing)
      → ((found : Machine) → IsIn found (before ∷ states_after access may_read exchanges before after standing served)
      → P found) → IsSoOfEach P after standing
  found-after P [] before after standing (same, open_still) all =
      subst (IsSoOfEach P after) (sym open_still) (subst P (sym same) (all before (inl refl)))
  found-after P (one ∷ others) before after standing (between, stands, old, new, did, inl (last, same, stood)) all =
      subst (IsSoOfEach P after) (sym stood) (subst (λ machine. IsSoOfEach P machine stands) (sym same)
      (found-last P between stands (λ found within. all found (inr within))))
  found-after P (one ∷ others) before after standing (between, stands, old, new, did, inr (open_still, later)) all =
      found-after P others between after standing later (λ found within. all found (inr within))

  pub run-held : (exchanges : List Exchange) (before after : Machine) (standing : Standing) (key : Key)
      (served : Serves access may_read exchanges before after standing) → IsConsistent before
      → AreByBuilder access builder exchanges
      → IsSoOfEach (λ found. ChangesHeld builder (before
      ∷ states_after access may_read exchanges before after standing served) before found key) after standing
  run-held exchanges before after standing key served consistent are =
      let states = states_after access may_read exchanges before after standing served in
      found-after (λ found. ChangesHeld builder (before ∷ states) before found key) exchanges before after standing
      served (chain-held before states key (each-own exchanges before after standing key served consistent are))
