-- The exchanges of an office with many clients, one after another, of one service, with the lists that it can open.
use Rattle.std.specs.Prelude.{◌≡◌, ◌⊎◌, ⊤, ℕ, false, List, [], ◌∷◌, ◌++◌, Some}
use Rattle.wb_lists.specs.Lists.{MayRead, MayReadLess}
use Rattle.wb_states.specs.Machine.{Machine}
use Rattle.wb_states.specs.declared.store_fault.StoreFault.{StoreFault}
use Rattle.wb_step.specs.Offices.{Open, Standing}
use Rattle.wb_api.specs.Exchange.{ExchangesWith, LeadsOn, is_asked, is_merge}
use Rattle.wb_api.specs.Requests.{MeansWith}
use Rattle.wb_api.specs.declared.request.Received.{Received}
use Rattle.wb_api.specs.declared.serve.Served.{Served}
use Rattle.wb_api.specs.declared.service.Service.{Service}
use Rattle.wb_serve.specs.declared.clients.ServiceEnd.{ServiceEnd}
use Rattle.wb_serve.specs.declared.clients.ServiceEnd.TheVariants.{Closed}

-- an answer that was given to a client, and what had come of its request by then
pub record Answered : Type 0 where
  pub request : List ℕ
  pub answer : List ℕ

-- an office that serves, and the lists that it can open
pub record Serving (X L : Type 0) : Type 0 where
  pub office : X
  pub lists : L

-- exchanges one after another take the office from one state to another, each over what had come of a request, with
-- the answer that was given, and by what lists may be read as; it stands open before each
abbrev pub Serves : Service → MayRead → List Answered → Machine → Machine → Standing → Type 0
Serves service may_read [] before after standing = (after ≡ before) × (standing ≡ Open)
Serves service may_read (one ∷ others) before after standing =
    (received : Received) × (ended : Served) × (between : Machine) × (stands : Standing)
    × MeansWith service one.request received
    × ExchangesWith service.access may_read received before between stands (Some []) (Some one.answer) ended
    × (((others ≡ []) × (after ≡ between) × (standing ≡ stands)) ⊎ ((stands ≡ Open)
    × Serves service may_read others between after standing))

module _ {X L : Type 0} (service : Service) (may_read : L → MayRead) (is_clean is_closed : X → Type 0)
    (stands_at : X → Machine → Type 0) (leaves : X → Machine → Machine → StoreFault → Type 0) where
  -- one exchange took the office from here to there: over what had come of this request, with this answer, and by what
  -- its lists might be read as before. Lists are opened for a merge alone
  pub record IsAnswered (one : Answered) (old new : Serving X L) : Type 0 where
    pub received : Received
    pub ended : Served
    pub means : MeansWith service one.request received
    pub clean : is_clean new.office → is_clean old.office
    pub unasked : is_asked received ≡ false → new.office ≡ old.office
    pub unopened : is_merge received ≡ false → new.lists ≡ old.lists
    pub kept : MayReadLess (may_read old.lists) (may_read new.lists)
    pub leads : LeadsOn is_clean is_closed stands_at leaves old.office new.office (λ before after standing.
        ExchangesWith service.access (may_read old.lists) received before after standing (Some []) (Some one.answer) ended)

  -- exchanges one after another took the office from here to there, and this was so of it before each of them
  abbrev pub AreAnswered : (X → Type 0) → List Answered → Serving X L → Serving X L → Type 0
  AreAnswered IsSo [] old new = new ≡ old
  AreAnswered IsSo (one ∷ others) old new =
      IsSo old.office × (between : Serving X L) × IsAnswered one old between × AreAnswered IsSo others between new

  -- what was answered grew by one exchange, or by none
  abbrev pub AnswersOne : List Answered → List Answered → Serving X L → Serving X L → Type 0
  AnswersOne before after old new =
      ((after ≡ before) × (new ≡ old)) ⊎ ((one : Answered) × (after ≡ before ++ one ∷ []) × IsAnswered one old new)

  -- what was answered grew by exchanges, and this was so of the office before each of them
  abbrev pub AnswersWhile : (X → Type 0) → List Answered → List Answered → Serving X L → Serving X L → Type 0
  AnswersWhile IsSo before after old new =
      (more : List Answered) × (after ≡ before ++ more) × AreAnswered IsSo more old new

  -- what was answered grew by exchanges
  abbrev pub AnswersAll : List Answered → List Answered → Serving X L → Serving X L → Type 0
  AnswersAll before after old new = AnswersWhile (λ office. ⊤) before after old new

  -- what was answered grew by exchanges of an office that was not closed before any of them
  abbrev pub ServesAll : List Answered → List Answered → Serving X L → Serving X L → Type 0
  ServesAll before after old new = AnswersWhile (λ office. ¬ (is_closed office)) before after old new

  -- a service: exchanges one after another, from each state at which the office stood, by what its lists might be read
  -- as at the start, until it ended or the office was closed; who waited then was answered too, by the closed office
  pub record IsService (before after : List Answered) (old new : Serving X L) (ended : ServiceEnd) : Type 0 where
    pub more : List Answered
    pub late : List Answered
    pub last : Serving X L
    pub grows : after ≡ (before ++ more) ++ late
    pub leads : LeadsOn is_clean is_closed stands_at leaves old.office last.office
        (λ first found standing. Serves service (may_read old.lists) more first found standing)
    pub served : AreAnswered (λ office. ¬ (is_closed office)) more old last
    pub closed : (late ≡ []) ⊎ is_closed last.office
    pub tells : ended ≡ Closed → is_closed last.office
    pub later : AreAnswered (λ office. ⊤) late last new
