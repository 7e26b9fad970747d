-- What is answered to a request is what was found, and then written.
use Rattle.std.proofs.Common.{◌≡◌, ℕ, List, Option, None, Some, IfSome, inl, inr, refl}
use Rattle.wb_states.specs.Machine.{Machine}
use Rattle.wb_states.specs.declared.store_fault.StoreFault.{StoreFault}
use Rattle.wb_step.specs.Offices.{Open, Reaches, Standing}
use Rattle.wb_keys.specs.Access.{everybody}
use Rattle.wb_keys.specs.declared.access.Access.{Access}
use Rattle.wb_keys.specs.declared.access.Shown.{Shown}
use Rattle.wb_lists.specs.Lists.{MayRead, no_lists}
use Rattle.wb_api.proofs.RightLemmas.{everybody-allowed}
use Rattle.wb_api.specs.Exchange.{AcceptsOf, IsAnswer, IsAnswerTo, LeadsOn, response_of_answer, RespondsTo, Sends}
use Rattle.wb_api.specs.Exchange.{SendsAny}
use Rattle.wb_api.specs.declared.answer.HttpAnswer.{HttpAnswer}
use Rattle.wb_api.specs.declared.request.Request.{Request}
use Rattle.wb_api.specs.declared.serve.Served.{Served}

-- what follows for each answer from what is known of it
pub found-more : (P Q : HttpAnswer → Type 0) (answer : Option HttpAnswer) → ((one : HttpAnswer) → P one → Q one)
    → IfSome answer P → IfSome answer Q
found-more P Q None more known = tt
found-more P Q (Some one) more known = more one known

module _ (access : Access) (may_read : MayRead) (shown : Shown) (asked : Request) where
  sent-responds : (answer : HttpAnswer) (before after : Machine) (standing : Standing) (old new : Option (List ℕ))
      (result : Served) → IsAnswerTo access may_read shown asked answer before after standing
      → ((machine : Machine) → Sends (response_of_answer answer machine) old new result)
      → RespondsTo access may_read shown asked before after standing old new result
  sent-responds answer before after standing old new result (inl (allowed, answers)) sent =
      inl (allowed, inl (response_of_answer answer after, answers, refl, sent after))
  sent-responds answer before after standing old new result (inr (same, refused)) sent =
      inr (same, response_of_answer answer before, refused, sent before)

  mute-responds : (before after : Machine) (old new : Option (List ℕ)) (result : Served)
      → AcceptsOf access may_read shown asked before after → SendsAny None old new result
      → RespondsTo access may_read shown asked before after Open old new result
  mute-responds before after old new result (allowed, command, asks, accepts) (silent, mute) =
      inl (allowed, inr (command, asks, accepts, refl, silent, mute))

  pub found-responds : {X : Type 0} (is_clean is_closed : X → Type 0) (stands_at : X → Machine → Type 0)
      (leaves : X → Machine → Machine → StoreFault → Type 0) (office left : X) (answer : Option HttpAnswer)
      (old new : Option (List ℕ)) (result : Served)
      → IfSome answer (λ one. LeadsOn is_clean is_closed stands_at leaves office left
      (IsAnswerTo access may_read shown asked one))
      → (answer ≡ None → Reaches is_clean stands_at office left (AcceptsOf access may_read shown asked))
      → SendsAny answer old new result
      → LeadsOn is_clean is_closed stands_at leaves office left
      (λ before after standing. RespondsTo access may_read shown asked before after standing old new result)
  found-responds is_clean is_closed stands_at leaves office left (Some one) old new result found mute sent before clean
      stands =
      let done = found before clean stands in (
        done.0,
        done.1,
        done.2,
        (sent-responds one before done.0 done.1 old new result done.3.0 sent, done.3.1),
      )
  found-responds is_clean is_closed stands_at leaves office left None old new result found mute sent before clean
      stands =
      let done = mute refl before clean stands in (
        done.0,
        Open,
        done.1,
        (mute-responds before done.0 old new result done.2 sent, λ open_still. refl),
      )

-- everybody may ask for what the office answers without keys
pub everybody-found : {X : Type 0} (is_clean is_closed : X → Type 0) (stands_at : X → Machine → Type 0)
    (leaves : X → Machine → Machine → StoreFault → Type 0) (office left : X) (shown : Shown) (asked : Request)
    (one : HttpAnswer)
    → LeadsOn is_clean is_closed stands_at leaves office left
    (λ before after standing. IsAnswer before asked (response_of_answer one after) standing)
    → LeadsOn is_clean is_closed stands_at leaves office left (IsAnswerTo everybody no_lists shown asked one)
everybody-found is_clean is_closed stands_at leaves office left shown asked one found before clean stands =
    let done = found before clean stands in
    (done.0, done.1, done.2, (inl (everybody-allowed shown before asked, done.3.0), done.3.1))
