-- Who may ask.
use Rattle.std.proofs.Common.{◌≡◌, ℕ, List, Option, inl, inr, true, refl}
use Rattle.wb_keys.specs.Access.{everybody}
use Rattle.wb_keys.specs.declared.access.Access.{Access}
use Rattle.wb_keys.specs.declared.access.Shown.{Shown}
use Rattle.wb_lists.specs.Lists.{MayRead}
use Rattle.wb_states.specs.Machine.{Machine}
use Rattle.wb_step.specs.Offices.{Standing}
use Rattle.wb_api.specs.Exchange.{ExchangesWith}
use Rattle.wb_api.specs.Rights.{is_allowed}
use Rattle.wb_api.specs.declared.request.Received.TheVariants as received
use Rattle.wb_api.specs.declared.request.Request.{Request}
use Rattle.wb_api.specs.declared.request.Request.TheVariants as request
use Rattle.wb_api.specs.declared.serve.Served.{Served}

-- without keys everybody may ask for everything
pub everybody-allowed : (shown : Shown) (machine : Machine) (asked : Request)
    → is_allowed everybody shown machine asked ≡ true
everybody-allowed shown machine (request.Command command) = refl
everybody-allowed shown machine (request.Query query) = refl
everybody-allowed shown machine (request.Merge names) = refl

-- an exchange that changes the office does what is allowed
pub exchange-allowed : (access : Access) (may_read : MayRead) (shown : Shown) (asked : Request)
    (before after : Machine) (standing : Standing) (old new : Option (List ℕ)) (ended : Served)
    → ExchangesWith access may_read (received.Asked shown asked) before after standing old new ended
    → ¬ (after ≡ before) → is_allowed access shown before asked ≡ true
exchange-allowed access may_read shown asked before after standing old new ended (inl (allowed, did)) other = allowed
exchange-allowed access may_read shown asked before after standing old new ended (inr (same, response, refused, sent))
    other = absurd (other same)
