-- What kind of refusal a failure of the office may be.
use Rattle.std.specs.Prelude.{◌≡◌, ⊤, false}
use Rattle.wb_states.specs.Refusals.{is_of_store}
use Rattle.wb_office.specs.declared.answer.Failure.{Failure}
use Rattle.wb_office.specs.declared.answer.Failure.TheVariants.{Refused, Unread, Uncommitted}

-- a failure that is a refusal is one of the step: it says neither that the office is closed nor that its store failed
abbrev pub IsOfStep : Failure → Type 0
IsOfStep (Refused refusal) = is_of_store refusal ≡ false
IsOfStep (Unread fault) = ⊤
IsOfStep (Uncommitted failure) = ⊤
